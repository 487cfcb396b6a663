use Rattle.std.proofs.lemmas.Bool.{false≢true}
use Rattle.domain_compress.specs.Written.{remembered}
use Rattle.domain_compress.proofs.LabelHashes.{known_first, known_rest}
use Rattle.domain_compress.proofs.LongerSuffix.{kept_end, seen_start, seen_next, seen_whole}
use Rattle.domain_compress.proofs.Marking.{end_some}
use Rattle.domain_compress.proofs.search.suffix_by_marks.Goals as goal

pub offsets-init : goal.offsets-init
offsets-init c = record { seen = seen_start _ _ _; marked = c.mark_firsts.ensures; known = c.requires.known }

pub may_stand_there-requires : goal.may_stand_there-requires
may_stand_there-requires c = known_first _ _ _ _ _ c.in-Some.ensures.cases.0 c.offsets.invariant.known

pub returns-then-end-eq0-clause-some : goal.returns-then-end-eq0-clause-some
returns-then-end-eq0-clause-some c =
    seen_whole _ _ _ _ _ (seen_next _ _ _ _ _ _ _ _ c.offsets.invariant.seen c.in-Some.ensures.cases.0 c.in-Some-best.ensures) c.if-end-eq0.true

pub offsets-preserved-else-end-eq0 : goal.offsets-preserved-else-end-eq0
offsets-preserved-else-end-eq0 c =
    record { seen = seen_next _ _ _ _ _ _ _ _ c.offsets.invariant.seen c.in-Some.ensures.cases.0 c.in-Some-best.ensures; marked = c.offsets.invariant.marked; known = known_rest _ _ _ _ _ c.in-Some.ensures.cases.0 c.offsets.invariant.known }

pub offsets-preserved : goal.offsets-preserved
offsets-preserved c =
    record { seen = seen_next _ _ _ _ _ _ _ _ c.offsets.invariant.seen c.in-Some.ensures.cases.0 c.better_suffix-best.ensures; marked = c.offsets.invariant.marked; known = known_rest _ _ _ _ _ c.in-Some.ensures.cases.0 c.offsets.invariant.known }

pub offsets-preserved-then-not-may_stand_there : goal.offsets-preserved-then-not-may_stand_there
offsets-preserved-then-not-may_stand_there c =
    let w = c.in-Some.first.now in
    record {
      seen = seen_next _ _ _ _ _ _ _ _ c.offsets.invariant.seen c.in-Some.ensures.cases.0 (λ ws old.
          kept_end _ _ (remembered w) ws _ c.requires.wire
          (λ xs ys e more lt s. absurd (false≢true (c.if-not-may_stand_there.ensures ys (end_some _ xs ys c.requires.wire e more) (c.offsets.invariant.marked xs ys e more) s)))
          old);
      marked = c.offsets.invariant.marked;
      known = known_rest _ _ _ _ _ c.in-Some.ensures.cases.0 c.offsets.invariant.known;
    }
