use Rattle.std.proofs.Common.{refl, ap, sym, subst, ◌∙◌, arith, length}
use Rattle.std.specs.List.{All}
use Rattle.arrayvec.proofs.ArrayVecLemmas.{items-with_items}
use Rattle.std.proofs.lemmas.Bool.{false≢true}
use Rattle.domain_compress.specs.Hashes.{IsHashed}
use Rattle.domain_compress.specs.Written.{all_remembered}
use Rattle.domain_compress.proofs.LabelHashes.{remembered_set, hashed_next}
use Rattle.domain_compress.proofs.remember.hash_all.Goals as goal

pub loop-label-init : goal.loop-label-init
loop-label-init c = record {
  same = ap all_remembered c.as_mut_slice-label-items.ensures.value;
  known = λ stand k d low lt. absurd (omega (arith, lt));
}

pub loop-label-preserved : goal.loop-label-preserved
loop-label-preserved c =
    let here = c.loop-label.invariant in
    record {
      same = remembered_set _ _ _ c.label-item.result (omega arith) refl ∙ here.same;
      known = hashed_next _ _ _ _ _ _ (omega arith) (c.hash_kept-stands.ensures (λ e. absurd (false≢true e))) here.known;
    }

pub returns-clause-known : goal.returns-clause-known
returns-clause-known c = λ stand.
    let same = items-with_items c.args.written.now c.loop-label.label-items (c.loop-label.auto.label-items ∙ ap length c.as_mut_slice-label-items.ensures.value) in
    subst (All (IsHashed c.args.octets.now)) (sym same) (λ k d lt. c.loop-label.invariant.known stand k d (omega arith) (omega (arith, lt)))

pub returns-clause-offsets : goal.returns-clause-offsets
returns-clause-offsets c =
    let same = items-with_items c.args.written.now c.loop-label.label-items (c.loop-label.auto.label-items ∙ ap length c.as_mut_slice-label-items.ensures.value) in
    ap all_remembered same ∙ c.loop-label.invariant.same
