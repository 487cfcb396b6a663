use Rattle.std.proofs.Common.{sym, ◌∙◌, true≢false}
use Rattle.domain_name.specs.Names.{name_labels}
use Rattle.domain_name.specs.Suffixes.{suffix_lists_left}
use Rattle.domain_zone.proofs.Cutting.{viewed, of_viewed, cut_on, cut_taken, at_apex, after_last}
use Rattle.domain_zone.proofs.Enclosing.{above_of}
use Rattle.domain_zone.proofs.Neighbours.{beside_from, exists_by_type}
use Rattle.domain_zone_laws.specs.Views.{rrset, zone_of}
use Rattle.domain_zone_laws.specs.Zone.{RRset, HasNoCut, IsFirstCut, IsAt, NS}
use Rattle.domain_zone.proofs.lookup.referral.first_cut.Goals as goal

pub returns-then-eq_names : goal.returns-then-eq_names
returns-then-eq_names c =
    let z = zone_of name_labels c.args.records.now in
    let q = name_labels c.args.name.now in
    of_viewed name_labels (HasNoCut z q) (λ (s : RRset). IsFirstCut z q s.owner × IsAt z s.owner NS s) c.loop-suffix.first
    (at_apex z q (name_labels c.in-Some.suffix) (suffix_lists_left c.next.new.self) (suffix_lists_left c.loop-suffix.suffixes) (viewed name_labels c.loop-suffix.first)
    c.in-Some.ensures.steps c.loop-suffix.invariant.1 (c.eq_names.ensures.0 c.if-eq_names.true))

pub loop-suffix-preserved-then-not-is_beside : goal.loop-suffix-preserved-then-not-is_beside
loop-suffix-preserved-then-not-is_beside c =
    let z = zone_of name_labels c.args.records.now in
    let q = name_labels c.args.name.now in
    let x = name_labels c.in-Some.suffix in
    let rest = c.loop-suffix.invariant.1 in
    let above = above_of q rest.0 x (suffix_lists_left c.next.new.self) (sym c.in-Some.ensures.steps ∙ rest.1) rest.2 in (
      (tt, tt),
      cut_on z q x (suffix_lists_left c.next.new.self) (suffix_lists_left c.loop-suffix.suffixes) (viewed name_labels c.loop-suffix.first) c.in-Some.ensures.steps rest
          (λ h. true≢false (sym (c.is_beside.ensures.1 (beside_from z q c.args.place c.order_laws.ensures.together c.requires.sorted c.requires.within c.requires.place x above
          (exists_by_type z c.requires.zone x NS h))) ∙ c.if-not-is_beside.true)),
    )

pub loop-suffix-preserved-in_default-find_at : goal.loop-suffix-preserved-in_default-find_at
loop-suffix-preserved-in_default-find_at c = (
  (tt, tt),
  cut_on (zone_of name_labels c.args.records.now) (name_labels c.args.name.now) (name_labels c.in-Some.suffix) (suffix_lists_left c.next.new.self) (suffix_lists_left c.loop-suffix.suffixes) (viewed name_labels c.loop-suffix.first)
      c.in-Some.ensures.steps c.loop-suffix.invariant.1 c.in_default-find_at.ensures,
)

pub loop-suffix-preserved : goal.loop-suffix-preserved
loop-suffix-preserved c = (
  (tt, tt),
  cut_taken (zone_of name_labels c.args.records.now) (name_labels c.args.name.now) (name_labels c.in-Some.suffix) (suffix_lists_left c.next.new.self) (suffix_lists_left c.loop-suffix.suffixes) (viewed name_labels c.loop-suffix.first)
      (rrset name_labels c.in-Some-find_at.set.now) c.requires.zone c.in-Some.ensures.steps c.loop-suffix.invariant.1 (λ e. true≢false (sym (c.eq_names.ensures.1 e) ∙ c.if-eq_names.false)) c.in-Some-find_at.ensures,
)

pub returns : goal.returns
returns c =
    let z = zone_of name_labels c.args.records.now in
    let q = name_labels c.args.name.now in
    of_viewed name_labels (HasNoCut z q) (λ (s : RRset). IsFirstCut z q s.owner × IsAt z s.owner NS s) c.loop-suffix.first
    (after_last z q (suffix_lists_left c.loop-suffix.suffixes) (viewed name_labels c.loop-suffix.first) c.requires.zone c.in_default.ensures.steps.0 c.loop-suffix.invariant.1)
