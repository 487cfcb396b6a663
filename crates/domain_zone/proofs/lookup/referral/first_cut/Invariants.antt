use Rattle.domain_name.specs.Names.{name_labels}
use Rattle.domain_name.specs.Suffixes.{suffix_lists_left}
use Rattle.domain_zone.proofs.Cutting.{SearchesCut, viewed}
use Rattle.domain_zone_laws.specs.Views.{zone_of}
use Rattle.domain_zone.proofs.lookup.referral.first_cut.Given as goal

-- the first cut so far, and what is left
abbrev pub invariant-loop-suffix : goal.invariant-loop-suffix
invariant-loop-suffix l =
    ((goal.iterator-loop-suffix).can_next l.suffixes × (goal.iterator-loop-suffix).is_finite l.suffixes) ×
    SearchesCut (zone_of name_labels l.records) (name_labels l.name) (viewed name_labels l.first) (suffix_lists_left l.suffixes)
