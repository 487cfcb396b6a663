use Rattle.std.proofs.Common.{arith, sym, ap, ◌∙◌, ◌-◌, length, refl, true≢false}
use Rattle.domain_label.specs.Lowercase.{lowercase}
use Rattle.domain_label.specs.Wire.{labels_in}
use Rattle.domain_label.proofs.ComparedOctets.{sliced_end}
use Rattle.domain_name.proofs.Stripping.{octets_size, suffix_fits, suffix_begins, suffix_same, same_suffix}
use Rattle.domain_name.proofs.strip.offset_of_suffix.Goals as goal

pub returns-then-octets-suffix-clause-exact : goal.returns-then-octets-suffix-clause-exact
returns-then-octets-suffix-clause-exact c =
    let o = c.args.octets.now in
    let s = c.args.suffix.now in (
      λ h. absurd (true≢false (sym h)),
      λ e. absurd (omega (arith, c.if-octets-suffix.true, suffix_fits o (labels_in s) c.requires.whole e, octets_size s c.requires.part)),
    )

pub returns-then-not-same_octets-clause-exact : goal.returns-then-not-same_octets-clause-exact
returns-then-not-same_octets-clause-exact c =
    let o = c.args.octets.now in
    let s = c.args.suffix.now in
    let n = length o - length s in (
      λ h. absurd (true≢false (sym h)),
      λ e. sym c.if-not-same_octets.true ∙ c.same_octets.ensures.1 (ap lowercase (sliced_end o n (omega arith)) ∙ suffix_same o s n c.requires.whole c.requires.part e (omega (arith, c.if-octets-suffix.false))),
    )

pub returns-then-not-is_label_end-clause-exact : goal.returns-then-not-is_label_end-clause-exact
returns-then-not-is_label_end-clause-exact c =
    let o = c.args.octets.now in
    let s = c.args.suffix.now in (
      λ h. absurd (true≢false (sym h)),
      λ e. sym c.if-not-is_label_end.true ∙ c.is_label_end.ensures.1 (suffix_begins o (labels_in s) _ c.requires.whole e (omega (arith, c.if-octets-suffix.false, octets_size s c.requires.part))),
    )

pub returns-clause-exact : goal.returns-clause-exact
returns-clause-exact c =
    let o = c.args.octets.now in
    let s = c.args.suffix.now in
    let n = length o - length s in (
      λ h. same_suffix o s n c.requires.whole c.requires.part (sym (ap lowercase (sliced_end o n (omega arith))) ∙ c.same_octets.ensures.0 c.if-not-same_octets.false) (c.is_label_end.ensures.0 c.if-not-is_label_end.false),
      λ e. refl,
    )
