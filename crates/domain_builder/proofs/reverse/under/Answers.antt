use Rattle.std.proofs.Common.{[], ◌∷◌, refl, arith}
use Rattle.domain_builder.proofs.Digits.{never_label}
use Rattle.domain_builder.proofs.Reversing.{zone_fits, arpa_fits}
use Rattle.domain_builder.proofs.reverse.under.Goals as goal

pub unreachable-requires : goal.unreachable-requires
unreachable-requires c =
    let fits = zone_fits c.args.labels.built c.args.zone.now c.requires.few c.requires.short c.requires.some in
    never_label _ _ _ c.in_default.field-0 c.requires.short fits (omega (arith, fits)) c.in_default.ensures.answer

pub unreachable-requires-in_default-append_label : goal.unreachable-requires-in_default-append_label
unreachable-requires-in_default-append_label c =
    let fits = arpa_fits c.args.labels.built c.append_label.new.self.built c.args.zone.now (97 ∷ 114 ∷ 112 ∷ 97 ∷ []) c.in-Ok.ensures.made c.requires.few c.requires.short c.requires.some refl in
    never_label _ _ _ c.in_default-append_label.field-0 (omega arith) fits (omega (arith, fits)) c.in_default-append_label.ensures.answer
