use Rattle.std.proofs.Common.{◌≡◌, ℕ, List, [], ◌∷◌, ◌++◌, sym, ap, ◌∙◌, append_assoc, append-nil, cond, true, false}
use Rattle.domain_label.specs.Text.{escaped, escaped_octet}
use Rattle.domain_field_text.specs.Names.{has_zone_meaning, zone_octet}
use Rattle.domain_field_text.proofs.name.push_octet.Goals as goal

-- An octet after a backslash.
after_slash : (text mid end : List ℕ) (o : ℕ) → mid ≡ text ++ 92 ∷ [] → end ≡ mid ++ o ∷ [] → zone_octet o ≡ 92 ∷ o ∷ [] → end ≡ text ++ zone_octet o
after_slash text mid end o first second spelled =
    second ∙ (ap (λ t. t ++ o ∷ []) first ∙ (append_assoc text (92 ∷ []) (o ∷ []) ∙ ap (λ s. text ++ s) (sym spelled)))

pub returns-then-has_zone_meaning-clause-text : goal.returns-then-has_zone_meaning-clause-text
returns-then-has_zone_meaning-clause-text c =
    let special : has_zone_meaning c.args.octet ≡ true = sym c.has_zone_meaning.ensures.meaning ∙ c.if-has_zone_meaning.true in
    after_slash c.args.text.now.items c.push.new.self.items _ c.args.octet c.push.ensures.items c.push-then-has_zone_meaning.ensures.items (ap (λ b. cond b (92 ∷ c.args.octet ∷ []) (escaped_octet c.args.octet)) special)

pub returns-clause-text : goal.returns-clause-text
returns-clause-text c =
    let other : has_zone_meaning c.args.octet ≡ false = sym c.has_zone_meaning.ensures.meaning ∙ c.if-has_zone_meaning.false in
    let plain : escaped (c.args.octet ∷ []) ≡ zone_octet c.args.octet = append-nil (escaped_octet c.args.octet) ∙ sym (ap (λ b. cond b (92 ∷ c.args.octet ∷ []) (escaped_octet c.args.octet)) other) in
    c.push_label.ensures.spelled ∙ ap (λ s. c.args.text.now.items ++ s) plain
