use Rattle.std.proofs.Common.{◌≡◌, ℕ, List, [], ◌∷◌, ◌++◌, refl, sym, ap, ◌∙◌, append_assoc}
use Rattle.domain_label.specs.Text.{escaped_octet}
use Rattle.domain_label.proofs.presentation.push_escaped.Goals as goal
use Rattle.domain_label.proofs.presentation.push_escaped.Goals.{then-octet-eq32-via-then-octet-eq32, then-octet-eq32-via-else-octet-eq32+then-octet-eq46, then-octet-eq32-via-else-octet-eq32+else-octet-eq46+then-octet-eq92}

-- An octet after a backslash.
escaped : (text mid end : List ℕ) (o : ℕ) → mid ≡ text ++ 92 ∷ [] → end ≡ mid ++ o ∷ [] → escaped_octet o ≡ 92 ∷ o ∷ [] → end ≡ text ++ escaped_octet o
escaped text mid end o first second spelled =
    second ∙ (ap (λ t. t ++ o ∷ []) first ∙ (append_assoc text (92 ∷ []) (o ∷ []) ∙ ap (λ s. text ++ s) (sym spelled)))

pub returns-then-octet-eq32-clause-spelled : goal.returns-then-octet-eq32-clause-spelled
returns-then-octet-eq32-clause-spelled g c =
    let spelled : escaped_octet c.args.octet ≡ 92 ∷ c.args.octet ∷ [] = elim c.then-octet-eq32.branch [
      | then-octet-eq32-via-then-octet-eq32 w ↦ rw w.if-octet-eq32.true refl
      | then-octet-eq32-via-else-octet-eq32+then-octet-eq46 w ↦ rw w.if-octet-eq46.true refl
      | then-octet-eq32-via-else-octet-eq32+else-octet-eq46+then-octet-eq92 w ↦ rw w.if-octet-eq92.true refl
    ] in
    escaped c.args.text.now.items c.push.new.self.items _ c.args.octet c.push.ensures.items c.push-then-octet-eq32.ensures.items spelled
