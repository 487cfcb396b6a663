-- The text of a name, label by label.
use Rattle.std.proofs.Common.{◌≡◌, ℕ, ◌<◌, List, [], ◌∷◌, ◌++◌, length, refl, sym, ap, ◌∙◌, append_assoc, append-nil, arith}
use Rattle.std.specs.List.{flat_map}
use Rattle.domain_label.specs.Text.{or_dot}
use Rattle.domain_field_text.specs.Names.{zone_label, zone_name}

-- one label more with its dot
pub more_named : (text new l all : List ℕ) (s t : List (List ℕ)) → text ++ flat_map zone_label s ≡ all → s ≡ l ∷ t → new ≡ text ++ zone_label l → new ++ flat_map zone_label t ≡ all
more_named text new l all s t h e f =
    ap (λ r. r ++ flat_map zone_label t) f ∙ (append_assoc text (zone_label l) (flat_map zone_label t) ∙ (ap (λ r. text ++ flat_map zone_label r) (sym e) ∙ h))

-- no label is left: nothing is a dot
named_done : (text : List ℕ) (s all : List (List ℕ)) → text ++ flat_map zone_label s ≡ flat_map zone_label all → s ≡ [] → or_dot text ≡ zone_name all
named_done text s all h e = ap or_dot (sym (append-nil text) ∙ (ap (λ r. text ++ flat_map zone_label r) (sym e) ∙ h))

or_dot_some : (text : List ℕ) → 0 < length text → or_dot text ≡ text
or_dot_some [] h = absurd (omega (arith, h))
or_dot_some (c ∷ t) h = refl

pub named_some : (text : List ℕ) (s all : List (List ℕ)) → text ++ flat_map zone_label s ≡ flat_map zone_label all → s ≡ [] → 0 < length text → text ≡ zone_name all
named_some text s all h e some = sym (or_dot_some text some) ∙ named_done text s all h e

pub named_none : (text : List ℕ) (s all : List (List ℕ)) → text ++ flat_map zone_label s ≡ flat_map zone_label all → s ≡ [] → length text ≡ 0 → text ++ 46 ∷ [] ≡ zone_name all
named_none [] s all h e none = named_done [] s all h e
named_none (c ∷ t) s all h e none = absurd (omega (arith, none))
