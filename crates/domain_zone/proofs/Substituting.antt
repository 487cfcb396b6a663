-- What a DNAME makes of a name below it.
use Rattle.std.proofs.Common.{◌≡◌, ℕ, ◌+◌, ◌-◌, List, ◌++◌, length, take, sym, ap, ◌∙◌, arith, length-append}
use Rattle.std.proofs.lemmas.List.{length-map, take-append-le, take_all}
use Rattle.domain_label.specs.Lowercase.{lowercase}
use Rattle.domain_label.specs.Wire.{wire, IsAbsolute, IsRelative}
use Rattle.domain_list.specs.Chains.{before_root}
use Rattle.domain_list.specs.NameLaws.{before_absolute}
use Rattle.domain_label.proofs.WireLaws.{relative_then_absolute}
use Rattle.domain_name.specs.Names.{IsStripped}

-- the labels before the suffix are as many as the name has more than the owner
pub stripped_front : (q owner front : List (List ℕ)) → IsStripped q owner front → take (length q - length owner) q ≡ front
stripped_front q owner front s =
    let size : length s.suffix ≡ length owner = sym (length-map s.suffix lowercase) ∙ (ap length s.same ∙ length-map owner lowercase) in
    let whole : length q ≡ length front + length s.suffix = ap length s.parts ∙ length-append front s.suffix in
    let more : length q - length owner ≡ length front = omega (arith, size, whole) in
    ap (λ n. take n q) more ∙ (ap (λ l. take (length front) l) s.parts ∙ (take-append-le (length front) front s.suffix (omega arith) ∙ take_all (length front) front (omega arith)))

pub whole_size : (l r : List (List ℕ)) → IsRelative l → IsAbsolute r → length (wire (l ++ r)) ≡ before_root (l ++ r) + 1
whole_size l r a b = sym (before_absolute (l ++ r) (relative_then_absolute l r a b))

pub joined : (a b c d : List (List ℕ)) → a ≡ b → c ≡ d → a ++ c ≡ b ++ d
joined a b c d e f = ap (λ x. x ++ c) e ∙ ap (λ x. b ++ x) f
