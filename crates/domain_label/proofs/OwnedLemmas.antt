-- Labels that own their octets, without case.
use Rattle.std.proofs.Common.{◌≡◌, ℕ, ◌<◌, List, [], ◌∷◌, ◌++◌, length, take, drop, slice_index, if◌then◌else◌, nat_lt, refl, sym, ap, ◌∙◌, inl, inr, arith}
use Rattle.std.specs.Char.{to_ascii_lowercase}
use Rattle.std.proofs.lemmas.Bool.{lt-ltb, lt-leb, cases_lt}
use Rattle.std.proofs.Math.Seq.{take-append_seam}
use Rattle.std.proofs.lemmas.List.{take-map, length-take-le, take_all, drop_all, nil_from_length, append-nil}
use Rattle.std.proofs.lemmas.Str.Ascii.{lowercase_is}
use Rattle.domain_label.specs.Lowercase.{lowercase}

-- the label that octets begin with, where their length octet may be any number
abbrev front : List ℕ → List ℕ
front o = let len = slice_index o 0 in if nat_lt 63 len then [] else take len (drop 1 o)

front-short : (len : ℕ) (o : List ℕ) → len < 64 → front (len ∷ o) ≡ take len o
front-short len o h = rw (lt-leb 64 len h) refl

front-long : (len : ℕ) (o : List ℕ) → 63 < len → front (len ∷ o) ≡ []
front-long len o h = rw (lt-ltb 63 len h) refl

-- an octet over 63 stays over 63
long-low : (len : ℕ) → 63 < len → 63 < to_ascii_lowercase len
long-low len h =
    elim (cases_lt len 65) [
      | inl before ↦ omega (arith, h, (lowercase_is len).1 before)
      | inr from ↦ elim (cases_lt 90 len) [
        | inl after ↦ omega (arith, h, (lowercase_is len).2 after)
        | inr to ↦ omega (arith, h, (lowercase_is len).0 (from, to))
      ]
    ]

-- a length octet has no case, so all octets can be lowered at once
pub front-low : (o : List ℕ) → front (lowercase o) ≡ lowercase (front o)
front-low [] = refl
front-low (len ∷ o) =
    elim (cases_lt 63 len) [
      | inl long ↦ front-long (to_ascii_lowercase len) (lowercase o) (long-low len long) ∙ rw (front-long len o long) refl
      | inr short ↦
          let small : len < 64 = omega (arith, short) in
          let same : to_ascii_lowercase len ≡ len = (lowercase_is len).1 (omega (arith, short)) in
          rw same (front-short len (lowercase o) small ∙ (take-map to_ascii_lowercase len o ∙ rw (front-short len o small) refl))
    ]

-- as many octets as the first len of o, in their offset, are then the first len
take-written : (len : ℕ) (o ws : List ℕ) → length ws ≡ length (take len o)
    → take len (ws ++ drop (length ws) o) ≡ ws
take-written len o ws e =
    elim (cases_lt (length o) len) [
      | inl less ↦
          let same : length ws ≡ length o = e ∙ ap length (take_all len o (omega (arith, less))) in
          rw (drop_all (length ws) o (omega (arith, same))) (rw (append-nil ws) (take_all len ws (omega (arith, less, same))))
      | inr enough ↦
          let same : length ws ≡ len = e ∙ length-take-le len o enough in
          ap (λ n. take n (ws ++ drop (length ws) o)) (sym same) ∙ take-append_seam ws (drop (length ws) o)
    ]

-- octets that are written in the place of a label's are the label's
pub front-written : (o ws : List ℕ) → length ws ≡ length (front o)
    → front (take 1 o ++ (ws ++ drop (length ws) (drop 1 o))) ≡ ws
front-written [] [] e = refl
front-written [] (x ∷ ws) e = absurd (omega (arith, e))
front-written (len ∷ o) ws e =
    elim (cases_lt 63 len) [
      | inl long ↦ front-long len (ws ++ drop (length ws) o) long ∙ sym (nil_from_length ws (e ∙ ap length (front-long len o long)))
      | inr short ↦
          let small : len < 64 = omega (arith, short) in
          front-short len (ws ++ drop (length ws) o) small ∙ take-written len o ws (e ∙ ap length (front-short len o small))
    ]
