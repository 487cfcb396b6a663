-- Addresses that are shown are read back.
use Rattle.std.proofs.Common.{◌≡◌, ℕ, ◌+◌, ◌%◌, ◌<◌, ◌^◌, false, ◌==◌, List, [], ◌∷◌, ◌++◌, map, length, Option, Some, None, refl, sym, ap, ◌∙◌, append_assoc, append-nil, arith}
use Rattle.std.specs.Fmt.{decimal}
use Rattle.std.proofs.lemmas.Bool.{agree_below_at, cond-true, cond-false, eq-eqb}
use Rattle.std.proofs.lemmas.Fmt.{decimal_by_steps}
use Rattle.domain_rdata_text.specs.declared.words.Mode.TheVariants.{Bare}
use Rattle.domain_rdata_text.specs.Laws.{AreOctets}
use Rattle.domain_rdata_text.specs.Addresses.{dotted, ipv4_text, pieces_from, with_number, octets_from, only_four, read_ipv4}
use Rattle.domain_rdata_text.proofs.Splitting.{Stays, stays_nil, stays_append, bare_one, bare_number}
use Rattle.domain_rdata_text.proofs.Reading.{number_back}

digit_no_dot : (d : ℕ) → d < 10 → (48 + d == 46) ≡ false
digit_no_dot d h = agree_below_at (λ n. 48 + n == 46) (λ n. false) 10 d refl h

-- all of u is of the open piece, between separators
abbrev pub InPiece : ℕ → List ℕ → Type 0
InPiece sep u = (ps : List (List ℕ)) (p rest : List ℕ) → pieces_from sep ps p (u ++ rest) ≡ pieces_from sep ps (p ++ u) rest

pub piece_one : (sep c : ℕ) → (c == sep) ≡ false → InPiece sep (c ∷ [])
piece_one sep c h ps p rest = cond-false (c == sep) (pieces_from sep (ps ++ p ∷ []) [] rest) (pieces_from sep ps (p ++ c ∷ []) rest) h

pub piece_append : (sep : ℕ) (u v : List ℕ) → InPiece sep u → InPiece sep v → InPiece sep (u ++ v)
piece_append sep u v hu hv ps p rest =
    ap (λ (x : List ℕ). pieces_from sep ps p x) (append_assoc u v rest)
    ∙ (hu ps p (v ++ rest) ∙ (hv ps (p ++ u) rest ∙ ap (λ (x : List ℕ). pieces_from sep ps x rest) (append_assoc p u v)))

piece_digit : (d : ℕ) → d < 10 → InPiece 46 ((48 + d) ∷ [])
piece_digit d h = piece_one 46 (48 + d) (digit_no_dot d h)

piece_number : (n : ℕ) → n < 2 ^ 64 → InPiece 46 (decimal n)
piece_number n h = decimal_by_steps (λ m ds. InPiece 46 ds) (λ m low. piece_digit m low)
    (λ m ds high before. piece_append 46 ds ((48 + m % 10) ∷ []) before (piece_digit (m % 10) (omega arith))) n h

small : (n : ℕ) → n < 256 → n < 2 ^ 64
small n h = omega (arith, h)

pieces_after : (ns : List ℕ) → AreOctets ns → (ps : List (List ℕ)) (p : List ℕ) → pieces_from 46 ps p (dotted ns) ≡ (ps ++ p ∷ []) ++ map decimal ns
pieces_after [] b ps p = sym (append-nil (ps ++ p ∷ []))
pieces_after (n ∷ ns) b ps p =
    piece_number n (small n b.0) (ps ++ p ∷ []) [] (dotted ns)
    ∙ (pieces_after ns b.1 (ps ++ p ∷ []) (decimal n) ∙ append_assoc (ps ++ p ∷ []) (decimal n ∷ []) (map decimal ns))

octets_back : (ns : List ℕ) → AreOctets ns → (ks : List ℕ) → octets_from (Some ks) (map decimal ns) ≡ Some (ks ++ ns)
octets_back [] b ks = ap Some (sym (append-nil ks))
octets_back (n ∷ ns) b ks =
    ap (λ (x : Option ℕ). octets_from (with_number ks x) (map decimal ns)) (number_back 256 n b.0 (small n b.0))
    ∙ (octets_back ns b.1 (ks ++ n ∷ []) ∙ ap Some (append_assoc ks (n ∷ []) ns))

pieces_back : (n : ℕ) (ns : List ℕ) → AreOctets (n ∷ ns) → pieces_from 46 [] [] (ipv4_text (n ∷ ns)) ≡ map decimal (n ∷ ns)
pieces_back n ns b = piece_number n (small n b.0) [] [] (dotted ns) ∙ pieces_after ns b.1 [] (decimal n)

pub ipv4_back : (os : List ℕ) → length os ≡ 4 → AreOctets os → read_ipv4 (ipv4_text os) ≡ Some os
ipv4_back [] h b = absurd (omega (arith, h))
ipv4_back (n ∷ ns) h b =
    ap (λ (x : List (List ℕ)). only_four (octets_from (Some []) x)) (pieces_back n ns b)
    ∙ (ap only_four (octets_back (n ∷ ns) b []) ∙ cond-true (length (n ∷ ns) == 4) (Some (n ∷ ns)) None (eq-eqb (length (n ∷ ns)) 4 h))

bare_dotted : (ns : List ℕ) → AreOctets ns → Stays Bare (dotted ns)
bare_dotted [] b = stays_nil Bare
bare_dotted (n ∷ ns) b = stays_append Bare (46 ∷ []) (decimal n ++ dotted ns) (bare_one 46 refl)
    (stays_append Bare (decimal n) (dotted ns) (bare_number n (small n b.0)) (bare_dotted ns b.1))

pub bare_ipv4 : (os : List ℕ) → AreOctets os → Stays Bare (ipv4_text os)
bare_ipv4 [] b = stays_nil Bare
bare_ipv4 (n ∷ ns) b = stays_append Bare (decimal n) (dotted ns) (bare_number n (small n b.0)) (bare_dotted ns b.1)
