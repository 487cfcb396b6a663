-- What is composed for a field after other octets (RFC 1035, 4.1.4).
use Rattle.std.specs.Prelude.{Bool, ℕ, List, [], ◌++◌}
use Rattle.std.proofs.Common.{sym, subst, append_assoc, append-nil}
use Rattle.domain_rdata.specs.RecordData.{NameOctets}
use Rattle.domain_fields.specs.Sequences.{BothComposed}

-- Each name that may be composed after the octets t, and any after them, may be composed so after u.
abbrev pub NamesMove : Bool → List ℕ → List ℕ → Type 0
NamesMove compresses t u = (ls : List (List ℕ)) (b s : List ℕ) → NameOctets ls compresses (t ++ b) s → NameOctets ls compresses (u ++ b) s

-- so may a field that is a name
pub name_moves : (ls : List (List ℕ)) (c : Bool) (t u s : List ℕ) → NamesMove c t u → NameOctets ls c t s → NameOctets ls c u s
name_moves ls c t u s move name =
    let P : List ℕ → Type 0 = λ x. NameOctets ls c x s in
    subst P (append-nil u) (move ls [] s (subst P (sym (append-nil t)) name))

-- names may be so after more octets
pub moves_more : (c : Bool) (t u a : List ℕ) → NamesMove c t u → NamesMove c (t ++ a) (u ++ a)
moves_more c t u a move ls b s name =
    let P : List ℕ → Type 0 = λ x. NameOctets ls c x s in
    subst P (sym (append_assoc u a b)) (move ls (a ++ b) s (subst P (append_assoc t a b) name))

-- and one field after another
pub both_moves : (First Rest : Bool → List ℕ → List ℕ → Type 0) (c : Bool) (t u s : List ℕ) → ((c : Bool) (t u s : List ℕ) → NamesMove c t u → First c t s → First c u s) → ((c : Bool) (t u s : List ℕ) → NamesMove c t u → Rest c t s → Rest c u s) → NamesMove c t u → BothComposed (First c) (Rest c) t s → BothComposed (First c) (Rest c) u s
both_moves First Rest c t u s first rest move both = record {
  first = both.first;
  rest = both.rest;
  first_allowed = first c t u both.first move both.first_allowed;
  rest_allowed = rest c (t ++ both.first) (u ++ both.first) both.rest (moves_more c t u both.first move) both.rest_allowed;
  all = both.all;
}
