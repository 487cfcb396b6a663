-- A name in record data, and its end (RFC 1035, 3.3).
use Rattle.std.specs.Prelude.{◌≡◌, ℕ, ◌≤◌, List, length}
use Rattle.std.proofs.Common.{ap, sym, ◌∙◌}
use Rattle.domain_wire.specs.declared.error.ParseError.{ParseError}
use Rattle.domain_wire.specs.Refusals.{refusal}
use Rattle.domain_wire.specs.Values.{IsReading}
use Rattle.domain_reading.specs.Limits.{max_pointers}
use Rattle.domain_reading.proofs.Reading.{reads_once}
use Rattle.domain_reading.proofs.NameOrFault.{names_or_fault, one_fault}
use Rattle.domain_reading.proofs.OneEncoding.{front_once}
use Rattle.domain_reading.proofs.Encodings.{front_inside, stop_whole}
use Rattle.domain_reading.specs.Faults.{error_of}
use Rattle.domain_reading.specs.Grammar.{Names, EncodingEnds}
use Rattle.domain_reading.specs.ParseResult.{HasNoName}

-- The name at offset p is ls, and e is the end of its encoding (RFC 1035, 4.1.4).
pub record NameFieldAt (m : List ℕ) (p : ℕ) (ls : List (List ℕ)) (e : ℕ) : Type 0 where
  pub named : Names max_pointers m p ls
  pub front : EncodingEnds m p e

-- No name is at offset p, and why.
abbrev pub NoNameField : List ℕ → ℕ → ParseError → Type 0
NoNameField m p why = HasNoName max_pointers m p (refusal why)

name_once : {m : List ℕ} {p : ℕ} {xs ys : List (List ℕ)} {e f : ℕ} → NameFieldAt m p xs e → NameFieldAt m p ys f → (xs ≡ ys) × (e ≡ f)
name_once a b = ((reads_once a.named.reads b.named.reads).1, (front_once a.front.2 b.front.2).2)

-- a name begins before its end, and ends inside of the message
name_inside : (m : List ℕ) (p : ℕ) (ls : List (List ℕ)) (e : ℕ) → NameFieldAt m p ls e → p ≤ e
name_inside m p ls e a = front_inside a.front.2

name_whole : {m : List ℕ} {p e : ℕ} {ls : List (List ℕ)} → NameFieldAt m p ls e → e ≤ length m
name_whole {m} {e = e} at = stop_whole m at.front.2.stop e at.front.1 at.front.2.ends

-- at each offset one name is read, or one error is returned
pub name_reading : IsReading NameFieldAt NoNameField
name_reading = record {
  inside = λ m p ls e at. (name_inside m p ls e at, name_whole at);
  one_value = λ m p xs ys e f a b. name_once a b;
  not_both = λ m p ls e why at missing. names_or_fault at.named missing.2;
  one_fault = λ m p why other a b. a.1 ∙ (ap error_of (one_fault a.2 b.2).0 ∙ sym b.1);
}
