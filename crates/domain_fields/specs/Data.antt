-- Record data that has all octets up to the end (RFC 1035, 3.2.1: RDLENGTH states how many it has).
use Rattle.std.specs.Prelude.{◌≡◌, ℕ, ◌<◌, Bool, true, false, List, length, codes, Option, None, Some}
use Rattle.std.proofs.Common.{arith, sym, ◌∙◌}
use Rattle.domain_wire.specs.Refusals.{Refusal, form}
use Rattle.domain_fields.specs.Reading.{IsReadingOf}

-- The data is at offset p, and it has all octets up to the end e.
pub record AllAt {A : Type 0} (At : List ℕ → ℕ → A → ℕ → Type 0) (m : List ℕ) (p : ℕ) (it : A) (e : ℕ) : Type 0 where
  pub fields : At m p it e
  pub whole : e ≡ length m

-- A field isn't there, or octets are left after the last one, and why.
pub data NotAll {A E : Type 0} (said : E → Refusal) (At : List ℕ → ℕ → A → ℕ → Type 0) (No : List ℕ → ℕ → E → Type 0) (m : List ℕ) (p : ℕ) (why : E) : Type 0 where
  no_field : No m p why → NotAll said At No m p why
  trailing : (it : A) (e : ℕ) → At m p it e → e < length m → said why ≡ form (codes "trailing data") → NotAll said At No m p why

-- whether the length is known
abbrev pub is_known : Option ℕ → Bool
is_known None = false
is_known (Some n) = true

all_with : {A E : Type 0} (said : E → Refusal) (At : List ℕ → ℕ → A → ℕ → Type 0) (No : List ℕ → ℕ → E → Type 0) → IsReadingOf said At No → (m : List ℕ) (p : ℕ) (it : A) (e : ℕ) (why : E) → AllAt At m p it e → NotAll said At No m p why → ⊥
all_with said At No law m p it e why at (no_field missing) = law.not_both m p it e why at.fields missing
all_with said At No law m p it e why at (trailing other f also more told) =
    let same = (law.one_value m p it other e f at.fields also).1 in
    let whole = at.whole in
    omega arith

not_all_once : {A E : Type 0} (said : E → Refusal) (At : List ℕ → ℕ → A → ℕ → Type 0) (No : List ℕ → ℕ → E → Type 0) → IsReadingOf said At No → (m : List ℕ) (p : ℕ) (why other : E) → NotAll said At No m p why → NotAll said At No m p other → said why ≡ said other
not_all_once said At No law m p why other (no_field a) (no_field b) = law.one_error m p why other a b
not_all_once said At No law m p why other (no_field a) (trailing it e at more told) = absurd (law.not_both m p it e why at a)
not_all_once said At No law m p why other (trailing it e at more told) (no_field b) = absurd (law.not_both m p it e other at b)
not_all_once said At No law m p why other (trailing it e at more told) (trailing and f also less tells) = told ∙ sym tells

-- data that has all octets is a reading, where its fields are
pub all_reading : {A E : Type 0} (said : E → Refusal) (At : List ℕ → ℕ → A → ℕ → Type 0) (No : List ℕ → ℕ → E → Type 0) → IsReadingOf said At No → IsReadingOf said (AllAt At) (NotAll said At No)
all_reading said At No law = record {
  inside = λ m p it e at. law.inside m p it e at.fields;
  one_value = λ m p a b e f x y. law.one_value m p a b e f x.fields y.fields;
  not_both = all_with said At No law;
  one_error = not_all_once said At No law;
}
