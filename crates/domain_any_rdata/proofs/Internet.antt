-- Data of class IN where a parser stands.
use Rattle.std.proofs.Common.{◌≡◌, ◌↔◌, ℕ, ◌<◌, ◌≤◌, Bool, true, false, nat_lt, Result, Ok, Err, IsErr, List, length, drop, inr, refl, subst, arith}
use Rattle.std.proofs.lemmas.Bool.{false≢true}
use Rattle.std.proofs.lemmas.Bool.Decides.{nat_tests}
use Rattle.domain_wire.specs.Refusals.{refusal}
use Rattle.domain_wire.specs.declared.error.ParseError.{ParseError}
use Rattle.domain_descriptor.specs.Fields.{AreData, AreNoData}
use Rattle.domain_descriptor.specs.Rdatas.{IsRdata}
use Rattle.domain_any_rdata.specs.Refusals.{error_of_data}
use Rattle.domain_descriptor.specs.Table.{known_fields}
use Rattle.domain_descriptor.specs.declared.fault.DataFault.{DataFault}
use Rattle.domain_any_rdata.proofs.Named.{parts_of_data}
use Rattle.domain_any_rdata.specs.AllData.{data_of, seen_data, IsAllData}
use Rattle.domain_any_rdata.specs.Reading.{InternetDataAt, NoInternetData}
use Rattle.domain_any_rdata.specs.declared.all.AllRecordData.{AllRecordData}

-- what isn't refused as too long has at most 65,535 octets
few_by : (n : ℕ) (b : Bool) → nat_lt 65535 n ≡ b → ((65535 < n) → ⊥) → n ≤ 65535
few_by n true many short = absurd (short (grind (arith, nat_tests)))
few_by n false few short = grind (arith, nat_tests)

pub not_long : {U E : Type 0} (r : Result U E) (x : U) (n : ℕ) → r ≡ Ok x → (IsErr r ↔ (65535 < n)) → n ≤ 65535
not_long (Ok y) x n is by = few_by n (nat_lt 65535 n) refl (λ many. false≢true (by.1 many))
not_long (Err e) x n is by = absurd (cc)

pub data_there : (t k : ℕ) (m : List ℕ) (p : ℕ) (it : AllRecordData) (e : ℕ) → k ≡ 1 → p ≤ length m → length (drop p m) ≤ 65535
    → IsAllData t k m p it → AreData (known_fields t k) m p → e ≡ length m → InternetDataAt t m p (seen_data it) e
data_there t k m p it e one inside few is are ends =
    let here : IsRdata t 1 m p (data_of it) = subst (λ (x : ℕ). IsRdata t x m p (data_of it)) one is in
    let all : AreData (known_fields t 1) m p = subst (λ (x : ℕ). AreData (known_fields t x) m p) one are in
    (here.classed, record { inside = inside; are = all; says = parts_of_data t 1 m p (data_of it) here; ends = ends }, few)

pub none_there : (t k : ℕ) (m : List ℕ) (p : ℕ) (fault : DataFault) (why : ParseError) → k ≡ 1 → p ≤ length m → length (drop p m) ≤ 65535
    → AreNoData (known_fields t k) m p fault → refusal why ≡ error_of_data fault → NoInternetData t m p why
none_there t k m p fault why one inside few none told =
    inr (inside, few, (fault, subst (λ (x : ℕ). AreNoData (known_fields t x) m p fault) one none, told))
