-- Data of any type at an offset of a message.
use Rattle.std.specs.Prelude.{◌≡◌, ◌⊎◌, ℕ, ◌<◌, ◌≤◌, List, length, drop, codes}
use Rattle.std.proofs.Common.{sym, ◌∙◌, ap, inl, inr, arith}
use Rattle.domain_wire.specs.Refusals.{refusal, form}
use Rattle.domain_wire.specs.Values.{IsReading}
use Rattle.domain_wire.specs.declared.error.ParseError.{ParseError}
use Rattle.domain_descriptor.specs.Fields.{AreData, AreNoData}
use Rattle.domain_any_rdata.specs.Refusals.{error_of_data}
use Rattle.domain_descriptor.specs.Table.{known_fields}
use Rattle.domain_descriptor.specs.declared.fault.DataFault.{DataFault}
use Rattle.domain_descriptor.proofs.Exact.{data_or_fault}
use Rattle.domain_any_rdata.specs.OneFault.{data_fault_once}
use Rattle.domain_fields.specs.Parts.{Part}
use Rattle.domain_any_rdata.specs.AllData.{SeenData}
use Rattle.domain_any_rdata.specs.Parts.{parts_at}

-- These parts are data of the type in the class from p to the end e of m.
pub record DataAt (rtype class : ℕ) (m : List ℕ) (p : ℕ) (parts : List Part) (e : ℕ) : Type 0 where
  pub inside : p ≤ length m
  pub are : AreData (known_fields rtype class) m p
  pub says : parts ≡ parts_at (known_fields rtype class) m p
  pub ends : e ≡ length m

-- No data of the type in the class is there, and the error of the first fault says why.
abbrev pub NoDataAt : ℕ → ℕ → List ℕ → ℕ → ParseError → Type 0
NoDataAt rtype class m p why =
    (fault : DataFault) × AreNoData (known_fields rtype class) m p fault × (refusal why ≡ error_of_data fault)

-- Such data in class IN, of at most 65,535 octets: a record can have no more.
abbrev pub InternetDataAt : ℕ → List ℕ → ℕ → SeenData → ℕ → Type 0
InternetDataAt rtype m p seen e = (seen.0 ≡ 1) × DataAt rtype 1 m p seen.1 e × (length (drop p m) ≤ 65535)

-- There is none, and why: more than 65,535 octets are left, or they aren't the fields of the type.
abbrev pub NoInternetData : ℕ → List ℕ → ℕ → ParseError → Type 0
NoInternetData rtype m p why =
    ((65535 < length (drop p m)) × (refusal why ≡ form (codes "record data too long")))
    ⊎ ((p ≤ length m) × (length (drop p m) ≤ 65535) × NoDataAt rtype 1 m p why)

once : (rtype : ℕ) (m : List ℕ) (p : ℕ) (why other : ParseError) → NoInternetData rtype m p why → NoInternetData rtype m p other → refusal why ≡ refusal other
once rtype m p why other (inl a) (inl b) = a.1 ∙ sym b.1
once rtype m p why other (inl a) (inr b) = absurd (omega (arith, a.0, b.1))
once rtype m p why other (inr a) (inl b) = absurd (omega (arith, a.1, b.0))
once rtype m p why other (inr a) (inr b) =
    a.2.2 ∙ (ap error_of_data (data_fault_once (known_fields rtype 1) m p a.2.0 b.2.0 a.0 a.2.1 b.2.1) ∙ sym b.2.2)

neither : (rtype : ℕ) (m : List ℕ) (p : ℕ) (seen : SeenData) (e : ℕ) (why : ParseError) → InternetDataAt rtype m p seen e → NoInternetData rtype m p why → ⊥
neither rtype m p seen e why at (inl long) = omega (arith, at.2, long.0)
neither rtype m p seen e why at (inr fails) = data_or_fault (known_fields rtype 1) m p fails.2.0 at.1.are fails.2.1

same_seen : (rtype : ℕ) (m : List ℕ) (p : ℕ) (a b : SeenData) (e f : ℕ) → InternetDataAt rtype m p a e → InternetDataAt rtype m p b f → (a ≡ b) × (e ≡ f)
same_seen rtype m p a b e f x y =
    let class = x.0 ∙ sym y.0 in
    let parts = x.1.says ∙ sym y.1.says in
    ((λ i. (class i, parts i)), x.1.ends ∙ sym y.1.ends)

-- At each offset there is one value or one error, never both.
pub internet_data_reading : (rtype : ℕ) → IsReading (InternetDataAt rtype) (NoInternetData rtype)
internet_data_reading rtype = record {
  inside = λ m p seen e at. (omega (arith, at.1.inside, at.1.ends), omega (arith, at.1.ends));
  one_value = same_seen rtype;
  not_both = neither rtype;
  one_fault = once rtype;
}
