-- What is composed and read back is read as nothing else.
use Rattle.std.specs.Prelude.{◌≡◌, ℕ, Bool, true, nat_eq, List}
use Rattle.std.proofs.Common.{subst, sym}
use Rattle.std.specs.Cmp.{nat_eq_equiv}
use Rattle.domain_wire.specs.Refusals.{refusal}
use Rattle.domain_wire.specs.Values.{IsReading}
use Rattle.domain_wire.specs.declared.error.ParseError.{ParseError}
use Rattle.domain_fields.specs.Data.{AllAt, NotAll}
use Rattle.domain_fields.specs.ReadBack.{IsReadBackWhole, all_read_back}
use Rattle.domain_data_laws.specs.Laws.{SeesWhatIsRead, AreReadAs}

pub sees : {View : Type 0} (At : ℕ → List ℕ → ℕ → View → ℕ → Type 0) → SeesWhatIsRead At At
sees At rtype m p it e = (λ at. at, λ at. at)

pub same_number : (n : ℕ) → nat_eq n n ≡ true
same_number n = nat_eq_equiv.refl n

-- data is read as what it is read back as, since one value or one error is at an offset
pub read_as : {R View : Type 0} (May : Bool → List ℕ → List ℕ → Type 0) (At : List ℕ → ℕ → View → ℕ → Type 0) (No : List ℕ → ℕ → ParseError → Type 0) (model : R → View) (Like : View → Type 0) → IsReading At No → IsReadBackWhole May At Like
    → (compresses : Bool) (t s : List ℕ) → May compresses t s → AreReadAs At No model (λ read. Like (model read)) t s
read_as May At No model Like law back compresses t s may =
    let seen = back compresses t s may in
    record {
      there = (seen.0, seen.1);
      no_error = λ why no. law.not_both _ _ seen.0 _ why seen.1 no;
      same = λ read e at.
          let one = law.one_value _ _ seen.0 (model read) _ e seen.1 at in
          (subst Like one.0 seen.2, sym one.1);
    }

-- the same of fields that have all octets up to the end
pub fields_read_as : {R View : Type 0} (May : Bool → List ℕ → List ℕ → Type 0) (At : List ℕ → ℕ → View → ℕ → Type 0) (No : List ℕ → ℕ → ParseError → Type 0) (model : R → View) (Like : View → Type 0) → IsReading (AllAt At) (NotAll refusal At No) → IsReadBackWhole May At Like
    → (compresses : Bool) (t s : List ℕ) → May compresses t s → AreReadAs (AllAt At) (NotAll refusal At No) model (λ read. Like (model read)) t s
fields_read_as May At No model Like law back = read_as May (AllAt At) (NotAll refusal At No) model Like law (all_read_back May At Like back)
