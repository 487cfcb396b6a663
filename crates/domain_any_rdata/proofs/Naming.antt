-- A name that a target may write for another is one in a form.
use Rattle.std.proofs.Common.{◌≡◌, ℕ, Bool, List, Result, OnOk, sym, subst}
use Rattle.std.proofs.lemmas.Result.{on_ok_weaker}
use Rattle.domain_rdata.specs.ReadBack.{Appended}
use Rattle.domain_rdata.specs.RecordData.{NameOctets}
use Rattle.domain_fields.specs.Parts.{a_name}
use Rattle.domain_any_rdata.specs.Composing.{PartComposed}
use Rattle.domain_any_rdata.specs.declared.name_form.NameForm.{NameForm}
use Rattle.domain_any_rdata.specs.declared.name_form.NameForm.TheVariants.{Compressed}

pub name_grown : {U E : Type 0} (May : List ℕ → Type 0) (ls : List (List ℕ)) (how : NameForm) (compresses : Bool) (t new : List ℕ) (r : Result U E)
    → how ≡ Compressed → ((s : List ℕ) → May s → NameOctets ls compresses t s) → OnOk r (Appended May t new) → OnOk r (Appended (PartComposed (a_name ls) how compresses t) t new)
name_grown May ls how compresses t new r is may done =
    subst (λ h. OnOk r (Appended (PartComposed (a_name ls) h compresses t) t new)) (sym is)
    (on_ok_weaker r (λ (a : Appended May t new). record { octets = a.octets; allowed = may a.octets a.allowed; all = a.all }) done)
