-- What is refused.
use Rattle.std.proofs.Common.{◌≡◌, ◌∙◌, ℕ, List, Option, None, Result, Err, sym, subst, ap}
use Rattle.domain_rdata_text.specs.declared.error.Fault.{Fault}
use Rattle.domain_rdata_text.specs.declared.error.ReadError.{ReadError}
use Rattle.domain_rdata_text.specs.declared.error.ReadError.TheVariants.{Refused, Memory}
use Rattle.domain_rdata_text.specs.declared.error.Reason.{Reason}
use Rattle.domain_rdata_text.specs.declared.error.Reason.TheVariants as reasons
use Rattle.domain_rdata_text.specs.Outcome.{fault}
use Rattle.domain_rdata_text.specs.Texts.{with_octets, with_more, one}
use Rattle.domain_rdata_text.specs.Values.{Val}
use Rattle.domain_rdata_text.specs.Words.{WordAt}

-- The only fault of a call is that of what couldn't be read.
pub refused_so : {A : Type 0} (r : Result A Fault) (P : Type 0) (e : ReadError) (ref : Fault)
    → ((g : Fault) → e ≡ Refused g → g ≡ ref) → (e ≡ Refused ref → P) → (P → r ≡ Err ref)
    → (f : Fault) → e ≡ Refused f → r ≡ Err f
refused_so r P e ref given err to f h =
    let same = given f h in
    let bad = err (subst (λ x. e ≡ Refused x) same h) in
    to bad ∙ ap Err (sym same)

-- which is given, and the word couldn't be read
pub refused_and : (P : Type 0) (e : ReadError) (ref : Fault)
    → ((g : Fault) → e ≡ Refused g → g ≡ ref) → (e ≡ Refused ref → P)
    → (f : Fault) → e ≡ Refused f → (f ≡ ref) × P
refused_and P e ref given err f h =
    let same = given f h in
    (same, err (subst (λ x. e ≡ Refused x) same h))

-- of a field of one word
pub one_refused : {A : Type 0} (g : A → Val) (os : List ℕ) (why : Reason) (w : WordAt) (ws : List WordAt) (o : Option A) (e : ReadError) (ref : Fault)
    → ref ≡ fault w.begin why → ((f : Fault) → e ≡ Refused f → f ≡ ref) → (e ≡ Refused ref → o ≡ None)
    → (f : Fault) → e ≡ Refused f → one why w ws (with_octets g os o) ≡ Err f
one_refused {A} g os why w ws o e ref is given err =
    refused_so (one why w ws (with_octets g os o)) (o ≡ None) e ref given err
    (λ none. ap (λ (x : Option A). one why w ws (with_octets g os x)) none ∙ ap Err (sym is))

-- of a name
pub name_refused : (os : List ℕ) (w : WordAt) (ws : List WordAt) (o : Option (List ℕ)) (e : ReadError) (ref : Fault)
    → ref ≡ fault w.begin reasons.Name → ((f : Fault) → e ≡ Refused f → f ≡ ref) → (e ≡ Refused ref → o ≡ None)
    → (f : Fault) → e ≡ Refused f → one reasons.Name w ws (with_more os o) ≡ Err f
name_refused os w ws o e ref is given err =
    refused_so (one reasons.Name w ws (with_more os o)) (o ≡ None) e ref given err
    (λ none. ap (λ (x : Option (List ℕ)). one reasons.Name w ws (with_more os x)) none ∙ ap Err (sym is))

fault_in : Fault → ReadError → Fault
fault_in d (Refused f) = f
fault_in d Memory = d

-- an error has one fault
pub same_refusal : (e : ReadError) (f g : Fault) → e ≡ Refused g → e ≡ Refused f → f ≡ g
unfolding fault_in
same_refusal e f g a b = ap (fault_in g) (sym b ∙ a)
