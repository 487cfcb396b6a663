-- Parameters, one after the other from the front.
use Rattle.std.proofs.Common.{◌≡◌, ℕ, ◌+◌, ◌/◌, ◌%◌, ◌≤◌, List, [], ◌∷◌, ◌++◌, length, refl, ap, subst, sym, ◌∙◌, append_assoc, append-nil, Some}
use Rattle.std.proofs.lemmas.List.{nil_from_length}
use Rattle.domain_svcb.specs.SvcParams.{params_octets, AreParams, HasParams, next_key, FirstParam, NoParams, param_fault}
use Rattle.domain_svcb.specs.declared.params.SvcParamsError.{SvcParamsError}

-- o is the parameters before, and then rest, where a key may be `least` or more.
pub record Walked (o : List ℕ) (least : ℕ) (rest : List ℕ) : Type 0 where
  pub before : List (ℕ × List ℕ)
  pub parts : o ≡ params_octets before ++ rest
  pub are : AreParams 0 before
  pub next : least ≡ next_key 0 before

octets_append : (xs ys : List (ℕ × List ℕ)) → params_octets (xs ++ ys) ≡ params_octets xs ++ params_octets ys
octets_append [] ys = refl
octets_append (x ∷ xs) ys = ap (λ t. x.0 / 256 ∷ x.0 % 256 ∷ length x.1 / 256 ∷ length x.1 % 256 ∷ t) (ap (λ t. x.1 ++ t) (octets_append xs ys) ∙ sym (append_assoc x.1 (params_octets xs) (params_octets ys)))

are_append : (least : ℕ) (xs : List (ℕ × List ℕ)) (p : ℕ × List ℕ) → AreParams least xs → AreParams (next_key least xs) (p ∷ []) → AreParams least (xs ++ p ∷ [])
are_append least [] p are one = one
are_append least (x ∷ xs) p are one = (are.0, are_append (x.0 + 1) xs p are.1 one)

key_append : (least : ℕ) (xs : List (ℕ × List ℕ)) (p : ℕ × List ℕ) → next_key least (xs ++ p ∷ []) ≡ p.0 + 1
key_append least [] p = refl
key_append least (x ∷ xs) p = key_append (x.0 + 1) xs p

pub at_start : (o : List ℕ) → Walked o 0 o
at_start o = record { before = []; parts = refl; are = tt; next = refl }

parts_more : (o rest after value : List ℕ) (least key : ℕ) (ps : List (ℕ × List ℕ)) → o ≡ params_octets ps ++ rest → FirstParam least rest key value after → o ≡ params_octets (ps ++ (key, value) ∷ []) ++ after
parts_more o rest after value least key ps parts first =
    let one = (key, value) ∷ [] in
    let here : rest ≡ params_octets one ++ after = first.parts ∙ ap (λ t. key / 256 ∷ key % 256 ∷ length value / 256 ∷ length value % 256 ∷ (t ++ after)) (sym (append-nil value)) in
    parts ∙ (ap (λ t. params_octets ps ++ t) here ∙ (sym (append_assoc (params_octets ps) (params_octets one) after) ∙ ap (λ t. t ++ after) (sym (octets_append ps one))))

are_more : (rest after value : List ℕ) (least key : ℕ) (ps : List (ℕ × List ℕ)) → least ≡ next_key 0 ps → AreParams 0 ps → FirstParam least rest key value after → AreParams 0 (ps ++ (key, value) ∷ [])
are_more rest after value least key ps next are first =
    are_append 0 ps (key, value) are ((subst (λ n. n ≤ key) next first.param.0, first.param.1), tt)

-- a parameter more
pub walked_one : (o rest after value : List ℕ) (least key : ℕ) → Walked o least rest → FirstParam least rest key value after → Walked o (key + 1) after
walked_one o rest after value least key walked first = record {
  before = walked.before ++ (key, value) ∷ [];
  parts = parts_more o rest after value least key walked.before walked.parts first;
  are = are_more rest after value least key walked.before walked.next walked.are first;
  next = sym (key_append 0 walked.before (key, value));
}

-- nothing is left
pub walked_all : (o rest : List ℕ) (least : ℕ) → Walked o least rest → length rest ≡ 0 → HasParams 0 o
walked_all o rest least walked none = (
  walked.before,
  walked.parts ∙ (ap (λ t. params_octets walked.before ++ t) (nil_from_length rest none) ∙ append-nil (params_octets walked.before)),
  walked.are,
)

-- something is wrong with the next one
pub walked_fault : (o rest : List ℕ) (least : ℕ) (why : SvcParamsError) → Walked o least rest → param_fault least rest ≡ Some why → NoParams o why
walked_fault o rest least why walked wrong = record {
  before = walked.before;
  rest = rest;
  parts = walked.parts;
  are = walked.are;
  none = ap (λ n. param_fault n rest) (sym walked.next) ∙ wrong;
}
