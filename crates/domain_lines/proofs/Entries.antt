-- The lines of a record, and whether an OPT record was among the records.
use Rattle.std.proofs.Common.{◌≡◌, ◌<◌, ℕ, List, [], ◌∷◌, ◌++◌, length, refl, sym, ap, subst, ◌∙◌, arith, append_assoc, Bool, true, false}
use Rattle.std.specs.Prelude.{◌↔◌, ◌||◌, ◌==◌, IsTrue}
use Rattle.std.specs.List.{list_any}
use Rattle.std.proofs.lemmas.Bool.{eqb-true, false_from_ne_true, false≢true}
use Rattle.std.proofs.lemmas.List.{append-nil}
use Rattle.std.proofs.lemmas.List.Folds.{list_any-append}
use Rattle.domain_label.specs.Wire.{Root}
use Rattle.domain_message.specs.Entries.{RecordFields}
use Rattle.domain_message.specs.Options.{BeginsWithOption, EndsInOption}
use Rattle.domain_lines.specs.Edns.{edns_line, another_text, option_line, cut_option_line, AreOptionLines}
use Rattle.domain_lines.specs.Edns.AreOptionLines.{no_more, option, cut}
use Rattle.domain_lines.specs.Records.{is_root, rdata_octets, IsOptText}

abbrev first_len : List (List ℕ) → ℕ
first_len [] = 0
first_len (l ∷ ls) = length l

-- The test says whether the labels are the root.
pub root_is : (b : Bool) (ls : List (List ℕ)) → (IsTrue b ↔ (ls ≡ Root)) → b ≡ is_root ls
root_is b [] says = false_from_ne_true b (λ it. absurd (let e = ap length (says.0 it) in omega (arith, e)))
root_is b ([] ∷ []) says = says.1 refl
root_is b ([] ∷ l ∷ ls) says = false_from_ne_true b (λ it. absurd (let e = ap length (says.0 it) in omega (arith, e)))
root_is b ((c ∷ l) ∷ ls) says = false_from_ne_true b (λ it. absurd (let e : length (c ∷ l) ≡ 0 = ap first_len (says.0 it) in omega (arith, e)))

or_here : (a b : Bool) → b ≡ true → (a || (b || false)) ≡ true
or_here true b passes = refl
or_here false b passes = rw passes refl

or_still : (a b : Bool) → b ≡ false → (a || (b || false)) ≡ a
or_still true b fails = refl
or_still false b fails = rw fails refl

-- One that passes is among the elements, whichever come before it.
pub any_here : {X : Type 0} (p : X → Bool) (xs : List X) (x : X) → p x ≡ true → true ≡ list_any p (xs ++ x ∷ [])
any_here p xs x passes = sym (list_any-append p xs (x ∷ []) ∙ or_here (list_any p xs) (p x) passes)

-- One that doesn't pass changes nothing.
pub any_still : {X : Type 0} (p : X → Bool) (xs : List X) (x : X) (b : Bool) → p x ≡ false → b ≡ list_any p xs → b ≡ list_any p (xs ++ x ∷ [])
any_still p xs x b fails same = same ∙ sym (list_any-append p xs (x ∷ []) ∙ or_still (list_any p xs) (p x) fails)

-- What was put of options so far: the lines of those before the rest, whichever the rest has. `Puts` says so of a
-- text.
abbrev pub Listed : List ℕ → List ℕ → (List ℕ → Type 0) → Type 0
Listed octets rest Puts = (text : List ℕ) × Puts text × ((more : List ℕ) → AreOptionLines rest more → AreOptionLines octets (text ++ more))

-- Texts that are put into something one after another: `Takes a b text` says that a becomes b by a text.
module _ {S : Type 0} (Takes : S → S → List ℕ → Type 0) (joined : (a b c : S) (first second : List ℕ) → Takes a b first → Takes b c second → Takes a c (first ++ second)) where
  -- The lines of an OPT record were written.
  pub wrote_opt : (rcode : ℕ) (another : Bool) (it : RecordFields) (data_octets : List ℕ) (old a b new : S) → data_octets ≡ rdata_octets it → Takes old a (another_text another) → Takes a b (edns_line it.header.ttl it.header.class rcode ++ 10 ∷ [])
      → ((options : List ℕ) × AreOptionLines data_octets options × Takes b new options) → (text : List ℕ) × IsOptText rcode another it text × Takes old new text
  wrote_opt rcode another it data_octets old a b new same first second third =
      let line = edns_line it.header.ttl it.header.class rcode in
      let both : Takes a new (line ++ (10 ∷ third.0)) = subst (λ t. Takes a new t) (append_assoc line (10 ∷ []) third.0) (joined a b new (line ++ 10 ∷ []) third.0 second third.2) in
      (another_text another ++ (line ++ (10 ∷ third.0)), (third.0, subst (λ o. AreOptionLines o third.0) same third.1, refl), joined old a new (another_text another) (line ++ (10 ∷ third.0)) first both)

  pub listed_more : (octets rest next data_octets : List ℕ) (code : ℕ) (old now new : S) → Listed octets rest (Takes old now) → BeginsWithOption rest code data_octets next → Takes now new (option_line code data_octets ++ 10 ∷ []) → Listed octets next (Takes old new)
  listed_more octets rest next data_octets code old now new before begins here =
      let line = option_line code data_octets in (
        before.0 ++ (line ++ 10 ∷ []),
        joined old now new before.0 (line ++ 10 ∷ []) before.1 here,
        λ more lines.
            let whole : AreOptionLines octets (before.0 ++ (line ++ (10 ∷ more))) = before.2 (line ++ (10 ∷ more)) (option begins lines) in
            let same : (before.0 ++ (line ++ 10 ∷ [])) ++ more ≡ before.0 ++ (line ++ (10 ∷ more)) = append_assoc before.0 (line ++ 10 ∷ []) more ∙ ap (λ t. before.0 ++ t) (append_assoc line (10 ∷ []) more) in
            subst (λ t. AreOptionLines octets t) (sym same) whole,
      )

  -- The rest is no whole option.
  pub listed_cut : (octets rest : List ℕ) (old now new : S) (empty : Bool) → Listed octets rest (Takes old now) → empty ≡ (length rest == 0) → empty ≡ false → EndsInOption rest → Takes now new (cut_option_line rest ++ 10 ∷ []) → (text : List ℕ) × AreOptionLines octets text × Takes old new text
  listed_cut octets rest old now new empty before is some ends here =
      (before.0 ++ (cut_option_line rest ++ (10 ∷ [])), before.2 (cut_option_line rest ++ (10 ∷ [])) (cut (not_empty empty rest is some) ends), joined old now new before.0 (cut_option_line rest ++ 10 ∷ []) before.1 here)
    where
      not_empty : (empty : Bool) (rest : List ℕ) → empty ≡ (length rest == 0) → empty ≡ false → 0 < length rest
      not_empty empty [] is some = absurd (false≢true (sym some ∙ is))
      not_empty empty (x ∷ xs) is some = omega arith

  -- Nothing is left.
  pub listed_all : (octets rest : List ℕ) (old now : S) (empty : Bool) → Listed octets rest (Takes old now) → empty ≡ (length rest == 0) → empty ≡ true → (text : List ℕ) × AreOptionLines octets text × Takes old now text
  listed_all octets rest old now empty before is all =
      let none = no_rest empty rest is all in
      (before.0, subst (λ t. AreOptionLines octets t) (append-nil before.0) (before.2 [] (subst (λ r. AreOptionLines r []) (sym none) no_more)), before.1)
    where
      no_rest : (empty : Bool) (rest : List ℕ) → empty ≡ (length rest == 0) → empty ≡ true → rest ≡ []
      no_rest empty [] is all = refl
      no_rest empty (x ∷ xs) is all = let none : length (x ∷ xs) ≡ 0 = eqb-true (length (x ∷ xs)) 0 (sym is ∙ all) in absurd (omega (arith, none))
