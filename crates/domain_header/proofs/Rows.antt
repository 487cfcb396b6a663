-- The rows of a table from one on.
use Rattle.std.proofs.Common.{◌≡◌, ℕ, ◌+◌, ◌<◌, ◌≤◌, List, [], ◌∷◌, length, drop, get_or, sym, subst, arith, add-one, drop-cons}
use Rattle.std.proofs.lemmas.Grind.{common_steps}
use Rattle.std.specs.Prelude.{Option, Some, None}
use Rattle.domain_label.specs.Lowercase.{lowercase}
use Rattle.domain_header.specs.Mnemonics.{rows_of, NumberOf}
use Rattle.domain_header.specs.Mnemonics.NumberOf.{nowhere, here, later}
use Rattle.domain_header.specs.declared.mnemonic.Mnemonic.{Mnemonic}

split : (table : List Mnemonic) (i : ℕ) (d : Mnemonic) → i < length table → drop i table ≡ get_or table i d ∷ drop (i + 1) table
split table i d inside = rw (add-one, drop-cons table i d)

pub row_here : (word : List ℕ) (table : List Mnemonic) (i : ℕ) (d : Mnemonic) → i < length table → lowercase (get_or table i d).word.now ≡ lowercase word → NumberOf word (rows_of (drop i table)) (Some (get_or table i d).number)
row_here word table i d inside same = subst (λ ms. NumberOf word (rows_of ms) (Some (get_or table i d).number)) (sym (split table i d inside)) (here same)

pub row_later : (word : List ℕ) (table : List Mnemonic) (i : ℕ) (d : Mnemonic) (found : Option ℕ) → i < length table → (lowercase (get_or table i d).word.now ≡ lowercase word → ⊥) → NumberOf word (rows_of (drop (i + 1) table)) found → NumberOf word (rows_of (drop i table)) found
row_later word table i d found inside other rest = subst (λ ms. NumberOf word (rows_of ms) found) (sym (split table i d inside)) (later other rest)

past : (table : List Mnemonic) (i : ℕ) → length table ≤ i → drop i table ≡ []
past table i all = grind (arith, common_steps)

pub no_row : (word : List ℕ) (table : List Mnemonic) (i : ℕ) → length table ≤ i → NumberOf word (rows_of (drop i table)) None
no_row word table i all = subst (λ ms. NumberOf word (rows_of ms) None) (sym (past table i all)) nowhere
