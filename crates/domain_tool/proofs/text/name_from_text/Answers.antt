use Rattle.std.proofs.Common.{ℕ, ◌≤◌, List, length, inl, inr, Some, sym, ◌∙◌, arith}
use Rattle.std.specs.Prelude.{Result, Ok, Err, IfErr}
use Rattle.std.specs.Str.{chars}
use Rattle.std.proofs.lemmas.Str.{Chars-gives, encodes-chars}
use Rattle.domain_label.specs.Wire.{wire}
use Rattle.domain_builder.specs.TextGrammar.{IsTextOfName}
use Rattle.domain_builder.specs.TextErrors.{NoNameRead}
use Rattle.domain_builder.specs.declared.error.FromStrError.{FromStrError}
use Rattle.domain_builder.specs.declared.error.FromStrError.TheVariants.{Presentation, ShortBuf}
use Rattle.domain_tool.specs.WireText.{HasTextFault}
use Rattle.domain_tool.proofs.text.name_from_text.Goals as goal

-- a name that a text spells has at most 255 octets
few_octets : (cs : List ℕ) (ls : List (List ℕ)) → IsTextOfName cs ls → length (wire ls) ≤ 255
few_octets cs ls (items, reads, inl root) = rw root.1 (omega arith)
few_octets cs ls (items, reads, inr (ks, texts, whole, few)) = few

-- so a fault is left as the only reason
fault_left : (cs : List ℕ) (e : FromStrError) → NoNameRead (Some 255) cs e → HasTextFault cs e
fault_left cs (Presentation p) why = why
fault_left cs ShortBuf (ls, spells, lacks) = absurd (omega (arith, few_octets cs ls spells, lacks))

fault_of : {N : Type 0} (cs : List ℕ) (r : Result N FromStrError) → IfErr r (NoNameRead (Some 255) cs) → IfErr r (HasTextFault cs)
fault_of cs (Ok name) why = tt
fault_of cs (Err e) why = fault_left cs e why

pub returns-clause-ok : goal.returns-clause-ok
returns-clause-ok c = c.from_chars.ensures.ok (chars c.args.text.now) (Chars-gives (chars c.args.text.now) _ (encodes-chars _ c.utf8.text ∙ sym c.chars.ensures.rest))

pub returns-clause-err : goal.returns-clause-err
returns-clause-err c = fault_of (chars c.args.text.now) _ (c.from_chars.ensures.err (chars c.args.text.now) (Chars-gives (chars c.args.text.now) _ (encodes-chars _ c.utf8.text ∙ sym c.chars.ensures.rest)))

pub returns-clause-exact : goal.returns-clause-exact
returns-clause-exact c = λ f h. c.from_chars.ensures.exact (chars c.args.text.now) f (Chars-gives (chars c.args.text.now) _ (encodes-chars _ c.utf8.text ∙ sym c.chars.ensures.rest)) h
