use Rattle.std.proofs.Common.{ℕ, List, refl, subst, sym, ◌∙◌}
use Rattle.std.specs.Str.{chars}
use Rattle.std.proofs.lemmas.Str.{Chars-gives, encodes-chars}
use Rattle.domain_label.specs.Spelling.{ReadsSymbols}
use Rattle.domain_text.specs.NameSymbols.{name_symbols}
use Rattle.domain_text.specs.Plain.{IsPlainText}
use Rattle.domain_text.proofs.PlainTexts.{plain_reads}
use Rattle.domain_text.proofs.text.read_relative_str.Goals as goal

pub returns-then-is_plain : goal.returns-then-is_plain
returns-then-is_plain c = λ all r.
    let h = plain_reads c.args.text.now all (subst IsPlainText c.as_bytes.ensures.value (c.if-is_plain.ensures.0 refl)) r in
    c.refuse_final_dot.ensures (name_symbols all) (c.read_plain-read.ensures all (subst (λ (t : List ℕ). ReadsSymbols t all) (sym c.as_bytes-then-is_plain.ensures.value) h))

pub returns : goal.returns
returns c = λ all r. c.read_relative_text.ensures all (c.new.ensures.items (chars c.args.text.now) all (Chars-gives (chars c.args.text.now) _ (encodes-chars _ c.utf8.text ∙ sym c.chars.ensures.rest)) r)
