use Rattle.std.proofs.Common.{sym, ◌∙◌}
use Rattle.std.specs.Str.{chars}
use Rattle.std.proofs.lemmas.Str.{Chars-gives, encodes-chars}
use Rattle.domain_make.proofs.Naming.{name_refused}
use Rattle.domain_make.proofs.parts.name_from_text.Goals as goal

pub returns-clause-ok : goal.returns-clause-ok
returns-clause-ok c = c.from_chars.ensures.ok (chars c.args.text.now) (Chars-gives (chars c.args.text.now) _ (encodes-chars _ c.utf8.text ∙ sym c.chars.ensures.rest))

pub returns-clause-err : goal.returns-clause-err
returns-clause-err c =
    name_refused (chars c.args.text.now) _ c.from_chars.result (λ ls. c.from_chars.ensures.accepts (chars c.args.text.now) ls (Chars-gives (chars c.args.text.now) _ (encodes-chars _ c.utf8.text ∙ sym c.chars.ensures.rest)))
