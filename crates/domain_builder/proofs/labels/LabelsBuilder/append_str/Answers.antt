use Rattle.std.proofs.Common.{sym, ◌∙◌}
use Rattle.std.specs.Str.{chars}
use Rattle.std.proofs.lemmas.Str.{Chars-gives, encodes-chars}
use Rattle.domain_builder.proofs.labels.LabelsBuilder.append_str.Goals as goal

pub returns-clause-takes : goal.returns-clause-takes
returns-clause-takes g c = λ items r. c.append_chars.ensures.takes (chars c.args.text.now) items (Chars-gives (chars c.args.text.now) _ (encodes-chars _ c.utf8.text ∙ sym c.chars.ensures.rest)) r
