use Rattle.std.proofs.Common.{sym, ◌∙◌}
use Rattle.std.proofs.lemmas.Str.{Chars-gives, encodes-chars}
use Rattle.std.specs.Str.{chars}
use Rattle.domain_label.proofs.owned.OwnedLabelFromStr.from_str.Goals as goal

pub returns : goal.returns
returns c = c.from_chars.ensures (chars c.args.s.now) (Chars-gives (chars c.args.s.now) _ (encodes-chars _ c.utf8.s ∙ sym c.chars.ensures.rest))
