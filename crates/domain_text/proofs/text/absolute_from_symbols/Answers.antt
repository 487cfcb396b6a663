use Rattle.std.proofs.Common.{List, map, Ok, MatchResult, subst}
use Rattle.domain_label.specs.Wire.{labels_in}
use Rattle.domain_text.specs.TextGrammar.{IsNameText}
use Rattle.domain_text.specs.TextErrors.{NoNameMade}
use Rattle.domain_text.specs.declared.name_symbol.NameSymbol.{NameSymbol}
use Rattle.domain_text.proofs.Reading.{whole_parts_of}
use Rattle.domain_text.proofs.text.absolute_from_symbols.Goals as goal

pub returns-clause-text : goal.returns-clause-text
returns-clause-text g c = λ ss h. subst (λ (z : List NameSymbol). MatchResult c.absolute_from_items.result (λ o. IsNameText z (labels_in (g.Octs.Octets.octets o))) (λ e. NoNameMade g.Octs.Builder.EmptyBuilder.ROOM z e)) (whole_parts_of ss) (c.absolute_from_items.ensures.text (map Ok ss) (c.new.ensures.items ss h))
