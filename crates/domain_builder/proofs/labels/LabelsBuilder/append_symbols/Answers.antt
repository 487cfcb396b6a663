use Rattle.std.proofs.Common.{List, map, Ok, subst}
use Rattle.domain_builder.specs.Inside.{room}
use Rattle.domain_builder.specs.Pushing.{TakesSymbols}
use Rattle.domain_text.specs.declared.name_symbol.NameSymbol.{NameSymbol}
use Rattle.domain_text.proofs.Reading.{whole_parts_of}
use Rattle.domain_builder.proofs.labels.LabelsBuilder.append_symbols.Goals as goal

pub returns-clause-takes : goal.returns-clause-takes
returns-clause-takes g c = λ ss h. subst (λ (z : List NameSymbol). TakesSymbols (room g.B.Octets.limit c.append_items.new.self) c.args.self.now.built z c.append_items.result c.append_items.new.self.built) (whole_parts_of ss) (c.append_items.ensures.takes (map Ok ss) (c.new.ensures.items ss h))
