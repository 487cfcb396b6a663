use Rattle.std.proofs.Common.{length, ap, arith}
use Rattle.domain_parsed.specs.ParsedNames.{parsed_labels}
use Rattle.domain_message.proofs.Names.{not_whole}
use Rattle.domain_message.proofs.alias.alias_of.Goals as goal

pub returns-then-pos-as_slice-clause-none : goal.returns-then-pos-as_slice-clause-none
returns-then-pos-as_slice-clause-none c = λ _ target is.
    not_whole c.data-data.result c.parse.new.parser (parsed_labels c.in-Ok.target) target _ _ c.data-data.ensures.message c.data-data.ensures.offset c.in-Ok.ensures.labels c.in-Ok.ensures.moves
    (omega (arith, c.if-pos-as_slice.true, c.pos.ensures.offset, ap length c.as_slice.ensures)) is.data_is
