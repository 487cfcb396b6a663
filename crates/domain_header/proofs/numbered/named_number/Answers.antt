use Rattle.domain_header.specs.Numbered.Named.{by_mnemonic}
use Rattle.domain_header.proofs.WordAndNumber.{named_after}
use Rattle.domain_header.proofs.numbered.named_number.Goals as goal

pub returns-in-Some : goal.returns-in-Some
returns-in-Some c = by_mnemonic c.in-Some.ensures

pub returns-in-None : goal.returns-in-None
returns-in-None c = named_after _ _ _ _ c.in-None.ensures c.number_after.ensures.some c.number_after.ensures.none
