use Rattle.std.proofs.Common.{subst, codes}
use Rattle.dnsnames_c.specs.Mnemonics.{GivesNumber}
use Rattle.dnsnames_c.proofs.mnemonic.dnsnames_type_from_text.Goals as goal

pub returns : goal.returns
returns c = subst (λ rows. GivesNumber rows (codes "TYPE") 65536 c.args.text.now c.give_number.result c.args.rtype.now c.give_number.new.number) c.rtypes.ensures c.give_number.ensures
