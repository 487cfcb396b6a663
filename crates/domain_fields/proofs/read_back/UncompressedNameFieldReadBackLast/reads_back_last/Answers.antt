use Rattle.domain_fields.specs.Names.{NameFieldAt}
use Rattle.domain_fields.specs.ReadBack.{last_read_back}
use Rattle.domain_fields.proofs.read_back.UncompressedNameFieldReadBackLast.reads_back_last.Goals as goal

pub returns : goal.returns
returns g c = last_read_back _ NameFieldAt _ c.reads_back.ensures
