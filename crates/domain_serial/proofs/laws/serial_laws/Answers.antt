use Rattle.domain_serial.proofs.Serials.{added_is_later, turns_with_its_sides}
use Rattle.domain_serial.proofs.laws.serial_laws.Goals as goal

pub returns-clause-later : goal.returns-clause-later
returns-clause-later c = added_is_later

pub returns-clause-turned : goal.returns-clause-turned
returns-clause-turned c = turns_with_its_sides
