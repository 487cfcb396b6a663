-- What shape a name in a message has, for the crates above.
use Rattle.octseq.specs.declared.octets.Octets.{Ghosts}
use Rattle.domain_label.specs.Wire.{IsAbsoluteName}
use Rattle.domain_parsed.specs.declared.parsed.ParsedName.{ParsedName}
use Rattle.domain_parsed.specs.ParsedNames.{parsed_labels}

-- it is an absolute name of at most 255 octets
pub parsed_absolute : {O : Type 0} {g : Ghosts O} (name : ParsedName O g) → IsAbsoluteName (parsed_labels name)
parsed_absolute name = name.absolute
