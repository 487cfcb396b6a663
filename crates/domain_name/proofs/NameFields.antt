-- What shape flat names have, for the crates above.
use Rattle.octseq.specs.declared.octets.Octets.{Ghosts}
use Rattle.domain_label.specs.Wire.{IsAbsoluteName, IsRelativeName}
use Rattle.domain_label.proofs.WireLaws.{absolute_list, relative_list}
use Rattle.domain_name.specs.declared.absolute.Name.{Name}
use Rattle.domain_name.specs.declared.relative.RelativeName.{RelativeName}
use Rattle.domain_name.specs.Names.{name_labels, relative_labels}

-- one is an absolute name of at most 255 octets
pub flat_absolute : {O : Type 0} {g : Ghosts O} (name : Name O g) → IsAbsoluteName (name_labels name)
flat_absolute name = absolute_list name.absolute

-- the other a relative name of at most 254
pub flat_relative : {O : Type 0} {g : Ghosts O} (name : RelativeName O g) → IsRelativeName (relative_labels name)
flat_relative name = relative_list name.relative
