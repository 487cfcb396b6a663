-- Faults of data as errors of parsing. Where a type has a reader of its own, the texts are those of its errors.
use Rattle.std.specs.Prelude.{codes}
use Rattle.domain_wire.specs.Refusals.{Refusal, short_input, form}
use Rattle.domain_reading.specs.Faults.{error_of}
use Rattle.domain_descriptor.specs.declared.fault.DataFault.{DataFault}
use Rattle.domain_descriptor.specs.declared.fault.DataFault.TheVariants as faults

-- the error that a fault of data becomes
abbrev pub error_of_data : DataFault → Refusal
error_of_data faults.ShortInput = short_input
error_of_data (faults.Name fault) = error_of fault
error_of_data faults.InvalidTag = form (codes "invalid tag")
error_of_data faults.EmptyHash = form (codes "hash without an octet")
error_of_data faults.WindowOrder = form (codes "windows of types out of order")
error_of_data faults.BitmapLength = form (codes "invalid length of a type bitmap")
error_of_data faults.KeyOrder = form (codes "keys of parameters out of order")
error_of_data faults.TrailingData = form (codes "trailing data")
