-- What contracts see of the data of an OPT record, and of its options.
use Rattle.std.specs.Prelude.{◌≡◌, ℕ, ◌<◌, List, [], length, Option, Some, None, Result, Ok, Err}
use Rattle.domain_wire.specs.declared.error.ParseError.{ParseError}
use Rattle.domain_wire.specs.declared.error.ParseError.TheVariants.{ShortInput}
use Rattle.domain_message.specs.Options.{BeginsWithOption, EndsInOption}
use Rattle.domain_message.specs.declared.edns_data.OptData.{OptData}
use Rattle.domain_message.specs.declared.edns_options.EdnsOption.{EdnsOption}
use Rattle.domain_message.specs.declared.edns_options.OptIter.{OptIter}

-- the octets of the data
abbrev pub opt_octets : OptData → List ℕ
opt_octets it = it.octets.now

-- the octets that an iterator over options still reads
abbrev pub options_left : OptIter → List ℕ
options_left it = it.octets.now

-- A call of `next` returned the option that the octets begin with, or the error that they end inside of one, or
-- nothing: no octet was left.
abbrev pub GivesOption : OptIter → Option (Result EdnsOption ParseError) → OptIter → Type 0
GivesOption s None t = (options_left s ≡ []) × (t ≡ s)
GivesOption s (Some (Ok it)) t = BeginsWithOption (options_left s) it.code it.«data».now (options_left t)
GivesOption s (Some (Err why)) t = (0 < length (options_left s)) × EndsInOption (options_left s) × (options_left t ≡ []) × (why ≡ ShortInput)
