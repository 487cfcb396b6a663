-- When a new builder may fail to hold octets.
use Rattle.std.specs.Prelude.{ℕ, ◌<◌, Option, None, Some}

-- They exceed a fixed capacity. Where none is fixed, an allocation may fail, and for no octets there is none.
abbrev pub MayExceedCapacity : Option ℕ → ℕ → Type 0
MayExceedCapacity None len = 0 < len
MayExceedCapacity (Some room) len = room < len
