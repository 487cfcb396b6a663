-- Where the fields of SVCB and HTTPS are, and that they are a reading (RFC 9460, 2.2).
use Rattle.std.specs.Prelude.{ℕ, List}
use Rattle.std.specs.Int.{w16, from_be_bytes}
use Rattle.domain_wire.specs.declared.error.ParseError.{ParseError}
use Rattle.domain_wire.specs.FixedLength.{fixed_reading}
use Rattle.domain_wire.specs.Refusals.{refusal}
use Rattle.domain_wire.specs.Values.{IsReading, FixedAt, ShortAt}
use Rattle.domain_fields.specs.Data.{AllAt, NotAll, all_reading}
use Rattle.domain_fields.specs.Names.{NameFieldAt, NoNameField, name_reading}
use Rattle.domain_fields.specs.Reading.{any_reading, parse_reading}
use Rattle.domain_fields.specs.Sequences.{BothAt, NotBoth, both_reading}
use Rattle.domain_svcb.specs.ParamsReading.{ParamsAt, NoParamsAt, params_reading}

-- a number of 16 bits, a name and parameters
abbrev pub ServiceAt : List ℕ → ℕ → ℕ × (List (List ℕ) × List (ℕ × List ℕ)) → ℕ → Type 0
ServiceAt = BothAt (FixedAt 2 (from_be_bytes w16)) (BothAt NameFieldAt ParamsAt)

-- the first of these that isn't there
abbrev pub NoService : List ℕ → ℕ → ParseError → Type 0
NoService = NotBoth (FixedAt 2 (from_be_bytes w16)) (ShortAt 2) (NotBoth NameFieldAt NoNameField NoParamsAt)

pub service_data : IsReading (AllAt ServiceAt) (NotAll refusal ServiceAt NoService)
service_data =
    parse_reading (all_reading refusal ServiceAt NoService
    (both_reading refusal (FixedAt 2 (from_be_bytes w16)) (BothAt NameFieldAt ParamsAt) (ShortAt 2) (NotBoth NameFieldAt NoNameField NoParamsAt) (any_reading (fixed_reading 2 (from_be_bytes w16)))
    (both_reading refusal NameFieldAt ParamsAt NoNameField NoParamsAt (any_reading name_reading) (any_reading params_reading))))
