-- What a reader takes of a piece of a stream.
use Rattle.std.specs.Prelude.{◌≡◌, ℕ, ◌-◌, ◌≤◌, List, ◌++◌, length, take, min}
use Rattle.domain_stream.specs.Framing.{length_field, first_end}

-- How many octets of a piece a reader takes after those that it holds: up to the end of the first message in both.
abbrev pub count_taken : List ℕ → List ℕ → ℕ
count_taken held piece = min (first_end (held ++ piece) - length held) (length piece)

-- A reader took n octets of a piece, and holds them after those that it held. The message is within the limit.
pub record TakesOctets (limit : ℕ) (old piece : List ℕ) (n : ℕ) (new : List ℕ) : Type 0 where
  pub within : length_field (old ++ piece) ≤ limit
  pub count : n ≡ count_taken old piece
  pub octets : new ≡ old ++ take n piece
