-- Names that are read whatever is written before an offset of the message.
use Rattle.std.specs.Prelude.{ℕ, ◌≤◌, List, length, take}
use Rattle.std.specs.List.{All}
use Rattle.domain_reading.specs.Touched.{ReadsFrom}
use Rattle.domain_compress.specs.Compressing.{RememberedLabel}

-- Labels are read at the offset w, from octets between n and the end of the name that was written there.
pub record RememberedStands (n : ℕ) (t : List ℕ) (w : RememberedLabel) : Type 0 where
  pub labels : List (List ℕ)
  pub reads : ReadsFrom n (take w.end t) w.at labels
  pub inside : w.end ≤ length t

-- So they are at each of the offsets.
abbrev pub AllRememberedStand : ℕ → List ℕ → List RememberedLabel → Type 0
AllRememberedStand n t ws = All (RememberedStands n t) ws
