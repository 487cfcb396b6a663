-- What is written to a target that is its octets alone.
use Rattle.std.specs.Prelude.{◌≡◌, ℕ, Bool, List, ◌++◌, refl}
use Rattle.domain_rdata.specs.Members.{Writing}
use Rattle.domain_rdata.specs.ReadBack.{Appended}
use Rattle.domain_rdata.specs.RecordData.{NameOctets}

-- It becomes what it was and the octets that are appended,
abbrev pub ExtendedBy : List ℕ → List ℕ → List ℕ → Type 0
ExtendedBy t s u = u ≡ t ++ s

-- or what it was and octets that may stand for a name.
abbrev pub NamedBy : Bool → List ℕ → List (List ℕ) → List ℕ → Type 0
NamedBy compresses t ls u = Appended (NameOctets ls compresses t) t u

-- What is written to it are octets that may be composed, whether names may be written shorter or not.
abbrev pub WritesComposed : Writing → (Bool → List ℕ → List ℕ → Type 0) → Type 0
WritesComposed written composed =
    (compresses : Bool) (t u : List ℕ) → written (List ℕ) ExtendedBy (NamedBy compresses) t u → Appended (composed compresses t) t u

-- octets that are always the same
pub octets_written : (octets : List ℕ) → WritesComposed (λ _ extends _ old new. extends old octets new) (λ _ _ s. s ≡ octets)
octets_written octets compresses t u all = record { octets = octets; allowed = refl; all = all }

-- a name left to the target to write
pub name_written : (ls : List (List ℕ)) → WritesComposed (λ _ _ named old new. named old ls new) (NameOctets ls)
name_written ls compresses t u named = named
