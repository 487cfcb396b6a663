-- RRsets that are pushed whole or not at all (RFC 2181, 5 and 9), and messages that are cut back to a mark. `o` is the
-- list of a message's octets, `b` the builder beside it.
use Rattle.std.specs.Prelude.{◌≡◌, ◌≢◌, ◌⊎◌, ℕ, Bool, List, length, sum, Some, None, IsSome}
use Rattle.domain_label.specs.Wire.{IsAbsoluteWire}
use Rattle.domain_message.specs.declared.section.Section.{Section}
use Rattle.domain_message_builder.specs.Contents.{RecordHead}
use Rattle.domain_buffer.specs.Builders.{IsUsable}
use Rattle.domain_buffer.specs.Rrsets.{pieces, back_at, PushesSet, RefusesSet, PushesRequired, PushesExtra, SameMessage, IsMark, IsBackAt}
use Rattle.domain_buffer.specs.declared.builder.Builder.{Builder}
use Rattle.domain_buffer.specs.declared.push.PushFault.{PushFault}
use Rattle.domain_buffer.specs.declared.push.PushFault.TheVariants.{NoRoom}
use Rattle.dnsnames_c.specs.Builders.{section_of}
use Rattle.dnsnames_c.specs.Status.{push_number, bit_number}

-- Records of this owner, with data of these lengths, may be pushed into the section of this number.
pub record MayPush (number : ℕ) (owner rdatas lens o : List ℕ) (b : Builder) (section : Section) : Type 0 where
  pub usable : IsUsable o b
  pub section_is : section_of number ≡ Some section
  pub name : IsAbsoluteWire owner
  pub whole : sum lens ≡ length rdatas

-- Why they aren't tried: the builder isn't usable (23), there is no such section (26), the owner's name is no absolute
-- name (9), or the lengths don't make up the data (20).
abbrev pub RefusesAsked : ℕ → List ℕ → List ℕ → List ℕ → List ℕ → Builder → ℕ → Type 0
RefusesAsked number owner rdatas lens o b status =
    ((status ≡ 23) × (IsUsable o b → ⊥))
    ⊎ ((status ≡ 26) × IsUsable o b × (section_of number ≡ None))
    ⊎ ((status ≡ 9) × IsUsable o b × IsSome (section_of number) × (IsAbsoluteWire owner → ⊥))
    ⊎ ((status ≡ 20) × IsUsable o b × IsSome (section_of number) × IsAbsoluteWire owner
    × (sum lens ≢ length rdatas))

-- The RRset was pushed (0); or the first record that was refused is the reason, and the message is unchanged.
abbrev pub GivesSet : Section → List ℕ → RecordHead → List (List ℕ) → ℕ → List ℕ → Builder → List ℕ → Builder → Type 0
GivesSet section owner head datas status o b o' b' =
    ((status ≡ 0) × PushesSet section owner head datas o b o' b' × IsUsable o' b')
    ⊎ ((why : PushFault) × RefusesSet section owner head datas o b why × (status ≡ push_number why)
    × SameMessage o b o' × (b' ≡ b))

-- The same of a section by its number.
abbrev pub GivesRrset : ℕ → (owner : List ℕ) → RecordHead → (rdatas lens : List ℕ) → ℕ → List ℕ → Builder → List ℕ → Builder → Type 0
GivesRrset number owner head rdatas lens status o b o' b' =
    ((section : Section) × MayPush number owner rdatas lens o b section
    × GivesSet section owner head (pieces lens rdatas) status o b o' b')
    ⊎ (RefusesAsked number owner rdatas lens o b status × (o' ≡ o) × (b' ≡ b))

-- The status is 0, and `pushed` says whether the RRset was pushed, which is done as this says. Or the first record
-- that was refused is the reason, for another reason than room, and the message is unchanged.
abbrev pub GivesChoice : (Done : Bool → Type 0) → Section → List ℕ → RecordHead → List (List ℕ) → ℕ → ℕ → ℕ → List ℕ → Builder → List ℕ → Builder → Type 0
GivesChoice Done section owner head datas status old_pushed pushed o b o' b' =
    ((status ≡ 0) × (told : Bool) × (pushed ≡ bit_number told) × Done told × IsUsable o' b')
    ⊎ ((why : PushFault) × (why ≢ NoRoom) × RefusesSet section owner head datas o b why
    × (status ≡ push_number why) × SameMessage o b o' × (b' ≡ b) × (pushed ≡ old_pushed))

-- An RRset that is required was pushed, or TC was set where it has no room.
abbrev pub GivesRequired : ℕ → (owner : List ℕ) → RecordHead → (rdatas lens : List ℕ) → ℕ → ℕ → ℕ → List ℕ → Builder → List ℕ → Builder → Type 0
GivesRequired number owner head rdatas lens status old_pushed pushed o b o' b' =
    ((section : Section) × MayPush number owner rdatas lens o b section
    × GivesChoice (PushesRequired section owner head (pieces lens rdatas) o b o' b') section owner head (pieces lens rdatas) status
    old_pushed pushed o b o' b')
    ⊎ (RefusesAsked number owner rdatas lens o b status × (o' ≡ o) × (b' ≡ b) × (pushed ≡ old_pushed))

-- Another one was pushed, or left out where it has no room.
abbrev pub GivesExtra : ℕ → (owner : List ℕ) → RecordHead → (rdatas lens : List ℕ) → ℕ → ℕ → ℕ → List ℕ → Builder → List ℕ → Builder → Type 0
GivesExtra number owner head rdatas lens status old_pushed pushed o b o' b' =
    ((section : Section) × MayPush number owner rdatas lens o b section
    × GivesChoice (PushesExtra section owner head (pieces lens rdatas) o b o' b') section owner head (pieces lens rdatas) status
    old_pushed pushed o b o' b')
    ⊎ (RefusesAsked number owner rdatas lens o b status × (o' ≡ o) × (b' ≡ b) × (pushed ≡ old_pushed))

-- What was pushed after the mark was taken away (0); or the builder isn't usable (23), or the mark is none of this
-- message (31), and nothing changed.
abbrev pub GoesBack : ℕ → List ℕ → Builder → Builder → Builder → Type 0
GoesBack status o m b b' =
    ((status ≡ 0) × IsUsable o b × IsMark b m × (b' ≡ back_at m b) × IsBackAt m o b b' × IsUsable o b')
    ⊎ ((status ≡ 23) × (IsUsable o b → ⊥) × (b' ≡ b))
    ⊎ ((status ≡ 31) × IsUsable o b × (IsMark b m → ⊥) × (b' ≡ b))
