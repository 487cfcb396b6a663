-- What a target becomes when names and record data are composed into it, and why nothing was composed. `g` is
-- `Target.Composer`, and `d` is `D.ComposeRecordData`. `may` gives the octets that may be composed after others, into
-- a target that may or may not write names shorter. `written` gives what any target becomes by its own calls.
use Rattle.std.specs.Prelude.{◌≡◌, ℕ, Bool, true, false, List, length, Option, Result, OnOk, IfSome}
use Rattle.domain_rdata.specs.Canonical.{canonical_form, WithForm, WithLengthAndForm, FormExceeds, CanonicalRefused}
use Rattle.domain_rdata.specs.LeavingNames.{WrittenBehind, LeavesNames, Outgrows}
use Rattle.domain_rdata.specs.Members.{Writing, ComposerMembers, DataMembers}
use Rattle.domain_rdata.specs.ReadBack.{Appended, Exceeds}
use Rattle.domain_rdata.specs.RecordData.{DataAfterLength, LengthAndData, ExceedsWithLength, ComposeRefused, IfLong}
use Rattle.domain_rdata.specs.declared.record_data.ComposeRdataError.{ComposeRdataError}

-- Cut to the octets that were there before, the target remembers what it did then.
abbrev pub RemembersAsBefore : {T : Type 0} → ComposerMembers T → T → T → Type 0
RemembersAsBefore g old new = g.kept_within (length (g.octets old)) (g.memory new) ≡ g.memory old

-- Octets that the target may append for the name were added.
abbrev pub AddsName : {T N : Type 0} → ComposerMembers T → (N → List (List ℕ)) → N → T → T → Type 0
AddsName g labels name old new = Appended (g.may_append old (labels name)) (g.octets old) (g.octets new)

-- Octets that the target may append for the name exceed its spare capacity.
abbrev pub NameOverflows : {T N : Type 0} → ComposerMembers T → (N → List (List ℕ)) → N → T → Type 0
NameOverflows g labels name old = Exceeds (g.may_append old (labels name)) (g.octets old) (g.capacity old)

-- The target grew by octets that may be composed.
abbrev pub Grows : {T : Type 0} → ComposerMembers T → (Bool → List ℕ → List ℕ → Type 0) → T → T → Type 0
Grows g may old new = Appended (may g.compresses (g.octets old)) (g.octets old) (g.octets new)

-- What was written was left to the target: it became what it is by its own calls for names and for other octets.
abbrev pub LeftTo : {T : Type 0} → ComposerMembers T → Writing → T → T → Type 0
LeftTo {T = T} g written old new = written T g.extends g.appends old new

-- Data that may be composed follows its own length.
abbrev pub FollowsOwn : {T : Type 0} → ComposerMembers T → (Bool → List ℕ → List ℕ → Type 0) → T → T → Type 0
FollowsOwn g may old new = LengthAndData (may g.compresses) (g.octets old) (g.octets new)

-- Why data wasn't appended with its length.
abbrev pub NotComposed : {T E : Type 0} → ComposerMembers T → (Bool → List ℕ → List ℕ → Type 0) → T → ComposeRdataError E → Type 0
NotComposed g may old e = ComposeRefused (may g.compresses) (g.octets old) (g.capacity old) e

-- If names may be written shorter and nothing failed, the names of data behind its length were left to the target.
abbrev pub LeavesTo : {T U E : Type 0} → ComposerMembers T → Writing → T → T → Result U E → Type 0
LeavesTo {T = T} g written old new result =
    g.compresses ≡ true
    → OnOk result (LeavesNames g.octets g.extends g.cuts (written T g.extends g.appends) old new)

-- Data that is too long is so as the target writes it.
abbrev pub OutgrowsAsWritten : {T E : Type 0} → ComposerMembers T → Writing → List ℕ → T → ComposeRdataError E → Type 0
OutgrowsAsWritten {T = T} g written uncompressed old e =
    IfLong (Outgrows g.octets g.extends g.cuts (written T g.extends g.appends) uncompressed old) e

-- n octets that may be composed follow this length.
abbrev pub Follows : {T : Type 0} → ComposerMembers T → (Bool → List ℕ → List ℕ → Type 0) → ℕ → T → T → ℕ → Type 0
Follows g may len old new n = DataAfterLength (may g.compresses) (g.octets old) len n (g.octets new)

-- So do n octets of data, which was left to the target.
abbrev pub FollowsLeft : {T : Type 0} → ComposerMembers T → Writing → ℕ → T → T → ℕ → Type 0
FollowsLeft {T = T} g written len old new n =
    WrittenBehind g.octets g.extends (written T g.extends g.appends) old len n new

-- Two octets and data that may be composed wherever exceed the spare capacity.
abbrev pub OverflowsWithLength : {T : Type 0} → ComposerMembers T → (Bool → List ℕ → List ℕ → Type 0) → T → Type 0
OverflowsWithLength g may old = ExceedsWithLength (may g.compresses) (g.octets old) (g.capacity old)

-- All octets that may be composed, after whichever octets, have this length.
abbrev pub AllHaveLength : (List ℕ → List ℕ → Type 0) → ℕ → Type 0
AllHaveLength may n = (t s : List ℕ) → may t s → length s ≡ n

-- what the canonical call appends for the data
abbrev pub form_of : {D : Type 0} → DataMembers D → D → List ℕ
form_of d it = canonical_form (d.type_number it) (d.uncompressed it) (d.lowercase it)

-- A length returned for a target that doesn't write names shorter is the length of the canonical form.
abbrev pub TellsFormLength : {D : Type 0} → DataMembers D → D → Bool → Option ℕ → Type 0
TellsFormLength d it compress told =
    compress ≡ false → IfSome told (λ n. length (form_of d it) ≡ n)

-- The target grew by the canonical form of the data,
abbrev pub GrowsByForm : {T D : Type 0} → ComposerMembers T → DataMembers D → D → T → T → Type 0
GrowsByForm g d it old new = WithForm (form_of d it) (g.octets old) (g.octets new)

-- or by its length and the form.
abbrev pub GrowsByLengthAndForm : {T D : Type 0} → ComposerMembers T → DataMembers D → D → T → T → Type 0
GrowsByLengthAndForm g d it old new = WithLengthAndForm (form_of d it) (g.octets old) (g.octets new)

-- The canonical form of the data exceeds the spare capacity.
abbrev pub FormOverflows : {T D : Type 0} → ComposerMembers T → DataMembers D → D → T → Type 0
FormOverflows g d it old = FormExceeds (form_of d it) (g.octets old) (g.capacity old)

-- Why it wasn't appended with its length.
abbrev pub NoLengthAndForm : {T D E : Type 0} → ComposerMembers T → DataMembers D → D → T → ComposeRdataError E → Type 0
NoLengthAndForm g d it old e = CanonicalRefused (form_of d it) (g.octets old) (g.capacity old) e
