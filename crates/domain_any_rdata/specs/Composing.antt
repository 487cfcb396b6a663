-- What may be appended for record data, and what a target becomes: part by part, names in one form. Its octets with no
-- name compressed are `parts_octets` of domain_fields, names in lowercase or with their case.
use Rattle.std.specs.Prelude.{◌≡◌, ℕ, ◌≤◌, Bool, true, false, List, [], ◌∷◌, ◌++◌, if◌then◌else◌, length, refl}
use Rattle.std.proofs.Common.{sym, ◌∙◌, append-nil}
use Rattle.domain_label.specs.Wire.{wire}
use Rattle.domain_rdata.specs.Members.{Writing}
use Rattle.domain_rdata.specs.OctetsAlone.{WritesComposed, octets_written, name_written}
use Rattle.domain_rdata.specs.RecordData.{NameOctets}
use Rattle.domain_fields.specs.Cases.{cased_labels}
use Rattle.domain_fields.specs.FieldLaws.{wire_octets, no_longer}
use Rattle.domain_fields.specs.Moves.{NamesMove, name_moves, both_moves}
use Rattle.domain_fields.specs.Parts.{Part, a_name, no_name, part_octets, parts_octets}
use Rattle.domain_fields.specs.Sequences.{BothComposed, BothWritten, both_plain, both_flat, both_written}
use Rattle.domain_any_rdata.specs.Parts.{IsNamed, AreNamed}
use Rattle.domain_any_rdata.specs.declared.name_form.NameForm.{NameForm}
use Rattle.domain_any_rdata.specs.declared.name_form.NameForm.TheVariants.{Compressed, Whole}

-- The octets that may be appended after t for a part: those of a name in this form, and others as they are.
abbrev pub PartComposed : Part → NameForm → Bool → List ℕ → List ℕ → Type 0
PartComposed (a_name ls) Compressed = NameOctets ls
PartComposed (a_name ls) (Whole lowercase) = λ _ _ s. s ≡ wire (cased_labels lowercase ls)
PartComposed (no_name octets) how = λ _ _ s. s ≡ octets

-- The same for parts, one after another.
abbrev pub PartsComposed : List Part → NameForm → Bool → List ℕ → List ℕ → Type 0
PartsComposed [] how = λ _ _ s. s ≡ []
PartsComposed (x ∷ xs) how = λ c. BothComposed (PartComposed x how c) (PartsComposed xs how c)

-- What a target becomes where a part was appended: a name in the first form is left to the target.
abbrev pub part_written : Part → NameForm → Writing
part_written (a_name ls) Compressed = λ _ _ named old new. named old ls new
part_written (a_name ls) (Whole lowercase) = λ _ extends _ old new. extends old (wire (cased_labels lowercase ls)) new
part_written (no_name octets) how = λ _ extends _ old new. extends old octets new

abbrev pub parts_written : List Part → NameForm → Writing
parts_written [] how = λ _ _ _ old new. new ≡ old
parts_written (x ∷ xs) how = λ T extends named. BothWritten (part_written x how T extends named) (parts_written xs how T extends named)

-- the form of names in data: of a type whose names may be compressed, or of another (RFC 3597, 4)
abbrev pub composed_form : Bool → NameForm
composed_form compressed = if compressed then Compressed else Whole false

-- whether names are in lowercase in a form
abbrev pub lowers : NameForm → Bool
lowers Compressed = false
lowers (Whole lowercase) = lowercase

-- ---- laws: `plain`
part_plain : (x : Part) (how : NameForm) (c : Bool) (t : List ℕ) → IsNamed x → PartComposed x how c t (part_octets (lowers how) x)
part_plain (a_name ls) Compressed c t named = wire_octets ls c t named
part_plain (a_name ls) (Whole lowercase) c t named = refl
part_plain (no_name octets) how c t named = refl

pub parts_plain : (xs : List Part) (how : NameForm) (c : Bool) (t : List ℕ) → AreNamed xs → PartsComposed xs how c t (parts_octets (lowers how) xs)
parts_plain [] how c t named = refl
parts_plain (x ∷ xs) how c t named =
    both_plain (PartComposed x how c) (PartsComposed xs how c) t (part_octets (lowers how) x) (parts_octets (lowers how) xs) (part_plain x how c t named.0) (parts_plain xs how c (t ++ part_octets (lowers how) x) named.1)

pub type_plain : (compressed : Bool) (xs : List Part) (c : Bool) (t : List ℕ) → AreNamed xs → PartsComposed xs (composed_form compressed) c t (parts_octets false xs)
type_plain true xs c t named = parts_plain xs Compressed c t named
type_plain false xs c t named = parts_plain xs (Whole false) c t named

-- ---- `flat`
part_whole : (x : Part) (lowercase c : Bool) (t s : List ℕ) → PartComposed x (Whole lowercase) c t s → s ≡ part_octets lowercase x
part_whole (a_name ls) lowercase c t s is = is
part_whole (no_name octets) lowercase c t s is = is

pub parts_whole : (xs : List Part) (lowercase c : Bool) (t s : List ℕ) → PartsComposed xs (Whole lowercase) c t s → s ≡ parts_octets lowercase xs
parts_whole [] lowercase c t s is = is
parts_whole (x ∷ xs) lowercase c t s both =
    both_flat (PartComposed x (Whole lowercase) c) (PartsComposed xs (Whole lowercase) c) (part_octets lowercase x) (parts_octets lowercase xs) t s (part_whole x lowercase c) (parts_whole xs lowercase c) both

part_flat : (x : Part) (t s : List ℕ) → PartComposed x Compressed false t s → s ≡ part_octets false x
part_flat (a_name ls) t s name = name.flat refl
part_flat (no_name octets) t s is = is

pub parts_flat : (xs : List Part) (t s : List ℕ) → PartsComposed xs Compressed false t s → s ≡ parts_octets false xs
parts_flat [] t s is = is
parts_flat (x ∷ xs) t s both =
    both_flat (PartComposed x Compressed false) (PartsComposed xs Compressed false) (part_octets false x) (parts_octets false xs) t s (part_flat x) (parts_flat xs) both

pub type_flat : (compressed : Bool) (xs : List Part) (t s : List ℕ) → PartsComposed xs (composed_form compressed) false t s → s ≡ parts_octets false xs
type_flat true xs t s may = parts_flat xs t s may
type_flat false xs t s may = parts_whole xs false false t s may

-- ---- what may be appended for a part is no longer than it is with no name compressed
pub part_shorter : (x : Part) (how : NameForm) (c : Bool) (t s : List ℕ) → PartComposed x how c t s → length s ≤ length (part_octets (lowers how) x)
part_shorter (a_name ls) Compressed c t s name = name.read.short
part_shorter (a_name ls) (Whole lowercase) c t s is = no_longer (wire (cased_labels lowercase ls)) s is
part_shorter (no_name octets) how c t s is = no_longer octets s is

-- ---- `writes_composed`
part_write : (x : Part) (how : NameForm) → WritesComposed (part_written x how) (PartComposed x how)
part_write (a_name ls) Compressed = name_written ls
part_write (a_name ls) (Whole lowercase) = octets_written (wire (cased_labels lowercase ls))
part_write (no_name octets) how = octets_written octets

pub parts_write : (xs : List Part) (how : NameForm) → WritesComposed (parts_written xs how) (PartsComposed xs how)
parts_write [] how = λ compresses t u same. record { octets = []; allowed = refl; all = same ∙ sym (append-nil t) }
parts_write (x ∷ xs) how = both_written (part_written x how) (parts_written xs how) (PartComposed x how) (PartsComposed xs how) (part_write x how) (parts_write xs how)

-- ---- `moves`: of the octets before it, data asks for its names alone
part_moves : (x : Part) (how : NameForm) (c : Bool) (t u s : List ℕ) → NamesMove c t u → PartComposed x how c t s → PartComposed x how c u s
part_moves (a_name ls) Compressed c t u s move name = name_moves ls c t u s move name
part_moves (a_name ls) (Whole lowercase) c t u s move is = is
part_moves (no_name octets) how c t u s move is = is

pub parts_move : (xs : List Part) (how : NameForm) (c : Bool) (t u s : List ℕ) → NamesMove c t u → PartsComposed xs how c t s → PartsComposed xs how c u s
parts_move [] how c t u s move is = is
parts_move (x ∷ xs) how c t u s move both =
    both_moves (PartComposed x how) (PartsComposed xs how) c t u s (part_moves x how) (parts_move xs how) move both
