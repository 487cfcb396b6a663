-- Where fields end, as a function of the octets: where a field is, it ends there (`field_stops`, in proofs/Stopping).
use Rattle.std.specs.Prelude.{ℕ, zero, suc, ◌+◌, ◌==◌, if◌then◌else◌, nat_lt, List, length, slice_index}
use Rattle.domain_header.specs.Numbers.{number16}
use Rattle.domain_descriptor.specs.Forms.{form}
use Rattle.domain_descriptor.specs.declared.form.FieldForm.{FieldForm}
use Rattle.domain_descriptor.specs.declared.form.FieldForm.TheVariants as forms
use Rattle.domain_descriptor.specs.declared.kind.FieldKind.{FieldKind}

-- the offset after the first root or pointer at p or behind labels there, of at most so many steps
unfoldable pub stop_from : ℕ → List ℕ → ℕ → ℕ
stop_from zero m p = p
stop_from (suc n) m p =
    let head = slice_index m p in
    if head == 0 then p + 1
    else if nat_lt head 64 then stop_from n m (p + 1 + head)
    else p + 2

-- the offset after the encoding of the name at p
unfoldable pub name_stop : List ℕ → ℕ → ℕ
name_stop m p = stop_from (length m) m p

-- the offset after a field at p that is read so
abbrev pub stop : FieldForm → List ℕ → ℕ → ℕ
stop (forms.Fixed n) m p = p + n
stop forms.Name m p = name_stop m p
stop forms.Counted m p = p + 1 + slice_index m p
stop forms.OptionalCounted m p = if nat_lt p (length m) then p + 1 + slice_index m p else p
stop forms.SomeCounted m p = p + 1 + slice_index m p
stop forms.Strings m p = length m
stop forms.Tag m p = p + 1 + slice_index m p
stop forms.LongCounted m p = p + 2 + number16 m p
stop forms.Blocks m p = length m
stop forms.OptionalBlocks m p = length m
stop forms.Params m p = length m
stop forms.Rest m p = length m

-- the offset after a field of this kind at p
abbrev pub field_stop : FieldKind → List ℕ → ℕ → ℕ
field_stop kind m p = stop (form kind) m p
