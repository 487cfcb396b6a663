-- The text of a field that was read.
use Rattle.std.specs.Prelude.{◌≡◌, ℕ, Bool, List, [], ◌∷◌, ◌++◌, Option, option_map}
use Rattle.std.specs.Fmt.{decimal}
use Rattle.std.specs.Net.Text.{ip_text}
use Rattle.base64.specs.Engines.{standard}
use Rattle.base64.specs.GeneralPurpose.{encode_of}
use Rattle.domain_header.specs.Rtypes.{rtype_text}
use Rattle.domain_rdata.specs.Rtypes.{rtype_number}
use Rattle.domain_strings.specs.Base16.{base16_text}
use Rattle.domain_strings.specs.Quoted.{quoted}
use Rattle.domain_strings.specs.TagViews.{tag_octets}
use Rattle.domain_strings.specs.Views.{last_octets}
use Rattle.domain_dnssec.specs.BitmapViews.{bitmaps_types}
use Rattle.domain_dnssec.specs.Times.{time_text}
use Rattle.domain_dnssec.specs.TypesText.{types_text}
use Rattle.domain_svcb.specs.ParamText.{params_text}
use Rattle.domain_svcb.specs.ParamsViews.{params_of}
use Rattle.domain_field_text.specs.Base32.{base32hex_text}
use Rattle.domain_field_text.specs.FieldTexts.{lead, strings_text}
use Rattle.domain_field_text.specs.declared.field.FieldText.{FieldText}
use Rattle.domain_field_text.specs.declared.field.FieldText.TheVariants as held

-- the text of the field, whose first word is the first of data or isn't
abbrev pub held_text : Bool → FieldText → List ℕ
held_text first held.Absent = []
held_text first (held.Number n) = lead first ++ decimal n
held_text first (held.Time it) = lead first ++ time_text it.seconds
held_text first (held.Rtype it) = lead first ++ rtype_text (rtype_number it.rtype)
held_text first (held.Address it) = lead first ++ ip_text it
held_text first (held.Quoted it) = lead first ++ quoted (last_octets it)
held_text first (held.Strings os) = lead first ++ strings_text os.now
held_text first (held.Tag it) = lead first ++ tag_octets it
held_text first held.Hyphen = lead first ++ 45 ∷ []
held_text first (held.Base16 it) = lead first ++ base16_text (last_octets it)
held_text first (held.Base32 os) = lead first ++ base32hex_text os.now
held_text first (held.Base64 it) = lead first ++ encode_of standard (last_octets it)
held_text first (held.Types it) = lead first ++ types_text (bitmaps_types it)
held_text first (held.Params it) = lead first ++ params_text (params_of it)

-- This is what was read: it has this text, as the first field and as another; or there is none.
abbrev pub HasFieldText : Option FieldText → (Bool → Option (List ℕ)) → Type 0
HasFieldText held text = (first : Bool) → option_map (held_text first) held ≡ text first
