-- What the calls return, and what they leave in the caller's buffers.
use Rattle.std.specs.Prelude.{◌≡◌, ◌≢◌, ◌⊎◌, ℕ, zero, suc, ◌≤◌, ◌<◌, List, length}
use Rattle.std.specs.Str.{chars, IsUtf8}
use Rattle.domain_label.specs.Wire.{wire, labels_in, IsAbsolute, IsAbsoluteWire, IsRelativeWire}
use Rattle.domain_label.specs.Text.{text_with_final_dot, displayed}
use Rattle.domain_builder.specs.TextGrammar.{IsTextOfName, IsTextOfNoName}
use Rattle.domain_builder.specs.declared.name_symbol.TextFault.{TextFault}
use Rattle.domain_flat.specs.Faults.{AbsoluteFault, RelativeFault}
use Rattle.domain_flat.specs.declared.error.NameErrorKind.{NameErrorKind}
use Rattle.domain_flat.specs.declared.error.RelativeNameErrorKind.{RelativeNameErrorKind}
use Rattle.domain_reading.specs.Grammar.{Names, EncodingEnds, IsContiguous}
use Rattle.domain_reading.specs.Faults.{NameFaultAt, Skips, SkipFault}
use Rattle.domain_reading.specs.declared.fault.NameFault.{NameFault}
use Rattle.domain_buffer.specs.Puts.{PutsAt}
use Rattle.dnsnames_c.specs.Status.{fault_number, absolute_number, relative_number, text_number}

-- The output became this number (0), or it stays as it was.
abbrev pub Sets : ℕ → ℕ → ℕ → ℕ → Type 0
Sets status n old new = (status ≡ 0 → new ≡ n) × (status ≢ 0 → new ≡ old)

-- The number of octets was given. They were put into the buffer (0), or they don't fit and it is unchanged (8).
abbrev pub Gives : List ℕ → ℕ → List ℕ → List ℕ → ℕ → Type 0
Gives octets status old new len =
    (len ≡ length octets) × (((status ≡ 0) × (length octets ≤ length old) × PutsAt 0 octets old new)
    ⊎ ((status ≡ 8) × (length old < length octets) × (new ≡ old)))

-- The octets o are the wire format of an absolute name (0), or have the fault with this number.
abbrev pub ChecksAbsolute : List ℕ → ℕ → Type 0
ChecksAbsolute o status =
    ((status ≡ 0) × IsAbsoluteWire o) ⊎ ((kind : NameErrorKind) × AbsoluteFault o kind
    × (status ≡ absolute_number kind))

-- The octets o are the wire format of a relative name (0), or have the fault with this number.
abbrev pub ChecksRelative : List ℕ → ℕ → Type 0
ChecksRelative o status =
    ((status ≡ 0) × IsRelativeWire o) ⊎ ((kind : RelativeNameErrorKind) × RelativeFault o kind
    × (status ≡ relative_number kind))

-- 0 where the name at p in m is uncompressed from its first label on, otherwise 1.
abbrev pub CompressedNumber : List ℕ → ℕ → ℕ → Type 0
CompressedNumber m p compressed =
    ((compressed ≡ 0) × IsContiguous m p) ⊎ ((compressed ≡ 1) × (IsContiguous m p → ⊥))

-- Either the name at p in m, read through at most n pointers, was given. So were the offset after its root or first
-- pointer, and whether it is compressed (RFC 1035, 4.1.4). Or there is no such name: the number is that of its fault,
-- and nothing changed.
abbrev pub ReadsNameAt : ℕ → List ℕ → ℕ → ℕ → List ℕ → List ℕ → ℕ → ℕ → ℕ → ℕ → ℕ → ℕ → Type 0
ReadsNameAt n m p status old new old_len len old_end end old_compressed compressed =
    ((ls : List (List ℕ)) × Names n m p ls × EncodingEnds m p end × CompressedNumber m p compressed
    × Gives (wire ls) status old new len)
    ⊎ ((f : NameFault) × NameFaultAt n m p f × (status ≡ fault_number f) × (new ≡ old)
    × (len ≡ old_len) × (end ≡ old_end) × (compressed ≡ old_compressed))

-- The offset after the root or first pointer of the name at p in m was given (0); or the number is that of the fault,
-- and nothing changed.
abbrev pub ReturnsEnd : List ℕ → ℕ → ℕ → ℕ → ℕ → Type 0
ReturnsEnd m p status old new =
    ((status ≡ 0) × Skips m p new)
    ⊎ ((f : NameFault) × SkipFault m p f × (status ≡ fault_number f) × (new ≡ old))

-- The characters are the text of no name, and this is the number of why.
abbrev pub HasFaultNumber : List ℕ → ℕ → Type 0
HasFaultNumber cs status = (f : TextFault) × IsTextOfNoName cs f × (status ≡ text_number f)

-- The wire format of the name that the text t spells was given (RFC 1035, 5.1); or the number is that of the text's
-- fault, and nothing changed. A text that isn't UTF-8 has the number of a character that is no octet (12).
abbrev pub ReadsText : List ℕ → ℕ → List ℕ → List ℕ → ℕ → ℕ → Type 0
ReadsText t status old new old_len len =
    (IsUtf8 t × (ls : List (List ℕ)) × IsTextOfName (chars t) ls
    × Gives (wire ls) status old new len)
    ⊎ (IsUtf8 t × (f : TextFault) × IsTextOfNoName (chars t) f × (status ≡ text_number f)
    × (new ≡ old) × (len ≡ old_len))
    ⊎ ((IsUtf8 t → ⊥) × (status ≡ 12) × (new ≡ old) × (len ≡ old_len))

-- These octets, made of the name o, were given; or o is no absolute name (9), and nothing changed.
abbrev pub GivesOf : List ℕ → List ℕ → ℕ → List ℕ → List ℕ → ℕ → ℕ → Type 0
GivesOf o octets status old new old_len len =
    (IsAbsoluteWire o × Gives octets status old new len)
    ⊎ ((IsAbsoluteWire o → ⊥) × (status ≡ 9) × (new ≡ old) × (len ≡ old_len))

-- The text of a name: without a final dot (0), or with one. The root alone is a dot.
abbrev pub name_text : ℕ → List (List ℕ) → List ℕ
name_text zero ls = displayed ls
name_text (suc n) ls = text_with_final_dot ls

-- That text of the name o was given; or o is no absolute name (9), and nothing changed.
abbrev pub GivesNameText : List ℕ → ℕ → ℕ → List ℕ → List ℕ → ℕ → ℕ → Type 0
GivesNameText o final_dot status old new old_len len =
    GivesOf o (name_text final_dot (labels_in o)) status old new old_len len

-- Of the text of a name with its final dot, that without it is left.
abbrev pub DropsFinalDot : List ℕ → List ℕ → Type 0
DropsFinalDot text left =
    (ls : List (List ℕ)) → IsAbsolute ls → text ≡ text_with_final_dot ls → left ≡ displayed ls
