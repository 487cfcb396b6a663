-- What contracts see of padded OPT records, and of a builder that they are pushed to. `g` to `l` are as in `Builders`,
-- and `m` is what `Octets` provides for the octets of the options.
use Rattle.std.specs.Prelude.{◌≡◌, ℕ, ◌+◌, ◌<◌, List, ◌++◌, length}
use Rattle.octseq.specs.declared.octets.Octets.{Ghosts}
use Rattle.domain_message.specs.declared.section.Section.TheVariants.{Additional}
use Rattle.domain_message_builder.specs.Builders.{state, target_room, message_len, IsFull}
use Rattle.domain_message_builder.specs.Cuts.{OnlyOptions}
use Rattle.domain_message_builder.specs.Opt.{Opt, opt_head, opt_record_octets}
use Rattle.domain_message_builder.specs.OptViews.{opt_of}
use Rattle.domain_message_builder.specs.Padding.{padded, padded_opt, padding_of, padded_len}
use Rattle.domain_message_builder.specs.Pushes.{with_reserved, PushesRecord}
use Rattle.domain_message_builder.specs.Refusals.{Refused}
use Rattle.domain_message_builder.specs.declared.builder.MessageBuilder.{MessageBuilder}
use Rattle.domain_message_builder.specs.declared.error.PushError.{PushError}
use Rattle.domain_message_builder.specs.declared.opt.OptBuilder.{OptBuilder}
use Rattle.domain_message_builder.specs.declared.padded_options.PaddedOptions.{PaddedOptions}

-- the octets of a record's data
abbrev pub padded_octets : PaddedOptions → List ℕ
padded_octets it = padded it.options.now it.padding

-- the OPT record as it is padded in this message
abbrev pub opt_in : {T E O : Type 0} {g : _} {h : _} {i : _} {j : _} {k : _} {l : _} {m : Ghosts O}
    → ℕ → ℕ → OptBuilder O m → MessageBuilder T E g h i j k l → Opt
opt_in block following opt b =
    padded_opt (padding_of block (message_len b) (opt_of opt) following) (opt_of opt)

-- The padded OPT record was pushed into the additional section, and octets for what follows are set aside.
abbrev pub AddsPadded : {T E O : Type 0} {g : _} {h : _} {i : _} {j : _} {k : _} {l : _} {m : Ghosts O}
    → ℕ → ℕ → OptBuilder O m → MessageBuilder T E g h i j k l → MessageBuilder T E g h i j k l → Type 0
AddsPadded {g = g} block following opt old new =
    PushesRecord g.compresses Additional (opt_head (opt_in block following opt old))
    (OnlyOptions (opt_in block following opt old)) (with_reserved following (state old)) (state new)

-- The message has the octets of the padded OPT record after those that it had.
abbrev pub AppendsPadded : {T E O : Type 0} {g : _} {h : _} {i : _} {j : _} {k : _} {l : _} {m : Ghosts O}
    → ℕ → ℕ → OptBuilder O m → MessageBuilder T E g h i j k l → MessageBuilder T E g h i j k l → Type 0
AppendsPadded block following opt old new =
    (state new).octets ≡ (state old).octets ++ opt_record_octets (opt_in block following opt old)

-- With what follows, the message surpasses its limit.
abbrev pub SurpassesPadded : {T E O : Type 0} {g : _} {h : _} {i : _} {j : _} {k : _} {l : _} {m : Ghosts O}
    → ℕ → ℕ → OptBuilder O m → MessageBuilder T E g h i j k l → Type 0
SurpassesPadded block following opt b =
    (state b).limit < padded_len block (message_len b) (opt_of opt) following

-- The target has no room for the padded record.
abbrev pub HasNoRoomForPadded : {T E O : Type 0} {g : _} {h : _} {i : _} {j : _} {k : _} {l : _} {m : Ghosts O}
    → ℕ → ℕ → OptBuilder O m → MessageBuilder T E g h i j k l → Type 0
HasNoRoomForPadded block following opt b =
    target_room b < message_len b + 11 + length (opt_in block following opt b).options

-- Why it wasn't pushed.
abbrev pub PaddedNotAdded : {T E O : Type 0} {g : _} {h : _} {i : _} {j : _} {k : _} {l : _} {m : Ghosts O}
    → ℕ → ℕ → OptBuilder O m → MessageBuilder T E g h i j k l → PushError E → Type 0
PaddedNotAdded block following opt b e =
    Refused (HasNoRoomForPadded block following opt b) ⊥ (IsFull Additional b)
    (SurpassesPadded block following opt b) ⊥ e
