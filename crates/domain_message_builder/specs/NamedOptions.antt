-- The octets of options that are pushed by name, and why one wasn't pushed.
use Rattle.std.specs.Prelude.{◌≡◌, ℕ, ◌≤◌, ⊤, List, [], ◌∷◌, ◌++◌, length, codes, Option, None, Some}
use Rattle.std.specs.Int.{w16, to_be_bytes}
use Rattle.std.specs.Str.{IsUtf8}
use Rattle.octseq.specs.declared.octets.Octets.{Ghosts}
use Rattle.domain_rdata.specs.declared.record_data.ComposeRdataError.TheVariants.{Append as Full, Long as TooLong}
use Rattle.domain_wire.specs.Refusals.{Refusal, refusal}
use Rattle.domain_wire.specs.Refusals.Refusal.{form}
use Rattle.domain_message.specs.KnownOptions.{cut_bits, IsPrefix, octets_of_prefix}
use Rattle.domain_message.specs.KnownViews.{CanBeWritten, CannotBeWritten, CannotCut, NotText}
use Rattle.domain_message.specs.declared.known_options.ClientSubnet.{ClientSubnet}
use Rattle.domain_message.specs.declared.known_options.Cookie.{Cookie}
use Rattle.domain_message.specs.declared.known_options.ExtendedError.{ExtendedError}
use Rattle.domain_message.specs.declared.known_options.Nsid.{Nsid}
use Rattle.domain_message.specs.declared.transport_options.TcpKeepalive.{TcpKeepalive}
use Rattle.domain_message_builder.specs.Opt.{OptionRefused}
use Rattle.domain_message_builder.specs.OptViews.{opt_of, options_room}
use Rattle.domain_message_builder.specs.declared.error.PushOptionError.{PushOptionError}
use Rattle.domain_message_builder.specs.declared.error.PushOptionError.TheVariants.{Append, Long, Form}
use Rattle.domain_message_builder.specs.declared.opt.OptBuilder.{OptBuilder}

-- the client's cookie, and the server's after it, if there is one (RFC 7873, 4)
abbrev pub cookies : {S : Type 0} → (S → List ℕ) → List ℕ → Option S → List ℕ
cookies octets_of client None = client
cookies octets_of client (Some server) = client ++ octets_of server

-- those of a value
abbrev pub cookie_octets : Cookie → List ℕ
cookie_octets it = cookies (λ server. server.now) it.client.now it.server

-- The family, the two prefix lengths, and the address (RFC 7871, 6). Of the address these are the bits of the source
-- prefix, in as few octets as hold them. The bits after them are zero.
abbrev pub subnet : ℕ → ℕ → ℕ → List ℕ → List ℕ
subnet family source scope address =
    to_be_bytes w16 family ++ (source ∷ scope ∷ cut_bits address source)

-- those of a value
abbrev pub subnet_octets : ClientSubnet → List ℕ
subnet_octets it = subnet it.family it.source_prefix_len it.scope_prefix_len it.address.now

-- the text of an extended error
abbrev pub text_octets : ExtendedError → List ℕ
text_octets it = it.text.now

-- its code, and its text (RFC 8914, 2)
abbrev pub error_octets : ExtendedError → List ℕ
error_octets it = to_be_bytes w16 it.info_code ++ text_octets it

-- a timeout in 16 bits, or no octets where there is none (RFC 7828, 3.1)
abbrev pub timeout : Option ℕ → List ℕ
timeout None = []
timeout (Some told) = to_be_bytes w16 told

-- that of a value
abbrev pub timeout_octets : TcpKeepalive → List ℕ
timeout_octets it = timeout it.timeout

-- the octets of a name server's identifier (RFC 5001, 2.3)
abbrev pub nsid_octets : Nsid → List ℕ
nsid_octets it = it.identifier.now

-- Why an option with this data wasn't pushed after these options. What it is to say is at fault; or it isn't, and the
-- options would be too long; or they wouldn't, and have no room.
abbrev pub NamedRefused : {E : Type 0} → (Refusal → Type 0) → Type 0 → List ℕ → List ℕ → ℕ → PushOptionError E → Type 0
NamedRefused AtFault Sound options data_octets capacity (Append e) = Sound × OptionRefused options data_octets capacity (Full e)
NamedRefused AtFault Sound options data_octets capacity (Long e) = Sound × OptionRefused {E = ⊤} options data_octets capacity (TooLong e)
NamedRefused AtFault Sound options data_octets capacity (Form why) = AtFault (refusal why)

-- Why octets weren't pushed as an option.
abbrev pub PartsNotPushed : {O E : Type 0} {g : Ghosts O} → List ℕ → OptBuilder O g → PushOptionError E → Type 0
PartsNotPushed octets b e = NamedRefused (λ why. ⊥) ⊤ (opt_of b).options octets (options_room b) e

-- Why an identifier wasn't pushed.
abbrev pub NsidNotPushed : {O E : Type 0} {g : Ghosts O} → Nsid → OptBuilder O g → PushOptionError E → Type 0
NsidNotPushed it b e = PartsNotPushed (nsid_octets it) b e

-- Why cookies weren't pushed: one has a wrong length, or for another reason.
abbrev pub CookieNotPushed : {O E : Type 0} {g : Ghosts O} → Cookie → OptBuilder O g → PushOptionError E → Type 0
CookieNotPushed it b e =
    NamedRefused (CannotBeWritten it) (CanBeWritten it) (opt_of b).options (cookie_octets it) (options_room b) e

-- The address of a subnet has the bits that are encoded.
abbrev pub HasPrefix : ClientSubnet → Type 0
HasPrefix it = IsPrefix it.family it.source_prefix_len × (octets_of_prefix it.source_prefix_len ≤ length it.address.now)

-- Why a subnet wasn't pushed: its address hasn't these bits, or for another reason.
abbrev pub SubnetNotPushed : {O E : Type 0} {g : Ghosts O} → ClientSubnet → OptBuilder O g → PushOptionError E → Type 0
SubnetNotPushed it b e =
    NamedRefused (CannotCut it) (HasPrefix it) (opt_of b).options (subnet_octets it) (options_room b) e

-- The text of an extended error isn't UTF-8.
abbrev pub IsTextFault : ExtendedError → Refusal → Type 0
IsTextFault it why = NotText it × (why ≡ form (codes "text not in UTF-8"))

-- Why an extended error wasn't pushed: its text isn't UTF-8, or for another reason.
abbrev pub ErrorNotPushed : {O E : Type 0} {g : Ghosts O} → ExtendedError → OptBuilder O g → PushOptionError E → Type 0
ErrorNotPushed it b e =
    NamedRefused (IsTextFault it) (IsUtf8 (text_octets it)) (opt_of b).options (error_octets it) (options_room b) e

-- Why a timeout wasn't pushed.
abbrev pub TimeoutNotPushed : {O E : Type 0} {g : Ghosts O} → TcpKeepalive → OptBuilder O g → PushOptionError E → Type 0
TimeoutNotPushed it b e = PartsNotPushed (timeout_octets it) b e
