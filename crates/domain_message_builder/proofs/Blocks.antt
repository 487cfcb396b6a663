-- Padding, and the OPT record that has it.
use Rattle.std.proofs.Common.{◌≡◌, ℕ, ◌+◌, ◌-◌, ◌%◌, ◌<◌, ◌≤◌, Bool, List, [], ◌++◌, length, refl, sym, ap, subst, arith, ◌∙◌, append_assoc, length-append, suc}
use Rattle.std.proofs.Math.Nat.{add-mod-mod, mod-add-mod, mod_self}
use Rattle.std.proofs.lemmas.List.{length-replicate}
use Rattle.std.proofs.lemmas.Nat.{mod_below}
use Rattle.std.specs.Int.{w16, to_be_bytes}
use Rattle.std.specs.Prelude.{replicate, Result, Ok, Err, OnErr}
use Rattle.domain_header.specs.Headers.{additional_count}
use Rattle.domain_message.specs.Composing.{before_length}
use Rattle.domain_message.specs.declared.section.Section.TheVariants.{Additional}
use Rattle.domain_message_builder.specs.Contents.{RecordHead}
use Rattle.domain_message_builder.specs.Cuts.{OnlyOptions}
use Rattle.domain_message_builder.specs.Opt.{Opt, opt_head, opt_record_octets, option_octets, packed_opt_ttl}
use Rattle.domain_message_builder.specs.Padding.{to_block, padded, padded_opt, least_len, padding_of, ZerosFollow, SomeFollow, IsExtended}
use Rattle.domain_message_builder.specs.Pushes.{with_reserved, PushesRecord}
use Rattle.domain_message_builder.specs.Refusals.{Refused, RecordRefused}
use Rattle.domain_message_builder.specs.State.{State}
use Rattle.domain_message_builder.specs.declared.error.PushError.{PushError}
use Rattle.domain_message_builder.specs.declared.error.PushError.TheVariants.{Append, Long, Count, Limit, Order}
use Rattle.domain_message_builder.proofs.Cutting.{no_room_of}

-- ---- zeros

pub zeros_cut : {T : Type 0} (extends : T → List ℕ → T → Type 0) → ((b c d : T) (s t : List ℕ) → extends b s c → extends c t d → extends b (s ++ t) d)
    → (old now new : T) (k : ℕ) → ZerosFollow extends k old now → extends now [] new → SomeFollow extends old new
zeros_cut extends joined old now new k so_far none from s start =
    (replicate k 0 ++ [], subst (λ x. extends from x new) (append_assoc s (replicate k 0) []) (joined from now new (s ++ replicate k 0) [] (so_far from s start) none))

-- Some follow what was appended first.
pub some_after : {A E T : Type 0} (r : Result A E) (extends : T → List ℕ → T → Type 0) (old first new : T) (s : List ℕ) → extends old s first → OnErr r (SomeFollow extends first new) → OnErr r (IsExtended extends old new)
some_after (Ok x) extends old first new s start some = some
some_after (Err e) extends old first new s start some =
    let more = some old s start in
    (s ++ more.0, more.1)

-- ---- the option of padding

pub padded_size : (options : List ℕ) (n : ℕ) → length (padded options n) ≡ length options + 4 + n
padded_size options n =
    let zeros : List ℕ = replicate n 0 in
    let size : length (option_octets 12 zeros) ≡ suc (suc (suc (suc (length zeros)))) = refl in
    omega (arith, length-append options (option_octets 12 zeros), size, length-replicate {A = ℕ} n 0)

-- ---- the octets to a block

pub block_whole : (block n : ℕ) → 0 < block → (n + to_block block n) % block ≡ 0
block_whole block n some =
    let below : n % block < block = mod_below n block some in
    let past : n % block + (block - n % block) ≡ block = omega (arith, below) in
    add-mod-mod n (block - n % block) block ∙ (sym (mod-add-mod n block (block - n % block)) ∙ (ap (λ x. x % block) past ∙ mod_self block))

-- ---- the record

-- It was pushed as it is padded there.
pub padded_pushed : (c : Bool) (o : Opt) (k n following : ℕ) (old mid new : State) (head : RecordHead) (octets : List ℕ) → head ≡ opt_head (padded_opt k o) → octets ≡ (padded_opt k o).options → k ≡ n → mid ≡ with_reserved following old
    → PushesRecord c Additional head (λ before data_octets. data_octets ≡ octets) (with_reserved following mid) new → PushesRecord c Additional (opt_head (padded_opt n o)) (OnlyOptions (padded_opt n o)) (with_reserved following old) new
padded_pushed c o k n following old mid new head octets heads same is begins pushed =
    subst (λ x. PushesRecord c Additional (opt_head (padded_opt n o)) (OnlyOptions (padded_opt n o)) (with_reserved following x) new) begins
    (subst (λ x. PushesRecord c Additional (opt_head (padded_opt x o)) (OnlyOptions (padded_opt x o)) (with_reserved following mid) new) is
    (subst (λ h. PushesRecord c Additional h (OnlyOptions (padded_opt k o)) (with_reserved following mid) new) heads
    (subst (λ x. PushesRecord c Additional head (λ before data_octets. data_octets ≡ x) (with_reserved following mid) new) same pushed)))

-- It was refused so.
pub padded_refused : {E T : Type 0} (e : PushError E) (c : Bool) (o : Opt) (k n following : ℕ) (old mid : State) (capacity : T → ℕ) (before after : T) (head : RecordHead) (octets : List ℕ) → head ≡ opt_head (padded_opt k o) → octets ≡ (padded_opt k o).options → k ≡ n → mid ≡ with_reserved following old → after ≡ before
    → RecordRefused c Additional head (λ earlier data_octets. data_octets ≡ octets) (with_reserved following mid) (capacity after) e → RecordRefused c Additional (opt_head (padded_opt n o)) (OnlyOptions (padded_opt n o)) (with_reserved following old) (capacity before) e
padded_refused e c o k n following old mid capacity before after head octets heads same is begins kept why =
    subst (λ x. RecordRefused c Additional (opt_head (padded_opt n o)) (OnlyOptions (padded_opt n o)) (with_reserved following old) (capacity x) e) kept
    (subst (λ x. RecordRefused c Additional (opt_head (padded_opt n o)) (OnlyOptions (padded_opt n o)) (with_reserved following x) (capacity after) e) begins
    (subst (λ x. RecordRefused c Additional (opt_head (padded_opt x o)) (OnlyOptions (padded_opt x o)) (with_reserved following mid) (capacity after) e) is
    (subst (λ h. RecordRefused c Additional h (OnlyOptions (padded_opt k o)) (with_reserved following mid) (capacity after) e) heads
    (subst (λ x. RecordRefused c Additional head (λ earlier data_octets. data_octets ≡ x) (with_reserved following mid) (capacity after) e) same why))))

-- how many octets of padding it has
pub padding_is : (block len following n least : ℕ) (o : Opt) → n ≡ to_block block least → least ≡ least_len len o following → n ≡ padding_of block len o following
padding_is block len following n least o is so_many = is ∙ ap (to_block block) so_many

-- how many octets it has
pub record_size : (o : Opt) → length (opt_record_octets o) ≡ 11 + length o.options
record_size o =
    let head = before_length 41 o.udp_payload_size (packed_opt_ttl o.rcode_ext o.version o.dnssec_ok) in
    let len = to_be_bytes w16 (length o.options) in
    omega (arith, length-append head (len ++ o.options), length-append len o.options)

-- With it and with what follows, the message is whole.
pub padded_whole : (block following : ℕ) (o : Opt) (old new : List ℕ) → 0 < block → new ≡ old ++ opt_record_octets (padded_opt (padding_of block (length old) o following) o) → (length new + following) % block ≡ 0
padded_whole block following o old new some is =
    let n : ℕ = padding_of block (length old) o following in
    let p : Opt = padded_opt n o in
    let least : ℕ = least_len (length old) o following in
    let all : length new + following ≡ least + n = omega (arith, ap length is, length-append old (opt_record_octets p), record_size p, padded_size o.options n) in
    ap (λ x. x % block) all ∙ block_whole block least some

-- There is no room for it in the target then, or there are too many records. It can't be for the limit.
pub padded_lacks : {E : Type 0} (Over : Type 0) (e : PushError E) (c : Bool) (o : Opt) (s : State) (capacity : ℕ) → length o.options ≤ 65535 → length s.octets + 11 + length o.options + s.reserved ≤ s.limit
    → RecordRefused c Additional (opt_head o) (OnlyOptions o) s capacity e → Refused (capacity < length s.octets + 11 + length o.options) ⊥ (additional_count s.counts ≡ 65535) Over ⊥ e
padded_lacks Over (Append e) c o s capacity few fits why = no_room_of c o s.octets o.udp_payload_size (packed_opt_ttl o.rcode_ext o.version o.dnssec_ok) capacity why
padded_lacks Over (Long e) c o s capacity few fits why = absurd (omega (arith, few, why.2.many, ap length why.2.allowed))
padded_lacks Over Count c o s capacity few fits why = why
padded_lacks Over Limit c o s capacity few fits why =
    let it = why.allowed in
    let head = before_length 41 o.udp_payload_size (packed_opt_ttl o.rcode_ext o.version o.dnssec_ok) in
    let len = to_be_bytes w16 (length it.rdata) in
    absurd (omega (arith, why.full, fits, it.name_allowed.read.short, ap length it.all, length-append it.named (head ++ (len ++ it.rdata)), length-append head (len ++ it.rdata), length-append len it.rdata, ap length it.data_allowed))
padded_lacks Over Order c o s capacity few fits why = absurd (omega (arith, why))
