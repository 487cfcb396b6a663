-- What contracts say about a push of an RRset: records of one owner, class and type, and of one TTL (RFC 2181, 5 and
-- 5.2). `d` is `D.ComposeRecordData`, `owner` has the labels of the owner's name, and `g` to `l` are as in `Builders`.
use Rattle.std.specs.Prelude.{◌≡◌, ℕ, ◌≤◌, Bool, true, List, [], ◌∷◌, ◌++◌}
use Rattle.domain_header.specs.Values.{class_number, ttl_seconds}
use Rattle.domain_header.specs.declared.class.Class.{Class}
use Rattle.domain_header.specs.declared.ttl.Ttl.{Ttl}
use Rattle.domain_message.specs.Composing.{before_length}
use Rattle.domain_message.specs.LeftToTarget.{NameThenData}
use Rattle.domain_message.specs.MayCompose.{RefusesRecord}
use Rattle.domain_message.specs.declared.section.Section.{Section}
use Rattle.domain_message.specs.declared.section.Section.TheVariants.{Answer, Authority, Additional}
use Rattle.domain_rdata.specs.Members.{DataMembers}
use Rattle.domain_rdata.specs.RecordData.{ComposeRefused}
use Rattle.domain_message_builder.specs.BuilderEntries.{most_octets}
use Rattle.domain_message_builder.specs.Builders.{state, target_room, KeepsMemory, HasLater, HasNoLater, IsFull}
use Rattle.domain_message_builder.specs.Contents.{RecordHead, PushedRecord, Content, Holds}
use Rattle.domain_message_builder.specs.Pushes.{PushesRecord, SameSettings}
use Rattle.domain_message_builder.specs.Refusals.{RecordRefused}
use Rattle.domain_message_builder.specs.Tight.{Surpasses, RefusedAsWritten}
use Rattle.domain_message_builder.specs.Views.{target_of}
use Rattle.domain_message_builder.specs.declared.builder.MessageBuilder.{MessageBuilder}
use Rattle.domain_message_builder.specs.declared.error.PushError.{PushError}
use Rattle.domain_message_builder.specs.declared.error.PushError.TheVariants.{Count, Order}

-- These were done one after the other. `Does x old new`: x was done.
abbrev pub InTurn : {V S : Type 0} → (V → S → S → Type 0) → List V → S → S → Type 0
InTurn Does [] old new = new ≡ old
InTurn {S = S} Does (x ∷ xs) old new = (mid : S) × Does x old mid × InTurn Does xs mid new

-- Those before one of these were done, and that one was refused then.
pub record FirstRefused {V S : Type 0} (Does : V → S → S → Type 0) (Refuses : V → S → Type 0) (xs : List V) (old : S) : Type 0 where
  pub before : List V
  pub it : V
  pub after : List V
  pub all : xs ≡ before ++ it ∷ after
  pub mid : S
  pub done : InTurn Does before old mid
  pub refused : Refuses it mid

-- records more, in a section
abbrev pub records_added : Section → Content → List PushedRecord → Content
records_added Answer it rs = record it { answers = it.answers ++ rs }
records_added Authority it rs = record it { authority = it.authority ++ rs }
records_added Additional it rs = record it { additional = it.additional ++ rs }

-- There is one of these for each of those, in their order.
abbrev pub OneForEach : {V W : Type 0} → (V → W → Type 0) → List V → List W → Type 0
OneForEach Is [] rs = rs ≡ []
OneForEach {W = W} Is (x ∷ xs) rs = (r : W) × (rest : List W) × (rs ≡ r ∷ rest) × Is x r × OneForEach Is xs rest

-- A record that was pushed has this head, and octets that `May` allows after others as its data.
pub record IsRecordOf (head : RecordHead) (May : List ℕ → List ℕ → Type 0) (r : PushedRecord) : Type 0 where
  pub head_is : r.head ≡ head
  pub before : List ℕ
  pub allowed : May before r.rdata

-- what a record of the set says before the length of its data
abbrev pub set_head : List (List ℕ) → ℕ → Class → Ttl → RecordHead
set_head owner rtype class ttl = record { owner = owner; rtype = rtype; class = class_number class; ttl = ttl_seconds ttl }

-- A record of the set was pushed into the section.
abbrev pub AddsOfSet : {T E D : Type 0} {g : _} {h : _} {i : _} {j : _} {k : _} {l : _}
    → DataMembers D → Section → List (List ℕ) → Class → Ttl → D → MessageBuilder T E g h i j k l → MessageBuilder T E g h i j k l → Type 0
AddsOfSet {g = g} d section owner class ttl x old new =
    PushesRecord g.compresses section (set_head owner (d.type_number x) class ttl) (d.composed x g.compresses) (state old) (state new)

-- A target becomes this by its own calls for the names of such a record, and for the octets between them.
abbrev pub WritesOfSet : {T D : Type 0} → DataMembers D → (T → List ℕ) → (T → List ℕ → T → Type 0) → (T → ℕ → T → Type 0) → (T → List (List ℕ) → T → Type 0) → List (List ℕ) → Class → Ttl → D → T → T → Type 0
WritesOfSet {T = T} d octets extends cuts appends owner class ttl x =
    NameThenData octets extends cuts (λ a b. appends a owner b) (d.written x T extends appends)
    (before_length (d.type_number x) (class_number class) (ttl_seconds ttl))

-- The target became what it is so.
abbrev pub LeavesOfSet : {T E D : Type 0} {g : _} {h : _} {i : _} {j : _} {k : _} {l : _}
    → DataMembers D → List (List ℕ) → Class → Ttl → D → MessageBuilder T E g h i j k l → MessageBuilder T E g h i j k l → Type 0
LeavesOfSet {g = g} {h = h} {i = i} {j = j} d owner class ttl x old new =
    WritesOfSet d j.octets h.extends i.cuts g.appends owner class ttl x (target_of old) (target_of new)

-- A record of the set was pushed as `push` does. A target that compresses was given its names.
abbrev pub PushesOfSet : {T E D : Type 0} {g : _} {h : _} {i : _} {j : _} {k : _} {l : _}
    → DataMembers D → Section → List (List ℕ) → Class → Ttl → D → MessageBuilder T E g h i j k l → MessageBuilder T E g h i j k l → Type 0
PushesOfSet {g = g} d section owner class ttl x old new =
    AddsOfSet d section owner class ttl x old new
    × (g.compresses ≡ true → LeavesOfSet d owner class ttl x old new)
    × KeepsMemory old new × (target_room old ≤ target_room new)

-- If a record of the set was composed, the target refused it, or it surpasses the limit, as the target writes it.
abbrev pub OfSetDoesNotFit : {T E D : Type 0} {g : _} {h : _} {i : _} {j : _} {k : _} {l : _}
    → DataMembers D → List (List ℕ) → Class → Ttl → D → MessageBuilder T E g h i j k l → PushError E → Type 0
OfSetDoesNotFit {g = g} {h = h} {i = i} {j = j} d owner class ttl x b e =
    RefusedAsWritten (RefusesRecord j.octets (g.may_append (target_of b) owner) (λ c n. g.appends c owner n)
    (before_length (d.type_number x) (class_number class) (ttl_seconds ttl))
    (λ t. ComposeRefused (d.composed x g.compresses) t) (target_of b) (target_room b))
    (Surpasses j.octets (WritesOfSet d j.octets h.extends i.cuts g.appends owner class ttl x) (target_of b) (most_octets b)) e

-- A record of the set was refused as `push` does: for its own reason, and the order and the count are first.
abbrev pub RefusesOfSet : {T E D : Type 0} {g : _} {h : _} {i : _} {j : _} {k : _} {l : _}
    → DataMembers D → Section → List (List ℕ) → Class → Ttl → PushError E → D → MessageBuilder T E g h i j k l → Type 0
RefusesOfSet {g = g} d section owner class ttl e x b =
    RecordRefused g.compresses section (set_head owner (d.type_number x) class ttl) (d.composed x g.compresses) (state b) (target_room b) e
    × (g.compresses ≡ true → OfSetDoesNotFit d owner class ttl x b e)
    × (HasLater section b → e ≡ Order) × (HasNoLater section b → IsFull section b → e ≡ Count)

-- A record of a message is that of the set with this data.
abbrev pub IsOfSet : {D : Type 0} → DataMembers D → Bool → List (List ℕ) → Class → Ttl → D → PushedRecord → Type 0
IsOfSet d compresses owner class ttl x = IsRecordOf (set_head owner (d.type_number x) class ttl) (d.composed x compresses)

-- Whatever the builder held, it holds the records of the set after it, in this section.
abbrev pub HoldsRrset : {T E D : Type 0} {g : _} {h : _} {i : _} {j : _} {k : _} {l : _}
    → DataMembers D → Section → List (List ℕ) → Class → Ttl → List D → MessageBuilder T E g h i j k l → MessageBuilder T E g h i j k l → Type 0
HoldsRrset {g = g} d section owner class ttl xs old new =
    (it : Content) → Holds g.compresses (state old) it
    → (rs : List PushedRecord) × OneForEach (IsOfSet d g.compresses owner class ttl) xs rs × Holds g.compresses (state new) (records_added section it rs)

-- The records of the set were pushed into the section, in their order.
abbrev pub AddsInTurn : {T E D : Type 0} {g : _} {h : _} {i : _} {j : _} {k : _} {l : _}
    → DataMembers D → Section → List (List ℕ) → Class → Ttl → List D → MessageBuilder T E g h i j k l → MessageBuilder T E g h i j k l → Type 0
AddsInTurn d section owner class ttl xs old new = InTurn (PushesOfSet d section owner class ttl) xs old new

-- The same. The builder holds them, and header, limit and what is set aside are as before.
abbrev pub AddsRrset : {T E D : Type 0} {g : _} {h : _} {i : _} {j : _} {k : _} {l : _}
    → DataMembers D → Section → List (List ℕ) → Class → Ttl → List D → MessageBuilder T E g h i j k l → MessageBuilder T E g h i j k l → Type 0
AddsRrset d section owner class ttl xs old new =
    AddsInTurn d section owner class ttl xs old new
    × HoldsRrset d section owner class ttl xs old new × SameSettings (state old) (state new)

-- Why they weren't: the first that was refused after those before it.
abbrev pub RrsetNotAdded : {T E D : Type 0} {g : _} {h : _} {i : _} {j : _} {k : _} {l : _}
    → DataMembers D → Section → List (List ℕ) → Class → Ttl → List D → MessageBuilder T E g h i j k l → PushError E → Type 0
RrsetNotAdded d section owner class ttl xs b e =
    FirstRefused (PushesOfSet d section owner class ttl) (RefusesOfSet d section owner class ttl e) xs b
