-- What is pushed in turn.
use Rattle.std.proofs.Common.{◌≡◌, ℕ, ◌+◌, ◌<◌, List, [], ◌∷◌, ◌++◌, length, drop, get_or, refl, sym, ap, subst, ◌∙◌, append_assoc, add-one, drop-cons}
use Rattle.std.proofs.lemmas.List.{append-nil}
use Rattle.std.specs.Prelude.{Bool, Option, Result, Ok, Err}
use Rattle.domain_header.specs.declared.class.Class.{Class}
use Rattle.domain_header.specs.declared.ttl.Ttl.{Ttl}
use Rattle.domain_message.specs.declared.section.Section.{Section}
use Rattle.domain_rdata.specs.Members.{DataMembers, Writing}
use Rattle.domain_message.specs.declared.section.Section.TheVariants.{Answer, Authority, Additional}
use Rattle.domain_message_builder.specs.Contents.{RecordHead, PushedRecord, Content, Holds}
use Rattle.domain_message_builder.specs.Marks.{Grows}
use Rattle.domain_message_builder.specs.Pushes.{PushesRecord, SameSettings, record_added}
use Rattle.domain_message_builder.specs.Rrsets.{InTurn, FirstRefused, OneForEach, IsRecordOf, records_added, set_head, PushesOfSet, AddsInTurn, AddsRrset}
use Rattle.domain_message_builder.specs.State.{State}
use Rattle.domain_message_builder.specs.Views.{state_of}
use Rattle.domain_message_builder.specs.declared.builder.MessageBuilder.{MessageBuilder}

-- what a clause has as `D.ComposeRecordData`, of what the traits tell one by one
abbrev pub members_of : {D : Type 0} → (D → ℕ) → (D → Bool → List ℕ → List ℕ → Type 0) → (D → Writing) → (D → List ℕ) → (D → Option (List ℕ)) → (D → Bool → Bool) → DataMembers D
members_of number composed written uncompressed lowercase knows_len =
    record { type_number = number; composed = composed; written = written; uncompressed = uncompressed; lowercase = lowercase; knows_len = knows_len }

-- Those before the rest were done.
pub record Progress {V S : Type 0} (Does : V → S → S → Type 0) (all left : List V) (old now : S) : Type 0 where
  pub before : List V
  pub split : all ≡ before ++ left
  pub done : InTurn Does before old now

pub progress_none : {V S : Type 0} (Does : V → S → S → Type 0) (all : List V) (old : S) → Progress Does all all old old
progress_none Does all old = record { before = []; split = refl; done = refl }

one_more : {V S : Type 0} (Does : V → S → S → Type 0) (xs : List V) (x : V) (old mid new : S) → InTurn Does xs old mid → Does x mid new → InTurn Does (xs ++ x ∷ []) old new
one_more Does [] x old mid new done does = (new, subst (λ s. Does x s new) done does, refl)
one_more Does (y ∷ ys) x old mid new done does = (done.0, done.1, one_more Does ys x done.0 mid new done.2 does)

-- The first of what is left, and the rest.
left_item : {V : Type 0} (xs : List V) (i : ℕ) (d : V) → i < length xs → drop i xs ≡ get_or xs i d ∷ drop (i + 1) xs
left_item xs i d inside = rw add-one (drop-cons xs i d inside)

pub progress_step : {V S : Type 0} (Does : V → S → S → Type 0) (all : List V) (i : ℕ) (d : V) (old mid new : S) → Progress Does all (drop i all) old mid → i < length all → Does (get_or all i d) mid new → Progress Does all (drop (i + 1) all) old new
progress_step Does all i d old mid new so inside does =
    let x = get_or all i d in
    let rest = drop (i + 1) all in
    record {
      before = so.before ++ x ∷ [];
      split = so.split ∙ (ap (λ r. so.before ++ r) (left_item all i d inside) ∙ sym (append_assoc so.before (x ∷ []) rest));
      done = one_more Does so.before x old mid new so.done does;
    }

pub progress_all : {V S : Type 0} (Does : V → S → S → Type 0) (all left : List V) (old now : S) → Progress Does all left old now → left ≡ [] → InTurn Does all old now
progress_all Does all left old now so none = subst (λ xs. InTurn Does xs old now) (sym (so.split ∙ (ap (λ r. so.before ++ r) none ∙ append-nil so.before))) so.done

pub progress_refused : {V S : Type 0} (Does : V → S → S → Type 0) (Refuses : V → S → Type 0) (all : List V) (i : ℕ) (d : V) (old mid : S) → Progress Does all (drop i all) old mid → i < length all → Refuses (get_or all i d) mid → FirstRefused Does Refuses all old
progress_refused Does Refuses all i d old mid so inside refused = record {
  before = so.before;
  it = get_or all i d;
  after = drop (i + 1) all;
  all = so.split ∙ ap (λ r. so.before ++ r) (left_item all i d inside);
  mid = mid;
  done = so.done;
  refused = refused;
}

-- What holds of the parts of a record holds of equal parts.
pub of_parts : {N D : Type 0} {n m : N} {a b : Class} {t u : Ttl} {x y : D} → n ≡ m → a ≡ b → t ≡ u → x ≡ y → (P : N → Class → Ttl → D → Type 0) → P n a t x → P m b u y
of_parts {n = n} {m = m} {a = a} {b = b} {t = t} {u = u} {x = x} {y = y} en ea et ex P p =
    subst (λ o. P o b u y) en (subst (λ c. P n c u y) ea (subst (λ s. P n a s y) et (subst (λ z. P n a t z) ex p)))

-- A record that was pushed makes the message longer.
pub grows_by : (c : Bool) (section : Section) (head : RecordHead) (May : List ℕ → List ℕ → Type 0) (old new : State) → PushesRecord c section head May old new → Grows old new
grows_by c section head May old new pushed = record { octets = pushed.octets.octets; all = pushed.octets.all; settings = pushed.settings }

abbrev error_or : {A E : Type 0} → E → Result A E → E
error_or d (Ok x) = d
error_or d (Err e) = e

abbrev pub refusal : (A E : Type 0) → E → Result A E
refusal A E e = Err e

pub same_error : {A E : Type 0} (e f : E) → refusal A E e ≡ refusal A E f → e ≡ f
same_error e f same = ap (error_or e) same

-- ---- what the builder holds then

none_added : (section : Section) (it : Content) → records_added section it [] ≡ it
none_added Answer it = ap (λ l. record it { answers = l }) (append-nil it.answers)
none_added Authority it = ap (λ l. record it { authority = l }) (append-nil it.authority)
none_added Additional it = ap (λ l. record it { additional = l }) (append-nil it.additional)

first_added : (section : Section) (it : Content) (r : PushedRecord) (rs : List PushedRecord) → records_added section (record_added section it r) rs ≡ records_added section it (r ∷ rs)
first_added Answer it r rs = ap (λ l. record it { answers = l }) (append_assoc it.answers (r ∷ []) rs)
first_added Authority it r rs = ap (λ l. record it { authority = l }) (append_assoc it.authority (r ∷ []) rs)
first_added Additional it r rs = ap (λ l. record it { additional = l }) (append_assoc it.additional (r ∷ []) rs)

-- Each that was pushed is held, in its order.
pub holds_set : {S D : Type 0} (seen : S → State) (c : Bool) (section : Section) (head : D → RecordHead) (May : D → List ℕ → List ℕ → Type 0) (Does : D → S → S → Type 0)
    → ((x : D) (a b : S) → Does x a b → PushesRecord c section (head x) (May x) (seen a) (seen b))
    → (xs : List D) (old new : S) → InTurn Does xs old new → (it : Content) → Holds c (seen old) it
    → (rs : List PushedRecord) × OneForEach (λ x. IsRecordOf (head x) (May x)) xs rs × Holds c (seen new) (records_added section it rs)
holds_set seen c section head May Does pushes [] old new done it held =
    ([], refl, subst (λ s. Holds c (seen s) (records_added section it [])) (sym done) (subst (λ i. Holds c (seen old) i) (sym (none_added section it)) held))
holds_set seen c section head May Does pushes (x ∷ xs) old new done it held =
    let p = pushes x old done.0 done.1 in
    let r : PushedRecord = record { head = head x; rdata = p.octets.allowed.rdata } in
    let is : IsRecordOf (head x) (May x) r = record { head_is = refl; before = _; allowed = p.octets.allowed.data_allowed } in
    let rest = holds_set seen c section head May Does pushes xs done.0 new done.2 (record_added section it r) (p.holds it held) in
    (r ∷ rest.0, (r, rest.0, refl, is, rest.1), subst (λ i. Holds c (seen new) i) (first_added section it r rest.0) rest.2)

-- Neither the header nor the limit changes.
pub settings_kept : {S D : Type 0} (seen : S → State) (Does : D → S → S → Type 0) → ((x : D) (a b : S) → Does x a b → SameSettings (seen a) (seen b))
    → (xs : List D) (old new : S) → InTurn Does xs old new → SameSettings (seen old) (seen new)
settings_kept seen Does same [] old new done = subst (λ s. SameSettings (seen old) (seen s)) (sym done) (record { header = refl; limit = refl; reserved = refl })
settings_kept seen Does same (x ∷ xs) old new done =
    let first = same x old done.0 done.1 in
    let rest = settings_kept seen Does same xs done.0 new done.2 in
    record { header = rest.header ∙ first.header; limit = rest.limit ∙ first.limit; reserved = rest.reserved ∙ first.reserved }

-- What was pushed in turn is an RRset of the message.
pub added : {T E D : Type 0} {g : _} {h : _} {i : _} {j : _} {k : _} {l : _} (d : DataMembers D) (section : Section) (owner : List (List ℕ)) (class : Class) (ttl : Ttl) (xs : List D) (old new : MessageBuilder T E g h i j k l) → AddsInTurn d section owner class ttl xs old new → AddsRrset d section owner class ttl xs old new
added {g = g} {j = j} d section owner class ttl xs old new in_turn = (
  in_turn,
  holds_set (state_of j.octets) g.compresses section (λ x. set_head owner (d.type_number x) class ttl) (λ x. d.composed x g.compresses) (PushesOfSet d section owner class ttl) (λ x a b does. does.0) xs old new in_turn,
  settings_kept (state_of j.octets) (PushesOfSet d section owner class ttl) (λ x a b does. does.0.settings) xs old new in_turn,
)
