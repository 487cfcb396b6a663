-- One part more is composed. What is known at each turn is said of what is left: whatever completes that completes
-- all.
use Rattle.std.proofs.Common.{◌≡◌, ◌∙◌, ℕ, ◌+◌, ◌≤◌, ◌<◌, Bool, List, [], ◌∷◌, ◌++◌, length, refl, sym, ap, subst, append_assoc, append-nil, length-append, arith}
use Rattle.domain_rdata.specs.ReadBack.{Appended}
use Rattle.domain_fields.specs.Parts.{Part, part_octets, parts_octets}
use Rattle.domain_fields.specs.Sequences.{BothComposed, both_plain}
use Rattle.domain_any_rdata.specs.Composing.{PartComposed, PartsComposed, part_written, parts_written, lowers, part_shorter}
use Rattle.domain_any_rdata.specs.declared.name_form.NameForm.{NameForm}

-- what is seen of a target
abbrev pub TargetMembers : Type 0 → Type 1
TargetMembers T = record {
  octets : T → List ℕ;
  capacity : T → ℕ;
  extends : T → List ℕ → T → Type 0;
  compresses : Bool;
  Memory : Type 0;
  memory : T → Memory;
  kept_within : ℕ → Memory → Memory;
  appends : T → List (List ℕ) → T → Type 0;
}

-- Cut to the octets that were there before, it remembers what it did then.
abbrev pub Remembers : {T : Type 0} → TargetMembers T → T → T → Type 0
Remembers g old new = g.kept_within (length (g.octets old)) (g.memory new) ≡ g.memory old

-- Of all parts these are left, and the target was `old` and is `now`.
pub record Still {T : Type 0} (g : TargetMembers T) (all left : List Part) (how : NameForm) (old now : T) : Type 0 where
  pub written : (end : T) → parts_written left how T g.extends g.appends now end → parts_written all how T g.extends g.appends old end
  pub grown : (new : List ℕ) → Appended (PartsComposed left how g.compresses (g.octets now)) (g.octets now) new → Appended (PartsComposed all how g.compresses (g.octets old)) (g.octets old) new
  pub size : length (g.octets now) + length (parts_octets (lowers how) left) ≤ length (g.octets old) + length (parts_octets (lowers how) all)
  pub more : (done : List ℕ) × (g.octets now ≡ g.octets old ++ done)
  pub memory : Remembers g old now
  pub capacity : g.capacity old ≤ g.capacity now

pub still_start : {T : Type 0} (g : TargetMembers T) (all left : List Part) (how : NameForm) (old : T)
    → ((c : T) → g.kept_within (length (g.octets c)) (g.memory c) ≡ g.memory c) → left ≡ all → Still g all left how old old
still_start {T} g all left how old all_kept same = record {
  written = λ end w. subst (λ l. parts_written l how T g.extends g.appends old end) same w;
  grown = λ new a. subst (λ l. Appended (PartsComposed l how g.compresses (g.octets old)) (g.octets old) new) same a;
  size = omega (arith, ap (λ (l : List Part). length (parts_octets (lowers how) l)) same);
  more = ([], sym (append-nil (g.octets old)));
  memory = all_kept old;
  capacity = omega arith;
}

-- what is appended in two parts
joined : (First Rest : List ℕ → List ℕ → Type 0) (t mid new : List ℕ) → Appended (First t) t mid → Appended (Rest mid) mid new → Appended (BothComposed First Rest t) t new
joined First Rest t mid new one two = record {
  octets = one.octets ++ two.octets;
  allowed = both_plain First Rest t one.octets two.octets one.allowed (subst (λ m. Rest m two.octets) one.all two.allowed);
  all = two.all ∙ (ap (λ m. m ++ two.octets) one.all ∙ append_assoc t one.octets two.octets);
}

-- What is remembered stays within what was there: `twice` is the law `kept_twice`.
remembers_on : {T : Type 0} (g : TargetMembers T) → ((n k : ℕ) (m : g.Memory) → n ≤ k → g.kept_within n (g.kept_within k m) ≡ g.kept_within n m)
    → (old now next : T) → length (g.octets old) ≤ length (g.octets now) → Remembers g old now → Remembers g now next → Remembers g old next
remembers_on g twice old now next shorter before after =
    let n = length (g.octets old) in
    let k = length (g.octets now) in
    sym (twice n k (g.memory next) shorter) ∙ (ap (λ m. g.kept_within n m) after ∙ before)

longer : {T : Type 0} (g : TargetMembers T) (old now : T) (done : List ℕ) → g.octets now ≡ g.octets old ++ done → length (g.octets old) ≤ length (g.octets now)
longer g old now done same = omega (arith, ap (λ (o : List ℕ). length o) same, length-append (g.octets old) done)

first_size : (lowercase : Bool) (left rest : List Part) (x : Part) → left ≡ x ∷ rest → length (parts_octets lowercase left) ≡ length (part_octets lowercase x) + length (parts_octets lowercase rest)
first_size lowercase left rest x first =
    ap (λ (l : List Part). length (parts_octets lowercase l)) first ∙ length-append (part_octets lowercase x) (parts_octets lowercase rest)

-- a part more
pub still_more : {T : Type 0} (g : TargetMembers T) → ((n k : ℕ) (m : g.Memory) → n ≤ k → g.kept_within n (g.kept_within k m) ≡ g.kept_within n m)
    → (all left rest : List Part) (x : Part) (how : NameForm) (old now next : T) → Still g all left how old now → left ≡ x ∷ rest
    → Appended (PartComposed x how g.compresses (g.octets now)) (g.octets now) (g.octets next) → part_written x how T g.extends g.appends now next
    → Remembers g now next → g.capacity now ≤ g.capacity next → Still g all rest how old next
still_more {T} g twice all left rest x how old now next s first one named kept room =
    let First = PartComposed x how g.compresses in
    let Rest = PartsComposed rest how g.compresses in
    let before = first_size (lowers how) left rest x first in
    let added = ap (λ (o : List ℕ). length o) one.all in
    let sum = length-append (g.octets now) one.octets in
    let short = part_shorter x how g.compresses (g.octets now) one.octets one.allowed in
    record {
      written = λ end w. s.written end (subst (λ l. parts_written l how T g.extends g.appends now end) (sym first) (record { middle = next; first = named; rest = w }));
      grown = λ new a. s.grown new (subst (λ l. Appended (PartsComposed l how g.compresses (g.octets now)) (g.octets now) new) (sym first) (joined First Rest (g.octets now) (g.octets next) new one a));
      size = omega (arith, before, added, sum, short, s.size);
      more = (s.more.0 ++ one.octets, one.all ∙ (ap (λ m. m ++ one.octets) s.more.1 ∙ append_assoc (g.octets old) s.more.0 one.octets));
      memory = remembers_on g twice old now next (longer g old now s.more.0 s.more.1) s.memory kept;
      capacity = omega (arith, s.capacity, room);
    }

-- a part is refused, so that all are too many
pub still_full : {T : Type 0} (g : TargetMembers T) (all left rest : List Part) (x : Part) (how : NameForm) (old now : T) → Still g all left how old now → left ≡ x ∷ rest
    → g.capacity now < length (g.octets now) + length (part_octets (lowers how) x) → g.capacity old < length (g.octets old) + length (parts_octets (lowers how) all)
still_full g all left rest x how old now s first full = omega (arith, first_size (lowers how) left rest x first, s.size, s.capacity, full)

pub still_some : {T : Type 0} (g : TargetMembers T) (all left rest : List Part) (x : Part) (how : NameForm) (old now : T) → Still g all left how old now → left ≡ x ∷ rest
    → 0 < length (part_octets (lowers how) x) → 0 < length (parts_octets (lowers how) all)
still_some g all left rest x how old now s first some =
    omega (arith, first_size (lowers how) left rest x first, s.size, longer g old now s.more.0 s.more.1, some)

-- and what was remembered is that of before: `cut` is what the truncated target remembers
pub still_forgotten : {T : Type 0} (g : TargetMembers T) → ((n k : ℕ) (m : g.Memory) → n ≤ k → g.kept_within n (g.kept_within k m) ≡ g.kept_within n m)
    → (all left : List Part) (how : NameForm) (old now after cut : T) (n : ℕ) → Still g all left how old now → Remembers g now after
    → n ≡ length (g.octets old) → g.memory cut ≡ g.kept_within n (g.memory after) → Remembers g old cut
still_forgotten g twice all left how old now after cut n s kept at forgot =
    let k = length (g.octets old) in
    let shorter = longer g old now s.more.0 s.more.1 in
    ap (λ m. g.kept_within k m) (forgot ∙ ap (λ j. g.kept_within j (g.memory after)) at)
    ∙ (twice k k (g.memory after) (omega arith) ∙ remembers_on g twice old now after shorter s.memory kept)

-- all were composed
pub all_grown : {T : Type 0} (g : TargetMembers T) (all left : List Part) (how : NameForm) (old now : T) → Still g all left how old now → left ≡ [] → Appended (PartsComposed all how g.compresses (g.octets old)) (g.octets old) (g.octets now)
all_grown g all left how old now s none =
    s.grown (g.octets now) (subst (λ l. Appended (PartsComposed l how g.compresses (g.octets now)) (g.octets now) (g.octets now)) (sym none) (record { octets = []; allowed = refl; all = sym (append-nil (g.octets now)) }))

pub all_written : {T : Type 0} (g : TargetMembers T) (all left : List Part) (how : NameForm) (old now : T) → Still g all left how old now → left ≡ [] → parts_written all how T g.extends g.appends old now
all_written {T} g all left how old now s none = s.written now (subst (λ l. parts_written l how T g.extends g.appends now now) (sym none) refl)
