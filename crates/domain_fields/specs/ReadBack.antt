-- What was composed is read back.
use Rattle.std.specs.Prelude.{◌≡◌, ℕ, ◌+◌, ◌-◌, ◌≤◌, Bool, List, [], ◌++◌, length, take, drop, slice_range, refl}
use Rattle.std.proofs.Common.{arith, ap, sym, subst, ◌∙◌, append_assoc, append-nil, length-append}
use Rattle.std.proofs.Math.Seq.{take-append_seam, drop-append_seam}
use Rattle.domain_label.specs.Lowercase.{lowercase_labels}
use Rattle.domain_label.specs.Wire.{wire, IsAbsoluteName}
use Rattle.domain_reading.proofs.Encodings.{ends_more}
use Rattle.domain_reading.proofs.Reading.{names_more}
use Rattle.domain_rdata.specs.AnyData.{IsAllThatIsLeft}
use Rattle.domain_rdata.specs.FlatNames.{wire_reads_back}
use Rattle.domain_rdata.specs.Members.{DataMembers}
use Rattle.domain_rdata.specs.RecordData.{NameOctets}
use Rattle.domain_wire.specs.Values.{FixedAt}
use Rattle.domain_fields.specs.Data.{AllAt}
use Rattle.domain_fields.specs.Names.{NameFieldAt}
use Rattle.domain_fields.specs.Sequences.{BothComposed, BothAt}

-- What may be composed is read where it stands, whatever is before it and after it, and what is read is like what was
-- composed.
abbrev pub IsReadBack : {Seen : Type 0} → (Bool → List ℕ → List ℕ → Type 0) → (List ℕ → ℕ → Seen → ℕ → Type 0) → (Seen → Type 0) → Type 0
IsReadBack {Seen} May At Alike = (compresses : Bool) (t s u : List ℕ) → May compresses t s → (it : Seen) × At (t ++ s ++ u) (length t) it (length t + length s) × Alike it

-- The same if it takes all remaining octets.
abbrev pub IsReadBackWhole : {Seen : Type 0} → (Bool → List ℕ → List ℕ → Type 0) → (List ℕ → ℕ → Seen → ℕ → Type 0) → (Seen → Type 0) → Type 0
IsReadBackWhole {Seen} May At Alike = (compresses : Bool) (t s : List ℕ) → May compresses t s → (it : Seen) × At (t ++ s) (length t) it (length t + length s) × Alike it

-- So it is with data, of which `at` tells where data of a type is. `d` is `D.ComposeRecordData`.
abbrev pub IsDataReadBack : {D Seen : Type 0} → DataMembers D → (ℕ → List ℕ → ℕ → Seen → ℕ → Type 0) → (D → Seen → Type 0) → D → Type 0
IsDataReadBack d at like it = IsReadBackWhole (d.composed it) (at (d.type_number it)) (like it)

-- a name, compressed or not: an equal one, ignoring ASCII case
pub name_read_back : (ls : List (List ℕ)) → IsReadBack (NameOctets ls) NameFieldAt (λ it. lowercase_labels it ≡ lowercase_labels ls)
name_read_back ls compresses t s u done = (done.read.stands.0, record { named = names_more u done.read.stands.1; front = ends_more (t ++ s) (length t) (length t + length s) u done.read.ends }, done.read.stands.2)

pub wire_read_back : (ls : List (List ℕ)) → IsAbsoluteName ls → IsReadBack (λ _ _ s. s ≡ wire ls) NameFieldAt (λ it. lowercase_labels it ≡ lowercase_labels ls)
wire_read_back ls name compresses t s u same = name_read_back ls compresses t s u (subst (λ o. NameOctets ls compresses t o) (sym same) (record { read = wire_reads_back t ls name; flat = λ _. refl }))

pub slice_after : (a b c : List ℕ) (p e : ℕ) → p ≡ length a → e ≡ length a + length b → slice_range (a ++ (b ++ c)) p e ≡ b
slice_after a b c p e start end =
    let k : e - p ≡ length b = omega (arith, start, end) in
    let d : drop p (a ++ (b ++ c)) ≡ b ++ c = ap (λ n. drop n (a ++ (b ++ c))) start ∙ drop-append_seam a (b ++ c) in
    ap (take (e - p)) d ∙ (ap (λ n. take n (b ++ c)) k ∙ take-append_seam b c)

-- octets of a fixed number: the value that they are of
pub fixed_read_back : {Seen : Type 0} (len : ℕ) (value_of : List ℕ → Seen) (octets : List ℕ) (Like : Seen → Type 0) → length octets ≡ len → Like (value_of octets) → IsReadBack (λ _ _ s. s ≡ octets) (FixedAt len value_of) Like
fixed_read_back len value_of octets Like sized like compresses t s u same =
    let many : length s ≡ len = ap length same ∙ sized in
    let offset : slice_range (t ++ s ++ u) (length t) (length t + len) ≡ octets =
    ap (λ m. slice_range m (length t) (length t + len)) (append_assoc t s u) ∙ (slice_after t s u (length t) (length t + len) refl (omega (arith, many)) ∙ same) in (
      value_of octets,
      record {
        whole = omega (arith, many, length-append (t ++ s) u, length-append t s);
        value = ap value_of (sym offset);
        after = omega (arith, many);
      },
      like,
    )

-- one field after another
pub both_read_back : {A B : Type 0} (First Rest : Bool → List ℕ → List ℕ → Type 0) (FirstAt : List ℕ → ℕ → A → ℕ → Type 0) (RestAt : List ℕ → ℕ → B → ℕ → Type 0) (LikeFirst : A → Type 0) (LikeRest : B → Type 0) → IsReadBack First FirstAt LikeFirst → IsReadBack Rest RestAt LikeRest
    → IsReadBack (λ c. BothComposed (First c) (Rest c)) (BothAt FirstAt RestAt) (λ it. LikeFirst it.0 × LikeRest it.1)
both_read_back First Rest FirstAt RestAt LikeFirst LikeRest first rest compresses t s u both =
    let a = both.first in
    let b = both.rest in
    let whole : t ++ a ++ b ≡ t ++ s = append_assoc t a b ∙ ap (λ x. t ++ x) (sym both.all) in
    let one = first compresses t a (b ++ u) both.first_allowed in
    let two = rest compresses (t ++ a) b u both.rest_allowed in
    let m1 : t ++ a ++ (b ++ u) ≡ t ++ s ++ u = sym (append_assoc (t ++ a) b u) ∙ ap (λ x. x ++ u) whole in
    let m2 : t ++ a ++ b ++ u ≡ t ++ s ++ u = ap (λ x. x ++ u) whole in
    let seam : length (t ++ a) ≡ length t + length a = length-append t a in
    let end : length (t ++ a) + length b ≡ length t + length s = sym (length-append (t ++ a) b) ∙ (ap length whole ∙ length-append t s) in
    let one_at = subst (λ m. FirstAt m (length t) one.0 (length t + length a)) m1 one.1 in
    let two_in = subst (λ m. RestAt m (length (t ++ a)) two.0 (length (t ++ a) + length b)) m2 two.1 in
    let two_from = subst (λ p. RestAt (t ++ s ++ u) p two.0 (length (t ++ a) + length b)) seam two_in in
    let two_at = subst (λ e. RestAt (t ++ s ++ u) (length t + length a) two.0 e) end two_from in
    ((one.0, two.0), record { middle = length t + length a; first = one_at; rest = two_at }, (one.2, two.2))

-- a field that ends where its own octets tell, as the last one
pub last_read_back : {A : Type 0} (May : Bool → List ℕ → List ℕ → Type 0) (At : List ℕ → ℕ → A → ℕ → Type 0) (Like : A → Type 0) → IsReadBack May At Like → IsReadBackWhole May At Like
last_read_back May At Like law compresses t s may =
    let seen = law compresses t s [] may in
    (seen.0, subst (λ m. At m (length t) seen.0 (length t + length s)) (append-nil (t ++ s)) seen.1, seen.2)

-- a field, and those after it up to the last one
pub both_last_read_back : {A B : Type 0} (First Rest : Bool → List ℕ → List ℕ → Type 0) (FirstAt : List ℕ → ℕ → A → ℕ → Type 0) (RestAt : List ℕ → ℕ → B → ℕ → Type 0) (LikeFirst : A → Type 0) (LikeRest : B → Type 0) → IsReadBack First FirstAt LikeFirst → IsReadBackWhole Rest RestAt LikeRest
    → IsReadBackWhole (λ c. BothComposed (First c) (Rest c)) (BothAt FirstAt RestAt) (λ it. LikeFirst it.0 × LikeRest it.1)
both_last_read_back First Rest FirstAt RestAt LikeFirst LikeRest first rest compresses t s both =
    let a = both.first in
    let b = both.rest in
    let whole : t ++ a ++ b ≡ t ++ s = append_assoc t a b ∙ ap (λ x. t ++ x) (sym both.all) in
    let one = first compresses t a b both.first_allowed in
    let two = rest compresses (t ++ a) b both.rest_allowed in
    let seam : length (t ++ a) ≡ length t + length a = length-append t a in
    let end : length (t ++ a) + length b ≡ length t + length s = sym (length-append (t ++ a) b) ∙ (ap length whole ∙ length-append t s) in
    let one_at = subst (λ m. FirstAt m (length t) one.0 (length t + length a)) whole one.1 in
    let two_in = subst (λ m. RestAt m (length (t ++ a)) two.0 (length (t ++ a) + length b)) whole two.1 in
    let two_from = subst (λ p. RestAt (t ++ s) p two.0 (length (t ++ a) + length b)) seam two_in in
    let two_at = subst (λ e. RestAt (t ++ s) (length t + length a) two.0 e) end two_from in
    ((one.0, two.0), record { middle = length t + length a; first = one_at; rest = two_at }, (one.2, two.2))

-- fields that have all octets up to the end
pub all_read_back : {A : Type 0} (May : Bool → List ℕ → List ℕ → Type 0) (At : List ℕ → ℕ → A → ℕ → Type 0) (Like : A → Type 0) → IsReadBackWhole May At Like → IsReadBackWhole May (AllAt At) Like
all_read_back May At Like law compresses t s may =
    let seen = law compresses t s may in
    (seen.0, record { fields = seen.1; whole = sym (length-append t s) }, seen.2)

-- all remaining octets
pub left_read_back : (octets : List ℕ) → length octets ≤ 65535 → IsReadBackWhole (λ _ _ s. s ≡ octets) IsAllThatIsLeft (λ it. it ≡ octets)
left_read_back octets few compresses t s same = (
  octets,
  record {
    inside = omega (arith, length-append t s);
    all = sym (drop-append_seam t s ∙ same);
    few = few;
    after = sym (length-append t s);
  },
  refl,
)
