-- What holds while a name is followed and told.
use Rattle.std.proofs.Common.{◌≡◌, ℕ, ◌+◌, ◌^◌, ◌≤◌, ◌<◌, List, [], ◌∷◌, ◌++◌, length, refl, sym, subst, arith, Option, Bool, length-append, add-one}
use Rattle.std.specs.Io.KnownBytes.{Appends, Keeps}
use Rattle.std.proofs.KnownBytes.{Appends-nil, Appends-trans}
use Rattle.domain_reading.specs.Grammar.{OctetAt, LabelAt, PointerAt}
use Rattle.domain_reading.specs.Faults.{Followed, start, past_label, past_pointer, StepFaultAt}
use Rattle.domain_reading.specs.Heads.{BrokenAt}
use Rattle.domain_reading.specs.Progress.{beginning, table_noted, label_passed, pointer_followed}
use Rattle.domain_reading.specs.declared.fault.NameFault.{NameFault}
use Rattle.domain_reading.specs.declared.fault.NameFault.TheVariants.{ShortInput, BadLabelType, TooManyPointers, LongName}
use Rattle.domain_reading.specs.declared.progress.Progress.{Progress}
use Rattle.domain_reading.proofs.WhileReading.{Goes, going_start, going_label, going_pointer}
use Rattle.domain_lines.proofs.InAndOut.{appends_kept}
use Rattle.dnswalk.specs.Lines.{label_line, pointer_line, root_line}
use Rattle.dnswalk.specs.Following.{walk_lines, fault_line, broken_line, FollowedThrough}
use Rattle.dnswalk.specs.Engines.{IsLastLine, WritesFollowed}
use Rattle.dnswalk.specs.Following.FollowedThrough.{to_root, to_fault}

-- A pointer more was followed, and its line written.
walk_pointer : {n : ℕ} {m : List ℕ} {p k r q : ℕ} {fs : List (List ℕ)} (w : Followed n m p k fs r) → PointerAt m r q → q < r → k < n → (next : Followed n m p (k + 1) fs q) × (walk_lines next ≡ walk_lines w ++ (pointer_line r q ++ 10 ∷ []))
unfolding walk_lines
walk_pointer w x back few = rw add-one (past_pointer w x back few, refl)

-- What was read so far, and that its lines were written.
abbrev pub IsErrorOfText : List ℕ → ℕ → Progress → List ℕ → ℕ → ℕ → Option (List ℕ) → Option (List ℕ) → Type 0
IsErrorOfText m p w table before now old new = (g : Goes 255 m p w table before now) × (walk : Followed 255 m p w.pointers g.0 w.at) × Appends old new (walk_lines walk)

pub tells_start : (m : List ℕ) (p heads : ℕ) (old : Option (List ℕ)) {w : Progress} {es : List ℕ} → w ≡ beginning p → length es ≡ 128 → IsErrorOfText m p w es heads heads old old
unfolding walk_lines
tells_start m p heads old {es = es} e room = subst (λ w. IsErrorOfText m p w es heads heads old old) (sym e) (([], going_start 255 m p es room, omega arith), start, Appends-nil old)

pub tells_label : {m : List ℕ} {p : ℕ} {w w' : Progress} {es es' : List ℕ} (old mid new : Option (List ℕ)) (before heads now o : ℕ) → IsErrorOfText m p w es before heads old mid → (l : List ℕ) → length l ≡ o → LabelAt m w.at l → w.len + 1 + o ≤ 254 → (w' ≡ label_passed w o) × (es' ≡ table_noted w es) → now ≡ heads + 1 → Appends mid new (label_line w.at l ++ 10 ∷ []) → IsErrorOfText m p w' es' before now old new
unfolding walk_lines
tells_label {w = w} old mid new before heads now o g l size x short e count a =
    rw (e.0, e.1) (rw (← size) ((g.0.0 ++ l ∷ [], going_label g.0.1 x (omega (arith, size)), omega (arith, g.0.2, length-append g.0.0 (l ∷ []))), past_label g.1 x (omega (arith, size, g.0.1.len)), Appends-trans old mid new _ _ g.2 a))

pub tells_pointer : {m : List ℕ} {p : ℕ} {w w' : Progress} {es : List ℕ} {q : ℕ} (old mid new : Option (List ℕ)) (before heads now : ℕ) → IsErrorOfText m p w es before heads old mid → PointerAt m w.at q × (q < 2 ^ 14) → (q < w.at) × (w.pointers < 255) → w' ≡ pointer_followed w q → now ≡ heads + 1 → Appends mid new (pointer_line w.at q ++ 10 ∷ []) → IsErrorOfText m p w' es before now old new
tells_pointer old mid new before heads now g x back e count a =
    let next = walk_pointer g.1 x.0 back.0 back.1 in
    rw e ((g.0.0, going_pointer g.0.1 x.0 x.1 back.0 back.1, omega (arith, g.0.2)), next.0, subst (λ o. Appends old new o) (sym next.1) (Appends-trans old mid new _ _ g.2 a))

-- The root ends it.
pub tells_root : {m : List ℕ} {p : ℕ} {w : Progress} {es : List ℕ} (old mid new : Option (List ℕ)) (before heads count : ℕ) → IsErrorOfText m p w es before heads old mid → OctetAt m w.at 0 → Appends mid new (root_line w.at ++ 10 ∷ []) → count ≡ w.count + w.pointers + 1 → (lines : List ℕ) × FollowedThrough m p lines count × Appends old new lines
tells_root old mid new before heads count g x a c =
    (_, to_root g.1 x refl (omega (arith, c, g.0.1.noted.count)), Appends-trans old mid new _ _ g.2 a)

-- So does a fault.
pub tells_fault : {m : List ℕ} {p : ℕ} {w : Progress} {es : List ℕ} (fault : NameFault) (old mid new : Option (List ℕ)) (before heads count : ℕ) → (g : IsErrorOfText m p w es before heads old mid) → (x : StepFaultAt 255 m w.pointers g.0.0 w.at fault) → Appends mid new (fault_line 255 m w.pointers g.0.0 w.at fault x ++ 10 ∷ []) → count ≡ w.count + w.pointers + 1 → (lines : List ℕ) × FollowedThrough m p lines count × Appends old new lines
tells_fault fault old mid new before heads count g x a c =
    (_, to_fault fault g.1 x refl (omega (arith, c, g.0.1.noted.count)), Appends-trans old mid new _ _ g.2 a)

-- Neither a label nor a pointer is there: the line tells which.
pub tells_broken : {m : List ℕ} {p : ℕ} {w : Progress} {es : List ℕ} (fault : NameFault) (old mid new : Option (List ℕ)) (before heads count : ℕ) → (g : IsErrorOfText m p w es before heads old mid) → BrokenAt m w.at fault → Appends mid new (broken_line m w.at fault ++ 10 ∷ []) → count ≡ w.count + w.pointers + 1 → (lines : List ℕ) × FollowedThrough m p lines count × Appends old new lines
tells_broken ShortInput old mid new before heads count g x a c = tells_fault ShortInput old mid new before heads count g x a c
tells_broken BadLabelType old mid new before heads count g x a c = tells_fault BadLabelType old mid new before heads count g x a c
tells_broken TooManyPointers old mid new before heads count g x a c = absurd x
tells_broken LongName old mid new before heads count g x a c = absurd x

-- No more than 127 labels, 255 pointers and one were read.
pub tells_few : {m : List ℕ} {p : ℕ} {w : Progress} {es : List ℕ} (old mid : Option (List ℕ)) (before heads : ℕ) → IsErrorOfText m p w es before heads old mid → w.count + w.pointers + 1 ≤ 383
tells_few old mid before heads g = omega (arith, g.0.1.noted.count, g.0.1.short, g.0.1.few_labels, g.0.1.few_pointers)

-- The lines were written and then the last one.
pub writes_followed : {m lines : List ℕ} {p count : ℕ} (last : List ℕ) (old mid new : Option (List ℕ)) (found : Bool) → (count ≤ 383) → FollowedThrough m p lines count → Appends old mid lines → IsLastLine m p found count last → Appends mid new (last ++ 10 ∷ []) → WritesFollowed m p found old new
writes_followed {lines = lines} {count = count} last old mid new found few x a ends b = record { lines = lines; last = last; count = count; few = few; followed = x; ends = ends; appends = Appends-trans old mid new _ _ a b }

-- What was written stays so where no more is.
pub still_followed : (m : List ℕ) (p : ℕ) (old mid new : Option (List ℕ)) (found : Bool) → WritesFollowed m p found old mid → Keeps mid new → WritesFollowed m p found old new
still_followed m p old mid new found x k = record { lines = x.lines; last = x.last; count = x.count; few = x.few; followed = x.followed; ends = x.ends; appends = appends_kept old mid new _ x.appends k }
