-- What fits of a text is put behind what was put before.
use Rattle.std.proofs.Common.{◌≡◌, ◌∙◌, ℕ, ◌+◌, ◌-◌, ◌<◌, List, [], ◌++◌, length, take, drop, refl, sym, ap, arith, append_assoc, length-append}
use Rattle.std.proofs.lemmas.List.{append-nil, length-take, length-drop, length-take-le, take_all, take_at, take-append-le, take-append-drop, drop_all}
use Rattle.domain_lines.specs.Rooms.{laid, HoldsText}

-- The beginning of it fits.
pub laid_cut : (old before s buffer new : List ℕ) (p room : ℕ) → p ≡ length before → buffer ≡ laid old before → p < length buffer → room ≡ length buffer - p → room < length s → new ≡ take p buffer ++ take room s ++ drop (p + length (take room s)) buffer → new ≡ laid old (before ++ s)
laid_cut old before s buffer new p room at is inside left long put =
    let rest = drop (length before) old in
    let begun = before ++ take room s in
    let size : length (before ++ rest) ≡ length before + (length old - length before) = length-append before rest ∙ ap (λ k. length before + k) (length-drop (length before) old) in
    let buffer_size = ap length is ∙ length-take (length old) (before ++ rest) in
    let whole : buffer ≡ before ++ rest = is ∙ take_all (length old) (before ++ rest) (omega (arith, size, buffer_size, at, inside)) in
    let fits : length (take room s) ≡ room = length-take-le room s (omega (arith, long)) in
    let front : take p buffer ≡ before = ap (take p) whole ∙ take_at before rest p (sym at) in
    let none : drop (p + length (take room s)) buffer ≡ [] = drop_all (p + length (take room s)) buffer (omega (arith, fits, left, inside)) in
    let ours : new ≡ begun = put ∙ (ap (λ x. (x ++ take room s) ++ drop (p + length (take room s)) buffer) front ∙ (ap (λ x. begun ++ x) none ∙ append-nil begun)) in
    let parted : before ++ s ≡ begun ++ drop room s = ap (λ x. before ++ x) (sym (take-append-drop room s)) ∙ sym (append_assoc before (take room s) (drop room s)) in
    let begun_size : length begun ≡ length old = length-append before (take room s) ∙ omega (arith, fits, left, at, inside, size, buffer_size) in
    let theirs : laid old (before ++ s) ≡ begun = take-append-le (length old) (before ++ s) (drop (length (before ++ s)) old) (omega (arith, length-append before s, left, long, at, inside, size, buffer_size)) ∙ (ap (take (length old)) parted ∙ take_at begun (drop room s) (length old) begun_size) in
    ours ∙ sym theirs

-- A buffer in which nothing was put yet.
pub holds_nothing : (old : List ℕ) → HoldsText old [] old 0
holds_nothing old = record { octets = sym (take_all (length old) old (omega arith)); many = refl }
