-- Where an encoding ends, and that it stays where more octets follow.
use Rattle.std.specs.Prelude.{◌≡◌, ℕ, ◌+◌, ◌<◌, ◌≤◌, List, [], ◌∷◌, ◌++◌, length}
use Rattle.std.proofs.Common.{arith}
use Rattle.domain_reading.specs.Grammar.{LabelRun, Encoding, EncodingEnds, Stop, StopAt}
use Rattle.domain_reading.specs.Grammar.Stop.{root, pointer}
use Rattle.domain_reading.proofs.Reading.{octet_more, label_more, pointer_more}

-- a run of labels ends at its beginning or after it
pub run_inside : (m : List ℕ) (p r : ℕ) (fs : List (List ℕ)) → LabelRun m p fs r → p ≤ r
run_inside m p r [] run = omega (arith, run)
run_inside m p r (l ∷ fs) run = let rest = run_inside m (p + 1 + length l) r fs run.1 in omega arith

stop_after : (m : List ℕ) (r e : ℕ) (c : Stop) → StopAt m r c e → r ≤ e
stop_after m r e root at = omega (arith, at.1)
stop_after m r e (pointer q) at = omega (arith, at.1)

-- an encoding begins before its end
pub front_inside : {m : List ℕ} {p e : ℕ} {fs : List (List ℕ)} {c : Stop} → Encoding m p fs c e → p ≤ e
front_inside {m} {p} {e} {fs} {c} front =
    let run = run_inside m p front.stop fs front.run in
    let ends = stop_after m front.stop e c front.ends in
    omega arith

-- and ends inside of the message
pub stop_whole : (m : List ℕ) (r e : ℕ) (c : Stop) → StopAt m r c e → e ≤ length m
stop_whole m r e root at = let inside = at.0.inside in let end = at.1 in omega arith
stop_whole m r e (pointer q) at = let inside = at.0.inside in let end = at.1 in omega arith

run_more : (fs : List (List ℕ)) (m : List ℕ) (p r : ℕ) (u : List ℕ) → LabelRun m p fs r → LabelRun (m ++ u) p fs r
run_more [] m p r u same = same
run_more (l ∷ fs) m p r u (at, rest) = (label_more u at, run_more fs m (p + 1 + length l) r u rest)

stop_more : (c : Stop) (m : List ℕ) (r e : ℕ) (u : List ℕ) → StopAt m r c e → StopAt (m ++ u) r c e
stop_more root m r e u (at, end) = (octet_more u at, end)
stop_more (pointer q) m r e u (at, end) = (pointer_more u at, end)

-- an encoding stays where more follows
pub ends_more : (m : List ℕ) (p e : ℕ) (u : List ℕ) → EncodingEnds m p e → EncodingEnds (m ++ u) p e
ends_more m p e u (fs, c, front) = (fs, c, record { stop = front.stop; run = run_more fs m p front.stop u front.run; ends = stop_more c m front.stop e u front.ends })
