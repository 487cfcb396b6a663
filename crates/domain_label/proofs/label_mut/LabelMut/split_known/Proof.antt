-- `split_known` makes a label of the first of the two references that `past_first` returns. The borrow checker shows
-- no clause on how the octets end through a struct, so this proof walks the code by hand.
use mathlib.Core.Path.{◌≡◌, refl, ap}
use native.Mathlib.Omega.{arith}
use mathlib.Core.List.{[], ◌∷◌}
use Prim.Native.Nat.{ℕ, ◌<◌, ◌≤◌}
use lib.ListN.{length, take, drop as drop_list, length-drop}
use mir.Syntax.{named, w64}
use mir.Val.{vint}
use base.Fml.{ftrue, flft}
use borrow.Table.Elements.{length-take-le}
use contract.Monad.{fact}
use contract.Running.{tables}
use types.Kit.{‵, raw, ◌⊛◌, ◌$◌, ◌∵◌, !, qed, move, keep, use1, use2, split, split3, join, pick, learn, await, fsplit, fjoin, suffices, frame, done}
use types.Part.{whole, sub, agg}
use types.Run.{stop, fld, hop, from, addr, of_opd, and_then, no_more, returns, enter}
use types.ByLocal.{alloc_all, pass_all, free_all, look_at, look_in_at, get, get_in, sets, lands_as}
use denote.Builtin.{usize, u8}
use denote.Exit.{yes, no}
use denote.Plain.{uint_vals, uint_Tells}
use denote.RattleType.{owns}
use denote.Signature.{plain, mut_slice_of}
use denote.Slice.{MutSlice, mut_slice_vals, mut_slice_Tells}
use denote.Steps.{nothing, heard}
use denote.Triple.Call.{calls_at}
use denote.Triple.Table.{framed}
use denote.Triple.Walked.{says, Stays, stay_dropped, walk_of, ends_at, Goes-dropped, Goes-spent_slice}
use Rattle.std.proofs.raw_atomic.Walks.{proved}
use Rattle.domain_label.proofs.SlicePairs.{Octets}
use Rattle.domain_label.proofs.LabelPairs.{Known, known_val, known_in}
use Rattle.domain_label.proofs.PastCalls.{Past, at_past, past_goes, past_came, past_gives}
use Rattle.domain_label.proofs.split_mut.past_first.Met.{met as cuts}
use Rattle.domain_label.specs.declared.label_mut.LabelMut.{LabelMut}
use Rattle.domain_label.specs.contracts.label_mut.LabelMut.split_known as f
use Rattle.domain_label.proofs.label_mut.LabelMut.split_known.Statement.{statement}
use Rattle.domain_label.proofs.label_mut.LabelMut.split_known.Code as code

abbrev stayed : Stays f.ended.signature.params f.ended.kept
stayed = (stay_dropped (mut_slice_of (0 ∷ []) tt (plain (λ _. u8))) no, (stay_dropped (plain (λ _. usize)) yes, tt))

pub split_known_spec : {M : Type 1} → statement M
split_known_spec 𝓤 𝓛 𝓜 𝓡 wired =
    let c = f.clauses 𝓛 𝓜.mem 𝓡.returns in
    let W = walk_of 𝓛 f.ended stayed c in
    let K = Past 𝓛 𝓜.mem 𝓡.returns in
    proved 𝓛 f.ended stayed c 𝓜 𝓡
    (Goes-spent_slice 𝓛 1 (0 ∷ []) tt (plain (λ _. u8)), (Goes-dropped 𝓛 1 (plain (λ _. usize)) yes (λ κs x f. refl), tt))
    f.Key.name code.function (code.unfolded 𝓤 𝓛.H 𝓜 𝓡 wired)
    (λ κs. (mut_slice_vals, (uint_vals w64, tt))) (λ κs. (mut_slice_Tells (named 0) κs.0 u8, (uint_Tells w64, tt)))
    (λ κs qs bounds a g are.
    let κ = κs.0 in let q = qs.0 in let r : Octets = a.0 in let m : ℕ = a.1.0 in
    let room = are.0.0.1 in let fits = are.1.0.1 in
    let y : W.Ghost = ((κs, qs, bounds, a, (mut_slice_vals r, (vint w64 m ∷ [], tt))), tt) in
    qed 𝓛 (((‵ (flft κ q) ⊛ ‵ ftrue) ⊛ ‵ (owns (MutSlice (named 0) κ u8 ∷ usize ∷ []) a (mut_slice_vals r, (vint w64 m ∷ [], tt)))) ∷ raw (fact 𝓤 ((m ≤ 63) × (m < length r.now))) ∷ []) ∵
    move ! (1 ∷ []) $ heard ! _ (λ asked. split ! $ split ! $ move ! (2 ∷ []) $ fsplit ! $ keep ! (0 ∷ 2 ∷ []) $
    enter ! _ _ _ _ _ $
    alloc_all ! (λ l. pass_all ! refl ((tt, (tt, (record { fits = room.0 }, tt))), ((tt, record { fits = fits }), tt)) $
    sets ! (addr ! (from ! (fld ! refl (hop ! (look_in_at ! 1 (sub ! 0 refl (whole !))) (stop !))))) refl (tt, tt) $
    sets ! (agg ! (and_then ! (get ! refl) (and_then ! (get_in ! (fld ! refl (stop !)) (sub ! 1 refl (whole !))) (no_more !)))) refl (tt, (tt, (record { fits = room.0 }, tt))) $
    use2 𝓛 (raw (K.pre (at_past 𝓛 𝓜.mem 𝓡.returns κ q r m))) (past_goes 𝓛 𝓜.mem 𝓡.returns κ q r m fits asked.1) $
    calls_at ! (framed 𝓤 𝓛.H 𝓜 (tables 𝓤 𝓛.H 𝓜 𝓡 𝓡.env)) K (cuts 𝓤 𝓛 𝓜 𝓡 (code.calls-domain_label::split_mut::past_first 𝓡.env wired)) (at_past 𝓛 𝓜.mem 𝓡.returns κ q r m)
    (and_then ! (get ! refl) (and_then ! (get ! refl) (no_more !))) (λ v.
    use1 𝓛 (past_came 𝓛 𝓜.mem 𝓡.returns κ q r m v) (past_gives 𝓛 𝓜.mem 𝓡.returns κ q r m v) $ await ! tt $
    pick ! (λ p. learn ! (λ k.
    let room₀ = k.1.0.0 in let room₁ = k.1.1.0 in
    let first = k.2.0 in
    let tail = length-drop 1 r.now in
    let less = asked.1 in
    let some = asked.0 in
    let within : m ≤ length (drop_list 1 r.now) = omega (arith, less, tail) in
    let taken : length (take m (drop_list 1 r.now)) ≡ m = length-take-le m (drop_list 1 r.now) within in
    let counted : length p.0.now ≡ length (take m (drop_list 1 r.now)) = ap length first in
    let d : LabelMut = record { octets = p.0; short = omega (arith, counted, taken, some) } in
    let x : LabelMut × Octets = (d, p.1) in
    lands_as ! k.0 refl (tt, ((tt, (record { fits = room₀ }, tt)), ((tt, (record { fits = room₁ }, tt)), tt))) $
    sets ! (of_opd ! (get_in ! (fld ! refl (stop !)) (sub ! 0 refl (whole !)))) refl (tt, (tt, (record { fits = room₀ }, tt))) $
    sets ! (of_opd ! (get_in ! (fld ! refl (stop !)) (sub ! 1 refl (whole !)))) refl (tt, (tt, (record { fits = room₁ }, tt))) $
    sets ! (addr ! (from ! (fld ! refl (hop ! (look_in_at ! 3 (sub ! 0 refl (whole !))) (stop !))))) refl (tt, tt) $
    sets ! (agg ! (and_then ! (get ! refl) (and_then ! (get_in ! (fld ! refl (stop !)) (sub ! 1 refl (whole !))) (no_more !)))) refl (tt, (tt, (record { fits = room₀ }, tt))) $
    sets ! (agg ! (and_then ! (get ! refl) (no_more !))) refl (tt, ((tt, (record { fits = room₀ }, tt)), tt)) $
    sets ! (addr ! (from ! (fld ! refl (hop ! (look_in_at ! 4 (sub ! 0 refl (whole !))) (stop !))))) refl (tt, tt) $
    sets ! (agg ! (and_then ! (get ! refl) (and_then ! (get_in ! (fld ! refl (stop !)) (sub ! 1 refl (whole !))) (no_more !)))) refl (tt, (tt, (record { fits = room₁ }, tt))) $
    sets ! (agg ! (and_then ! (get ! refl) (and_then ! (get ! refl) (no_more !)))) refl (tt, (((tt, (record { fits = room₀ }, tt)), tt), ((tt, (record { fits = room₁ }, tt)), tt))) $
    -- [both references; the token; what the octets follow]
    split ! $ move ! (1 ∷ []) $ split3 ! $ move ! (3 ∷ 0 ∷ []) $
    use2 𝓛 (‵ ((Known κ).own_val x (known_val x ∷ []))) (known_in κ 𝓛 x) $
    -- [the pair; the token; what the octets follow]
    returns ! (look_at ! 0 refl) $ free_all ! refl $
    suffices ! _ (ends_at 𝓛 f.ended stayed c y (known_val x) x (tt, (tt, tt)) (tt, (tt, tt))) $
    nothing ! $ nothing ! $ fjoin ! $ nothing ! $ fjoin ! $ join ! $ nothing ! $ move ! (2 ∷ 0 ∷ []) $ join ! $
    join ! $ frame ! $
    says ! k.2 $ done !))))))
