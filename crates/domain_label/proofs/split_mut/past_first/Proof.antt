-- `past_first` cuts twice. The borrow checker follows no part of a part, so this proof walks the code by hand: the
-- first octet's reference ends as it was, and `FollowingParts` puts the two cuts together.
use mathlib.Core.Path.{◌≡◌, refl, ap, ◌∙◌}
use native.Mathlib.Omega.{arith}
use mathlib.Core.List.{List, [], ◌∷◌}
use Prim.Native.Nat.{ℕ, ◌<◌, ◌≤◌}
use lib.Dec.{lit<}
use lib.ListN.{length, take, drop as drop_list, length-drop}
use mir.Syntax.{named, w64}
use mir.Val.{vint}
use base.Fml.{ftrue, flft, fres}
use contract.Monad.{fact}
use contract.Running.{tables}
use types.Kit.{‵, raw, ◌⊛◌, later, ◌$◌, ◌∵◌, !, qed, move, keep, use1, use2, use3, split, split3, join, pick, learn, await, rewrite, fsplit, fjoin, suffices, frame, done}
use types.Part.{whole, sub, agg}
use types.Run.{stop, fld, hop, from, addr, of_opd, lit, and_then, no_more, returns, enter}
use types.ByLocal.{alloc_all, pass_all, free_all, look_at, look_in_at, get, get_in, sets, lands_as}
use denote.Array.{Array}
use denote.Builtin.{usize, u8}
use denote.Exit.{yes, no}
use denote.Follow.{follows_both}
use denote.Plain.{uint_vals, uint_Tells}
use denote.RattleType.{owns}
use denote.Signature.{plain, mut_slice_of}
use denote.Slice.{MutSlice, mut_slice_vals, mut_slice_Tells}
use denote.Steps.{nothing, heard}
use denote.Triple.Call.{calls_at}
use denote.Triple.Table.{framed}
use denote.Triple.Walked.{says, Stays, stay_dropped, walk_of, ends_at, Goes-dropped, Goes-spent_slice}
use Rattle.std.proofs.raw_atomic.Walks.{proved}
use Rattle.domain_label.proofs.FollowingParts.{past_head}
use Rattle.domain_label.proofs.SlicePairs.{Octets, Pair, pair_val, given_up, two_in}
use Rattle.domain_label.proofs.CutCalls.{Cut, at_cut, cut_goes, cut_came, cut_gives}
use Rattle.domain_label.proofs.split_mut.cut.Met.{met as cuts}
use Rattle.domain_label.specs.LendingParts.{after_head}
use Rattle.domain_label.specs.contracts.split_mut.past_first as f
use Rattle.domain_label.proofs.split_mut.past_first.Statement.{statement}
use Rattle.domain_label.proofs.split_mut.past_first.Code as code

abbrev stayed : Stays f.ended.signature.params f.ended.kept
stayed = (stay_dropped (mut_slice_of (0 ∷ []) tt (plain (λ _. u8))) no, (stay_dropped (plain (λ _. usize)) yes, tt))

pub past_first_spec : {M : Type 1} → statement M
past_first_spec 𝓤 𝓛 𝓜 𝓡 wired =
    let c = f.clauses 𝓛 𝓜.mem 𝓡.returns in
    let W = walk_of 𝓛 f.ended stayed c in
    let K = Cut 𝓛 𝓜.mem 𝓡.returns in
    let met = cuts 𝓤 𝓛 𝓜 𝓡 (code.calls-domain_label::split_mut::cut 𝓡.env wired) in
    proved 𝓛 f.ended stayed c 𝓜 𝓡
    (Goes-spent_slice 𝓛 1 (0 ∷ []) tt (plain (λ _. u8)), (Goes-dropped 𝓛 1 (plain (λ _. usize)) yes (λ κs x f. refl), tt))
    f.Key.name code.function (code.unfolded 𝓤 𝓛.H 𝓜 𝓡 wired)
    (λ κs. (mut_slice_vals, (uint_vals w64, tt))) (λ κs. (mut_slice_Tells (named 0) κs.0 u8, (uint_Tells w64, tt)))
    (λ κs qs bounds a g are.
    let κ = κs.0 in let q = qs.0 in let r : Octets = a.0 in let m : ℕ = a.1.0 in
    let room = are.0.0.1 in let fits = are.1.0.1 in
    let y : W.Ghost = ((κs, qs, bounds, a, (mut_slice_vals r, (vint w64 m ∷ [], tt))), tt) in
    qed 𝓛 (((‵ (flft κ q) ⊛ ‵ ftrue) ⊛ ‵ (owns (MutSlice (named 0) κ u8 ∷ usize ∷ []) a (mut_slice_vals r, (vint w64 m ∷ [], tt)))) ∷ raw (fact 𝓤 (m < length r.now)) ∷ []) ∵
    move ! (1 ∷ []) $ heard ! _ (λ less. split ! $ split ! $ move ! (2 ∷ []) $ fsplit ! $ keep ! (0 ∷ 2 ∷ []) $
    let some_octet : 1 ≤ length r.now = omega (arith, less) in
    enter ! _ _ _ _ _ $
    alloc_all ! (λ l. pass_all ! refl ((tt, (tt, (record { fits = room.0 }, tt))), ((tt, record { fits = fits }), tt)) $
    -- the octets are lent to the first cut
    sets ! (addr ! (from ! (fld ! refl (hop ! (look_in_at ! 1 (sub ! 0 refl (whole !))) (stop !))))) refl (tt, tt) $
    sets ! (agg ! (and_then ! (get ! refl) (and_then ! (get_in ! (fld ! refl (stop !)) (sub ! 1 refl (whole !))) (no_more !)))) refl (tt, (tt, (record { fits = room.0 }, tt))) $
    use2 𝓛 (raw (K.pre (at_cut 𝓛 𝓜.mem 𝓡.returns κ q r 1))) (cut_goes 𝓛 𝓜.mem 𝓡.returns κ q r 1 (lit< tt) some_octet) $
    calls_at ! (framed 𝓤 𝓛.H 𝓜 (tables 𝓤 𝓛.H 𝓜 𝓡 𝓡.env)) K met (at_cut 𝓛 𝓜.mem 𝓡.returns κ q r 1) (and_then ! (get ! refl) (and_then ! (lit ! tt) (no_more !))) (λ v.
    use1 𝓛 (cut_came 𝓛 𝓜.mem 𝓡.returns κ q r 1 v) (cut_gives 𝓛 𝓜.mem 𝓡.returns κ q r 1 v) $ await ! tt $
    pick ! (λ p. learn ! (λ k. split ! $ move ! (1 ∷ []) $ split3 ! $
    -- [the octets after the first; the token; what the octets follow; the first octet]
    let tail : length p.1.now ≡ length (drop_list 1 r.now) = ap length k.2.1 in
    let one_less = length-drop 1 r.now in
    let enough : m ≤ length p.1.now = omega (arith, tail, one_less, less) in
    lands_as ! k.0 refl (tt, ((tt, (record { fits = k.1.0.0 }, tt)), ((tt, (record { fits = k.1.1.0 }, tt)), tt))) $
    sets ! (of_opd ! (get_in ! (fld ! refl (stop !)) (sub ! 1 refl (whole !)))) refl (tt, (tt, (record { fits = k.1.1.0 }, tt))) $
    -- those are lent to the second
    sets ! (addr ! (from ! (fld ! refl (hop ! (look_in_at ! 3 (sub ! 0 refl (whole !))) (stop !))))) refl (tt, tt) $
    sets ! (agg ! (and_then ! (get ! refl) (and_then ! (get_in ! (fld ! refl (stop !)) (sub ! 1 refl (whole !))) (no_more !)))) refl (tt, (tt, (record { fits = k.1.1.0 }, tt))) $
    move ! (3 ∷ []) $
    use1 𝓛 (later (‵ (fres p.0.ghost_name ((Array u8 0).coded.code p.0.now)))) (given_up 𝓛 κ p.0 (mut_slice_vals p.0)) $ await ! tt $
    -- [the first octet's last value; the octets after it; the token; what the octets follow]
    move ! (1 ∷ 2 ∷ []) $
    use2 𝓛 (raw (K.pre (at_cut 𝓛 𝓜.mem 𝓡.returns κ q p.1 m))) (cut_goes 𝓛 𝓜.mem 𝓡.returns κ q p.1 m fits enough) $
    calls_at ! (framed 𝓤 𝓛.H 𝓜 (tables 𝓤 𝓛.H 𝓜 𝓡 𝓡.env)) K met (at_cut 𝓛 𝓜.mem 𝓡.returns κ q p.1 m) (and_then ! (get ! refl) (and_then ! (get ! refl) (no_more !))) (λ u.
    use1 𝓛 (cut_came 𝓛 𝓜.mem 𝓡.returns κ q p.1 m u) (cut_gives 𝓛 𝓜.mem 𝓡.returns κ q p.1 m u) $ await ! tt $
    pick ! (λ s. learn ! (λ h. split ! $ move ! (1 ∷ []) $ split3 ! $
    -- [the rest; the token; what the octets after the first follow; the label's; the first octet's last value;
    -- what the octets follow]
    lands_as ! h.0 refl (tt, ((tt, (record { fits = h.1.0.0 }, tt)), ((tt, (record { fits = h.1.1.0 }, tt)), tt))) $
    move ! (4 ∷ 5 ∷ 2 ∷ []) $
    use3 𝓛 (‵ (follows_both (Array u8 0) (Array u8 0) (Array u8 0) r.ghost_name s.0.ghost_name s.1.ghost_name (after_head p.0.now)))
    (past_head 𝓛 r.ghost_name p.0.ghost_name p.1.ghost_name s.0.ghost_name s.1.ghost_name p.0.now) $
    rewrite ! 0 (λ (head : List ℕ). ‵ (follows_both (Array u8 0) (Array u8 0) (Array u8 0) r.ghost_name s.0.ghost_name s.1.ghost_name (after_head head))) k.2.0 refl $
    -- [what the octets follow; the rest; the token; the label's]
    move ! (3 ∷ 1 ∷ []) $ use2 𝓛 (‵ ((Pair κ).own_val s (pair_val s ∷ []))) (two_in 𝓛 κ s) $
    -- [the pair; what the octets follow; the token]
    returns ! (look_at ! 0 refl) $ free_all ! refl $
    suffices ! _ (ends_at 𝓛 f.ended stayed c y (pair_val s) s (tt, (tt, tt)) (tt, (tt, tt))) $
    nothing ! $ nothing ! $ fjoin ! $ nothing ! $ fjoin ! $ join ! $ nothing ! $ move ! (3 ∷ 0 ∷ []) $ join ! $
    join ! $ frame ! $
    says ! (h.2.0 ∙ ap (take m) k.2.1, h.2.1 ∙ ap (drop_list m) k.2.1) $ done !)))))))))
