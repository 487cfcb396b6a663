-- `octets_mut` lends the octets after the length octet as a slice. The borrow checker shows no
-- write-back clause for a part of a `[u8; 64]`, so this proof walks the code by hand.
use mathlib.Core.Path.{◌≡◌, refl, sym, ap, ◌∙◌}
use Prim.Native.Nat.{ℕ, ◌+◌, ◌-◌, ◌*◌, ◌≤◌}
use native.Mathlib.Omega.{arith}
use mathlib.Core.List.{List, [], ◌∷◌, ◌++◌}
use seplogic.Ra.Ura.{Ura}
use mir.Syntax.{named, w64}
use mir.Val.{Val, vint}
use base.Logic.{SProp, ent, sep, ex}
use base.Fml.{Fml, Lft, GName, Share, ftrue, flft}
use types.Logic.{Logic, sem}
use types.Mut.{open_ref}
use contract.Monad.{fact}
use types.Kit.{Item, ‵, ◌⊛◌, raw, given, some, later, ◌$◌, ◌∵◌, !, qed, by, move, keep, drop, split, split3, join, learn, fsplit, fsplit3, fjoin, use1, use2, await, pick, suffices, frame, done, updating, group, now, show, rewrite}
use denote.Array.{Array}
use denote.Builtin.{RefMutOf, usize, u8}
use denote.Exit.{yes, no}
use denote.Follow.{follows}
use denote.Memory.{mem}
use denote.Plain.{uint_vals, uint_Tells}
use denote.RattleType.{owns}
use denote.Ref.{MutRef, mut_vals, mut_Tells}
use denote.Signature.{plain}
use denote.Steps.{nothing, heard}
use denote.Triple.Walked.{says, Stays, stay_dropped, walk_of, ends_at, Goes-dropped, Goes-spent_ref}
use lib.ListN.{length, take, drop as drop_list, take-append-drop, length-drop, length-append}
use types.SemTy.{cells}
use types.Part.{agg}
use types.Run.{stop, fld, addr, and_then, no_more, returns, enter, bin, lit}
use types.ByLocal.{alloc_all, pass_all, free_all, look_at, get, through, sets, is}
use denote.FollowSlice.{lends_Elements}
use denote.Slice.{MutSlice, Room, slice_val}
use borrow.Table.Elements.{at, at_mul, cut_app, join_app, length-take-le}
use Rattle.std.proofs.raw_atomic.Walks.{proved}
use Rattle.domain_label.proofs.OwnedMemory.{start, Left, octets_out, octets_in}
use Rattle.domain_label.specs.Lending.{with_octets}
use Rattle.domain_label.specs.contracts.owned.OwnedLabel.{the_row}
use Rattle.domain_label.specs.contracts.owned.OwnedLabel.octets_mut as f
use Rattle.domain_label.proofs.owned.OwnedLabel.octets_mut.Statement.{statement}
use Rattle.domain_label.proofs.owned.OwnedLabel.octets_mut.Code as code

abbrev stayed : Stays f.ended.signature.params f.ended.kept
stayed = (
  stay_dropped (RefMutOf (0 ∷ []) tt (plain (λ _. the_row)) (λ _. tt)) no,
  (stay_dropped (plain (λ _. usize)) yes, tt),
)

module _ {M : Type 1} {𝓤 : Ura M} (𝓛 : Logic 𝓤) where
  open 𝓛 use {H, A}

  module _ (κ : Lft) (q : Share) (b o : ℕ) (γ : GName) (d : the_row.Denot) (m : ℕ) where
    abbrev p : ℕ
    p = start o

    -- where the octets after the length octet begin
    abbrev offset : ℕ
    offset = 1 + p

    abbrev head : List ℕ
    head = take 1 d.wire

    abbrev front : List ℕ
    front = take m (drop_list 1 d.wire)

    abbrev back : List ℕ
    back = drop_list m (drop_list 1 d.wire)

    abbrev octets : List ℕ → ℕ → Fml
    octets ws = cells (mem u8) ws b

    abbrev past : ℕ
    past = at offset (mem u8).size (length front)

    abbrev Rest : SProp 𝓤
    Rest = sep 𝓤 (sem 𝓛 (octets head p)) (sep 𝓤 (sem 𝓛 (octets back past)) (Left 𝓛 b o))

    after_head : length d.wire ≡ 64 → at p (mem u8).size (length head) ≡ offset
    after_head long =
        at_mul p (mem u8).size (length head) ∙ ap (λ (k : ℕ). k * (mem u8).size + p) (length-take-le 1 d.wire (omega (arith, long)))

    count : m ≤ 63 → length d.wire ≡ 64 → length front ≡ m
    count within long =
        let tail = length-drop 1 d.wire in length-take-le m (drop_list 1 d.wire) (omega (arith, long))

    put : m ≤ 63 → length d.wire ≡ 64 → (ws : List ℕ) → length ws ≡ length front
        → ent 𝓤 (sep 𝓤 (sem 𝓛 (octets ws offset)) Rest) (sem 𝓛 ((mem the_row).own_at (with_octets d ws) b o))
    put within long ws e =
        let counted = count within long in
        let one : length head ≡ 1 = length-take-le 1 d.wire (omega (arith, long)) in
        let tail = length-drop 1 d.wire in
        let after = length-drop m (drop_list 1 d.wire) in
        let inner = length-append ws back in
        let whole = length-append head (ws ++ back) in
        let same : head ++ (ws ++ back) ≡ (with_octets d ws).wire = ap (λ k. head ++ (ws ++ drop_list k (drop_list 1 d.wire))) (sym (e ∙ counted)) in
        qed 𝓛 (‵ (octets ws offset) ∷ ‵ (octets head p) ∷ ‵ (octets back past) ∷ raw (Left 𝓛 b o) ∷ []) ∵
        move ! (0 ∷ 2 ∷ []) $
        rewrite ! 1 (λ (k : ℕ). ‵ (octets back (at offset (mem u8).size k))) (sym e) refl $
        use2 𝓛 (‵ (octets (ws ++ back) offset)) (join_app 𝓛 (mem u8) ws back b offset) $
        rewrite ! 0 (λ (k : ℕ). ‵ (octets (ws ++ back) k)) (sym (after_head long)) refl $ move ! (1 ∷ 0 ∷ []) $
        use2 𝓛 (‵ (octets (head ++ (ws ++ back)) p)) (join_app 𝓛 (mem u8) head (ws ++ back) b p) $
        rewrite ! 0 (λ (l : List ℕ). ‵ (octets l p)) same refl $
        by ! (octets_in 𝓛 b o (with_octets d ws) (sym (ap length same) ∙ omega (arith, long)))

    abbrev Lent : ℕ → GName → SProp 𝓤
    Lent k δ = sep 𝓤 (sem 𝓛 ((MutSlice (named 0) κ u8).own_val (record { ref_ptr = (b, offset); ghost_name = δ; now = front }) (slice_val (b, offset) k ∷ []))) (sep 𝓤 (A.lft κ q) (sem 𝓛 (follows the_row (Array u8 0) γ δ (with_octets d))))

    abbrev lent : ℕ → GName → Item 𝓤
    lent k δ = ‵ ((MutSlice (named 0) κ u8).own_val (record { ref_ptr = (b, offset); ghost_name = δ; now = front }) (slice_val (b, offset) k ∷ [])) ⊛ ‵ (flft κ q) ⊛ ‵ (follows the_row (Array u8 0) γ δ (with_octets d))

    lends : m ≤ 63 → (vs : List Val)
        → ent 𝓤 (sep 𝓤 (sem 𝓛 ((MutRef (named 0) κ the_row).own_val (record { ref_ptr = (b, o); ghost_name = γ; now = d }) vs)) (A.lft κ q)) (H.⇛ (ex 𝓤 (Lent m)))
    lends within vs =
        qed 𝓛 (‵ ((MutRef (named 0) κ the_row).own_val (record { ref_ptr = (b, o); ghost_name = γ; now = d }) vs) ∷ ‵ (flft κ q) ∷ []) ∵
        updating ! $ fsplit3 ! $ drop ! $ open_ref ! tt (mem the_row) {b = b} {o = o} $
        use1 𝓛 (given (length d.wire ≡ 64) (‵ (octets d.wire p) ⊛ raw (Left 𝓛 b o))) (octets_out 𝓛 b o d) $
        learn ! (λ long. split ! $
        let counted = count within long in
        let room : Room u8 (length front) = (omega (arith, counted), omega (arith, counted)) in
        rewrite ! 0 (λ (l : List ℕ). ‵ (octets l p)) (sym (take-append-drop 1 d.wire)) refl $
        use1 𝓛 (‵ (octets head p) ⊛ ‵ (octets (drop_list 1 d.wire) (at p (mem u8).size (length head)))) (cut_app 𝓛 (mem u8) head (drop_list 1 d.wire) b p) $
        split ! $ move ! (1 ∷ []) $
        rewrite ! 0 (λ (k : ℕ). ‵ (octets (drop_list 1 d.wire) k)) (after_head long) refl $
        rewrite ! 0 (λ (l : List ℕ). ‵ (octets l offset)) (sym (take-append-drop m (drop_list 1 d.wire))) refl $
        use1 𝓛 (‵ (octets front offset) ⊛ ‵ (octets back past)) (cut_app 𝓛 (mem u8) front back b offset) $
        -- [the octets lent; those after them; the length octet; what is left of the label; the borrow]
        split ! $ move ! (1 ∷ 3 ∷ []) $ join ! $ move ! (2 ∷ 0 ∷ []) $ join ! $ move ! (2 ∷ 3 ∷ 4 ∷ 1 ∷ 0 ∷ []) $ group ! 5 $
        use1 𝓛 (later (some (lent (length front))))
        (lends_Elements 𝓛 the_row u8 (with_octets d) (named 0) κ q b o b offset γ front room Rest (put within long) (the_row.coded.code d) (the_row.coded.code d)) $
        await ! tt $ pick ! (λ δ. rewrite ! 0 (λ (k : ℕ). lent k δ) counted refl $ now ! $ show ! (Lent m) δ $ done !))

pub octets_mut_spec : {M : Type 1} → statement M
octets_mut_spec 𝓤 𝓛 𝓜 𝓡 wired =
    let c = f.clauses 𝓛 𝓜.mem 𝓡.returns in
    let W = walk_of 𝓛 f.ended stayed c in
    proved 𝓛 f.ended stayed c 𝓜 𝓡
    (Goes-spent_ref 𝓛 1 (0 ∷ []) tt (plain (λ _. the_row)), (Goes-dropped 𝓛 1 (plain (λ _. usize)) yes (λ κs x f. refl), tt))
    f.Key.name code.function (code.unfolded 𝓤 𝓛.H 𝓜 𝓡 wired)
    (λ κs. (mut_vals, (uint_vals w64, tt))) (λ κs. (mut_Tells (named 0) κs.0 the_row, (uint_Tells w64, tt)))
    (λ κs qs bounds a g are.
    let back_to_m : a.1.0 + 1 - 1 ≡ a.1.0 = omega arith in
    let κ = κs.0 in let q = qs.0 in let r = a.0 in let m = a.1.0 in let b = r.ref_ptr.0 in let o = r.ref_ptr.1 in
    let y : W.Ghost = ((κs, qs, bounds, a, (mut_vals r, (vint w64 m ∷ [], tt))), tt) in
    qed 𝓛 (((‵ (flft κ q) ⊛ ‵ ftrue) ⊛ ‵ (owns (MutRef (named 0) κ the_row ∷ usize ∷ []) a (mut_vals r, (vint w64 m ∷ [], tt)))) ∷ raw (fact 𝓤 (m ≤ 63)) ∷ []) ∵
    move ! (1 ∷ []) $ heard ! _ (λ within. split ! $
    enter ! _ _ _ _ _ $
    alloc_all ! (λ l. pass_all ! refl ((tt, tt), ((tt, record { fits = are.1.0.1 }), tt)) $
    sets ! (bin ! (get ! refl) (lit ! tt) (record { fits = omega arith })) refl (tt, record { fits = omega arith }) $
    sets ! (addr ! (through ! refl (fld ! refl (stop !)))) refl (tt, tt) $
    sets ! (bin ! (get ! refl) (lit ! tt) tt) refl (tt, tt) $
    sets ! (is ! (bin ! (get ! refl) (lit ! tt) (omega arith)) (ap (vint w64) back_to_m)) refl (tt, record { fits = are.1.0.1 }) $
    sets ! (addr ! (through ! refl (stop !))) refl (tt, tt) $
    sets ! (agg ! (and_then ! (get ! refl) (and_then ! (get ! refl) (no_more !)))) refl (tt, (tt, (record { fits = are.1.0.1 }, tt))) $
    split ! $ move ! (2 ∷ []) $ fsplit ! $ move ! (0 ∷ 2 ∷ []) $
    use2 𝓛 (later (some (lent 𝓛 κ q b o r.ghost_name r.now m m))) (lends 𝓛 κ q b o r.ghost_name r.now m within (mut_vals r)) $
    await ! tt $ pick ! (λ δ.
    returns ! (look_at ! 0 refl) $ free_all ! refl $ keep ! (0 ∷ 2 ∷ []) $ split3 ! $
    suffices ! _ (ends_at 𝓛 f.ended stayed c y (slice_val (b, 1 + start o) m) (record { ref_ptr = (b, 1 + start o); ghost_name = δ; now = front 𝓛 κ q b o r.ghost_name r.now m }) (tt, (tt, tt)) (tt, (tt, tt))) $
    nothing ! $ nothing ! $ fjoin ! $ nothing ! $ fjoin ! $ join ! $ move ! (1 ∷ 3 ∷ []) $ join ! $ join ! $ frame ! $ says ! refl $ done !))))
