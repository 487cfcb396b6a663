-- `as_slice_mut` lends what the label's reference is to. The borrow checker shows no write-back clause past a ghost
-- field, so this proof walks the code by hand.
use mathlib.Core.Path.{refl, sym}
use native.Mathlib.Omega.{arith}
use mathlib.Core.List.{List, [], ◌∷◌}
use lib.ListN.{length}
use base.Fraction.{full_share}
use base.Fml.{GName, ftrue, flft}
use denote.Array.{Array}
use denote.Builtin.{RefMutOf, u8}
use denote.Exit.{no}
use denote.Follow.{follows}
use denote.Laws.{shows}
use denote.Memory.{cell_at}
use denote.Ref.{MutRef, mut_vals, mut_Tells}
use denote.Signature.{plain, named_lft}
use denote.Slice.{MutSlice, slice_val, mut_slice_vals, Room}
use denote.Steps.{nothing, opens, closes, peeks}
use denote.Through.{renamed}
use denote.Triple.Walked.{Stays, says, stay_dropped, walk_of, ends_at, Goes-spent_ref}
use mir.Syntax.{named}
use mir.Val.{Val}
use types.ByLocal.{alloc_all, pass_all, free_all, look_at, get, through, sets}
use types.Kit.{‵, ◌⊛◌, some, later, ◌$◌, ◌∵◌, !, qed, done, move, keep, use3, split, split3, join, fsplit3, fjoin}
use types.Kit.{pick, await, rewrite, suffices, frame, group}
use types.Part.{whole, sub, look_in, agg}
use types.Run.{enter, of_opd, addr, load, stop, fld, hop, no_more, and_then, returns}
use Rattle.std.proofs.raw_atomic.Walks.{proved}
use Rattle.domain_label.proofs.RawReads.{raw_in}
use Rattle.domain_label.proofs.MutMemory.{lends, Row}
use Rattle.domain_label.proofs.label_mut.LabelMut.TheLaws.{lowers}
use Rattle.domain_label.specs.LendingLabel.{rewritten}
use Rattle.domain_label.specs.contracts.label_mut.LabelMut.{the_row}
use Rattle.domain_label.specs.contracts.label_mut.LabelMut.as_slice_mut as f
use Rattle.domain_label.proofs.label_mut.LabelMut.as_slice_mut.Statement.{statement}
use Rattle.domain_label.proofs.label_mut.LabelMut.as_slice_mut.Code as code

abbrev stayed : Stays f.ended.signature.params f.ended.kept
stayed = (stay_dropped (RefMutOf (0 ∷ []) tt (plain (λ κs. the_row (named_lft 2 1 tt κs))) (λ _. tt)) no, tt)

pub as_slice_mut_spec : {M : Type 1} → statement M
as_slice_mut_spec 𝓤 𝓛 𝓜 𝓡 wired =
    let c = f.clauses 𝓛 𝓜.mem 𝓡.returns in
    let W = walk_of 𝓛 f.ended stayed c in
    proved 𝓛 f.ended stayed c 𝓜 𝓡
    (Goes-spent_ref 𝓛 2 (0 ∷ []) tt (plain (λ κs. the_row (named_lft 2 1 tt κs))), tt)
    f.Key.name code.function (code.unfolded 𝓤 𝓛.H 𝓜 𝓡 wired)
    (λ κs. (mut_vals, tt)) (λ κs. (mut_Tells (named 0) κs.0 (Row κs.1.0), tt))
    (λ κs qs bounds a g are.
    let κ = κs.0 in let κ' = κs.1.0 in let q = qs.0 in let r = a.0 in
    let b = r.ref_ptr.0 in let o = r.ref_ptr.1 in let d = r.now in let len = length d.octets.now in let short = d.short in
    let R = Row κ' in
    let room : Room u8 len = (omega (arith, short), omega (arith, short)) in
    let y : W.Ghost = ((κs, qs, bounds, a, (mut_vals r, tt)), tt) in
    qed 𝓛 (((‵ (flft κ q) ⊛ ‵ (flft κ' qs.1.0) ⊛ ‵ ftrue) ⊛ ‵ ((MutRef (named 0) κ R).own_val r (mut_vals r)) ⊛ ‵ ftrue) ∷ ‵ ftrue ∷ []) ∵
    split ! $ split ! $ move ! (2 ∷ []) $ split ! $ keep ! (0 ∷ 2 ∷ 3 ∷ []) $
    enter ! _ _ _ _ _ $ alloc_all ! (λ l. pass_all ! refl ((tt, tt), tt) $
    -- [r; the token of κ; that of κ']
    fsplit3 ! $ move ! (1 ∷ 2 ∷ 3 ∷ []) $ opens ! tt R {h = d} b o (λ us.
    move ! (1 ∷ []) $ peeks ! R _ (shows 𝓛 R) d us (λ is.
    let Cell = λ (ws : List Val). ‵ (cell_at full_share R.mir ws b o) in
    let word = (lowers (record { mir = named 1; lft = κ' })).val_is d us is in
    rewrite ! 1 Cell word refl $
    sets ! (of_opd ! (load ! (through ! refl (fld ! refl (fld ! refl (stop !)))) (look_in ! 1 (sub ! 1 refl (sub ! 0 refl (whole !)))))) refl (tt, record { fits = room.0 }) $
    sets ! (addr ! (through ! refl (fld ! refl (fld ! refl (hop ! (raw_in 𝓛 ! 1 (sub ! 0 refl (sub ! 0 refl (whole !)))) (stop !)))))) refl (tt, tt) $
    sets ! (agg ! (and_then ! (get ! refl) (and_then ! (get ! refl) (no_more !)))) refl (tt, (tt, (record { fits = room.0 }, tt))) $
    rewrite ! 1 Cell (sym word) refl $ move ! (1 ∷ 0 ∷ []) $ closes ! tt R d us b o $
    use3 𝓛 (later (some (λ (δ : GName). ‵ ((MutSlice (named 0) κ u8).own_val (renamed d.octets δ) (mut_slice_vals d.octets)) ⊛ ‵ (flft κ q) ⊛ ‵ (follows R (Array u8 0) r.ghost_name δ (rewritten d)))))
    (lends 𝓛 κ' b o κ bounds.0 q r.ghost_name d room) $ await ! tt $ pick ! (λ δ. split3 ! $
    returns ! (look_at ! 0 refl) $ free_all ! refl $
    suffices ! _ (ends_at 𝓛 f.ended stayed c y (slice_val d.octets.ref_ptr len) (renamed d.octets δ) (tt, tt) (tt, tt)) $
    keep ! (1 ∷ 4 ∷ 0 ∷ 2 ∷ []) $ join ! $ nothing ! $ nothing ! $ fjoin ! $ move ! (1 ∷ 0 ∷ 2 ∷ []) $ group ! 3 $ frame ! $ says ! refl $ done !)))))
