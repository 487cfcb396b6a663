-- A label that can be written, in memory, is its reference to a slice, and back.
use mathlib.Core.Path.{◌≡◌, refl, sym}
use Prim.Native.Nat.{ℕ, zero, ◌+◌}
use native.Mathlib.Omega.{arith}
use mathlib.Core.List.{List, [], ◌∷◌}
use lib.ListN.{length, take}
use lib.Seq.{take_all}
use seplogic.Ra.Ura.{Ura}
use mir.Syntax.{Ty, Lifetime, ty_struct, ty_ref, mut, named}
use mir.Val.{Val}
use base.Logic.{SProp, ent, sep, ex, guard}
use base.Fraction.{full_share}
use base.Fml.{Fml, Lft, Incl, GName, Share, ftrue, fsep, flft, fobs, fbor}
use base.Stored.{coded_list}
use prog.Memory.{align, up}
use types.Logic.{Logic, sem}
use types.SemTy.{Arr, Body}
use types.Through.{hands_through}
use types.Kit.{‵, ◌⊛◌, raw, some, later, ◌$◌, ◌∵◌, !, qed, move, drop, split, split3, join, fsplit, fsplit3, fjoin}
use types.Kit.{fjoin3, fpick, fpack, feq_i, feq_l, use1, use2, use3, await, pick, updating, now, show, done, rewrite}
use types.Kit.{check}
use denote.Array.{Array}
use denote.Builtin.{u8}
use denote.Follow.{follows}
use denote.FollowSlice.{heres_id, slice_of}
use denote.Memory.{mem, part_at, part_of, cell_at, pointee}
use denote.RattleType.{RattleType}
use denote.Ref.{MutBor, at_last}
use denote.Slice.{MutSlice, Room, room, slice_ty, mut_slice_vals}
use denote.Steps.{nothing}
use denote.Struct.Declared.{shape}
use denote.Struct.Members.{Member, raw_tys}
use denote.Struct.Parts.{shape_of, Struct-left, left_Struct}
use denote.Struct.Recorded.{Recorded-part}
use denote.Struct.Struct.{Struct}
use denote.Through.{renamed}
use Rattle.domain_label.specs.declared.label_mut.LabelMut.{LabelMut}
use Rattle.domain_label.specs.contracts.label_mut.LabelMut.{the_row, the_type}
use Rattle.domain_label.specs.LendingLabel.{rewritten}

module _ (κ' : Lft) where
  abbrev pub Row : RattleType
  Row = the_row (record { mir = named 1; lft = κ' })

  abbrev pub Sl : RattleType
  Sl = MutSlice (named 1) κ' u8

  abbrev fields : List Member
  fields = record { row = Sl; ty = slice_ty (ty_ref (named 1) mut (pointee u8.written)) } ∷ []

  abbrev Tuple : RattleType
  Tuple = Struct (shape_of (the_type (record { mir = named 1; lft = κ' })).name fields)

  as_tuple : (v : LabelMut) (b o : ℕ) → part_at Row full_share v b o ≡ part_at Tuple full_share (v.octets, tt) b o
  as_tuple v b o =
      let T = the_type (record { mir = named 1; lft = κ' }) in
      Recorded-part (Struct (shape T)) T.D T.to T.to_one full_share v b o

-- where the reference lies, in a label at the offset o
abbrev pub start : ℕ → ℕ
start o = o + up (align (slice_ty (ty_ref (named 1) mut (pointee u8.written)))) zero

module _ {M : Type 1} {𝓤 : Ura M} (𝓛 : Logic 𝓤) (κ' : Lft) (b o : ℕ) where
  open 𝓛 use {H, A}

  -- what is left of the label while its reference is out
  abbrev Left : SProp 𝓤
  Left = H.left full_share (ty_struct [] (raw_tys (fields κ'))) (raw_tys (fields κ')) b o

  reference_out : (v : LabelMut) → ent 𝓤 (sem 𝓛 ((mem (Row κ')).own_at v b o)) (sep 𝓤 (sem 𝓛 ((mem (Sl κ')).own_at v.octets b (start o))) Left)
  reference_out v =
      qed 𝓛 (‵ (part_at (Row κ') full_share v b o) ∷ []) ∵
      rewrite ! 0 (λ (f : Fml). ‵ f) (as_tuple κ' v b o) refl $
      use1 𝓛 (‵ (fsep (part_at (Sl κ') full_share v.octets b (start o)) ftrue) ⊛ raw Left)
      (Struct-left 𝓛 full_share (the_type (record { mir = named 1; lft = κ' })).name (fields κ') ((λ x vs p. rw (p.0.0) tt), tt) (v.octets, tt) b o) $
      split ! $ fsplit ! $ move ! (1 ∷ []) $ drop ! $ done !

  reference_in : (v : LabelMut) → ent 𝓤 (sep 𝓤 (sem 𝓛 ((mem (Sl κ')).own_at v.octets b (start o))) Left) (sem 𝓛 ((mem (Row κ')).own_at v b o))
  reference_in v =
      qed 𝓛 (‵ (part_at (Sl κ') full_share v.octets b (start o)) ∷ raw Left ∷ []) ∵
      nothing ! $ move ! (1 ∷ 0 ∷ []) $ fjoin ! $
      use2 𝓛 (‵ (part_at (Tuple κ') full_share (v.octets, tt) b o))
      (left_Struct 𝓛 full_share (the_type (record { mir = named 1; lft = κ' })).name (fields κ') (v.octets, tt) b o) $
      rewrite ! 0 (λ (f : Fml). ‵ f) (sym (as_tuple κ' v b o)) refl $ done !

  module _ (x : MutBor (List ℕ)) where
    abbrev n : ℕ
    n = length x.now

    abbrev pub Held : GName → Fml
    Held δ = Body (Arr (mem u8) n) x.ref_ptr.0 x.ref_ptr.1 δ

    abbrev Cell : Fml
    Cell = cell_at full_share (Sl κ').mir (mut_slice_vals x) b (start o)

    abbrev Rest : SProp 𝓤
    Rest = sep 𝓤 (sem 𝓛 (fsep Cell (room u8 n))) Left

    abbrev Has : List ℕ → SProp 𝓤
    Has ws = sep 𝓤 (A.obs x.ghost_name ((coded_list u8.coded).code ws)) (sep 𝓤 (A.bor κ' (Held x.ghost_name)) Rest)

    counts : (ws : List ℕ) → ent 𝓤 (sem 𝓛 ((Arr (mem u8) n).own_at ws x.ref_ptr.0 x.ref_ptr.1)) (guard 𝓤 (length ws ≡ n) (sem 𝓛 ((Arr (mem u8) n).own_at ws x.ref_ptr.0 x.ref_ptr.1)))
    counts ws =
        qed 𝓛 (‵ ((Arr (mem u8) n).own_at ws x.ref_ptr.0 x.ref_ptr.1) ∷ []) ∵
        fsplit ! $ feq_l ! (λ e. check ! e $ feq_i ! ℕ (length ws) n e $ done !)

    slice_out : ent 𝓤 (sep 𝓤 (sem 𝓛 ((mem (Sl κ')).own_at x b (start o))) Left) (Has x.now)
    unfolding part_of
    slice_out =
        qed 𝓛 (‵ ((mem (Sl κ')).own_at x b (start o)) ∷ raw Left ∷ []) ∵
        fpick ! (λ vs. fsplit ! $ move ! (1 ∷ []) $ fsplit3 ! $ fsplit ! $ feq_l ! (λ e.
        rewrite ! 3 (λ (us : List Val). ‵ (cell_at full_share (Sl κ').mir us b (start o))) e refl $
        rewrite ! 1 (λ (l : List ℕ). ‵ (fobs x.ghost_name ((coded_list u8.coded).code l))) (heres_id u8 x.now) refl $
        move ! (3 ∷ 0 ∷ []) $ fjoin ! $ move ! (0 ∷ 3 ∷ []) $ join ! $ move ! (1 ∷ 2 ∷ 0 ∷ []) $ done !))

    slice_in : (ws : List ℕ) → length ws ≡ n → ent 𝓤 (Has ws) (sep 𝓤 (sem 𝓛 ((mem (Sl κ')).own_at (at_last x ws) b (start o))) Left)
    unfolding part_of
    slice_in ws e =
        qed 𝓛 (‵ (fobs x.ghost_name ((coded_list u8.coded).code ws)) ∷ ‵ (fbor κ' (Held x.ghost_name)) ∷ ‵ (fsep Cell (room u8 n)) ∷ raw Left ∷ []) ∵
        rewrite ! 0 (λ (l : List ℕ). ‵ (fobs x.ghost_name ((coded_list u8.coded).code l))) (sym (heres_id u8 ws)) refl $
        rewrite ! 1 (λ (k : ℕ). ‵ (fbor κ' (Body (Arr (mem u8) k) x.ref_ptr.0 x.ref_ptr.1 x.ghost_name))) (sym e) refl $
        rewrite ! 2 (λ (k : ℕ). ‵ (fsep (cell_at full_share (Sl κ').mir (mir.Val.vstruct (mir.Val.vcons (mir.Val.vptr x.ref_ptr.0 x.ref_ptr.1) (mir.Val.vcons (mir.Val.vint mir.Syntax.w64 k) mir.Val.vnil)) ∷ []) b (start o)) (room u8 k))) (sym e) refl $
        move ! (2 ∷ []) $ fsplit ! $ move ! (1 ∷ []) $
        feq_i ! (List Val) (mut_slice_vals (at_last x ws)) (mut_slice_vals (at_last x ws)) refl $ fjoin ! $
        move ! (0 ∷ 2 ∷ 3 ∷ []) $ fjoin3 ! $ move ! (1 ∷ 0 ∷ []) $ fjoin ! $
        fpack ! (List Val) (λ us. fsep (cell_at full_share (Sl κ').mir us b (start o)) ((Sl κ').own_val (at_last x ws) us)) (mut_slice_vals (at_last x ws)) $ done !

  -- the octets are lent for all of κ, and the label follows them
  module _ (κ : Lft) (inc : Incl κ κ') (q : Share) (γ : GName) (d : LabelMut) (rm : Room u8 (length d.octets.now)) where
    abbrev pub Lent : GName → SProp 𝓤
    Lent δ = sep 𝓤 (sem 𝓛 ((MutSlice (named 0) κ u8).own_val (renamed d.octets δ) (mut_slice_vals d.octets))) (sep 𝓤 (A.lft κ q) (sem 𝓛 (follows (Row κ') (Array u8 0) γ δ (rewritten d))))

    back : (ws : List ℕ) → length ws ≡ length d.octets.now → ent 𝓤 (Has d.octets ws) (sem 𝓛 ((mem (Row κ')).own_at (rewritten d ws) b o))
    back ws e =
        let short = d.short in
        let same : take 63 ws ≡ ws = take_all 63 ws (omega (arith, short, e)) in
        qed 𝓛 (raw (Has d.octets ws) ∷ []) ∵
        use1 𝓛 (‵ ((mem (Sl κ')).own_at (at_last d.octets ws) b (start o)) ⊛ raw Left) (slice_in d.octets ws e) $ split ! $
        rewrite ! 0 (λ (l : List ℕ). ‵ ((mem (Sl κ')).own_at (at_last d.octets l) b (start o))) (sym same) refl $
        use2 𝓛 (‵ ((mem (Row κ')).own_at (rewritten d ws) b o)) (reference_in (rewritten d ws)) $ done !

    out : ent 𝓤 (sem 𝓛 ((mem (Row κ')).own_at d b o)) (Has d.octets d.octets.now)
    out =
        qed 𝓛 (‵ ((mem (Row κ')).own_at d b o) ∷ []) ∵
        use1 𝓛 (‵ ((mem (Sl κ')).own_at d.octets b (start o)) ⊛ raw Left) (reference_out d) $
        use1 𝓛 (raw (Has d.octets d.octets.now)) (slice_out d.octets) $ done !

    pub lends : ent 𝓤 (sep 𝓤 (A.obs γ ((Row κ').coded.code d)) (sep 𝓤 (A.bor κ (Body (mem (Row κ')) b o γ)) (A.lft κ q))) (H.⇛ (ex 𝓤 Lent))
    lends =
        qed 𝓛 (‵ (fobs γ ((Row κ').coded.code d)) ∷ ‵ (fbor κ (Body (mem (Row κ')) b o γ)) ∷ ‵ (flft κ q) ∷ []) ∵ updating ! $
        use3 𝓛 (later (some (λ (δ : GName). ‵ (fobs δ ((coded_list u8.coded).code d.octets.now)) ⊛ ‵ (fbor κ (Held d.octets δ)) ⊛ ‵ (flft κ q) ⊛ ‵ (follows (Row κ') (Array u8 0) γ δ (rewritten d)))))
        (hands_through 𝓛 (mem (Row κ')) (Arr (mem u8) (length d.octets.now)) (rewritten d) κ κ' inc b o d.octets.ref_ptr.0 d.octets.ref_ptr.1 γ d.octets.ghost_name (Rest d.octets) (λ ws. length ws ≡ length d.octets.now) (counts d.octets) back q d d.octets.now out) $
        await ! tt $ pick ! (λ δ. split3 ! $
        use2 𝓛 (‵ ((MutSlice (named 0) κ u8).own_val (renamed d.octets δ) (mut_slice_vals d.octets))) (slice_of 𝓛 u8 (named 0) κ d.octets.ref_ptr.0 d.octets.ref_ptr.1 δ d.octets.now rm) $ now ! $ show ! Lent δ $ done !)
