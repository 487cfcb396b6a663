-- An owned label in memory is its 64 octets side by side, and back.
use mathlib.Core.Path.{◌≡◌, refl, sym}
use Prim.Native.Nat.{ℕ, zero, ◌+◌}
use mathlib.Core.List.{List, [], ◌∷◌}
use lib.ListN.{length}
use seplogic.Ra.Ura.{Ura}
use mir.Syntax.{Ty, ty_array, ty_int, ty_struct, w8}
use base.Logic.{SProp, ent, sep, guard}
use base.Fraction.{full_share}
use base.Fml.{Fml, ftrue, fsep, feq}
use prog.Memory.{align, up}
use types.Logic.{Logic, sem}
use types.SemTy.{cells}
use types.Kit.{‵, ◌⊛◌, raw, ◌$◌, ◌∵◌, !, qed, move, drop, split, fsplit, fjoin, use1, use2, done, rewrite, feq_l, feq_i, check}
use denote.Array.{Array}
use denote.ArrayMemory.{Array-apart, Array-whole}
use denote.Builtin.{u8}
use denote.Index.{row, whole_in, whole_out}
use denote.Memory.{mem, part_at}
use denote.Param.Laws.{Laws, array_laws, of_field}
use denote.Param.Shared.{copy_shared}
use denote.RattleType.{RattleType}
use denote.Steps.{nothing}
use denote.Struct.Declared.{shape}
use denote.Struct.Field.{u8-field}
use denote.Struct.Laws.{u8-laws, u8-copy}
use denote.Struct.Members.{Member, raw_tys}
use denote.Struct.Parts.{shape_of, Struct-left, left_Struct}
use denote.Struct.Recorded.{Recorded-part}
use denote.Struct.Struct.{Struct}
use Rattle.domain_label.specs.contracts.owned.OwnedLabel.{the_row, the_type}

abbrev octet_laws : Laws u8
octet_laws = of_field u8-field u8-laws refl (copy_shared u8-field u8-copy)

abbrev array_ty : Ty
array_ty = ty_array (ty_int w8) 64

-- where the octets begin, in a label at the offset o
abbrev pub start : ℕ → ℕ
start o = o + up (align array_ty) zero

abbrev fields : List Member
fields = record { row = Array u8 64; ty = array_ty } ∷ []

abbrev Tuple : RattleType
Tuple = Struct (shape_of the_type.name fields)

as_tuple : (v : the_row.Denot) (b o : ℕ)
    → part_at the_row full_share v b o ≡ part_at Tuple full_share (v.wire, tt) b o
as_tuple v b o = Recorded-part (Struct (shape the_type)) the_type.D the_type.to the_type.to_one full_share v b o

module _ {M : Type 1} {𝓤 : Ura M} (𝓛 : Logic 𝓤) (b o : ℕ) where
  open 𝓛 use {H}

  -- what is left of the label while its octets are out
  abbrev pub Left : SProp 𝓤
  Left = H.left full_share (ty_struct [] (raw_tys fields)) (raw_tys fields) b o

  pub octets_out : (v : the_row.Denot) → ent 𝓤 (sem 𝓛 ((mem the_row).own_at v b o))
      (guard 𝓤 (length v.wire ≡ 64) (sep 𝓤 (sem 𝓛 (cells (mem u8) v.wire b (start o))) Left))
  octets_out v =
      qed 𝓛 (‵ (part_at the_row full_share v b o) ∷ []) ∵
      rewrite ! 0 (λ (f : Fml). ‵ f) (as_tuple v b o) refl $
      use1 𝓛 (‵ (fsep (part_at (Array u8 64) full_share v.wire b (start o)) ftrue) ⊛ raw Left)
      (Struct-left 𝓛 full_share the_type.name fields ((array_laws u8 octet_laws 64).single, tt) (v.wire, tt) b o) $
      split ! $ fsplit ! $ move ! (1 ∷ []) $ drop ! $
      use1 𝓛 (‵ (fsep (feq ℕ (length v.wire) 64) (row u8 full_share v.wire b (start o))))
      (Array-apart 𝓛 u8 full_share tt 64 v.wire b (start o)) $ fsplit ! $ feq_l ! (λ long.
      use1 𝓛 (‵ (cells (mem u8) v.wire b (start o))) (whole_in 𝓛 u8 v.wire b (start o)) $
      check ! long $ done !)

  pub octets_in : (v : the_row.Denot) → length v.wire ≡ 64
      → ent 𝓤 (sep 𝓤 (sem 𝓛 (cells (mem u8) v.wire b (start o))) Left) (sem 𝓛 ((mem the_row).own_at v b o))
  octets_in v long =
      qed 𝓛 (‵ (cells (mem u8) v.wire b (start o)) ∷ raw Left ∷ []) ∵
      use1 𝓛 (‵ (row u8 full_share v.wire b (start o))) (whole_out 𝓛 u8 v.wire b (start o)) $
      feq_i ! ℕ (length v.wire) 64 long $ fjoin ! $
      use1 𝓛 (‵ (part_at (Array u8 64) full_share v.wire b (start o)))
      (Array-whole 𝓛 u8 full_share 64 v.wire b (start o)) $
      nothing ! $ move ! (1 ∷ 0 ∷ []) $ fjoin ! $
      use2 𝓛 (‵ (part_at Tuple full_share (v.wire, tt) b o))
      (left_Struct 𝓛 full_share the_type.name fields (v.wire, tt) b o) $
      rewrite ! 0 (λ (f : Fml). ‵ f) (sym (as_tuple v b o)) refl $ done !
