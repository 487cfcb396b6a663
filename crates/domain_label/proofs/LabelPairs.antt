-- A label that can be written and the octets after it, as a walk by hand meets the pair of them.
--     label_in, known_in      a label is made of a reference, and the pair of the label and the rest
--     known_told      the pair's machine value, and that both references have room
use mathlib.Core.Path.{◌≡◌, refl, ◌∙◌}
use mathlib.Core.List.{List, [], ◌∷◌, ◌++◌}
use lib.ListN.{length}
use seplogic.Ra.Ura.{Ura}
use mir.Syntax.{named}
use mir.Val.{Val, vstruct, of_list}
use base.Logic.{ent, sep}
use base.Fml.{Lft}
use types.Logic.{Logic, sem}
use types.Kit.{‵, ◌$◌, ◌∵◌, !, qed, move, use1, fjoin, fpack, feq_i, done}
use denote.Builtin.{u8}
use denote.Laws.{Is}
use denote.RattleType.{RattleType, Valss}
use denote.Slice.{Room, mut_slice_vals}
use denote.Steps.{nothing}
use denote.Struct.Declared.{shape}
use denote.Struct.Struct.{within}
use denote.Struct.Tuple.{Tuple, tuple_type}
use Rattle.domain_label.proofs.SlicePairs.{Octets, Sl, octets_val}
use Rattle.domain_label.specs.declared.label_mut.LabelMut.{LabelMut}
use Rattle.domain_label.specs.contracts.label_mut.LabelMut.{the_row, the_type}

abbrev pub Lm : Lft → RattleType
Lm κ = the_row (record { mir = named 0; lft = κ })

abbrev pub Known : Lft → RattleType
Known κ = Tuple (Lm κ ∷ Sl κ ∷ [])

abbrev pub label_val : LabelMut → Val
label_val d = vstruct (of_list (octets_val d.octets ∷ []))

abbrev pub known_val : LabelMut × Octets → Val
known_val x = vstruct (of_list (label_val x.0 ∷ octets_val x.1 ∷ []))

module _ (κ : Lft) where
  pub known_told : (x : LabelMut × Octets) (vs : List Val) → Is (Known κ) x vs
      → (vs ≡ known_val x ∷ []) × Room u8 (length x.0.octets.now) × Room u8 (length x.1.now)
  known_told x vs i =
      let l = i.1.1.0 in
      let s = i.1.1.1.0 in
      let inner = l.1.1.0 in
      let label : i.0.0 ≡ label_val x.0 ∷ [] = l.1.0 ∙ (λ j. vstruct (of_list (inner.0.0 j ++ [])) ∷ []) in
      (i.1.0 ∙ (λ j. vstruct (of_list (label j ++ (s.0.0 j ++ []))) ∷ []), inner.0.1, s.0.1)

  module _ {M : Type 1} {𝓤 : Ura M} (𝓛 : Logic 𝓤) where
    label_in : (d : LabelMut) → ent 𝓤 (sem 𝓛 ((Sl κ).own_val d.octets (mut_slice_vals d.octets))) (sem 𝓛 ((Lm κ).own_val d (label_val d ∷ [])))
    label_in d =
        qed 𝓛 (‵ ((Sl κ).own_val d.octets (mut_slice_vals d.octets)) ∷ []) ∵ nothing ! $ move ! (1 ∷ 0 ∷ []) $ fjoin ! $
        feq_i ! (List Val) (label_val d ∷ []) (label_val d ∷ []) refl $ fjoin ! $
        fpack ! (Valss (Sl κ ∷ [])) (within (shape (the_type (record { mir = named 0; lft = κ }))) (d.octets, tt) (label_val d ∷ [])) (mut_slice_vals d.octets, tt) $ done !

    pub known_in : (x : LabelMut × Octets) → ent 𝓤 (sep 𝓤 (sem 𝓛 ((Sl κ).own_val x.0.octets (mut_slice_vals x.0.octets))) (sem 𝓛 ((Sl κ).own_val x.1 (mut_slice_vals x.1)))) (sem 𝓛 ((Known κ).own_val x (known_val x ∷ [])))
    known_in x =
        qed 𝓛 (‵ ((Sl κ).own_val x.0.octets (mut_slice_vals x.0.octets)) ∷ ‵ ((Sl κ).own_val x.1 (mut_slice_vals x.1)) ∷ []) ∵
        use1 𝓛 (‵ ((Lm κ).own_val x.0 (label_val x.0 ∷ []))) (label_in x.0) $
        nothing ! $ move ! (2 ∷ 0 ∷ []) $ fjoin ! $ move ! (1 ∷ 0 ∷ []) $ fjoin ! $
        feq_i ! (List Val) (known_val x ∷ []) (known_val x ∷ []) refl $ fjoin ! $
        fpack ! (Valss (Lm κ ∷ Sl κ ∷ [])) (within (shape (tuple_type (Lm κ ∷ Sl κ ∷ []))) (x.0, (x.1, tt)) (known_val x ∷ [])) (label_val x.0 ∷ [], (mut_slice_vals x.1, tt)) $ done !
