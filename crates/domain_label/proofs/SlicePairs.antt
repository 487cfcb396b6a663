-- A pair of references to octets, as a walk by hand meets it.
--     given_up       a reference that ends says its last value
--     two_out, two_in      the pair's two references, and back
--     Has, came, gives      what a call that returns such a pair leaves: both references, the token, and the
--                           call's own clauses
use mathlib.Core.Path.{◌≡◌, refl, ap, ◌∙◌}
use mathlib.Core.List.{List, [], ◌∷◌, ◌++◌}
use Prim.Native.Nat.{ℕ}
use lib.ListN.{length}
use seplogic.Ra.Ura.{Ura}
use mir.Syntax.{named}
use mir.Val.{Val, vstruct, of_list}
use base.Logic.{SProp, ent, sep, ex, guard}
use base.Fml.{Fml, Lft, Share, ftrue, flft, fobs}
use types.Logic.{Logic, sem}
use types.Kit.{Item, mean, ‵, ◌⊛◌, some, later, given, ◌$◌, ◌∵◌, !, qed, move, keep, drop, use1, split, pick, learn, rewrite, fsplit, fsplit3, fjoin, fpick, fpack, feq_l, feq_i, check, show, await, updating, now, done}
use types.Tokens.{name_done}
use denote.Array.{Array}
use denote.Builtin.{u8}
use denote.FollowSlice.{heres_id}
use denote.Laws.{Is, shows}
use denote.RattleType.{RattleType, Valss}
use denote.Ref.{MutBor}
use denote.Slice.{MutSlice, Room, mut_slice_vals, slice_val}
use denote.Steps.{only, nothing, peeks}
use denote.Struct.Declared.{shape}
use denote.Struct.Struct.{within}
use denote.Struct.Tuple.{Tuple, tuple_type}

abbrev pub Octets : Type 0
Octets = MutBor (List ℕ)

abbrev pub Sl : Lft → RattleType
Sl κ = MutSlice (named 0) κ u8

abbrev pub Pair : Lft → RattleType
Pair κ = Tuple (Sl κ ∷ Sl κ ∷ [])

-- the machine value of a reference, and that of a pair of them
abbrev pub octets_val : Octets → Val
octets_val x = slice_val x.ref_ptr (length x.now)

abbrev pub pair_val : Octets × Octets → Val
pair_val p = vstruct (of_list (octets_val p.0 ∷ octets_val p.1 ∷ []))

module _ {M : Type 1} {𝓤 : Ura M} (𝓛 : Logic 𝓤) (κ : Lft) where
  open 𝓛 use {H, A}

  pub given_up : (x : Octets) (vs : List Val) → ent 𝓤 (sem 𝓛 ((Sl κ).own_val x vs)) (H.⇛ (A.res x.ghost_name ((Array u8 0).coded.code x.now)))
  given_up x vs =
      qed 𝓛 (‵ ((Sl κ).own_val x vs) ∷ []) ∵ updating ! $ fsplit3 ! $ drop ! $
      rewrite ! 0 (λ (l : List ℕ). ‵ (fobs x.ghost_name ((Array u8 0).coded.code l))) (heres_id u8 x.now) refl $
      name_done ! tt $ now ! $ keep ! (0 ∷ []) $ done !

  -- what the pair's machine values are, and that both references have room
  abbrev pub Rooms : Octets × Octets → Type 0
  Rooms p = Room u8 (length p.0.now) × Room u8 (length p.1.now)

  pub two_out : (p : Octets × Octets) (vs : List Val) → ent 𝓤 (sem 𝓛 ((Pair κ).own_val p vs))
      (guard 𝓤 ((vs ≡ pair_val p ∷ []) × Rooms p) (sep 𝓤 (sem 𝓛 ((Sl κ).own_val p.0 (mut_slice_vals p.0))) (sem 𝓛 ((Sl κ).own_val p.1 (mut_slice_vals p.1)))))
  two_out p vs =
      qed 𝓛 (‵ ((Pair κ).own_val p vs) ∷ []) ∵ fpick ! (λ vss. fsplit ! $ feq_l ! (λ e. fsplit ! $
      peeks ! (Sl κ) (Is (Sl κ)) (shows 𝓛 (Sl κ)) p.0 vss.0 (λ i. move ! (1 ∷ []) $ fsplit ! $
      peeks ! (Sl κ) (Is (Sl κ)) (shows 𝓛 (Sl κ)) p.1 vss.1.0 (λ j.
      -- [the second; true; the first]
      rewrite ! 0 (λ (us : List Val). ‵ ((Sl κ).own_val p.1 us)) j.0.0 refl $
      rewrite ! 2 (λ (us : List Val). ‵ ((Sl κ).own_val p.0 us)) i.0.0 refl $
      check ! (e ∙ (λ k. vstruct (of_list (i.0.0 k ++ (j.0.0 k ++ []))) ∷ []), (i.0.1, j.0.1)) $
      keep ! (2 ∷ 0 ∷ []) $ done !))))

  pub two_in : (p : Octets × Octets) → ent 𝓤 (sep 𝓤 (sem 𝓛 ((Sl κ).own_val p.0 (mut_slice_vals p.0))) (sem 𝓛 ((Sl κ).own_val p.1 (mut_slice_vals p.1)))) (sem 𝓛 ((Pair κ).own_val p (pair_val p ∷ [])))
  two_in p =
      qed 𝓛 (‵ ((Sl κ).own_val p.0 (mut_slice_vals p.0)) ∷ ‵ ((Sl κ).own_val p.1 (mut_slice_vals p.1)) ∷ []) ∵
      nothing ! $ move ! (2 ∷ 0 ∷ []) $ fjoin ! $ move ! (1 ∷ 0 ∷ []) $ fjoin ! $
      feq_i ! (List Val) (pair_val p ∷ []) (pair_val p ∷ []) refl $ fjoin ! $
      fpack ! (Valss (Sl κ ∷ Sl κ ∷ [])) (within (shape (tuple_type (Sl κ ∷ Sl κ ∷ []))) (p.0, (p.1, tt)) (pair_val p ∷ [])) (mut_slice_vals p.0, (mut_slice_vals p.1, tt)) $ done !

  -- A call returned v: it is such a pair. L is what it says of its parameters at exit, P what the caller's name
  -- follows, and φ the call's other clauses.
  module _ (q : Share) {W : Type 0} (L : W → Fml) (P : Octets × Octets → Fml) (φ : Octets × Octets → Type 0) (v : Val) where
    abbrev pub returned : Item 𝓤
    returned = later (some (λ (p : Octets × Octets). ((‵ (flft κ q) ⊛ ‵ ftrue) ⊛ ‵ ((Pair κ).own_val p (v ∷ []))) ⊛ some (λ (w : W). ‵ (L w) ⊛ (‵ (P p) ⊛ given (φ p) (‵ ftrue)))))

    abbrev pub Told : Octets × Octets → Type 0
    Told p = (v ≡ pair_val p) × Rooms p × φ p

    abbrev pub Has : Octets × Octets → SProp 𝓤
    Has p = guard 𝓤 (Told p) (sep 𝓤 (sem 𝓛 ((Sl κ).own_val p.0 (mut_slice_vals p.0))) (sep 𝓤 (sem 𝓛 ((Sl κ).own_val p.1 (mut_slice_vals p.1))) (sep 𝓤 (A.lft κ q) (sem 𝓛 (P p)))))

    -- the same as an item of a walk
    abbrev pub came : Item 𝓤
    came = later (some (λ (p : Octets × Octets). given (Told p) (‵ ((Sl κ).own_val p.0 (mut_slice_vals p.0)) ⊛ ‵ ((Sl κ).own_val p.1 (mut_slice_vals p.1)) ⊛ ‵ (flft κ q) ⊛ ‵ (P p))))

    pub gives : ent 𝓤 (mean 𝓛 returned) (H.⇛ (ex 𝓤 Has))
    gives =
        qed 𝓛 (returned ∷ []) ∵ updating ! $ await ! tt $ pick ! (λ p. split ! $ split ! $ split ! $
        -- [the token; true; the pair; what is said of the parameters, and the clauses]
        move ! (3 ∷ []) $ pick ! (λ w. split ! $ drop ! $ split ! $ move ! (1 ∷ []) $ learn ! (λ ok.
        -- [true; what the name follows; the token; true; the pair]
        move ! (4 ∷ []) $
        use1 𝓛 (given ((v ∷ [] ≡ pair_val p ∷ []) × Rooms p) (‵ ((Sl κ).own_val p.0 (mut_slice_vals p.0)) ⊛ ‵ ((Sl κ).own_val p.1 (mut_slice_vals p.1)))) (two_out p (v ∷ [])) $ learn ! (λ t. split ! $
        -- [the first; the second; true; what the name follows; the token; true]
        now ! $ show ! Has p $ check ! (ap only t.0, t.1, ok) $ keep ! (0 ∷ 1 ∷ 4 ∷ 3 ∷ []) $ done !))))
