-- `cut` at a call in a walk by hand.
--     Cut, at_cut      its contract, and what it is called with
--     cut_goes         what it is handed.        cut_gives      what it leaves: `SlicePairs`' `came`
use mathlib.Core.Path.{◌≡◌, refl}
use mathlib.Core.List.{List, [], ◌∷◌, ◌++◌}
use Prim.Native.Nat.{ℕ, ◌<◌, ◌≤◌, ◌^◌}
use lib.ListN.{length, take, drop as drop_list}
use seplogic.Ra.Ura.{Ura}
use mir.Syntax.{w64}
use mir.Val.{Val, vint}
use base.Logic.{SProp, ent, sep, ex, emp, id⊢}
use base.Fml.{Fml, Lft, Share, flft}
use prog.Memory.{Memory}
use prog.Routine.{Routine}
use contract.Monad.{Fun, fact, fact_i}
use types.Logic.{Logic, sem}
use types.Kit.{Item, ‵, raw, ◌$◌, ◌∵◌, !, qed, by, move, use0, use1, join, fjoin, feq_i, flt_i, done}
use denote.Array.{Array}
use denote.Builtin.{u8}
use denote.Follow.{follows_both}
use denote.Slice.{mut_slice_vals}
use denote.Steps.{nothing}
use denote.Triple.Clauses.{Lasts, lasts}
use denote.Triple.Spec.{triple_of}
use denote.Triple.Statement.{Contract}
use Rattle.domain_label.proofs.SlicePairs.{Octets, Sl, Has, came, returned, gives}
use Rattle.domain_label.specs.contracts.split_mut.cut as cut

module _ {M : Type 1} {𝓤 : Ura M} (𝓛 : Logic 𝓤) (at_mem : Memory → SProp 𝓤) (run : Routine → Fun 𝓤) where
  open 𝓛 use {H, A}

  abbrev pub Cut : Contract 𝓤
  Cut = triple_of 𝓛 cut.signature (cut.spec 𝓛 at_mem run)

  module _ (κ : Lft) (q : Share) (r : Octets) (m : ℕ) where
    abbrev pub at_cut : Cut.Ghost
    at_cut = (((κ, tt), (q, tt), tt, (r, (m, tt)), (mut_slice_vals r, (vint w64 m ∷ [], tt))), tt)

    pub cut_goes : m < 2 ^ 64 → m ≤ length r.now → ent 𝓤 (sep 𝓤 (sem 𝓛 ((Sl κ).own_val r (mut_slice_vals r))) (A.lft κ q)) (Cut.pre at_cut)
    cut_goes fits le =
        qed 𝓛 (‵ ((Sl κ).own_val r (mut_slice_vals r)) ∷ ‵ (flft κ q) ∷ []) ∵
        use0 𝓛 (raw (fact 𝓤 (m ≤ length r.now))) (fact_i 𝓤 (m ≤ length r.now) (emp 𝓤) le) $
        nothing ! $ flt_i ! m (2 ^ 64) fits $ feq_i ! (List Val) (vint w64 m ∷ []) (vint w64 m ∷ []) refl $ fjoin ! $
        fjoin ! $
        -- [the number; the fact; the octets; the token]
        move ! (2 ∷ 0 ∷ []) $ fjoin ! $ nothing ! $ move ! (3 ∷ 0 ∷ []) $ join ! $ join ! $ done !

    abbrev pub After : Octets × Octets → Fml
    After p = follows_both (Array u8 0) (Array u8 0) (Array u8 0) r.ghost_name p.0.ghost_name p.1.ghost_name ◌++◌

    abbrev pub Parts : Octets × Octets → Type 0
    Parts p = (p.0.now ≡ take m r.now) × (p.1.now ≡ drop_list m r.now)

    abbrev pub Left : Lasts cut.ended (κ, tt) (r, (m, tt)) → Fml
    Left = lasts cut.ended (κ, tt) (r, (m, tt))

    abbrev pub cut_came : Val → Item 𝓤
    cut_came v = came 𝓛 κ q Left After Parts v

    pub cut_gives : (v : Val) → ent 𝓤 (Cut.post at_cut v) (H.⇛ (ex 𝓤 (Has 𝓛 κ q Left After Parts v)))
    cut_gives v =
        qed 𝓛 (raw (Cut.post at_cut v) ∷ []) ∵ use1 𝓛 (returned 𝓛 κ q Left After Parts v) (id⊢ 𝓤 _) $
        by ! (gives 𝓛 κ q Left After Parts v)
