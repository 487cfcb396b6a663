-- `past_first` at a call in a walk by hand.
--     Past, at_past      its contract, and what it is called with
--     past_goes         what it is handed.        past_gives      what it leaves: `SlicePairs`' `came`
use mathlib.Core.Path.{◌≡◌, refl}
use mathlib.Core.List.{List, [], ◌∷◌}
use Prim.Native.Nat.{ℕ, ◌<◌, ◌^◌}
use lib.ListN.{length, take, drop as drop_list}
use seplogic.Ra.Ura.{Ura}
use mir.Syntax.{w64}
use mir.Val.{Val, vint}
use base.Logic.{SProp, ent, sep, ex, emp, id⊢}
use base.Fml.{Fml, Lft, Share, flft}
use prog.Memory.{Memory}
use prog.Routine.{Routine}
use contract.Monad.{Fun, fact, fact_i}
use types.Logic.{Logic, sem}
use types.Kit.{Item, ‵, raw, ◌$◌, ◌∵◌, !, qed, by, move, use0, use1, join, fjoin, feq_i, flt_i, done}
use denote.Array.{Array}
use denote.Builtin.{u8}
use denote.Follow.{follows_both}
use denote.Slice.{mut_slice_vals}
use denote.Steps.{nothing}
use denote.Triple.Clauses.{Lasts, lasts}
use denote.Triple.Spec.{triple_of}
use denote.Triple.Statement.{Contract}
use Rattle.domain_label.proofs.SlicePairs.{Octets, Sl, Has, came, returned, gives}
use Rattle.domain_label.specs.LendingParts.{after_head}
use Rattle.domain_label.specs.contracts.split_mut.past_first as past

module _ {M : Type 1} {𝓤 : Ura M} (𝓛 : Logic 𝓤) (at_mem : Memory → SProp 𝓤) (run : Routine → Fun 𝓤) where
  open 𝓛 use {H, A}

  abbrev pub Past : Contract 𝓤
  Past = triple_of 𝓛 past.signature (past.spec 𝓛 at_mem run)

  module _ (κ : Lft) (q : Share) (r : Octets) (m : ℕ) where
    abbrev pub at_past : Past.Ghost
    at_past = (((κ, tt), (q, tt), tt, (r, (m, tt)), (mut_slice_vals r, (vint w64 m ∷ [], tt))), tt)

    pub past_goes : m < 2 ^ 64 → m < length r.now → ent 𝓤 (sep 𝓤 (sem 𝓛 ((Sl κ).own_val r (mut_slice_vals r))) (A.lft κ q)) (Past.pre at_past)
    past_goes fits less =
        qed 𝓛 (‵ ((Sl κ).own_val r (mut_slice_vals r)) ∷ ‵ (flft κ q) ∷ []) ∵
        use0 𝓛 (raw (fact 𝓤 (m < length r.now))) (fact_i 𝓤 (m < length r.now) (emp 𝓤) less) $
        nothing ! $ flt_i ! m (2 ^ 64) fits $ feq_i ! (List Val) (vint w64 m ∷ []) (vint w64 m ∷ []) refl $ fjoin ! $
        fjoin ! $
        -- [the number; the fact; the octets; the token]
        move ! (2 ∷ 0 ∷ []) $ fjoin ! $ nothing ! $ move ! (3 ∷ 0 ∷ []) $ join ! $ join ! $ done !

    abbrev pub After : Octets × Octets → Fml
    After p = follows_both (Array u8 0) (Array u8 0) (Array u8 0) r.ghost_name p.0.ghost_name p.1.ghost_name (after_head (take 1 r.now))

    abbrev pub Parts : Octets × Octets → Type 0
    Parts p = (p.0.now ≡ take m (drop_list 1 r.now)) × (p.1.now ≡ drop_list m (drop_list 1 r.now))

    abbrev pub Left : Lasts past.ended (κ, tt) (r, (m, tt)) → Fml
    Left = lasts past.ended (κ, tt) (r, (m, tt))

    abbrev pub past_came : Val → Item 𝓤
    past_came v = came 𝓛 κ q Left After Parts v

    pub past_gives : (v : Val) → ent 𝓤 (Past.post at_past v) (H.⇛ (ex 𝓤 (Has 𝓛 κ q Left After Parts v)))
    past_gives v =
        qed 𝓛 (raw (Past.post at_past v) ∷ []) ∵ use1 𝓛 (returned 𝓛 κ q Left After Parts v) (id⊢ 𝓤 _) $
        by ! (gives 𝓛 κ q Left After Parts v)
