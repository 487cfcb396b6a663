-- `LabelMut::split_known` at a call in a walk by hand.
--     Knows, at_known      its contract, and what it is called with
--     known_goes      what it is handed
--     known_came, known_gives      what it leaves: the pair whole, the token, and its clauses
use mathlib.Core.Path.{◌≡◌, refl, ap}
use mathlib.Core.List.{List, [], ◌∷◌}
use Prim.Native.Nat.{ℕ, ◌<◌, ◌≤◌, ◌^◌}
use lib.ListN.{length, take, drop as drop_list}
use seplogic.Ra.Ura.{Ura}
use mir.Syntax.{w64}
use mir.Val.{Val, vint}
use base.Logic.{SProp, ent, sep, ex, guard, emp, id⊢}
use base.Fml.{Fml, Lft, Share, ftrue, flft}
use prog.Memory.{Memory}
use prog.Routine.{Routine}
use contract.Monad.{Fun, fact, fact_i}
use types.Logic.{Logic, sem}
use types.Kit.{Item, ‵, raw, ◌⊛◌, some, later, given, ◌$◌, ◌∵◌, !, qed, move, keep, drop, use0, use1, split, join, pick, learn, rewrite, fjoin, feq_i, flt_i, check, show, await, updating, now, done}
use denote.Array.{Array}
use denote.Builtin.{u8}
use denote.Follow.{follows_both}
use denote.Laws.{Is, shows}
use denote.Slice.{Room, mut_slice_vals}
use denote.Steps.{only, nothing, peeks}
use denote.Triple.Clauses.{Lasts, lasts}
use denote.Triple.Spec.{triple_of}
use denote.Triple.Statement.{Contract}
use Rattle.domain_label.proofs.SlicePairs.{Octets, Sl}
use Rattle.domain_label.proofs.LabelPairs.{Known, known_val, known_told}
use Rattle.domain_label.specs.LendingParts.{after_head}
use Rattle.domain_label.specs.declared.label_mut.LabelMut.{LabelMut}
use Rattle.domain_label.specs.contracts.label_mut.LabelMut.split_known as known

module _ {M : Type 1} {𝓤 : Ura M} (𝓛 : Logic 𝓤) (at_mem : Memory → SProp 𝓤) (run : Routine → Fun 𝓤) where
  open 𝓛 use {H, A}

  abbrev pub Knows : Contract 𝓤
  Knows = triple_of 𝓛 known.signature (known.spec 𝓛 at_mem run)

  module _ (κ : Lft) (q : Share) (r : Octets) (m : ℕ) where
    abbrev pub at_known : Knows.Ghost
    at_known = (((κ, tt), (q, tt), tt, (r, (m, tt)), (mut_slice_vals r, (vint w64 m ∷ [], tt))), tt)

    abbrev Asked : Type 0
    Asked = (m ≤ 63) × (m < length r.now)

    pub known_goes : m < 2 ^ 64 → Asked → ent 𝓤 (sep 𝓤 (sem 𝓛 ((Sl κ).own_val r (mut_slice_vals r))) (A.lft κ q)) (Knows.pre at_known)
    known_goes fits asked =
        qed 𝓛 (‵ ((Sl κ).own_val r (mut_slice_vals r)) ∷ ‵ (flft κ q) ∷ []) ∵
        use0 𝓛 (raw (fact 𝓤 Asked)) (fact_i 𝓤 Asked (emp 𝓤) asked) $
        nothing ! $ flt_i ! m (2 ^ 64) fits $ feq_i ! (List Val) (vint w64 m ∷ []) (vint w64 m ∷ []) refl $ fjoin ! $
        fjoin ! $
        -- [the number; the fact; the octets; the token]
        move ! (2 ∷ 0 ∷ []) $ fjoin ! $ nothing ! $ move ! (3 ∷ 0 ∷ []) $ join ! $ join ! $ done !

    abbrev Parts : LabelMut × Octets → Type 0
    Parts x = (x.0.octets.now ≡ take m (drop_list 1 r.now)) × (x.1.now ≡ drop_list m (drop_list 1 r.now))

    abbrev After : LabelMut × Octets → Fml
    After x = follows_both (Array u8 0) (Array u8 0) (Array u8 0) r.ghost_name x.0.octets.ghost_name x.1.ghost_name (after_head (take 1 r.now))

    abbrev pub Told : Val → LabelMut × Octets → Type 0
    Told v x = (v ≡ known_val x) × (Room u8 (length x.0.octets.now) × Room u8 (length x.1.now)) × Parts x

    abbrev pub Has : Val → LabelMut × Octets → SProp 𝓤
    Has v x = guard 𝓤 (Told v x) (sep 𝓤 (sem 𝓛 ((Known κ).own_val x (known_val x ∷ []))) (sep 𝓤 (A.lft κ q) (sem 𝓛 (After x))))

    abbrev pub known_came : Val → Item 𝓤
    known_came v = later (some (λ (x : LabelMut × Octets). given (Told v x) (‵ ((Known κ).own_val x (known_val x ∷ [])) ⊛ ‵ (flft κ q) ⊛ ‵ (After x))))

    pub known_gives : (v : Val) → ent 𝓤 (Knows.post at_known v) (H.⇛ (ex 𝓤 (Has v)))
    known_gives v =
        qed 𝓛 (raw (Knows.post at_known v) ∷ []) ∵ updating ! $
        use1 𝓛 (later (some (λ (x : LabelMut × Octets). ((‵ (flft κ q) ⊛ ‵ ftrue) ⊛ ‵ ((Known κ).own_val x (v ∷ []))) ⊛ some (λ (w : Lasts known.ended (κ, tt) (r, (m, tt))). ‵ (lasts known.ended (κ, tt) (r, (m, tt)) w) ⊛ (‵ (After x) ⊛ given (Parts x) (‵ ftrue)))))) (id⊢ 𝓤 _) $
        await ! tt $ pick ! (λ x. split ! $ split ! $ split ! $
        -- [the token; true; the pair; what is said of the parameters, and the clauses]
        move ! (3 ∷ []) $ pick ! (λ w. split ! $ drop ! $ split ! $ move ! (1 ∷ []) $ learn ! (λ ok.
        -- [true; what the octets follow; the token; true; the pair]
        move ! (4 ∷ []) $ peeks ! (Known κ) (Is (Known κ)) (shows 𝓛 (Known κ)) x (v ∷ []) (λ i.
        let t = known_told κ x (v ∷ []) i in
        rewrite ! 0 (λ (us : List Val). ‵ ((Known κ).own_val x us)) t.0 refl $
        now ! $ show ! (Has v) x $ check ! (ap only t.0, (t.1, t.2), ok) $ keep ! (0 ∷ 3 ∷ 2 ∷ []) $ done !))))
