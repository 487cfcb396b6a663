-- `LabelMut::find_first` at a call in a walk by hand.
--     by_found      by the cases of what was found
--     Finds, at_found      its contract, and what it is called with
--     found_goes      what it is handed
--     found_came, found_gives      what it leaves: the reference, the token, and its clause
use mathlib.Core.Path.{◌≡◌, refl, ap, subst, ◌∙◌}
use mathlib.Core.List.{List, [], ◌∷◌, ◌++◌}
use Prim.Native.Nat.{ℕ, ◌<◌, ◌^◌}
use lib.Dec.{T, lit<}
use lib.ListN.{length}
use seplogic.Ra.Ura.{Ura}
use mir.Syntax.{w64}
use mir.Val.{Val, vint, vstruct, of_list, has_ty, WT}
use base.Logic.{SProp, ent, sep, ex, guard, id⊢}
use base.Fml.{Fml, Lft, Share, ftrue, flft}
use prog.Memory.{Memory}
use prog.Routine.{Routine}
use contract.Monad.{Fun}
use types.Logic.{Logic, sem}
use types.Match.{live}
use types.Kit.{Item, Goal, Seq, ‵, raw, ◌⊛◌, some, later, given, ◌$◌, ◌∵◌, !, qed, move, keep, drop, use1, split, join, pick, learn, rewrite, fsplit, fjoin, fpick, feq_l, flt_l, check, show, await, updating, now, done}
use denote.Builtin.{usize, u8}
use denote.Laws.{Is, Typed, shows}
use denote.Param.{layout}
use denote.RattleType.{RattleType}
use denote.Slice.{Room, mut_slice_vals}
use denote.Steps.{only, nothing, peeks}
use denote.Struct.Tuple.{Tuple}
use denote.Triple.Clauses.{Lasts, lasts}
use denote.Triple.Spec.{triple_of}
use denote.Triple.Statement.{Contract}
use Rattle.std.specs.Prelude.{Result, Ok, Err}
use Rattle.std.specs.contracts.result.Result as RS
use Rattle.std.proofs.ResultValues.{and_tt}
use Rattle.domain_label.proofs.SlicePairs.{Octets, Sl, octets_val}
use Rattle.domain_label.proofs.split_error.SplitLabelError.TheLaws.{lowers, the_row_laws}
use Rattle.domain_label.specs.LendingLabelParts.{IsFound}
use Rattle.domain_label.specs.declared.split_error.SplitLabelError.{SplitLabelError}
use Rattle.domain_label.specs.contracts.split_error.SplitLabelError as SE
use Rattle.domain_label.specs.contracts.label_mut.LabelMut.find_first as found

module _ {M : Type 1} {𝓤 : Ura M} {𝓛 : Logic 𝓤} {K : Type 0} {Γ : List (Item 𝓤)} {G : Goal 𝓤 𝓛.H} where
  pub by_found : K → {E : Type 0} (r : Result ℕ E) → ((n : ℕ) → r ≡ Ok n → Seq K 𝓛 Γ G) → ((e : E) → r ≡ Err e → Seq K 𝓛 Γ G) → Seq K 𝓛 Γ G
  by_found t (Ok n) ok err = ok n refl
  by_found t (Err e) ok err = err e refl

-- the machine value of an error, of a result, and of the reference and a result
abbrev pub error_val : SplitLabelError → Val
error_val e = lowers.lowered e

abbrev pub found_val : Result ℕ SplitLabelError → Val
found_val (Ok n) = live 0 (of_list (vint w64 n ∷ []))
found_val (Err e) = live 1 (of_list (error_val e ∷ []))

abbrev pub both_val : Octets × Result ℕ SplitLabelError → Val
both_val p = vstruct (of_list (octets_val p.0 ∷ found_val p.1 ∷ []))

-- that they are of their MIR types
abbrev pub Good : Result ℕ SplitLabelError → Type 0
Good (Ok n) = n < 2 ^ 64
Good (Err e) = T (has_ty (layout SE.the_row) (error_val e)) × WT (error_val e)

abbrev pub Res : RattleType
Res = RS.the_row usize SE.the_row

abbrev pub Both : Lft → RattleType
Both κ = Tuple (Sl κ ∷ Res ∷ [])

-- what is owned of a result
abbrev pub seen : Result ℕ SplitLabelError → Fml
seen (Ok n) = ftrue
seen (Err e) = (SE.the_row).own_val e (error_val e ∷ [])

module _ {M : Type 1} {𝓤 : Ura M} (𝓛 : Logic 𝓤) where
  res_out : (r : Result ℕ SplitLabelError) (vs : List Val) → ent 𝓤 (sem 𝓛 (Res.own_val r vs)) (guard 𝓤 ((vs ≡ found_val r ∷ []) × Good r) (sem 𝓛 (seen r)))
  res_out (Ok n) vs =
      qed 𝓛 (‵ (Res.own_val (Ok n) vs) ∷ []) ∵ fpick ! (λ us. fsplit ! $ feq_l ! (λ e. fpick ! (λ vss. fsplit ! $
      feq_l ! (λ e'. fsplit ! $ fsplit ! $ feq_l ! (λ e''. flt_l ! (λ fits.
      check ! (e ∙ ap (λ (ws : List Val). live 0 (of_list ws) ∷ []) (e' ∙ ap (λ (ws : List Val). ws ++ []) e''), fits) $ done !))))))
  res_out (Err x) vs =
      qed 𝓛 (‵ (Res.own_val (Err x) vs) ∷ []) ∵ fpick ! (λ us. fsplit ! $ feq_l ! (λ e. fpick ! (λ vss. fsplit ! $
      feq_l ! (λ e'. fsplit ! $
      peeks ! SE.the_row (Is SE.the_row) (shows 𝓛 SE.the_row) x vss.0 (λ is.
      let e'' = lowers.val_is x vss.0 is in
      let good = subst (Typed (SE.the_row).mir) e'' ((the_row_laws.lawful 𝓛).typed x vss.0 is) in
      rewrite ! 0 (λ (ws : List Val). ‵ ((SE.the_row).own_val x ws)) e'' refl $
      check ! (e ∙ ap (λ (ws : List Val). live 1 (of_list ws) ∷ []) (e' ∙ ap (λ (ws : List Val). ws ++ []) e''), good.0) $ keep ! (0 ∷ []) $ done !)))))

  module _ (κ : Lft) where
    both_out : (p : Octets × Result ℕ SplitLabelError) (vs : List Val) → ent 𝓤 (sem 𝓛 ((Both κ).own_val p vs))
        (guard 𝓤 ((vs ≡ both_val p ∷ []) × Room u8 (length p.0.now) × Good p.1) (sep 𝓤 (sem 𝓛 ((Sl κ).own_val p.0 (mut_slice_vals p.0))) (sem 𝓛 (seen p.1))))
    both_out p vs =
        qed 𝓛 (‵ ((Both κ).own_val p vs) ∷ []) ∵ fpick ! (λ vss. fsplit ! $ feq_l ! (λ e. fsplit ! $
        peeks ! (Sl κ) (Is (Sl κ)) (shows 𝓛 (Sl κ)) p.0 vss.0 (λ i. move ! (1 ∷ []) $ fsplit ! $
        use1 𝓛 (given ((vss.1.0 ≡ found_val p.1 ∷ []) × Good p.1) (‵ (seen p.1))) (res_out p.1 vss.1.0) $ learn ! (λ t.
        -- [what is owned of the result; true; the reference]
        rewrite ! 2 (λ (us : List Val). ‵ ((Sl κ).own_val p.0 us)) i.0.0 refl $
        check ! (e ∙ (λ k. vstruct (of_list (i.0.0 k ++ (t.0 k ++ []))) ∷ []), i.0.1, t.1) $ keep ! (2 ∷ 0 ∷ []) $
        done !))))

-- the types of the values, as a step that stores one asks them
pub found_typed : (r : Result ℕ SplitLabelError) → Good r → T (has_ty (layout Res) (found_val r)) × WT (found_val r)
found_typed (Ok n) g = (tt, (record { fits = lit< tt }, (record { fits = g }, tt)))
found_typed (Err e) g = (and_tt (has_ty (layout SE.the_row) (error_val e)) g.0, (record { fits = lit< tt }, (g.1, tt)))

module _ {M : Type 1} {𝓤 : Ura M} (𝓛 : Logic 𝓤) (at_mem : Memory → SProp 𝓤) (run : Routine → Fun 𝓤) where
  open 𝓛 use {H, A}

  abbrev pub Finds : Contract 𝓤
  Finds = triple_of 𝓛 found.signature (found.spec 𝓛 at_mem run)

  module _ (κ : Lft) (q : Share) (r : Octets) where
    abbrev pub at_found : Finds.Ghost
    at_found = (((κ, tt), (q, tt), tt, (r, tt), (mut_slice_vals r, tt)), tt)

    pub found_goes : ent 𝓤 (sep 𝓤 (sem 𝓛 ((Sl κ).own_val r (mut_slice_vals r))) (A.lft κ q)) (Finds.pre at_found)
    found_goes =
        qed 𝓛 (‵ ((Sl κ).own_val r (mut_slice_vals r)) ∷ ‵ (flft κ q) ∷ []) ∵
        nothing ! $ move ! (1 ∷ 0 ∷ []) $ fjoin ! $ nothing ! $ move ! (2 ∷ 0 ∷ []) $ join ! $ join ! $ nothing ! $
        move ! (1 ∷ 0 ∷ []) $ done !

    abbrev pub Told : Val → Octets × Result ℕ SplitLabelError → Type 0
    Told v p = (v ≡ both_val p) × (Room u8 (length p.0.now) × Good p.1) × IsFound r p

    abbrev pub Has : Val → Octets × Result ℕ SplitLabelError → SProp 𝓤
    Has v p = guard 𝓤 (Told v p) (sep 𝓤 (sem 𝓛 ((Sl κ).own_val p.0 (mut_slice_vals p.0))) (sep 𝓤 (A.lft κ q) (sem 𝓛 (seen p.1))))

    abbrev pub found_came : Val → Item 𝓤
    found_came v = later (some (λ (p : Octets × Result ℕ SplitLabelError). given (Told v p) (‵ ((Sl κ).own_val p.0 (mut_slice_vals p.0)) ⊛ ‵ (flft κ q) ⊛ ‵ (seen p.1))))

    pub found_gives : (v : Val) → ent 𝓤 (Finds.post at_found v) (H.⇛ (ex 𝓤 (Has v)))
    found_gives v =
        qed 𝓛 (raw (Finds.post at_found v) ∷ []) ∵ updating ! $
        use1 𝓛 (later (some (λ (p : Octets × Result ℕ SplitLabelError). ((‵ (flft κ q) ⊛ ‵ ftrue) ⊛ ‵ ((Both κ).own_val p (v ∷ []))) ⊛ some (λ (w : Lasts found.ended (κ, tt) (r, tt)). ‵ (lasts found.ended (κ, tt) (r, tt) w) ⊛ given (IsFound r p) (‵ ftrue))))) (id⊢ 𝓤 _) $
        await ! tt $ pick ! (λ p. split ! $ split ! $ split ! $
        -- [the token; true; the pair; what is said of the parameter, and the clause]
        move ! (3 ∷ []) $ pick ! (λ w. split ! $ drop ! $ learn ! (λ ok.
        -- [true; the token; true; the pair]
        move ! (3 ∷ []) $
        use1 𝓛 (given ((v ∷ [] ≡ both_val p ∷ []) × Room u8 (length p.0.now) × Good p.1) (‵ ((Sl κ).own_val p.0 (mut_slice_vals p.0)) ⊛ ‵ (seen p.1))) (both_out 𝓛 κ p (v ∷ [])) $ learn ! (λ t. split ! $
        -- [the reference; what is owned of the result; true; the token; true]
        now ! $ show ! (Has v) p $ check ! (ap only t.0, (t.1, t.2), ok) $ keep ! (0 ∷ 3 ∷ 1 ∷ []) $ done !))))
