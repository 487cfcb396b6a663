-- `split_from_mut` hands on what `split_known` returns, in a `Result`. The borrow checker shows no clause on how the
-- octets end through that, so this proof walks the code by hand.
use mathlib.Core.Path.{◌≡◌, refl, sym, ap, subst, ◌∙◌}
use mathlib.Core.List.{List, [], ◌∷◌}
use mathlib.Core.Option.{some, none}
use Prim.Native.Nat.{ℕ, ◌<◌, ◌^◌}
use lib.Dec.{T, lit<}
use lib.ListN.{length, take, drop as drop_list}
use mir.Syntax.{Fn, named}
use mir.Val.{Val, has_ty, WT, of_list}
use base.Fml.{GName, ftrue, flft, fres}
use base.Logic.{SProp}
use contract.Running.{tables}
use prog.Wp.{Env, Wp, after_seq, at_return}
use types.Kit.{‵, raw, ◌⊛◌, later, ◌$◌, ◌∵◌, !, qed, move, keep, use1, use2, split, split3, join, pick, learn, await, rewrite, fsplit, fjoin, suffices, frame, check, done, any_q, at_ret, Post as After}
use types.Match.{live, vrt, in_variant}
use types.Part.{whole, sub, agg}
use types.Run.{stop, fld, hop, from, addr, of_opd, lit, and_then, no_more, first, exec, switches_on, returns, enter}
use types.ByLocal.{alloc_all, pass_all, free_all, look_at, look_in_at, get, get_in, get_tag, sets, sets_last, lands_as, env}
use denote.Array.{Array}
use denote.Builtin.{u8}
use denote.Exit.{no}
use denote.Follow.{follows_both, follows_both_if}
use denote.Param.{layout}
use denote.RattleType.{RattleType, owns}
use denote.Signature.{plain, mut_slice_of}
use denote.Slice.{MutSlice, mut_slice_vals, mut_slice_Tells}
use denote.Steps.{nothing}
use denote.Triple.Call.{calls_at}
use denote.Triple.Table.{framed}
use denote.Triple.Walked.{says, Stays, stay_dropped, walk_of, ends_at, Goes-spent_slice}
use Rattle.std.specs.Prelude.{Result, Ok, Err}
use Rattle.std.specs.contracts.result.Result as RS
use Rattle.std.proofs.ResultValues.{and_tt, ok_of, err_of}
use Rattle.std.proofs.raw_atomic.Walks.{proved}
use Rattle.std.proofs.VecSteps.Shapes.{after, front, arm_body}
use Rattle.domain_label.proofs.FollowingParts.{if_some, if_none}
use Rattle.domain_label.proofs.SlicePairs.{Octets, given_up}
use Rattle.domain_label.proofs.LabelPairs.{Known, known_val}
use Rattle.domain_label.proofs.KnownCalls.{Knows, at_known, known_goes, known_came, known_gives}
use Rattle.domain_label.proofs.FoundCalls.{by_found, error_val, both_val, Good, seen, found_typed, Finds, at_found, found_goes, found_came, found_gives}
use Rattle.domain_label.proofs.label_mut.LabelMut.find_first.Met.{met as finds}
use Rattle.domain_label.proofs.label_mut.LabelMut.split_known.Met.{met as cuts}
use Rattle.domain_label.specs.LendingParts.{after_head, FirstOf}
use Rattle.domain_label.specs.Splitting.{BeginsWithLabel, SplitFault}
use Rattle.domain_label.specs.declared.split_error.SplitLabelError.{SplitLabelError}
use Rattle.domain_label.specs.contracts.split_error.SplitLabelError as SE
use Rattle.domain_label.specs.contracts.label_mut.LabelMut.split_from_mut as f
use Rattle.domain_label.proofs.label_mut.LabelMut.split_from_mut.Statement.{statement}
use Rattle.domain_label.proofs.label_mut.LabelMut.split_from_mut.Code as code

abbrev stayed : Stays f.ended.signature.params f.ended.kept
stayed = (stay_dropped (mut_slice_of (0 ∷ []) tt (plain (λ _. u8))) no, tt)

abbrev A₈ : RattleType
A₈ = Array u8 0

-- the octets begin with the label and the rest, once it is known which octets these are
begins : (r : Octets) (p : Octets) (m : ℕ) (label rest : List ℕ) → p.now ≡ r.now → FirstOf r.now (Ok m)
    → (label ≡ take m (drop_list 1 p.now)) × (rest ≡ drop_list m (drop_list 1 p.now)) → BeginsWithLabel r.now label rest
begins r p m label rest same found parts =
    let left : label ≡ take m (drop_list 1 r.now) = parts.0 ∙ ap (λ l. take m (drop_list 1 l)) same in
    let right : rest ≡ drop_list m (drop_list 1 r.now) = parts.1 ∙ ap (λ l. drop_list m (drop_list 1 l)) same in
    subst (λ l. BeginsWithLabel r.now l rest) (sym left) (subst (λ l. BeginsWithLabel r.now (take m (drop_list 1 r.now)) l) (sym right) found.2)

pub split_from_mut_spec : {M : Type 1} → statement M
split_from_mut_spec 𝓤 𝓛 𝓜 𝓡 wired =
    let H = 𝓛.H in
    let fn : Fn = code.function in
    let C = (tables 𝓤 H 𝓜 𝓡 𝓡.env).C in
    let Λ = (tables 𝓤 H 𝓜 𝓡 𝓡.env).Λ in
    let c = f.clauses 𝓛 𝓜.mem 𝓡.returns in
    let W = walk_of 𝓛 f.ended stayed c in
    let F = Finds 𝓛 𝓜.mem 𝓡.returns in
    let K = Knows 𝓛 𝓜.mem 𝓡.returns in
    proved 𝓛 f.ended stayed c 𝓜 𝓡
    (Goes-spent_slice 𝓛 1 (0 ∷ []) tt (plain (λ _. u8)), tt)
    f.Key.name fn (code.unfolded 𝓤 𝓛.H 𝓜 𝓡 wired)
    (λ κs. (mut_slice_vals, tt)) (λ κs. (mut_slice_Tells (named 0) κs.0 u8, tt))
    (λ κs qs bounds a g are.
    let κ = κs.0 in let q = qs.0 in let r : Octets = a.0 in
    let room = are.0.0.1 in
    let y : W.Ghost = ((κs, qs, bounds, a, (mut_slice_vals r, tt)), tt) in
    let Post : Val → SProp 𝓤 = W.post y in
    qed 𝓛 (((‵ (flft κ q) ⊛ ‵ ftrue) ⊛ ‵ (owns (MutSlice (named 0) κ u8 ∷ []) a (mut_slice_vals r, tt))) ∷ ‵ ftrue ∷ []) ∵
    split ! $ split ! $ move ! (2 ∷ []) $ fsplit ! $ keep ! (0 ∷ 2 ∷ []) $
    enter ! C Λ fn _ Post $
    alloc_all ! (λ l. pass_all ! refl ((tt, (tt, (record { fits = room.0 }, tt))), tt) $
    let En : Env 𝓤 H = env fn.locals l in
    let Then : After 𝓤 H = any_q (after_seq 𝓤 H (Wp 𝓤 H C Λ En (after 6 fn.body) (at_return 𝓤 H En Post)) (at_return 𝓤 H En Post)) in
    sets ! (addr ! (from ! (fld ! refl (hop ! (look_in_at ! 1 (sub ! 0 refl (whole !))) (stop !))))) refl (tt, tt) $
    sets ! (agg ! (and_then ! (get ! refl) (and_then ! (get_in ! (fld ! refl (stop !)) (sub ! 1 refl (whole !))) (no_more !)))) refl (tt, (tt, (record { fits = room.0 }, tt))) $
    use2 𝓛 (raw (F.pre (at_found 𝓛 𝓜.mem 𝓡.returns κ q r))) (found_goes 𝓛 𝓜.mem 𝓡.returns κ q r) $
    calls_at ! (framed 𝓤 H 𝓜 (tables 𝓤 H 𝓜 𝓡 𝓡.env)) F (finds 𝓤 𝓛 𝓜 𝓡 (code.calls-domain_label::label_mut::LabelMut::find_first 𝓡.env wired)) (at_found 𝓛 𝓜.mem 𝓡.returns κ q r)
    (and_then ! (get ! refl) (no_more !)) (λ v.
    use1 𝓛 (found_came 𝓛 𝓜.mem 𝓡.returns κ q r v) (found_gives 𝓛 𝓜.mem 𝓡.returns κ q r v) $ await ! tt $
    pick ! (λ p. learn ! (λ k.
    let same_name = k.2.0 in let same_now = k.2.1 in let here = k.1.0.0 in
    by_found ! p.1
    -- there is a label of m octets
    (λ m is.
    let fits : m < 2 ^ 64 = subst Good is k.1.1 in
    let found : FirstOf r.now (Ok m) = subst (FirstOf r.now) is k.2.2 in
    let longer : m < length p.0.now = subst (λ (l : List ℕ). m < length l) (sym same_now) found.1 in
    lands_as ! (k.0 ∙ ap (λ (z : Result ℕ SplitLabelError). both_val (p.0, z)) is) refl (tt, ((tt, (record { fits = here }, tt)), ((record { fits = lit< tt }, (record { fits = fits }, tt)), tt))) $
    sets ! (of_opd ! (get_in ! (fld ! refl (stop !)) (sub ! 0 refl (whole !)))) refl (tt, (tt, (record { fits = here }, tt))) $
    sets ! (of_opd ! (get_in ! (fld ! refl (stop !)) (sub ! 1 refl (whole !)))) refl (tt, (record { fits = lit< tt }, (record { fits = fits }, tt))) $
    first ! $ switches_on ! (get_tag ! (vrt ! refl (fld ! refl (stop !))) (whole !)) $
    exec ! C Λ En (arm_body 0 (front (after 5 fn.body))) Then $
    sets ! (of_opd ! (get_in ! (vrt ! refl (fld ! refl (stop !))) (in_variant ! 0 0 refl refl (whole !)))) refl (tt, record { fits = fits }) $
    sets ! (addr ! (from ! (fld ! refl (hop ! (look_in_at ! 2 (sub ! 0 refl (whole !))) (stop !))))) refl (tt, tt) $
    sets ! (agg ! (and_then ! (get ! refl) (and_then ! (get_in ! (fld ! refl (stop !)) (sub ! 1 refl (whole !))) (no_more !)))) refl (tt, (tt, (record { fits = here }, tt))) $
    split3 ! $
    use2 𝓛 (raw (K.pre (at_known 𝓛 𝓜.mem 𝓡.returns κ q p.0 m))) (known_goes 𝓛 𝓜.mem 𝓡.returns κ q p.0 m fits (found.0, longer)) $
    -- [what it asks; what is owned of the result]
    calls_at ! (framed 𝓤 H 𝓜 (tables 𝓤 H 𝓜 𝓡 𝓡.env)) K (cuts 𝓤 𝓛 𝓜 𝓡 (code.calls-domain_label::label_mut::LabelMut::split_known 𝓡.env wired)) (at_known 𝓛 𝓜.mem 𝓡.returns κ q p.0 m)
    (and_then ! (get ! refl) (and_then ! (get ! refl) (no_more !))) (λ u.
    use1 𝓛 (known_came 𝓛 𝓜.mem 𝓡.returns κ q p.0 m u) (known_gives 𝓛 𝓜.mem 𝓡.returns κ q p.0 m u) $ await ! tt $
    pick ! (λ x. learn ! (λ h. split3 ! $
    -- [the label and the rest; the token; what the octets follow; what is owned of the result]
    let room₀ = h.1.0.0 in let room₁ = h.1.1.0 in
    lands_as ! h.0 refl (tt, (((tt, (record { fits = room₀ }, tt)), tt), ((tt, (record { fits = room₁ }, tt)), tt))) $
    sets_last ! (agg ! (and_then ! (lit ! tt) (and_then ! (get ! refl) (no_more !)))) refl (tt, (record { fits = lit< tt }, ((((tt, (record { fits = room₀ }, tt)), tt), ((tt, (record { fits = room₁ }, tt)), tt)), tt))) $
    exec ! C Λ En (after 6 fn.body) (at_ret En Post) $
    sets ! (of_opd ! (get ! refl)) refl (tt, (record { fits = lit< tt }, ((((tt, (record { fits = room₀ }, tt)), tt), ((tt, (record { fits = room₁ }, tt)), tt)), tt))) $
    returns ! (look_at ! 0 refl) $ free_all ! refl $
    rewrite ! 2 (λ (n : GName). ‵ (follows_both A₈ A₈ A₈ n x.0.octets.ghost_name x.1.ghost_name (after_head (take 1 p.0.now)))) same_name refl $
    rewrite ! 2 (λ (l : List ℕ). ‵ (follows_both A₈ A₈ A₈ r.ghost_name x.0.octets.ghost_name x.1.ghost_name (after_head (take 1 l)))) same_now refl $
    use1 𝓛 (‵ ((RS.the_row (Known κ) SE.the_row).own_val (Ok x) (live 0 (of_list (known_val x ∷ [])) ∷ []))) (ok_of 𝓛 (Known κ) SE.the_row x (known_val x)) $
    move ! (2 ∷ 1 ∷ 0 ∷ []) $
    use1 𝓛 (‵ (follows_both_if A₈ A₈ A₈ r.ghost_name (some (x.0.octets.ghost_name, x.1.ghost_name)) (after_head (take 1 r.now)) r.now))
    (if_some 𝓛 A₈ A₈ A₈ r.ghost_name (after_head (take 1 r.now)) r.now (x.0.octets.ghost_name, x.1.ghost_name)) $
    keep ! (2 ∷ 1 ∷ 0 ∷ []) $
    -- [the result; the token; what the octets follow]
    suffices ! _ (ends_at 𝓛 f.ended stayed c y (live 0 (of_list (known_val x ∷ []))) (Ok x) (tt, tt) (tt, tt)) $
    nothing ! $ nothing ! $ fjoin ! $ join ! $ nothing ! $ move ! (2 ∷ 0 ∷ []) $ join ! $ join ! $ frame ! $ frame ! $
    says ! tt $ check ! (begins r p.0 m x.0.octets.now x.1.now same_now found h.2) $ done !))))
    -- there is none
    (λ e is.
    let good : T (has_ty (layout SE.the_row) (error_val e)) × WT (error_val e) = subst Good is k.1.1 in
    let fault : SplitFault r.now e = subst (FirstOf r.now) is k.2.2 in
    let typed = found_typed (Err e) good in
    lands_as ! (k.0 ∙ ap (λ (z : Result ℕ SplitLabelError). both_val (p.0, z)) is) refl (and_tt _ typed.0, ((tt, (record { fits = here }, tt)), (typed.1, tt))) $
    sets ! (of_opd ! (get_in ! (fld ! refl (stop !)) (sub ! 0 refl (whole !)))) refl (tt, (tt, (record { fits = here }, tt))) $
    sets ! (of_opd ! (get_in ! (fld ! refl (stop !)) (sub ! 1 refl (whole !)))) refl typed $
    first ! $ switches_on ! (get_tag ! (vrt ! refl (fld ! refl (stop !))) (whole !)) $
    exec ! C Λ En (arm_body 1 (front (after 5 fn.body))) Then $
    sets ! (of_opd ! (get_in ! (vrt ! refl (fld ! refl (stop !))) (in_variant ! 1 0 refl refl (whole !)))) refl good $
    split3 ! $
    use1 𝓛 (later (‵ (fres p.0.ghost_name (A₈.coded.code p.0.now)))) (given_up 𝓛 κ p.0 (mut_slice_vals p.0)) $
    await ! tt $
    -- [the octets' last value; the token; what is owned of the error]
    sets_last ! (agg ! (and_then ! (lit ! tt) (and_then ! (get ! refl) (no_more !)))) refl (and_tt _ good.0, (record { fits = lit< tt }, (good.1, tt))) $
    exec ! C Λ En (after 6 fn.body) (at_ret En Post) $
    sets ! (of_opd ! (get ! refl)) refl (and_tt _ good.0, (record { fits = lit< tt }, (good.1, tt))) $
    returns ! (look_at ! 0 refl) $ free_all ! refl $
    rewrite ! 0 (λ (n : GName). ‵ (fres n (A₈.coded.code p.0.now))) same_name refl $
    rewrite ! 0 (λ (l : List ℕ). ‵ (fres r.ghost_name (A₈.coded.code l))) same_now refl $
    use1 𝓛 (‵ (follows_both_if A₈ A₈ A₈ r.ghost_name none (after_head (take 1 r.now)) r.now)) (if_none 𝓛 A₈ A₈ A₈ r.ghost_name (after_head (take 1 r.now)) r.now) $
    rewrite ! 2 (λ (z : Result ℕ SplitLabelError). ‵ (seen z)) is refl $ move ! (2 ∷ []) $
    use1 𝓛 (‵ ((RS.the_row (Known κ) SE.the_row).own_val (Err e) (live 1 (of_list (error_val e ∷ [])) ∷ []))) (err_of 𝓛 (Known κ) SE.the_row e (error_val e)) $
    -- [the result; what the octets are; the token]
    suffices ! _ (ends_at 𝓛 f.ended stayed c y (live 1 (of_list (error_val e ∷ []))) (Err e) (tt, tt) (tt, tt)) $
    nothing ! $ nothing ! $ fjoin ! $ join ! $ nothing ! $ move ! (3 ∷ 0 ∷ []) $ join ! $ join ! $ frame ! $ frame ! $
    says ! fault $ check ! tt $ done !))))))
