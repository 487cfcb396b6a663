-- `into_loose` has the pointer again, where the number says that there is one.
use Rattle.std.proofs.Common.{◌≡◌, ℕ, suc, ◌^◌, ◌<◌, List, [], ◌∷◌, ◌++◌, refl, sym, ◌∙◌, subst, lit<}
use mathlib.Core.Bool.{Bool}
use lib.Dec.{T, eqb-suc-zero}
use mir.Val.{Val, vcons, vnil, vptr}
use base.Logic.{SProp, ent, emp, id⊢}
use base.Fml.{ftrue}
use prog.Wp.{WpFn}
use types.Kit.{‵, raw, ◌⊛◌, at_ret, ◌$◌, ◌∵◌, !, qed, by, move, drop, split, fsplit, fjoin, suffices, use0, use1}
use types.Match.{live}
use types.Run.{stop, fld, lit, of_opd, bin, no_more, and_then, first, branches, exec, returns, enter}
use types.ByLocal.{alloc_all, pass_all, free_all, look_at, get, get_in, sets, sets_last, env}
use types.Part.{agg, sub, whole}
use contract.Monad.{fact, fact_i}
use contract.Running.{tables}
use denote.Exit.{rest}
use denote.RattleType.{RattleType, owns}
use denote.RawPtr.{block_ptr}
use denote.Signature.{types_at, type_at, plain}
use denote.Steps.{nothing}
use denote.Param.{layout}
use denote.Triple.Entry.{alive}
use denote.Triple.Walked.{Stays, stay_dropped, walk_of}
use Rattle.std.proofs.ResultValues.{and_tt}
use Rattle.std.proofs.alloc.Calls.{Goes-blank, handle_tells}
use Rattle.std.proofs.alloc.Global.TheLaws as heap_laws
use Rattle.std.proofs.alloc.Shapes.{after}
use Rattle.std.proofs.cell.Inside.{Good}
use Rattle.std.proofs.option.Made.{Some-of, none_of}
use Rattle.std.proofs.raw_atomic.Walks.{proved_at, leaves}
use Rattle.std.specs.Box.Ownership.{box_owns}
use Rattle.std.specs.contracts.alloc.Global as heap
use Rattle.std.specs.contracts.impls.GlobalAllocator.TheImpl.{ghosts}
use Rattle.std.specs.declared.option.Option.TheVariants.{None, Some}
use Rattle.domain_zone.specs.contracts.kept.Zone as zone
use Rattle.dnsnames_zone_c.specs.contracts.slot.ZoneSlot as slot
use Rattle.dnsnames_zone_c.specs.contracts.slot.ZoneSlot.into_loose.{ended, clauses}
use Rattle.dnsnames_zone_c.specs.contracts.slot.ZoneSlot.into_loose.Key.{name as #self}
use Rattle.dnsnames_zone_c.proofs.Slots.{either, ptr_good, word, word_good, slot_out}
use Rattle.dnsnames_zone_c.proofs.Values.{both, al, Loose, loose_good, loose_in}
use Rattle.dnsnames_zone_c.proofs.slot.ZoneSlot.into_loose.Statement.{statement}
use Rattle.dnsnames_zone_c.proofs.slot.ZoneSlot.into_loose.Code as code

pub into_loose_spec : {M : Type 1} → statement M
into_loose_spec 𝓤 𝓛 𝓜 𝓡 wired =
    let H = 𝓛.H in let 𝓣 = tables 𝓤 H 𝓜 𝓡 𝓡.env in let En = ended in let c = clauses 𝓛 𝓜.mem 𝓡.returns in let fn = code.function in
    let R : RattleType = zone.the_row in let Z : RattleType = heap.the_row in let LZ = heap_laws.the_row_laws in let Lr : RattleType = Loose R Z LZ ghosts in let S : RattleType = slot.the_row in
    let hs : Stays En.signature.params En.kept = (stay_dropped (plain (λ _. S)) En.kept.0, (stay_dropped (plain (λ _. Z)) En.kept.1.0, tt)) in
    proved_at 𝓛 En hs c 𝓜 𝓡 (Goes-blank 𝓛 0 (plain (λ _. S)) En.kept.0 (λ κs x f. tt), (Goes-blank 𝓛 0 (plain (λ _. Z)) En.kept.1.0 (λ κs x f. tt), tt)) #self fn (code.unfolded 𝓤 H 𝓜 𝓡 wired) (λ z are.
    let Post : Val → SProp 𝓤 = (walk_of 𝓛 En hs c).post z in let Run : List Val → SProp 𝓤 = λ ws. WpFn 𝓤 H 𝓣.C 𝓣.Λ fn ws Post in let Out : RattleType = type_at En.signature.result z.0.0 in
    let d = z.0.3.0 in let a = z.0.3.1.0 in
    qed 𝓛 ((raw (alive 𝓛 En.signature z.0.0 z.0.1) ⊛ ‵ (owns (types_at En.signature.params z.0.0) z.0.3 z.0.4)) ∷ ‵ ftrue ∷ []) ∵
    move ! (1 ∷ []) $ drop ! $ split ! $ move ! (1 ∷ []) $ fsplit ! $ slot_out ! d z.0.4.0 (λ ws low. move ! (1 ∷ []) $ fsplit ! $ move ! (1 ∷ []) $ drop ! $
    handle_tells (al R Z LZ ghosts) ! a z.0.4.1.0 (λ h eh fits.
    -- [the handle; what the slot owns; the tokens]
    move ! (1 ∷ []) $ either ! d.full d.at d.held
    (λ e none. let w : Val = word d.at 0 in
    suffices ! (Run (w ∷ h ∷ [])) (subst (λ (us : List Val). ent 𝓤 (Run (w ∷ h ∷ [])) (Run us)) (sym (λ i. (ws ∙ (λ j. word d.at (e j) ∷ [])) i ++ (eh i ++ []))) (id⊢ 𝓤 (Run (w ∷ h ∷ [])))) $
    enter ! 𝓣.C 𝓣.Λ fn (w ∷ h ∷ []) Post $ alloc_all ! (λ l. pass_all ! refl (word_good d.at 0 (lit< tt), (fits, tt)) $ let Ev = env fn.locals l in
    sets ! (of_opd ! (get_in ! (fld ! refl (stop !)) (sub ! 0 refl (whole !)))) refl (ptr_good d.at) $ sets ! (of_opd ! (get_in ! (fld ! refl (stop !)) (sub ! 1 refl (whole !)))) refl (tt, record { fits = lit< tt }) $
    sets ! (bin ! (get ! refl) (lit ! tt) tt) refl (tt, tt) $ first ! $ branches ! (get ! refl) (λ _.
    sets_last ! (agg ! (and_then ! (lit ! tt) (no_more !))) refl (tt, (record { fits = lit< tt }, tt)) $ exec ! 𝓣.C 𝓣.Λ Ev (after 4 fn.body) (at_ret Ev Post) $ sets ! (of_opd ! (get ! refl)) refl (tt, (record { fits = lit< tt }, tt)) $
    drop ! $ use0 𝓛 (raw (fact 𝓤 (None ≡ d.held))) (fact_i 𝓤 (None ≡ d.held) (emp 𝓤) (sym none)) $
    use0 𝓛 (‵ (Out.own_val None (live 0 vnil ∷ []))) (none_of 𝓛 Lr) $ nothing ! $ nothing ! $ fjoin ! $ nothing ! $ fjoin ! $
    returns ! (look_at ! 0 refl) $ free_all ! refl $ move ! (3 ∷ 0 ∷ 1 ∷ 2 ∷ []) $ by ! (leaves 𝓛 En hs c z (live 0 vnil) None (rest (S.exit En.kept.0) d, (rest (Z.exit En.kept.1.0) a, tt)) (tt, (tt, tt)))) (λ wrong. absurd wrong)))
    (λ m b o a' x e at some. let w : Val = word (block_ptr b o) (suc m) in let made : Val = both (vptr b o) h in let it : Lr.Denot = record { at = block_ptr b o; alloc = a; value = x } in
    let typed = loose_good R Z LZ ghosts b o h fits in let v₁ : Val = live 1 (vcons made vnil) in let good : Good (layout Out) v₁ = (and_tt _ typed.0, (record { fits = lit< tt }, (typed.1, tt))) in
    let below : suc m < 2 ^ 64 = subst (λ (k : ℕ). k < 2 ^ 64) e low in
    suffices ! (Run (w ∷ h ∷ [])) (subst (λ (us : List Val). ent 𝓤 (Run (w ∷ h ∷ [])) (Run us)) (sym (λ i. (ws ∙ (λ j. word (at j) (e j) ∷ [])) i ++ (eh i ++ []))) (id⊢ 𝓤 (Run (w ∷ h ∷ [])))) $
    enter ! 𝓣.C 𝓣.Λ fn (w ∷ h ∷ []) Post $ alloc_all ! (λ l. pass_all ! refl (word_good (block_ptr b o) (suc m) below, (fits, tt)) $ let Ev = env fn.locals l in
    sets ! (of_opd ! (get_in ! (fld ! refl (stop !)) (sub ! 0 refl (whole !)))) refl (tt, tt) $ sets ! (of_opd ! (get_in ! (fld ! refl (stop !)) (sub ! 1 refl (whole !)))) refl (tt, record { fits = below }) $
    sets ! (bin ! (get ! refl) (lit ! tt) tt) refl (tt, tt) $ first ! $ branches ! (get ! refl) (λ wrong. absurd (subst (λ (b : Bool). T b) (eqb-suc-zero m) wrong)) (λ _.
    sets ! (of_opd ! (get ! refl)) refl (tt, tt) $
    sets ! (agg ! (and_then ! (get ! refl) (and_then ! (get ! refl) (no_more !)))) refl typed $ sets_last ! (agg ! (and_then ! (lit ! tt) (and_then ! (get ! refl) (no_more !)))) refl good $
    exec ! 𝓣.C 𝓣.Λ Ev (after 4 fn.body) (at_ret Ev Post) $ sets ! (of_opd ! (get ! refl)) refl good $
    use1 𝓛 (‵ (box_owns (ghosts.dealloc_token a) R (block_ptr b o) x)) (id⊢ 𝓤 _) $ loose_in R Z LZ ghosts ! b o h a x $
    use1 𝓛 (‵ (Out.own_val (Some it) (v₁ ∷ []))) (Some-of 𝓛 Lr it made) $ use0 𝓛 (raw (fact 𝓤 (Some x ≡ d.held))) (fact_i 𝓤 (Some x ≡ d.held) (emp 𝓤) (sym some)) $
    nothing ! $ nothing ! $ fjoin ! $ nothing ! $ fjoin ! $
    returns ! (look_at ! 0 refl) $ free_all ! refl $ move ! (3 ∷ 0 ∷ 2 ∷ 1 ∷ []) $ by ! (leaves 𝓛 En hs c z v₁ (Some it) (rest (S.exit En.kept.0) d, (rest (Z.exit En.kept.1.0) a, tt)) (tt, (tt, tt)))))))))
