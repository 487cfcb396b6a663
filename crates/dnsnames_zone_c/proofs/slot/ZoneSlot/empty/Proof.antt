-- `empty` makes a slot that owns nothing.
use Rattle.std.proofs.Common.{[], ◌∷◌, refl, lit<}
use base.Fml.{ftrue}
use types.Kit.{‵, raw, ◌$◌, ◌∵◌, !, qed, done, drop, join, suffices, feq_i}
use types.Run.{enter, lit, no_more, and_then, returns}
use types.Part.{agg}
use types.ByLocal.{alloc_all, pass_all, free_all, look_at, get, sets}
use denote.Exit.{yes}
use denote.RawPtr.{RawPtr, rawptr_vals, rawptr_Tells, rawptr_Lawful}
use denote.Signature.{plain}
use denote.Steps.{nothing}
use denote.Triple.Entry.{on_entry}
use denote.Triple.Walked.{Stays, walk_of, says, stay_dropped, Goes-dropped, ends_at}
use Rattle.std.proofs.raw_atomic.Walks.{proved}
use Rattle.std.specs.declared.option.Option.{Option}
use Rattle.std.specs.declared.option.Option.TheVariants.{None}
use Rattle.domain_zone.specs.declared.kept.Zone.{Zone}
use Rattle.dnsnames_zone_c.specs.contracts.slot.ZoneSlot as slot
use Rattle.dnsnames_zone_c.specs.contracts.slot.ZoneSlot.empty as f
use Rattle.dnsnames_zone_c.proofs.Slots.{word, word_good, slot_in}
use Rattle.dnsnames_zone_c.proofs.slot.ZoneSlot.empty.Statement.{statement}
use Rattle.dnsnames_zone_c.proofs.slot.ZoneSlot.empty.Code as code

abbrev stayed : Stays f.ended.signature.params f.ended.kept
stayed = (stay_dropped (plain (λ _. RawPtr)) yes, tt)

pub empty_spec : {M : Type 1} → statement M
empty_spec 𝓤 𝓛 𝓜 𝓡 wired =
    let c = f.clauses 𝓛 𝓜.mem 𝓡.returns in let W = walk_of 𝓛 f.ended stayed c in
    proved 𝓛 f.ended stayed c 𝓜 𝓡 (Goes-dropped 𝓛 0 (plain (λ _. RawPtr)) yes (λ κs x w. refl), tt)
    f.Key.name code.function (code.unfolded 𝓤 𝓛.H 𝓜 𝓡 wired)
    (λ κs. (rawptr_vals, tt)) (λ κs. (rawptr_Tells, tt)) (λ κs qs bounds a g are.
    let p = a.0 in let y : W.Ghost = ((κs, qs, bounds, a, (rawptr_vals p, tt)), g) in
    let made : slot.the_row.Denot = record { at = p; full = 0; held = None } in
    qed 𝓛 (raw (on_entry 𝓛 f.signature κs qs a y.0.4) ∷ ‵ ftrue ∷ []) ∵ drop ! $ drop ! $
    enter ! _ _ _ _ _ $ alloc_all ! (λ l. pass_all ! refl ((rawptr_Lawful 𝓛).typed p _ refl) $
    sets ! (agg ! (and_then ! (get ! refl) (and_then ! (lit ! tt) (no_more !)))) refl (word_good p 0 (lit< tt)) $
    returns ! (look_at ! 0 refl) $ free_all ! refl $
    suffices ! _ (ends_at 𝓛 f.ended stayed c y (word p 0) made (tt, tt) (tt, tt)) $ says ! refl $
    feq_i ! (Option Zone) None None refl $ slot_in ! p 0 None (lit< tt) $
    nothing ! $ nothing ! $ join ! $ nothing ! $ done !))
