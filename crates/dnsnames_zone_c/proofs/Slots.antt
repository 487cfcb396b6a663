-- The machine values of a slot, and what it owns.
use Rattle.std.proofs.Common.{◌≡◌, ℕ, ◌^◌, ◌<◌, List, [], ◌∷◌, ◌++◌, refl, ◌∙◌, lit<, w64, zero, suc}
use lib.Dec.{T}
use seplogic.Ra.Ura.{Ura}
use base.Fml.{ftrue}
use base.Logic.{never, never_e, fst∗}
use mir.Raw.{raw as bare}
use mir.Syntax.{ty_ptr}
use mir.Val.{Val, vint, vstruct, vcons, vnil, of_list, has_ty, WT}
use types.Logic.{Logic, sem}
use types.Kit.{Item, Goal, Seq, Step, step, ‵, given, ◌$◌, drop, learn, use1, fsplit, fjoin, fpick, fpack, feq_i, feq_l}
use denote.RattleType.{Valss}
use denote.Builtin.{RawPtr, usize}
use denote.Laws.{Is, shows}
use denote.Memory.{lone}
use denote.Param.{layout}
use denote.Plain.{uint_Makes}
use denote.RawPtr.{Ptr, block_ptr, null_ptr, ptr_val, in_a_block}
use denote.Steps.{nothing, peeks, owned}
use denote.Struct.Struct.{within}
use denote.Struct.Owning.{shape}
use Rattle.std.specs.Box.Ownership.{box_owns}
use Rattle.std.specs.contracts.impls.GlobalAllocator.TheImpl.{ghosts}
use Rattle.std.specs.declared.alloc.Global.{Global}
use Rattle.std.specs.declared.option.Option.{Option}
use Rattle.std.specs.declared.option.Option.TheVariants.{None, Some}
use Rattle.domain_zone.specs.contracts.kept.Zone as zone
use Rattle.domain_zone.specs.declared.kept.Zone.{Zone}
use Rattle.dnsnames_zone_c.specs.Slots.{slot_owns}
use Rattle.dnsnames_zone_c.specs.contracts.slot.ZoneSlot as slot

abbrev pub word : Ptr → ℕ → Val
word p n = vstruct (vcons (ptr_val p) (vcons (vint w64 n) vnil))

pub word_good : (p : Ptr) (n : ℕ) → n < 2 ^ 64 → T (has_ty (layout slot.the_row) (word p n)) × WT (word p n)
word_good (block_ptr b o) n fits = (tt, (tt, (record { fits = fits }, tt)))
word_good null_ptr n fits = (tt, (record { fits = lit< tt }, (record { fits = fits }, tt)))

pub ptr_good : (p : Ptr) → T (has_ty ty_ptr (ptr_val p)) × WT (ptr_val p)
ptr_good (block_ptr b o) = (tt, tt)
ptr_good null_ptr = (tt, record { fits = lit< tt })

module _ {M : Type 1} {𝓤 : Ura M} {𝓛 : Logic 𝓤} {K : Type 0} {Γ : List (Item 𝓤)} {G : Goal 𝓤 𝓛.H} where
  pub slot_out : K → (d : slot.the_row.Denot) (vs : List Val)
      → (vs ≡ word d.at d.full ∷ [] → d.full < 2 ^ 64 → Seq K 𝓛 (‵ (slot_owns d.full d.at d.held) ∷ Γ) G)
      → Seq K 𝓛 (‵ (slot.the_row.own_val d vs) ∷ Γ) G
  slot_out t d vs k =
      fsplit t $ fpick t (λ vss. fsplit t $ feq_l t (λ ev. fsplit t $ feq_l t (λ ep. fsplit t $
      peeks t usize (Is usize) (shows 𝓛 usize) d.full vss.1.0 (λ is. drop t $ drop t $
      k (ev ∙ (λ j. vstruct (of_list (ep j ++ (is.0 j ++ []))) ∷ [])) is.1))))

  -- a slot holds none, or the zone in a block
  pub either : K → (n : ℕ) (p : Ptr) (held : Option Zone) → (n ≡ 0 → held ≡ None → Seq K 𝓛 Γ G)
      → ((m b o : ℕ) (a : Global) (x : Zone) → n ≡ suc m → p ≡ block_ptr b o → held ≡ Some x
      → Seq K 𝓛 (‵ (box_owns (ghosts.dealloc_token a) zone.the_row (block_ptr b o) x) ∷ Γ) G)
      → Seq K 𝓛 (‵ (slot_owns n p held) ∷ Γ) G
  either t zero p held k₀ k₁ = feq_l t (λ e. k₀ refl e)
  either t (suc m) p None k₀ k₁ = use1 𝓛 (given ⊥ (‵ ftrue)) (never_e 𝓤 _) $ learn t (λ z. absurd z)
  either t (suc m) p (Some x) k₀ k₁ = fpick t (λ a.
      in_a_block t p (λ q. box_owns (ghosts.dealloc_token a) zone.the_row q x) (fst∗ 𝓤 (never 𝓤) (sem 𝓛 (ghosts.dealloc_token a (bare (lone zone.the_row.mir)) null_ptr)))
      (λ b o e. k₁ m b o a x refl e refl))

  pub slot_in : K → (p : Ptr) (n : ℕ) (held : Option Zone) → n < 2 ^ 64
      → Step K 𝓛 (‵ (slot.the_row.own_val (record { at = p; full = n; held = held }) (word p n ∷ [])) ∷ Γ) G (‵ (slot_owns n p held) ∷ Γ) G
  slot_in t p n held fits = step (λ s.
      nothing t $ owned t usize (Is usize) (uint_Makes 𝓛 w64) n (vint w64 n ∷ []) (refl, fits) $ fjoin t $
      feq_i t (List Val) (ptr_val p ∷ []) (ptr_val p ∷ []) refl $ fjoin t $
      feq_i t (List Val) (word p n ∷ []) (word p n ∷ []) refl $ fjoin t $
      fpack t (Valss (RawPtr ∷ usize ∷ [])) (within (shape slot.the_type) (p, (n, tt)) (word p n ∷ [])) (ptr_val p ∷ [], (vint w64 n ∷ [], tt)) $ fjoin t $ s)
