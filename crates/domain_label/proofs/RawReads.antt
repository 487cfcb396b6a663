-- A field behind a reference lies there at the raw form of its type, and is read at the type itself.
use Prim.Native.Nat.{ℕ}
use mathlib.Core.List.{List, [], ◌∷◌}
use seplogic.Ra.Ura.{Ura}
use base.Fml.{Share, fat}
use base.Logic.{SProp, ent, sep, wand, via, ex, ex_i, ex_e, apply∗}
use mir.Raw.{raw as raw_ty}
use mir.Syntax.{Ty}
use mir.Val.{Val}
use prog.Wp.{read}
use types.Kit.{Item, ‵, raw, nth, ◌$◌, ◌∵◌, !, qed, by, use1, assume, frame}
use types.Logic.{Logic}
use types.Part.{Part, look_in}
use types.Run.{Reads}

module _ {M : Type 1} {𝓤 : Ura M} (𝓛 : Logic 𝓤) (τ : Ty) (b o : ℕ) (Kt : Val → SProp 𝓤) where
  open 𝓛 use {H}

  abbrev At : Ty → Share → Val → SProp 𝓤
  At ρ s u = sep 𝓤 (H.at s ρ b o u) (wand 𝓤 (H.at s ρ b o u) (Kt u))

  turned : (s : Share) (u : Val) → ent 𝓤 (At (raw_ty τ) s u) (At τ s u)
  turned s u =
      qed 𝓛 (‵ (fat s (raw_ty τ) b o u) ∷ raw (wand 𝓤 (H.at s (raw_ty τ) b o u) (Kt u)) ∷ []) ∵
      use1 𝓛 (‵ (fat s τ b o u)) (𝓛.laws.raw_at s τ b o u) $ frame ! $
      assume {P = Kt u} ! (‵ (fat s τ b o u)) $
      use1 𝓛 (‵ (fat s (raw_ty τ) b o u)) (𝓛.laws.at_raw s τ b o u) $
      by ! (apply∗ 𝓤 (H.at s (raw_ty τ) b o u) (Kt u))

  raw_read : ent 𝓤 (read 𝓤 H (raw_ty τ) b o Kt) (read 𝓤 H τ b o Kt)
  raw_read =
      ex_e 𝓤 (λ (s : Share). ex 𝓤 (At (raw_ty τ) s)) (λ s. ex_e 𝓤 (At (raw_ty τ) s) (λ u.
      via 𝓤 (At τ s u) (turned s u) (via 𝓤 (ex 𝓤 (At τ s)) (ex_i 𝓤 (At τ s) u) (ex_i 𝓤 (λ (s' : Share). ex 𝓤 (At τ s')) s))))

-- entry n has the place in it, at the raw form of its type
pub raw_in : {M : Type 1} {𝓤 : Ura M} (𝓛 : Logic 𝓤) {K : Type 0} {Γ : List (Item 𝓤)} → K → (n : ℕ) {q : Share} {τ : Ty} {b o : ℕ} {v : Val} {back : Val → Item 𝓤}
    → Part K 𝓛 (nth 𝓛 n Γ) q (raw_ty τ) b o v back → Reads K 𝓛 Γ τ b o v
raw_in {𝓤 = 𝓤} 𝓛 {K} {Γ} t n {q} {τ} {b} {o} {v} {back} p =
    record { go = λ Kt h. via 𝓤 (read 𝓤 𝓛.H (raw_ty τ) b o Kt) ((look_in {Γ = Γ} t n p).go Kt h) (raw_read 𝓛 τ b o Kt) }
