-- The two parts of a part: where the first part of the whole is known to end as it was, the whole follows them.
--     past_given      from `res γ₁ t`, `follows_both γ γ₁ γ₂ F` and `follows_both γ₂ γ₃ γ₄ G`:
--                     follows_both γ γ₃ γ₄ (λ x y. F t (G x y))
--     past_head       the same of octets that are cut in two, and whose second part is:   head ++ (x ++ y)
--     if_some, if_none      `follows_both_if`, where the parts are there and where they are not
use mathlib.Core.List.{List, [], ◌∷◌, ◌++◌}
use mathlib.Core.Option.{none, some}
use Prim.Native.Nat.{ℕ}
use seplogic.Ra.Ura.{Ura}
use base.Logic.{ent, sep, wand, id⊢}
use base.Fml.{GName, fsep, fres}
use types.Logic.{Logic, sem}
use types.Kit.{‵, ◌$◌, ◌∵◌, !, qed, by, move, join, use2, fsplit, each, assume}
use types.Follow.{followed₂}
use denote.Array.{Array}
use denote.Builtin.{u8}
use denote.Follow.{both_by, follows_both, both_if_by, follows_both_if}
use denote.Memory.{mem}
use denote.RattleType.{RattleType}
use Rattle.domain_label.specs.LendingParts.{after_head}

module _ {M : Type 1} {𝓤 : Ura M} (𝓛 : Logic 𝓤) where
  open 𝓛 use {A}

  module _ (R T U V W : RattleType) (γ γ₁ γ₂ γ₃ γ₄ : GName) (F : T.Denot → U.Denot → R.Denot) (G : V.Denot → W.Denot → U.Denot) (t : T.Denot) where
    pub past_given : ent 𝓤
        (sep 𝓤 (A.res γ₁ (T.coded.code t)) (sep 𝓤 (sem 𝓛 (follows_both R T U γ γ₁ γ₂ F)) (sem 𝓛 (follows_both U V W γ₂ γ₃ γ₄ G))))
        (sem 𝓛 (follows_both R V W γ γ₃ γ₄ (λ x y. F t (G x y))))
    unfolding both_by
    past_given =
        qed 𝓛 (‵ (fres γ₁ (T.coded.code t)) ∷ ‵ (follows_both R T U γ γ₁ γ₂ F) ∷ ‵ (follows_both U V W γ₂ γ₃ γ₄ G) ∷ []) ∵
        each ! (λ (w : V.Denot × W.Denot). wand 𝓤 (sep 𝓤 (A.res γ₃ (V.coded.code w.0)) (A.res γ₄ (W.coded.code w.1))) (A.res γ (R.coded.code (F t (G w.0 w.1))))) (λ w.
        assume ! (‵ (fsep (fres γ₃ (V.coded.code w.0)) (fres γ₄ (W.coded.code w.1)))) $ fsplit ! $ join ! $
        -- [the last values of the two parts; that of the first part; what the whole follows; what the second follows]
        move ! (0 ∷ 3 ∷ []) $
        use2 𝓛 (‵ (fres γ₂ (U.coded.code (G w.0 w.1)))) (followed₂ 𝓛 (mem U) (mem V) (mem W) G γ₂ γ₃ γ₄ w.0 w.1) $
        move ! (1 ∷ 0 ∷ []) $ join ! $
        by ! (followed₂ 𝓛 (mem R) (mem T) (mem U) F γ γ₁ γ₂ t (G w.0 w.1)))

  module _ (γ γ₁ γ₂ γ₃ γ₄ : GName) (head : List ℕ) where
    pub past_head : ent 𝓤
        (sep 𝓤 (A.res γ₁ ((Array u8 0).coded.code head)) (sep 𝓤 (sem 𝓛 (follows_both (Array u8 0) (Array u8 0) (Array u8 0) γ γ₁ γ₂ ◌++◌)) (sem 𝓛 (follows_both (Array u8 0) (Array u8 0) (Array u8 0) γ₂ γ₃ γ₄ ◌++◌))))
        (sem 𝓛 (follows_both (Array u8 0) (Array u8 0) (Array u8 0) γ γ₃ γ₄ (after_head head)))
    past_head = past_given (Array u8 0) (Array u8 0) (Array u8 0) (Array u8 0) (Array u8 0) γ γ₁ γ₂ γ₃ γ₄ ◌++◌ ◌++◌ head

  module _ (R T U : RattleType) (γ : GName) (F : T.Denot → U.Denot → R.Denot) (v : R.Denot) where
    pub if_some : (γs : GName × GName) → ent 𝓤 (sem 𝓛 (follows_both R T U γ γs.0 γs.1 F)) (sem 𝓛 (follows_both_if R T U γ (some γs) F v))
    unfolding both_if_by
    if_some γs = id⊢ 𝓤 _

    pub if_none : ent 𝓤 (A.res γ (R.coded.code v)) (sem 𝓛 (follows_both_if R T U γ none F v))
    unfolding both_if_by
    if_none = id⊢ 𝓤 _
