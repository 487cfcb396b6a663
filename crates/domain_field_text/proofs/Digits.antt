-- Digits in base32hex, group by group.
use Rattle.std.proofs.Common.{◌≡◌, ◌∙◌, ℕ, ◌-◌, ◌≤◌, ◌<◌, List, [], ◌∷◌, ◌++◌, length, take, drop, get_or, refl, sym, ap, append_assoc, length-drop, arith}
use Rattle.std.proofs.lemmas.Grind.{put_two}
use Rattle.std.proofs.lemmas.List.{take_all}
use Rattle.std.proofs.lemmas.Str.Ascii.{IsAscii-cons, IsAscii-nil}
use Rattle.std.specs.Fmt.{HasWritten}
use Rattle.std.specs.Str.{IsAscii}
use Rattle.std.specs.declared.fmt.Formatter.{Formatter}
use Rattle.domain_list.specs.Moving.{HasMoved}
use Rattle.domain_field_text.specs.Base32.{base32hex_group, base32hex_end, base32hex_text}

pub eight_ascii : (a b c d e f g h : ℕ) → a < 128 → b < 128 → c < 128 → d < 128 → e < 128 → f < 128 → g < 128 → h < 128
    → IsAscii (a ∷ b ∷ c ∷ d ∷ e ∷ f ∷ g ∷ h ∷ [])
eight_ascii a b c d e f g h p q r s t u v w =
    IsAscii-cons a (b ∷ c ∷ d ∷ e ∷ f ∷ g ∷ h ∷ []) p
    (IsAscii-cons b (c ∷ d ∷ e ∷ f ∷ g ∷ h ∷ []) q
    (IsAscii-cons c (d ∷ e ∷ f ∷ g ∷ h ∷ []) r
    (IsAscii-cons d (e ∷ f ∷ g ∷ h ∷ []) s
    (IsAscii-cons e (f ∷ g ∷ h ∷ []) t
    (IsAscii-cons f (g ∷ h ∷ []) u
    (IsAscii-cons g (h ∷ []) v
    (IsAscii-cons h [] w IsAscii-nil)))))))

-- the first five octets
five_taken : (o : List ℕ) → 5 ≤ length o
    → base32hex_text o ≡ base32hex_group (get_or o 0 0) (get_or o 1 0) (get_or o 2 0) (get_or o 3 0) (get_or o 4 0) ++ base32hex_text (drop 5 o)
five_taken [] some = absurd (omega (arith, some))
five_taken (a ∷ []) some = absurd (omega (arith, some))
five_taken (a ∷ b ∷ []) some = absurd (omega (arith, some))
five_taken (a ∷ b ∷ c ∷ []) some = absurd (omega (arith, some))
five_taken (a ∷ b ∷ c ∷ d ∷ []) some = absurd (omega (arith, some))
five_taken (a ∷ b ∷ c ∷ d ∷ e ∷ o) some = refl

-- fewer are left
fewer : (o : List ℕ) → length o < 5 → base32hex_text o ≡ base32hex_end o
fewer [] few = refl
fewer (a ∷ []) few = refl
fewer (a ∷ b ∷ []) few = refl
fewer (a ∷ b ∷ c ∷ []) few = refl
fewer (a ∷ b ∷ c ∷ d ∷ []) few = refl
fewer (a ∷ b ∷ c ∷ d ∷ e ∷ o) few = absurd (omega (arith, few))

-- a group more
pub group_moved : {W : Type 0} (took : W → List ℕ → W → Type 0) (f g h : Formatter W) (whole o digits : List ℕ) (n : ℕ) → HasMoved took f whole (base32hex_text o) g → 5 ≤ length o
    → digits ≡ base32hex_group (get_or o 0 0) (get_or o 1 0) (get_or o 2 0) (get_or o 3 0) (get_or o 4 0) → HasWritten took g digits h → length o - 5 ≤ n
    → HasMoved took f whole (base32hex_text (take n (drop 5 o))) h
group_moved took f g h whole o digits n m some is wrote many =
    let left : take n (drop 5 o) ≡ drop 5 o = take_all n (drop 5 o) (omega (arith, length-drop 5 o, many)) in
    let next : base32hex_text o ≡ digits ++ base32hex_text (take n (drop 5 o)) =
    five_taken o some ∙ ap (λ (x : List ℕ). x ++ base32hex_text (drop 5 o)) (sym is) ∙ ap (λ (x : List ℕ). digits ++ base32hex_text x) (sym left) in
    record {
      done = m.done ++ digits;
      parts = m.parts ∙ ap (λ (x : List ℕ). m.done ++ x) next ∙ sym (append_assoc m.done digits (base32hex_text (take n (drop 5 o))));
      wrote = put_two took f g h m.done digits (m.done ++ digits) m.wrote wrote refl;
    }

-- the last group
pub groups_end : {W : Type 0} (took : W → List ℕ → W → Type 0) (f g h : Formatter W) (whole o digits : List ℕ) → HasMoved took f whole (base32hex_text o) g → length o < 5 → digits ≡ base32hex_end o
    → HasWritten took g digits h → HasWritten took f whole h
groups_end took f g h whole o digits m few is wrote =
    put_two took f g h m.done digits whole m.wrote wrote (ap (λ (x : List ℕ). m.done ++ x) (is ∙ sym (fewer o few)) ∙ sym m.parts)
