-- The items of a list, one after the other from the front.
use Rattle.std.proofs.Common.{◌≡◌, ℕ, zero, suc, ◌+◌, ◌-◌, ◌*◌, ◌<◌, ◌≤◌, List, [], ◌∷◌, length, take, drop, get_or, cond, nat_lt, Bool, true, false, ◌||◌, refl, arith, ap, sym, ◌∙◌, length-drop}
use Rattle.std.proofs.lemmas.List.{take_all}
use Rattle.std.proofs.lemmas.Bool.{le-ltb, lt-ltb}
use Rattle.std.specs.List.{flat_map}
use Rattle.domain_svcb.specs.Lists.{item_octet, protocol_texts, address_texts, keys_ascend, protocols_fit}

-- where at most as many protocols are looked at as there are octets, none is left out
enough_protocols : (n m : ℕ) (o : List ℕ) → length o ≤ n → length o ≤ m → protocol_texts n o ≡ protocol_texts m o
enough_protocols zero zero o a b = refl
enough_protocols zero (suc m) [] a b = refl
enough_protocols zero (suc m) (c ∷ o) a b = absurd (omega (arith, a))
enough_protocols (suc n) zero [] a b = refl
enough_protocols (suc n) zero (c ∷ o) a b = absurd (omega (arith, b))
enough_protocols (suc n) (suc m) [] a b = refl
enough_protocols (suc n) (suc m) (c ∷ o) a b =
    ap (λ r. cond (nat_lt (length o) c) [] (flat_map item_octet (take c o) ∷ r)) (enough_protocols n m (drop c o) (omega (arith, a, length-drop c o)) (omega (arith, b, length-drop c o)))

-- octets with one at the front, as a pattern takes them apart
head_and_tail : (o : List ℕ) (n : ℕ) → 1 ≤ length o → n ≡ length o - 1 → o ≡ get_or o 0 0 ∷ take n (drop 1 o)
head_and_tail [] n some e = absurd (omega (arith, some))
head_and_tail (c ∷ o) n some e = ap (λ r. c ∷ r) (sym (take_all n o (omega (arith, e))))

protocol_parts : (len : ℕ) (o : List ℕ) → len ≤ length o → protocol_texts (length (len ∷ o)) (len ∷ o) ≡ flat_map item_octet (take len o) ∷ protocol_texts (length (drop len o)) (drop len o)
protocol_parts len o fits =
    ap (λ b. cond b [] (flat_map item_octet (take len o) ∷ protocol_texts (length o) (drop len o))) (le-ltb (length o) len fits)
    ∙ ap (λ r. flat_map item_octet (take len o) ∷ r) (enough_protocols (length o) (length (drop len o)) (drop len o) (omega (arith, length-drop len o)) (omega arith))

-- the first protocol
pub first_protocol : (o s r : List ℕ) (n len : ℕ) → 1 ≤ length o → n ≡ length o - 1 → len ≡ get_or o 0 0 → len ≤ length (take n (drop 1 o)) → s ≡ take len (take n (drop 1 o)) → r ≡ drop len (take n (drop 1 o)) → protocol_texts (length o) o ≡ flat_map item_octet s ∷ protocol_texts (length r) r
first_protocol o s r n len some e head fits front back =
    let parts : o ≡ len ∷ take n (drop 1 o) = head_and_tail o n some e ∙ ap (λ k. k ∷ take n (drop 1 o)) (sym head) in
    ap (λ q. protocol_texts (length q) q) parts ∙ (protocol_parts len (take n (drop 1 o)) fits ∙ (ap (λ t. flat_map item_octet t ∷ protocol_texts (length (drop len (take n (drop 1 o)))) (drop len (take n (drop 1 o)))) (sym front) ∙ ap (λ t. flat_map item_octet s ∷ protocol_texts (length t) t) (sym back)))

enough_addresses : (size : ℕ) (text : List ℕ → List ℕ) (n m : ℕ) (o : List ℕ) → 0 < size → length o ≤ n → length o ≤ m → address_texts size text n o ≡ address_texts size text m o
enough_addresses size text zero zero o some a b = refl
enough_addresses size text zero (suc m) o some a b =
    sym (ap (λ c. cond c [] (text (take size o) ∷ address_texts size text m (drop size o))) (lt-ltb (length o) size (omega (arith, some, a))))
enough_addresses size text (suc n) zero o some a b =
    ap (λ c. cond c [] (text (take size o) ∷ address_texts size text n (drop size o))) (lt-ltb (length o) size (omega (arith, some, b)))
enough_addresses size text (suc n) (suc m) o some a b =
    ap (λ r. cond (nat_lt (length o) size) [] (text (take size o) ∷ r)) (enough_addresses size text n m (drop size o) some (omega (arith, some, a, length-drop size o)) (omega (arith, some, b, length-drop size o)))

-- the first address
pub first_address : (size : ℕ) (text : List ℕ → List ℕ) (o s r : List ℕ) → 0 < size → size ≤ length o → s ≡ take size o → r ≡ drop size o → address_texts size text (length o) o ≡ text s ∷ address_texts size text (length r) r
first_address size text [] s r some fits front back = absurd (omega (arith, some, fits))
first_address size text (c ∷ o) s r some fits front back =
    ap (λ b. cond b [] (text (take size (c ∷ o)) ∷ address_texts size text (length o) (drop size (c ∷ o)))) (le-ltb (length (c ∷ o)) size fits)
    ∙ (ap (λ t. text (take size (c ∷ o)) ∷ t) (enough_addresses size text (length o) (length (drop size (c ∷ o))) (drop size (c ∷ o)) some (omega (arith, some, length-drop size (c ∷ o))) (omega arith))
    ∙ (ap (λ t. text t ∷ address_texts size text (length (drop size (c ∷ o))) (drop size (c ∷ o))) (sym front) ∙ ap (λ t. text s ∷ address_texts size text (length t) t) (sym back)))

-- nor does the test look at too few
enough_fit : (n m : ℕ) (o : List ℕ) → length o ≤ n → length o ≤ m → protocols_fit n o ≡ protocols_fit m o
enough_fit n m [] a b = refl
enough_fit zero m (c ∷ o) a b = absurd (omega (arith, a))
enough_fit (suc n) zero (c ∷ o) a b = absurd (omega (arith, b))
enough_fit (suc n) (suc m) (c ∷ o) a b =
    ap (λ r. cond (nat_lt c 1 || nat_lt (length o) c) false r) (enough_fit n m (drop c o) (omega (arith, a, length-drop c o)) (omega (arith, b, length-drop c o)))

fit_parts : (len : ℕ) (o : List ℕ) → 1 ≤ len → len ≤ length o → protocols_fit (length (len ∷ o)) (len ∷ o) ≡ protocols_fit (length (drop len o)) (drop len o)
fit_parts len o some fits =
    ap (λ b. cond (b || nat_lt (length o) len) false (protocols_fit (length o) (drop len o))) (le-ltb len 1 some)
    ∙ (ap (λ b. cond b false (protocols_fit (length o) (drop len o))) (le-ltb (length o) len fits)
    ∙ enough_fit (length o) (length (drop len o)) (drop len o) (omega (arith, length-drop len o)) (omega arith))

pub fit_next : (o r : List ℕ) (n len : ℕ) → 1 ≤ length o → n ≡ length o - 1 → len ≡ get_or o 0 0 → 1 ≤ len → len ≤ length (take n (drop 1 o)) → r ≡ drop len (take n (drop 1 o)) → protocols_fit (length o) o ≡ protocols_fit (length r) r
fit_next o r n len some e head one fits back =
    let parts : o ≡ len ∷ take n (drop 1 o) = head_and_tail o n some e ∙ ap (λ k. k ∷ take n (drop 1 o)) (sym head) in
    ap (λ q. protocols_fit (length q) q) parts ∙ (fit_parts len (take n (drop 1 o)) one fits ∙ ap (λ t. protocols_fit (length t) t) (sym back))

-- the next key
pub keys_next : (least : ℕ) (o r : List ℕ) (n high low : ℕ) → 2 ≤ length o → n ≡ length o - 2 → high ≡ get_or o 0 0 → low ≡ get_or o 1 0 → r ≡ take n (drop 2 o) → least ≤ high * 256 + low → keys_ascend least o ≡ keys_ascend (high * 256 + low + 1) r
keys_next least [] r n high low some e one two back order = absurd (omega (arith, some))
keys_next least (a ∷ []) r n high low some e one two back order = absurd (omega (arith, some))
keys_next least (a ∷ b ∷ o) r n high low some e one two back order =
    ap (λ t. cond t false (keys_ascend (a * 256 + b + 1) o)) (le-ltb (a * 256 + b) least (omega arith))
    ∙ (ap (λ t. keys_ascend (t * 256 + b + 1) o) (sym one) ∙ (ap (λ t. keys_ascend (high * 256 + t + 1) o) (sym two) ∙ ap (keys_ascend (high * 256 + low + 1)) (sym (back ∙ take_all n o (omega (arith, e))))))
