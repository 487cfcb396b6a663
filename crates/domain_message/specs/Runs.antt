-- The entries that a section gives. An entry is a question or a record.
use Rattle.std.specs.Prelude.{◌≡◌, ℕ, suc, zero, ◌+◌, ◌<◌, ◌≤◌, ◌⊎◌, List, [], ◌∷◌, length}
use Rattle.std.proofs.Common.{arith, sym, subst, refl, inl, inr, ◌∙◌}
pub use Rattle.domain_message.specs.Once.{NoneAt, IsOnce, IsDecided}
use Rattle.domain_message.specs.Sections.{Run}

-- The entries from p on are xs: n of them, or fewer, up to where none is.
pub record Given {V : Type 0} (At : List ℕ → ℕ → V → ℕ → Type 0) (m : List ℕ) (p n : ℕ)
    (xs : List V) : Type 0 where
  pub offset : ℕ
  pub run : Run At m p xs offset
  pub end : (length xs ≡ n) ⊎ ((length xs < n) × NoneAt At m offset)

-- At most one list of this length is at p, and it has one end.
pub run_once : {V : Type 0} {At : List ℕ → ℕ → V → ℕ → Type 0} → IsOnce At
    → (m : List ℕ) (p : ℕ) (xs ys : List V) (e f : ℕ) → length xs ≡ length ys → Run At m p xs e
    → Run At m p ys f → (xs ≡ ys) × (e ≡ f)
run_once once m p [] [] e f same a b = (refl, a ∙ sym b)
run_once once m p [] (y ∷ ys) e f same a b = absurd (omega (arith, same))
run_once once m p (x ∷ xs) [] e f same a b = absurd (omega (arith, same))
run_once {At = At} once m p (x ∷ xs) (y ∷ ys) e f same a b =
    let first = once m p x y a.0 b.0 a.1 b.1 in
    let rest = run_once once m a.0 xs ys e f (omega (arith, same)) a.2 (subst (λ q. Run At m q ys f) (sym first.1) b.2) in
    ((λ i. first.0 i ∷ rest.0 i), rest.1)

-- no list is longer than one that ends where no entry is
none_longer : {V : Type 0} {At : List ℕ → ℕ → V → ℕ → Type 0} → IsOnce At
    → (m : List ℕ) (p : ℕ) (xs ys : List V) (e f : ℕ) → Run At m p xs e → Run At m p ys f
    → NoneAt At m e → length ys ≤ length xs
none_longer once m p xs [] e f a b none = omega arith
none_longer {At = At} once m p [] (y ∷ ys) e f a b none =
    absurd (none y b.0 (subst (λ q. At m q y b.0) (sym a) b.1))
none_longer {At = At} once m p (x ∷ xs) (y ∷ ys) e f a b none =
    let first = once m p x y a.0 b.0 a.1 b.1 in
    let rest = none_longer once m a.0 xs ys e f a.2 (subst (λ q. Run At m q ys f) (sym first.1) b.2) none in
    omega (arith, rest)

at_most : {V : Type 0} (At : List ℕ → ℕ → V → ℕ → Type 0) (m : List ℕ) (n e : ℕ) (xs : List V)
    → ((length xs ≡ n) ⊎ ((length xs < n) × NoneAt At m e)) → length xs ≤ n
at_most At m n e xs (inl all) = omega (arith, all)
at_most At m n e xs (inr (few, none)) = omega (arith, few)

-- what is given is no shorter than another list that is there
given_whole : {V : Type 0} {At : List ℕ → ℕ → V → ℕ → Type 0} → IsOnce At
    → (m : List ℕ) (p n : ℕ) (xs ys : List V) (e f : ℕ) → Run At m p xs e → Run At m p ys f
    → length ys ≤ n → ((length xs ≡ n) ⊎ ((length xs < n) × NoneAt At m e)) → length ys ≤ length xs
given_whole once m p n xs ys e f a b most (inl all) = omega (arith, most, all)
given_whole once m p n xs ys e f a b most (inr (few, none)) =
    none_longer once m p xs ys e f a b none

-- At most one list is given.
pub given_once : {V : Type 0} {At : List ℕ → ℕ → V → ℕ → Type 0} → IsOnce At
    → (m : List ℕ) (p n : ℕ) (xs ys : List V) → Given At m p n xs → Given At m p n ys → xs ≡ ys
given_once {At = At} once m p n xs ys a b =
    let more = given_whole once m p n xs ys a.offset b.offset a.run b.run (at_most At m n b.offset ys b.end) a.end in
    let less = given_whole once m p n ys xs b.offset a.offset b.run a.run (at_most At m n a.offset xs a.end) b.end in
    (run_once once m p xs ys a.offset b.offset (omega (arith, more, less)) a.run b.run).0

one_more : {V : Type 0} (At : List ℕ → ℕ → V → ℕ → Type 0) (m : List ℕ) (n e : ℕ) (y : V)
    (ys : List V) → ((length ys ≡ n) ⊎ ((length ys < n) × NoneAt At m e))
    → ((length (y ∷ ys) ≡ suc n) ⊎ ((length (y ∷ ys) < suc n) × NoneAt At m e))
one_more At m n e y ys (inl all) = inl (omega (arith, all))
one_more At m n e y ys (inr (few, none)) = inr (omega (arith, few), none)

-- Some list is given.
pub given_some : {V : Type 0} {At : List ℕ → ℕ → V → ℕ → Type 0} → IsDecided At
    → (n : ℕ) (m : List ℕ) (p : ℕ) → (xs : List V) × Given At m p n xs
given_some decided zero m p = ([], record { offset = p; run = refl; end = inl refl })
given_some {V = V} {At = At} decided (suc n) m p =
    look (λ q. given_some decided n m q) (decided m p)
  where
    look : ((q : ℕ) → (xs : List V) × Given At m q n xs)
        → ((x : V) × (e : ℕ) × At m p x e) ⊎ NoneAt At m p → (xs : List V) × Given At m p (suc n) xs
    look more (inl (x, e, at)) = let rest = more e in (x ∷ rest.0, record { offset = rest.1.offset; run = (e, at, rest.1.run); end = one_more At m n rest.1.offset x rest.0 rest.1.end })
    look more (inr none) = ([], record { offset = p; run = refl; end = inr (omega arith, none) })

one_less : {V : Type 0} (At : List ℕ → ℕ → V → ℕ → Type 0) (m : List ℕ) (n e : ℕ) (y : V)
    (ys : List V) → ((length (y ∷ ys) ≡ n + 1) ⊎ ((length (y ∷ ys) < n + 1) × NoneAt At m e))
    → ((length ys ≡ n) ⊎ ((length ys < n) × NoneAt At m e))
one_less At m n e y ys (inl all) = inl (omega (arith, all))
one_less At m n e y ys (inr (few, none)) = inr (omega (arith, few), none)

not_empty : {V : Type 0} (At : List ℕ → ℕ → V → ℕ → Type 0) (m : List ℕ) (p n e q : ℕ) (x : V)
    → At m p x q → e ≡ p → ((0 ≡ n + 1) ⊎ ((0 < n + 1) × NoneAt At m e)) → ⊥
not_empty At m p n e q x at same (inl all) = omega (arith, all)
not_empty At m p n e q x at same (inr (few, none)) =
    none x q (subst (λ r. At m r x q) (sym same) at)

-- The first entry is given first.
pub given_first : {V : Type 0} {At : List ℕ → ℕ → V → ℕ → Type 0} → IsOnce At
    → (m : List ℕ) (p n q : ℕ) (x : V) (ys : List V) → At m p x q → Given At m p (n + 1) ys
    → (zs : List V) × (ys ≡ x ∷ zs) × Given At m q n zs
given_first {At = At} once m p n q x [] at given =
    absurd (not_empty At m p n given.offset q x at given.run given.end)
given_first {At = At} once m p n q x (y ∷ ys) at given =
    let first = once m p y x given.run.0 q given.run.1 at in (
      ys,
      (λ i. first.0 i ∷ ys),
      record {
        offset = given.offset;
        run = subst (λ r. Run At m r ys given.offset) first.1 given.run.2;
        end = one_less At m n given.offset y ys given.end;
      },
    )

-- If none is left, or no entry is there, none is given.
pub given_nothing : {V : Type 0} {At : List ℕ → ℕ → V → ℕ → Type 0} (m : List ℕ) (p n : ℕ)
    (ys : List V) → ((n ≡ 0) ⊎ NoneAt At m p) → Given At m p n ys → ys ≡ []
given_nothing m p n [] over given = refl
given_nothing {At = At} m p n (y ∷ ys) (inl over) given = let most = at_most At m n given.offset (y ∷ ys) given.end in absurd (omega (arith, over, most))
given_nothing m p n (y ∷ ys) (inr none) given = absurd (none y given.run.0 given.run.1)
