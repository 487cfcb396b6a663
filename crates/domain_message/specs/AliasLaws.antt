-- A list of records has one first CNAME record of a name, and a chain of them one end. A chain of more records than
-- there are CNAME records goes round.
use Rattle.std.specs.Prelude.{◌≡◌, ◌==◌, ◌<◌, ◌≤◌, ℕ, zero, suc, ◌+◌, ◌⊎◌, true, false, cond, List, [], ◌∷◌, length, Option, Some, None}
use Rattle.std.specs.List.{AllByRecursion, IsDistinct, list_any}
use Rattle.std.proofs.Common.{arith, ap, sym, subst, inl, inr, refl}
use Rattle.std.proofs.lemmas.Bool.{cases_eq, cases_lt, eq-eqb, eqb-true, ne_eqb, or_cases, false≢true}
use Rattle.std.proofs.lemmas.Map.Keys.{IsDistinct-cons}
use Rattle.std.proofs.lemmas.Map.Steps.{length-le_from_distinct_below}
use Rattle.domain_message.specs.Aliases.{FirstAlias, Leads, ChainEnd, ChainEndWithin, cname_count}
use Rattle.domain_message.specs.Aliases.Leads.{stays, goes}
use Rattle.domain_message.specs.Aliases.ChainEnd.{ends, goes_round}
use Rattle.domain_message.specs.Aliases.ChainEndWithin.{ends_within, leads_on}
use Rattle.domain_message.specs.Aliases.FirstAlias.{nowhere, here, later}
use Rattle.domain_message.specs.Entries.{WholeNameAt, RecordFields}
use Rattle.domain_message.specs.Readings.{name_once}

pub first_once : (name : List (List ℕ)) (rs : List RecordFields) (a b : Option (List (List ℕ)))
    → FirstAlias name rs a → FirstAlias name rs b → a ≡ b
first_once name rs a b nowhere nowhere = refl
first_once name rs a b (here x) (here y) = ap (λ t. Some t) (name_once x.data_is y.data_is).0
first_once name rs a b (here {target = target} x) (later other f) = absurd (other target x)
first_once name rs a b (later other f) (here {target = target} y) = absurd (other target y)
first_once name rs a b (later {rest = rest} other f) (later another g) =
    first_once name rest a b f g

none_is_none : {A : Type 0} (a : A) → None ≡ Some a → ⊥
none_is_none a same = cc (same)

some_same : {A : Type 0} (a b : A) → Some a ≡ Some b → a ≡ b
some_same a b same = cc (same)

-- the last record, and those before it
last_step : (rs : List RecordFields) (from : List (List ℕ)) (m n : ℕ) (b : List (List ℕ))
    → m ≡ n + 1 → Leads rs from m b → (name : List (List ℕ)) × Leads rs from n name
    × FirstAlias name rs (Some b)
last_step rs from m n b some stays = absurd (omega (arith, some))
last_step rs from m n b some (goes {n = k} {name = name} before first) = let same : k ≡ n = omega (arith, some) in (name, subst (λ i. Leads rs from i name) same before, first)

no_step : (rs : List RecordFields) (from : List (List ℕ)) (m : ℕ) (b : List (List ℕ)) → m ≡ 0
    → Leads rs from m b → from ≡ b
no_step rs from m b none stays = refl
no_step rs from m b none (goes {n = k} before first) = absurd (omega (arith, none))

-- So many records lead to one name.
pub leads_once : (rs : List RecordFields) (from : List (List ℕ)) (n : ℕ) (a b : List (List ℕ))
    → Leads rs from n a → Leads rs from n b → a ≡ b
leads_once rs from n a b stays other = no_step rs from 0 b refl other
leads_once rs from n a b (goes {n = k} {name = name} before first) other =
    let last = last_step rs from (k + 1) k b refl other in
    let same = leads_once rs from k name last.0 before last.1 in
    some_same a b (first_once last.0 rs (Some a) (Some b)
    (subst (λ i. FirstAlias i rs (Some a)) same first) last.2)

-- records that lead on from where others led
pub leads_then : (rs : List RecordFields) (from mid to : List (List ℕ)) (n k : ℕ)
    → Leads rs from n mid → Leads rs mid k to → Leads rs from (n + k) to
leads_then rs from mid to n k before stays = let same : n ≡ n + 0 = omega arith in subst (λ i. Leads rs from i mid) same before
leads_then rs from mid to n k before (goes {n = j} {name = name} more first) =
    let same : n + j + 1 ≡ n + (j + 1) = omega arith in
    subst (λ i. Leads rs from i to) same (goes (leads_then rs from mid name n j before more) first)

-- one more record from an end
past_end : (rs : List RecordFields) (from end name other : List (List ℕ)) (n k : ℕ)
    → Leads rs from n end → FirstAlias end rs None → Leads rs from k name
    → FirstAlias name rs (Some other) → (k ≡ n) ⊎ (k ≡ n → ⊥) → k ≤ n → k + 1 ≤ n
past_end rs from end name other n k leads last before first (inl same) few =
    let is = leads_once rs from n end name leads (subst (λ i. Leads rs from i name) same before) in
    absurd (none_is_none other (first_once name rs None (Some other)
    (subst (λ i. FirstAlias i rs None) is last) first))
past_end rs from end name other n k leads last before first (inr less) few = elim (cases_lt k n) [
  | inl under ↦ omega (arith, under)
  | inr over ↦ let same : k ≡ n = omega (arith, over, few) in absurd (less same)
]

-- Where a chain ends, no more records lead on.
no_more : (rs : List RecordFields) (from end : List (List ℕ)) (n : ℕ) → Leads rs from n end
    → FirstAlias end rs None → (m : ℕ) (other : List (List ℕ)) → Leads rs from m other → m ≤ n
no_more rs from end n leads last m other stays = omega arith
no_more rs from end n leads last m other (goes {n = k} {name = name} before first) =
    past_end rs from end name other n k leads last before first (cases_eq k n)
    (no_more rs from end n leads last k name before)

-- Where a chain goes round, as many records lead on as are asked for.
round_again : (rs : List RecordFields) (from name : List (List ℕ)) (n k : ℕ) → Leads rs from n name
    → Leads rs name k name → 0 < k → (j : ℕ) → (m : ℕ) × (j ≤ m) × Leads rs from m name
round_again rs from name n k to round some zero = (n, omega arith, to)
round_again rs from name n k to round some (suc j) =
    let before = round_again rs from name n k to round some j in (
      before.0 + k,
      omega (arith, before.1, some),
      leads_then rs from name name before.0 k before.2 round,
    )

round_or_ends : (rs : List RecordFields) (from name end : List (List ℕ)) (n k m : ℕ)
    → Leads rs from n name → Leads rs name k name → 0 < k → Leads rs from m end
    → FirstAlias end rs None → ⊥
round_or_ends rs from name end n k m to round some leads last =
    let more = round_again rs from name n k to round some (m + 1) in
    let few = no_more rs from end m leads last more.0 name more.2 in
    omega (arith, few, more.1)

same_end : (rs : List RecordFields) (from a b : List (List ℕ)) (n m : ℕ) → Leads rs from n a
    → FirstAlias a rs None → Leads rs from m b → FirstAlias b rs None → a ≡ b
same_end rs from a b n m x last y also =
    let few = no_more rs from a n x last m b y in
    let most = no_more rs from b m y also n a x in
    let same : m ≡ n = omega (arith, few, most) in
    leads_once rs from n a b x (subst (λ i. Leads rs from i b) same y)

-- A chain has one end, or goes round.
pub chain_once : (rs : List RecordFields) (from : List (List ℕ)) (a b : Option (List (List ℕ)))
    → ChainEnd rs from a → ChainEnd rs from b → a ≡ b
chain_once rs from a b (ends {n = n} {end = x} leads last) (ends {n = m} {end = y} other also) =
    ap (λ t. Some t) (same_end rs from x y n m leads last other also)
chain_once rs from a b (ends {n = n} {end = x} leads last) (goes_round {n = m} {k = k} {name = name} to round some) = absurd (round_or_ends rs from name x m k n to round some leads last)
chain_once rs from a b (goes_round {n = m} {k = k} {name = name} to round some) (ends {n = n} {end = x} leads last) = absurd (round_or_ends rs from name x m k n to round some leads last)
chain_once rs from a b (goes_round to round some) (goes_round other also more) = refl

too_long : (rs : List RecordFields) (from x name : List (List ℕ)) (n limit : ℕ) → Leads rs from n x
    → n ≤ limit → FirstAlias x rs None → Leads rs from (limit + 1) name → ⊥
too_long rs from x name n limit leads few last more = let most = no_more rs from x n leads last (limit + 1) name more in omega (arith, few, most)

-- So it is with a limit.
pub within_once : (rs : List RecordFields) (limit : ℕ) (from : List (List ℕ))
    (a b : Option (List (List ℕ))) → ChainEndWithin limit rs from a → ChainEndWithin limit rs from b
    → a ≡ b
within_once rs limit from a b (ends_within {n = n} {end = x} leads few last) (ends_within {n = m} {end = y} other less also) = ap (λ t. Some t) (same_end rs from x y n m leads last other also)
within_once rs limit from a b (ends_within {n = n} {end = x} leads few last) (leads_on {name = name} more) = absurd (too_long rs from x name n limit leads few last more)
within_once rs limit from a b (leads_on {name = name} more) (ends_within {n = n} {end = x} leads few last) = absurd (too_long rs from x name n limit leads few last more)
within_once rs limit from a b (leads_on more) (leads_on other) = refl

-- The r-th CNAME record of a list has this target.
data Nth : List RecordFields → ℕ → List (List ℕ) → Type 0 where
  this : {it : RecordFields} {rest : List RecordFields} {target : List (List ℕ)}
      → it.header.rtype ≡ 5 → WholeNameAt it.octets it.start target (length it.octets)
      → Nth (it ∷ rest) 0 target
  after : {it : RecordFields} {rest : List RecordFields} {r : ℕ} {target : List (List ℕ)}
      → it.header.rtype ≡ 5 → Nth rest r target → Nth (it ∷ rest) (r + 1) target
  beside : {it : RecordFields} {rest : List RecordFields} {r : ℕ} {target : List (List ℕ)}
      → (it.header.rtype ≡ 5 → ⊥) → Nth rest r target → Nth (it ∷ rest) r target

nth_once : (rs : List RecordFields) (r s : ℕ) (a b : List (List ℕ)) → r ≡ s → Nth rs r a
    → Nth rs s b → a ≡ b
nth_once rs r s a b same (this is x) (this also y) = (name_once x y).0
nth_once rs r s a b same (this is x) (after {r = k} also y) = absurd (omega (arith, same))
nth_once rs r s a b same (this is x) (beside other y) = absurd (other is)
nth_once rs r s a b same (after {r = k} is x) (this also y) = absurd (omega (arith, same))
nth_once rs r s a b same (after {rest = rest} {r = k} is x) (after {r = j} also y) =
    nth_once rest k j a b (omega (arith, same)) x y
nth_once rs r s a b same (after is x) (beside other y) = absurd (other is)
nth_once rs r s a b same (beside other x) (this is y) = absurd (other is)
nth_once rs r s a b same (beside other x) (after is y) = absurd (other is)
nth_once rs r s a b same (beside {rest = rest} other x) (beside another y) =
    nth_once rest r s a b same x y

pub count_more : (it : RecordFields) (rest : List RecordFields) → it.header.rtype ≡ 5
    → cname_count (it ∷ rest) ≡ suc (cname_count rest)
count_more it rest is =
    ap (λ b. cond b (suc (cname_count rest)) (cname_count rest)) (eq-eqb it.header.rtype 5 is)

pub count_same : (it : RecordFields) (rest : List RecordFields) → (it.header.rtype ≡ 5 → ⊥)
    → cname_count (it ∷ rest) ≡ cname_count rest
count_same it rest other =
    ap (λ b. cond b (suc (cname_count rest)) (cname_count rest)) (ne_eqb it.header.rtype 5 other)

nth_few : (rs : List RecordFields) (r : ℕ) (target : List (List ℕ)) → Nth rs r target
    → r < cname_count rs
nth_few rs r target (this {it = it} {rest = rest} is x) = let more = count_more it rest is in omega (arith, more)
nth_few rs r target (after {it = it} {rest = rest} {r = k} is x) = let more = count_more it rest is in let few = nth_few rest k target x in omega (arith, more, few)
nth_few rs r target (beside {it = it} {rest = rest} other x) = let same = count_same it rest other in let few = nth_few rest r target x in omega (arith, same, few)

first_nth : (name : List (List ℕ)) (rs : List RecordFields) (found : Option (List (List ℕ)))
    (target : List (List ℕ)) → found ≡ Some target → FirstAlias name rs found
    → (r : ℕ) × Nth rs r target
first_nth name rs found target same nowhere = absurd (none_is_none target same)
first_nth name rs found target same (here {it = it} {rest = rest} {target = mine} x) =
    (0, subst (λ t. Nth (it ∷ rest) 0 t) (some_same mine target same) (this x.cname x.data_is))
first_nth name rs found target same (later {it = it} {rest = rest} other f) =
    put (first_nth name rest found target same f) (cases_eq it.header.rtype 5)
  where
    put : ((r : ℕ) × Nth rest r target) → (it.header.rtype ≡ 5) ⊎ (it.header.rtype ≡ 5 → ⊥)
        → (r : ℕ) × Nth (it ∷ rest) r target
    put (r, nth) (inl is) = (r + 1, after is nth)
    put (r, nth) (inr another) = (r, beside another nth)

-- A CNAME record that was followed: the chain came to its target, and from there to where it is now.
record Seen (rs : List RecordFields) (from now : List (List ℕ)) (r : ℕ) : Type 0 where
  pub target : List (List ℕ)
  pub nth : Nth rs r target
  pub n : ℕ
  pub to : Leads rs from n target
  pub k : ℕ
  pub on : Leads rs target k now

seen_more : (rs : List RecordFields) (from now next : List (List ℕ)) (ks : List ℕ)
    → FirstAlias now rs (Some next) → AllByRecursion (Seen rs from now) ks
    → AllByRecursion (Seen rs from next) ks
seen_more rs from now next [] first all = tt
seen_more rs from now next (r ∷ ks) first all = (
  record {
    target = all.0.target;
    nth = all.0.nth;
    n = all.0.n;
    to = all.0.to;
    k = all.0.k + 1;
    on = goes all.0.on first;
  },
  seen_more rs from now next ks first all.1,
)

abbrev IsNew : ℕ → List ℕ → Type 0
IsNew r ks = AllByRecursion (λ s. (r == s) ≡ false) ks

seen_or_new : (rs : List RecordFields) (from now : List (List ℕ)) (ks : List ℕ) (r : ℕ)
    → AllByRecursion (Seen rs from now) ks → Seen rs from now r ⊎ IsNew r ks
seen_or_new rs from now [] r all = inr tt
seen_or_new rs from now (s ∷ ks) r all = look (cases_eq r s) (seen_or_new rs from now ks r all.1)
  where
    look : (r ≡ s) ⊎ (r ≡ s → ⊥) → Seen rs from now r ⊎ IsNew r ks
        → Seen rs from now r ⊎ IsNew r (s ∷ ks)
    look (inl same) rest = inl (subst (λ i. Seen rs from now i) (sym same) all.0)
    look (inr other) (inl seen) = inl seen
    look (inr other) (inr new) = inr (ne_eqb r s other, new)

seen_few : (rs : List RecordFields) (from now : List (List ℕ)) (ks : List ℕ)
    → AllByRecursion (Seen rs from now) ks → (q : ℕ) → list_any (λ s. q == s) ks ≡ true
    → q < cname_count rs
seen_few rs from now [] all q any = absurd (false≢true any)
seen_few rs from now (r ∷ ks) all q any =
    look (λ more. seen_few rs from now ks all.1 q more)
    (or_cases (q == r) (list_any (λ s. q == s) ks) any)
  where
    look : (list_any (λ s. q == s) ks ≡ true → q < cname_count rs)
        → ((q == r) ≡ true) ⊎ (list_any (λ s. q == s) ks ≡ true) → q < cname_count rs
    look rest (inl is) =
        subst (λ i. i < cname_count rs) (sym (eqb-true q r is))
        (nth_few rs r all.0.target all.0.nth)
    look rest (inr more) = rest more

-- The CNAME records that were followed differ.
record Followed (rs : List RecordFields) (from : List (List ℕ)) (n : ℕ) (now : List (List ℕ)) : Type 0 where
  pub visited : List ℕ
  pub many : length visited ≡ n
  pub distinct : IsDistinct ◌==◌ visited
  pub seen : AllByRecursion (Seen rs from now) visited

none_distinct : IsDistinct {K = ℕ} ◌==◌ []
unfolding IsDistinct
none_distinct = tt

follow : (rs : List RecordFields) (from name now : List (List ℕ)) (n : ℕ) → Leads rs from n name
    → FirstAlias name rs (Some now) → (r : ℕ) → Nth rs r now → (it : Followed rs from n name)
    → Seen rs from name r ⊎ IsNew r it.visited
    → ChainEnd rs from None ⊎ Followed rs from (n + 1) now
follow rs from name now n before first r nth it (inl seen) =
    let same = nth_once rs r r seen.target now refl seen.nth nth in
    inl (goes_round (goes before first) (subst (λ t. Leads rs t (seen.k + 1) now) same
    (goes seen.on first)) (omega arith))
follow rs from name now n before first r nth it (inr new) =
    inr (record {
      visited = r ∷ it.visited;
      many = omega (arith, it.many);
      distinct = IsDistinct-cons ◌==◌ r it.visited new it.distinct;
      seen = (
        record {
          target = now;
          nth = nth;
          n = n + 1;
          to = goes before first;
          k = 0;
          on = stays;
        },
        seen_more rs from name now it.visited first it.seen,
      );
    })

round_or_followed : (rs : List RecordFields) (from : List (List ℕ)) (n : ℕ) (now : List (List ℕ))
    → Leads rs from n now → ChainEnd rs from None ⊎ Followed rs from n now
round_or_followed rs from n now stays =
    inr (record { visited = []; many = refl; distinct = none_distinct; seen = tt })
round_or_followed rs from n now (goes {n = k} {name = name} before first) =
    on (round_or_followed rs from k name before)
  where
    on : ChainEnd rs from None ⊎ Followed rs from k name
        → ChainEnd rs from None ⊎ Followed rs from (k + 1) now
    on (inl round) = inl round
    on (inr it) = let nth = first_nth name rs (Some now) now refl first in follow rs from name now k before first nth.0 nth.1 it (seen_or_new rs from name it.visited nth.0 it.seen)

-- A chain of more records than there are CNAME records goes round.
pub many_go_round : (rs : List RecordFields) (from : List (List ℕ)) (n : ℕ) (now : List (List ℕ))
    → cname_count rs < n → Leads rs from n now → ChainEnd rs from None
many_go_round rs from n now many leads = look (round_or_followed rs from n now leads)
  where
    look : ChainEnd rs from None ⊎ Followed rs from n now → ChainEnd rs from None
    look (inl round) = round
    look (inr it) = let few = length-le_from_distinct_below it.visited (cname_count rs) it.distinct (seen_few rs from now it.visited it.seen) in absurd (omega (arith, few, it.many, many))

-- With a limit of as many records as there are CNAME records, or more, a chain comes to what it comes to without one.
pub within_enough : (rs : List RecordFields) (limit : ℕ) (from : List (List ℕ))
    (end : Option (List (List ℕ))) → cname_count rs ≤ limit → ChainEndWithin limit rs from end
    → ChainEnd rs from end
within_enough rs limit from end enough (ends_within leads few last) = ends leads last
within_enough rs limit from end enough (leads_on {name = name} more) =
    many_go_round rs from (limit + 1) name (omega (arith, enough)) more

-- An end within a limit is the end.
pub within_ends : (rs : List RecordFields) (limit : ℕ) (from : List (List ℕ))
    (found : Option (List (List ℕ))) (end : List (List ℕ)) → found ≡ Some end
    → ChainEndWithin limit rs from found → ChainEnd rs from (Some end)
within_ends rs limit from found end same (ends_within {end = mine} leads few last) =
    subst (λ t. ChainEnd rs from (Some t)) (some_same mine end same) (ends leads last)
within_ends rs limit from found end same (leads_on more) = absurd (none_is_none end same)
