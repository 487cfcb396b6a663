-- Lines of entries, one after the other.
use Rattle.std.proofs.Common.{◌≡◌, ℕ, zero, suc, ◌+◌, ◌-◌, ◌<◌, ◌≤◌, List, length, [], ◌∷◌, ◌++◌, Option, Some, None, refl, sym, ap, subst, ◌∙◌, arith, replicate}
use Rattle.std.proofs.lemmas.List.{append_assoc, append-nil}
use Rattle.std.proofs.lemmas.Grind.{replicate_next}
use Rattle.std.specs.Io.KnownBytes.{Appends}
use Rattle.domain_wire.specs.declared.error.ParseError.{ParseError}
use Rattle.domain_tool.specs.declared.entry_kind.EntryKind.{EntryKind}
use Rattle.domain_tool.specs.Lines.{Lists, NoEntry, StopsListing, counted_entries}
use Rattle.domain_tool.specs.Lines.StopsListing.{no_entry}
use Rattle.domain_tool.specs.Written.{WritesEntry, WritesEntries, WritesUpTo}

-- two appends in turn
pub appends_more : (a b c : Option (List ℕ)) (xs ys : List ℕ) → Appends a b xs → Appends b c ys → Appends a c (xs ++ ys)
appends_more None b c xs ys f g = tt
appends_more (Some x) None c xs ys f g = absurd f
appends_more (Some x) (Some y) None xs ys f g = absurd g
appends_more (Some x) (Some y) (Some z) xs ys f g = g ∙ (ap (λ t. t ++ ys) f ∙ append_assoc x xs ys)

pub appends_nothing : (a : Option (List ℕ)) → Appends a a []
appends_nothing None = tt
appends_nothing (Some x) = sym (append-nil x)

-- entries and then further entries
pub lists_join : (m : List ℕ) (ss ts : List EntryKind) (p q e : ℕ) (a b : List ℕ) → Lists m ss p a q → Lists m ts q b e → Lists m (ss ++ ts) p (a ++ b) e
unfolding Lists
lists_join m [] ts p q e a b (empty, there) others = rw empty (subst (λ x. Lists m ts x b e) there others)
lists_join m (s ∷ ss) ts p q e a b (line, r, rest, one, text, more) others =
    (line, r, rest ++ b, one, ap (λ t. t ++ b) text ∙ append_assoc (line ++ 10 ∷ []) rest b, lists_join m ss ts r q e rest b more others)

pub writes_join : (m : List ℕ) (ss ts : List EntryKind) (p q e : ℕ) (old mid new : Option (List ℕ)) → WritesEntries m ss p q old mid → WritesEntries m ts q e mid new → WritesEntries m (ss ++ ts) p e old new
writes_join m ss ts p q e old mid new (a, listed, first) (b, others, second) =
    (a ++ b, lists_join m ss ts p q e a b listed others, appends_more old mid new a b first second)

pub writes_none : (m : List ℕ) (p : ℕ) (old : Option (List ℕ)) → WritesEntries m [] p p old old
unfolding Lists
writes_none m p old = ([], (refl, refl), appends_nothing old)

pub writes_one : (m : List ℕ) (s : EntryKind) (p e : ℕ) (old new : Option (List ℕ)) → WritesEntry m s p e old new → WritesEntries m (s ∷ []) p e old new
unfolding Lists
writes_one m s p e old new (line, one, written) =
    (line ++ 10 ∷ [], (line, e, [], one, sym (append-nil (line ++ 10 ∷ [])), (refl, refl)), written)

-- one more entry of a section
pub writes_next : (m : List ℕ) (s : EntryKind) (n p q e : ℕ) (old mid new : Option (List ℕ)) → WritesEntries m (replicate n s) p q old mid → WritesEntry m s q e mid new → WritesEntries m (replicate (n + 1) s) p e old new
writes_next m s n p q e old mid new before one =
    subst (λ ss. WritesEntries m ss p e old new) (sym (replicate_next n s)) (writes_join m (replicate n s) (s ∷ []) p q e old mid new before (writes_one m s q e mid new one))

-- fewer of the same and then the rest
replicate_cut : (b n : ℕ) (s : EntryKind) → b < n → replicate n s ≡ replicate b s ++ s ∷ replicate (n - b - 1) s
replicate_cut zero zero s few = absurd (omega (arith, few))
replicate_cut zero (suc n) s few =
    let e : suc n - 0 - 1 ≡ n = omega arith in
    rw e refl
replicate_cut (suc b) zero s few = absurd (omega (arith, few))
replicate_cut (suc b) (suc n) s few =
    let e : suc n - suc b - 1 ≡ n - b - 1 = omega arith in
    rw e (ap (λ ss. s ∷ ss) (replicate_cut b n s (omega (arith, few))))

-- the entries before one that isn't there
pub stops : (m : List ℕ) (done after : List EntryKind) (s : EntryKind) (n p : ℕ) (old mid new : Option (List ℕ)) (why : ParseError) → counted_entries m ≡ done ++ (replicate n s ++ after)
    → WritesEntries m done 12 p old mid → WritesUpTo m s n p mid new why → 12 ≤ length m → (text : List ℕ) × StopsListing m text why × Appends old new text
stops m done after s n p old mid new why all before up header =
    let part : WritesEntries m (done ++ replicate up.before s) 12 up.offset old new = writes_join m done (replicate up.before s) 12 p up.offset old mid new before up.written in (
      part.0,
      no_entry (record {
        header = header;
        before = done ++ replicate up.before s;
        kind = s;
        after = replicate (n - up.before - 1) s ++ after;
        all = all ∙ (ap (λ ss. done ++ (ss ++ after)) (replicate_cut up.before n s up.few) ∙ (ap (λ ss. done ++ ss) (append_assoc (replicate up.before s) (s ∷ replicate (n - up.before - 1) s) after) ∙ sym (append_assoc done (replicate up.before s) (s ∷ replicate (n - up.before - 1) s ++ after))));
        offset = up.offset;
        listed = part.1;
        missing = up.missing;
      }),
      part.2,
    )

-- an entry that isn't there, after so many that were written
pub writes_up_to : (m seen : List ℕ) (s : EntryKind) (b n p q : ℕ) (old new : Option (List ℕ)) (why : ParseError) → WritesEntries m (replicate b s) p q old new → b < n → seen ≡ m → NoEntry seen s q why → WritesUpTo m s n p old new why
writes_up_to m seen s b n p q old new why written few same missing =
    record { before = b; few = few; offset = q; written = written; missing = subst (λ o. NoEntry o s q why) same missing }
