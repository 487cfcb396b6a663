-- Records that were skipped because their data is of another type.
use Rattle.std.proofs.Common.{◌≡◌, ℕ, ◌+◌, ◌<◌, List, [], ◌∷◌, ◌++◌, length, length-append, refl, subst, ◌∙◌, arith}
use Rattle.std.specs.Prelude.{Bool, true, false}
use Rattle.octseq.specs.declared.parse.Parser.{Parser}
use Rattle.octseq.specs.Parsing.{message, position}
use Rattle.domain_wire.specs.declared.error.ParseError.{ParseError}
use Rattle.domain_message.specs.Entries.{RecordFields, RecordAt, NoRecord}
use Rattle.domain_message.specs.RunFacts.{run_and}
use Rattle.domain_message.specs.Kept.{AreOthers, FirstKept, NoneKept, MissesKept, BreaksKept}
use Rattle.domain_message.specs.Sections.{Run}

-- Of n records that were left at the old parser, those up to the new one were skipped, and left are left.
pub record PassedOthers (keep : RecordFields → Bool) (old : Parser) (n : ℕ) (new : Parser) (left : ℕ) : Type 0 where
  pub items : List RecordFields
  pub others : AreOthers keep items
  pub count : n ≡ length items + left
  pub run : Run RecordAt (message old) (position old) items (position new)
  pub octets : message new ≡ message old

pub passed_none : (keep : RecordFields → Bool) (p : Parser) (n : ℕ) → PassedOthers keep p n p n
passed_none keep p n = record { items = []; others = tt; count = omega arith; run = refl; octets = refl }

others_and : (keep : RecordFields → Bool) (xs : List RecordFields) (x : RecordFields) → AreOthers keep xs → keep x ≡ false → AreOthers keep (xs ++ x ∷ [])
others_and keep [] x others other = (other, tt)
others_and keep (y ∷ ys) x others other = (others.0, others_and keep ys x others.1 other)

-- one record more that isn't kept
pub passed_more : (keep : RecordFields → Bool) (old mid new : Parser) (n left rest : ℕ) (x : RecordFields) → PassedOthers keep old n mid left → left ≡ rest + 1 → keep x ≡ false → RecordAt (message mid) (position mid) x (position new) → message new ≡ message mid → PassedOthers keep old n new rest
passed_more keep old mid new n left rest x before one other at same = record {
  items = before.items ++ x ∷ [];
  others = others_and keep before.items x before.others other;
  count = omega (arith, before.count, one, length-append before.items (x ∷ []));
  run = run_and RecordAt (message old) (position old) (position mid) (position new) before.items x before.run (subst (λ m. RecordAt m (position mid) x (position new)) before.octets at);
  octets = same ∙ before.octets;
}

-- the first that is kept
pub first_kept : (keep : RecordFields → Bool) (old mid : Parser) (n left rest e : ℕ) (it : RecordFields) → PassedOthers keep old n mid left → left ≡ rest + 1 → keep it ≡ true → RecordAt (message mid) (position mid) it e → FirstKept keep (message old) (position old) n it e rest
first_kept keep old mid n left rest e it before one kept at = record {
  before = before.items;
  others = before.others;
  offset = position mid;
  run = before.run;
  at = subst (λ m. RecordAt m (position mid) it e) before.octets at;
  kept = kept;
  count = omega (arith, before.count, one);
}

-- none is kept
pub none_kept : (keep : RecordFields → Bool) (old mid : Parser) (n left : ℕ) → PassedOthers keep old n mid left → left ≡ 0 → NoneKept keep (message old) (position old) n
none_kept keep old mid n left before none = record {
  before = before.items;
  others = before.others;
  offset = position mid;
  run = before.run;
  count = omega (arith, before.count, none);
}

-- the next is missing
pub misses_kept : (keep : RecordFields → Bool) (old mid : Parser) (n left : ℕ) (why : ParseError) → PassedOthers keep old n mid left → 0 < left → NoRecord (message mid) (position mid) why → MissesKept keep (message old) (position old) n why
misses_kept keep old mid n left why before some missing = record {
  before = before.items;
  others = before.others;
  offset = position mid;
  run = before.run;
  few = omega (arith, before.count, some);
  missing = subst (λ m. NoRecord m (position mid) why) before.octets missing;
}

-- the data of the next can't be read
pub breaks_kept : {E : Type 0} (keep : RecordFields → Bool) (Broken : RecordFields → E → Type 0) (old mid : Parser) (n left e : ℕ) (it : RecordFields) (why : E) → PassedOthers keep old n mid left → 0 < left → keep it ≡ true → RecordAt (message mid) (position mid) it e → Broken it why → BreaksKept keep Broken (message old) (position old) n why
breaks_kept keep Broken old mid n left e it why before some kept at broken = record {
  before = before.items;
  others = before.others;
  offset = position mid;
  run = before.run;
  few = omega (arith, before.count, some);
  it = it;
  end = e;
  at = subst (λ m. RecordAt m (position mid) it e) before.octets at;
  kept = kept;
  broken = broken;
}
