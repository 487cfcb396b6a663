-- What is kept of the records that a section has.
use Rattle.std.proofs.Common.{◌≡◌, ℕ, ◌+◌, List, [], ◌∷◌, length, refl, ap, subst, inl, ◌∙◌, arith}
use Rattle.std.specs.Prelude.{Bool, true, false, cond}
use Rattle.std.specs.List.{filter}
use Rattle.domain_message.specs.Entries.{QuestionAt, RecordFields, RecordAt}
use Rattle.domain_message.specs.Kept.{AreOthers}
use Rattle.domain_message.specs.SectionLaws.{GivesOneList, FirstIsKept, NoneIsKept}
use Rattle.domain_message.specs.Readings.{question_once, question_decided, record_once, record_decided}
use Rattle.domain_message.specs.Runs.{Given, given_first, given_nothing, given_once, given_some}
use Rattle.domain_message.specs.Sections.{Run}

pub questions_are_one_list : GivesOneList QuestionAt
questions_are_one_list = record { some = λ m p n. given_some question_decided n m p; once = given_once question_once }

pub records_are_one_list : GivesOneList RecordAt
records_are_one_list = record { some = λ m p n. given_some record_decided n m p; once = given_once record_once }

filter_kept : (keep : RecordFields → Bool) (x : RecordFields) (xs : List RecordFields) → keep x ≡ true → filter keep (x ∷ xs) ≡ x ∷ filter keep xs
filter_kept keep x xs kept = ap (λ b. cond b (x ∷ filter keep xs) (filter keep xs)) kept

filter_other : (keep : RecordFields → Bool) (x : RecordFields) (xs : List RecordFields) → keep x ≡ false → filter keep (x ∷ xs) ≡ filter keep xs
filter_other keep x xs other = ap (λ b. cond b (x ∷ filter keep xs) (filter keep xs)) other

first_from : (keep : RecordFields → Bool) (m : List ℕ) (p n q k offset : ℕ) (it : RecordFields) (rs before : List RecordFields) → AreOthers keep before → Run RecordAt m p before offset → RecordAt m offset it q → keep it ≡ true → n ≡ length before + 1 + k → Given RecordAt m p n rs → (rest : List RecordFields) × (filter keep rs ≡ it ∷ filter keep rest) × Given RecordAt m q k rest
first_from keep m p n q k offset it rs [] others run at kept count given =
    let more : n ≡ k + 1 = omega (arith, count) in
    let first = given_first record_once m p k q it rs (subst (λ v. RecordAt m v it q) run at) (subst (λ j. Given RecordAt m p j rs) more given) in
    (first.0, ap (filter keep) first.1 ∙ filter_kept keep it first.0 kept, first.2)
first_from keep m p n q k offset it rs (x ∷ xs) others run at kept count given =
    let more : n ≡ length xs + 1 + k + 1 = omega (arith, count) in
    let first = given_first record_once m p (length xs + 1 + k) run.0 x rs run.1 (subst (λ j. Given RecordAt m p j rs) more given) in
    let next = first_from keep m run.0 (length xs + 1 + k) q k offset it first.0 xs others.1 run.2 at kept refl first.2 in
    (next.0, ap (filter keep) first.1 ∙ (filter_other keep x first.0 others.0 ∙ next.1), next.2)

pub first_is_kept : FirstIsKept
first_is_kept keep m p n q k it rs first given = first_from keep m p n q k first.offset it rs first.before first.others first.run first.at first.kept first.count given

none_from : (keep : RecordFields → Bool) (m : List ℕ) (p n offset : ℕ) (rs before : List RecordFields) → AreOthers keep before → Run RecordAt m p before offset → n ≡ length before → Given RecordAt m p n rs → filter keep rs ≡ []
none_from keep m p n offset rs [] others run count given = ap (filter keep) (given_nothing m p n rs (inl count) given)
none_from keep m p n offset rs (x ∷ xs) others run count given =
    let more : n ≡ length xs + 1 = omega (arith, count) in
    let first = given_first record_once m p (length xs) run.0 x rs run.1 (subst (λ j. Given RecordAt m p j rs) more given) in
    ap (filter keep) first.1 ∙ (filter_other keep x first.0 others.0 ∙ none_from keep m run.0 (length xs) offset first.0 xs others.1 run.2 refl first.2)

pub none_is_kept : NoneIsKept
none_is_kept keep m p n rs none given = none_from keep m p n none.offset rs none.before none.others none.run none.count given
