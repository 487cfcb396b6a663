-- CNAME records that lead from a name to another (RFC 1034, 3.6.2). The class of a record is ignored, and so are the
-- class and the type that a question asks for.
use Rattle.std.specs.Prelude.{◌≡◌, ◌==◌, ◌<◌, ◌≤◌, if◌then◌else◌, ℕ, suc, ◌+◌, List, [], ◌∷◌, length, Option, Some, None}
use Rattle.domain_label.specs.Lowercase.{lowercase_labels}
use Rattle.domain_header.specs.Numbers.{number16}
use Rattle.domain_message.specs.Entries.{WholeNameAt, QuestionFields, QuestionAt, RecordFields, RecordAt}
use Rattle.domain_message.specs.Runs.{Given}
use Rattle.domain_message.specs.Sections.{QuestionsTo}

-- The record is a CNAME record of the name, and its data is the target.
pub record IsAlias (it : RecordFields) (name target : List (List ℕ)) : Type 0 where
  pub cname : it.header.rtype ≡ 5
  pub owner : lowercase_labels it.header.owner ≡ lowercase_labels name
  pub data_is : WholeNameAt it.octets it.start target (length it.octets)

-- The target of the first CNAME record of the name in a list of records. None: it has none there.
pub data FirstAlias (name : List (List ℕ)) : List RecordFields → Option (List (List ℕ)) → Type 0 where
  nowhere : FirstAlias name [] None
  here : {it : RecordFields} {rest : List RecordFields} {target : List (List ℕ)}
      → IsAlias it name target → FirstAlias name (it ∷ rest) (Some target)
  later : {it : RecordFields} {rest : List RecordFields} {found : Option (List (List ℕ))}
      → ((target : List (List ℕ)) → IsAlias it name target → ⊥) → FirstAlias name rest found
      → FirstAlias name (it ∷ rest) found

-- So many CNAME records lead from a name to another: from each name on the way the first that is its own.
pub data Leads (records : List RecordFields) (from : List (List ℕ)) : ℕ → List (List ℕ) → Type 0 where
  stays : Leads records from 0 from
  goes : {n : ℕ} {name target : List (List ℕ)} → Leads records from n name
      → FirstAlias name records (Some target) → Leads records from (n + 1) target

-- What CNAME records lead to from a name: a name that none leads on from. None: they go round, since a name that they
-- lead to leads back to itself.
pub data ChainEnd (records : List RecordFields) (from : List (List ℕ)) : Option (List (List ℕ)) → Type 0 where
  ends : {n : ℕ} {end : List (List ℕ)} → Leads records from n end → FirstAlias end records None
      → ChainEnd records from (Some end)
  goes_round : {n k : ℕ} {name : List (List ℕ)} → Leads records from n name
      → Leads records name k name → 0 < k → ChainEnd records from None

-- The same over at most so many CNAME records. None: more of them lead on.
pub data ChainEndWithin (limit : ℕ) (records : List RecordFields) (from : List (List ℕ)) : Option (List (List ℕ)) → Type 0 where
  ends_within : {n : ℕ} {end : List (List ℕ)} → Leads records from n end → n ≤ limit
      → FirstAlias end records None → ChainEndWithin limit records from (Some end)
  leads_on : {name : List (List ℕ)} → Leads records from (limit + 1) name
      → ChainEndWithin limit records from None

-- how many CNAME records are in a list
abbrev pub cname_count : List RecordFields → ℕ
cname_count [] = 0
cname_count (it ∷ rest) = if it.header.rtype == 5 then suc (cname_count rest) else cname_count rest

-- What is said of the answers and the name of the first question. All questions that the header counts are there; the
-- answers are those that it counts, or those before one that is missing.
pub record OfFirstQuestion (m : List ℕ) (Says : List RecordFields → List (List ℕ) → Type 0) : Type 0 where
  pub asked : QuestionFields
  pub question_end : ℕ
  pub question : QuestionAt m 12 asked question_end
  pub start : ℕ
  pub questions : QuestionsTo m start
  pub answers : List RecordFields
  pub given : Given RecordAt m start (number16 m 6) answers
  pub says : Says answers asked.name

-- what at most so many CNAME records of the answers lead to from the name of the first question. None: more of them
-- lead on
abbrev pub IsCanonicalWithin : List ℕ → ℕ → Option (List (List ℕ)) → Type 0
IsCanonicalWithin m limit end =
    OfFirstQuestion m (λ answers name. ChainEndWithin limit answers name end)
