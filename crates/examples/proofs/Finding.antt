-- Hosts and addresses that were found among the records of a section.
use Rattle.std.proofs.Common.{◌≡◌, ℕ, ◌<◌, ◌≤◌, List, [], ◌∷◌, ◌++◌, append_assoc, refl, sym, ap, subst, ◌∙◌, inl, inr, arith}
use Rattle.std.specs.Prelude.{All, Option, Some, None, Result, Ok, Err, nat_eq, option_map}
use Rattle.std.proofs.lemmas.List.{append-nil}
use Rattle.std.proofs.lemmas.List.Elements.{All-nil, All-cons, All-head, All-tail, All-append}
use Rattle.octseq.specs.declared.octets.Octets.{Ghosts}
use Rattle.octseq.specs.Parsing.{position}
use Rattle.domain_wire.specs.declared.net.Ipv4Addr.{Ipv4Addr}
use Rattle.domain_wire.specs.Addresses.{ipv4_of}
use Rattle.domain_wire.specs.Refusals.{refusal}
use Rattle.domain_wire.specs.Values.{FixedAt, ShortAt}
use Rattle.domain_wire.specs.declared.error.ParseError.{ParseError}
use Rattle.domain_label.specs.Lowercase.{lowercase_labels}
use Rattle.domain_parsed.specs.declared.parsed.ParsedName.{ParsedName}
use Rattle.domain_parsed.specs.ParsedNames.{parsed_labels}
use Rattle.domain_header.specs.Numbers.{number16}
use Rattle.domain_message.specs.Entries.{RecordFields, RecordAt}
use Rattle.domain_message.specs.Kept.{GivesKept, kept_parser}
use Rattle.domain_message.specs.RecordParts.{owner_of, data_of}
use Rattle.domain_message.specs.Sections.{QuestionsTo}
use Rattle.domain_message.specs.declared.kept.RecordIter.{RecordIter}
use Rattle.domain_message.specs.declared.resource_record.Record.{Record}
use Rattle.domain_fields.specs.Data.{AllAt, NotAll}
use Rattle.domain_fields.specs.declared.name_field.NameField.{NameField}
use Rattle.domain_fields.specs.declared.sequence.Sequence.{Sequence}
use Rattle.domain_data.specs.Shapes.{NumberNameAt, NoNumberName}
use Rattle.domain_data.specs.Views.{fields_of}
use Rattle.domain_data.specs.declared.fields.FieldsData.{FieldsData}
use Rattle.examples.specs.MessageHosts.{Host, HaveMail, IsPreferred, PreferredName, PrefersHost, IsAddressRecord, IsOf, HasNoAddressOf, FirstAddress, NoAddress, StopsAtRecord}
use Rattle.examples.proofs.Passing.{IsNot, GoesOn, Passed, Found, AllRead, IsAt, found, all_read, stopped, run_at, stops_at, passed_found}

-- other records have no mail
no_mail : (its : List RecordFields) → All (IsNot 15) its → HaveMail its []
no_mail [] others = refl
no_mail (it ∷ its) others = inl (All-head (IsNot 15) it its others, no_mail its (All-tail (IsNot 15) it its others))

mail_append : (xs ys : List RecordFields) (hosts more : List Host) → HaveMail xs hosts → HaveMail ys more → HaveMail (xs ++ ys) (hosts ++ more)
mail_append [] ys hosts more none mail = subst (λ h. HaveMail ys (h ++ more)) (sym none) mail
mail_append (x ∷ xs) ys hosts more (inl (other, rest)) mail = inl (other, mail_append xs ys hosts more rest mail)
mail_append (x ∷ xs) ys hosts more (inr (host, left, is, one, rest)) mail = inr (host, left ++ more, ap (λ h. h ++ more) is, one, mail_append xs ys left more rest mail)

-- the hosts stay over records of other types
pub mail_goes_on : (hosts : List Host) → GoesOn 15 (λ its. HaveMail its hosts)
mail_goes_on hosts xs ys mail others = subst (λ h. HaveMail (xs ++ ys) h) (append-nil hosts) (mail_append xs ys hosts [] mail (no_mail ys others))

-- an MX record more
pub mail_more : (its : List RecordFields) (it : RecordFields) (hosts : List Host) (host : Host) → HaveMail its hosts → it.header.rtype ≡ 15 → ((e : ℕ) × AllAt NumberNameAt it.octets it.start host e) → HaveMail (its ++ (it ∷ [])) (hosts ++ (host ∷ []))
mail_more its it hosts host mail mx data_is = mail_append its (it ∷ []) hosts (host ∷ []) mail (inr (host, [], refl, record { mx = mx; end = data_is.0; data_is = data_is.1 }, refl))

-- the data of an MX record
abbrev pub mail_of : {O : Type 0} {g : Ghosts O} → FieldsData 15 (Sequence ℕ (NameField (ParsedName O g))) → Host
mail_of mx = ((fields_of mx).first, parsed_labels (fields_of mx).rest.name)

-- The preferred host so far.
abbrev pub BestOf : List Host → Option Host → Type 0
BestOf hosts None = hosts ≡ []
BestOf hosts (Some best) = IsPreferred hosts best

-- the first host
pub best_first : (hosts : List Host) (host : Host) → hosts ≡ [] → IsPreferred (hosts ++ (host ∷ [])) host
best_first hosts host none = record {
  before = [];
  after = [];
  all = ap (λ h. h ++ (host ∷ [])) none;
  above = All-nil (λ other. host.0 < other.0);
  not_below = All-nil (λ other. host.0 ≤ other.0);
}

-- a host of no lower number
pub best_stays : (hosts : List Host) (best host : Host) → IsPreferred hosts best → best.0 ≤ host.0 → IsPreferred (hosts ++ (host ∷ [])) best
best_stays hosts best host was no_lower = record {
  before = was.before;
  after = was.after ++ (host ∷ []);
  all = ap (λ h. h ++ (host ∷ [])) was.all ∙ append_assoc was.before (best ∷ was.after) (host ∷ []);
  above = was.above;
  not_below = All-append (λ other. best.0 ≤ other.0) was.after (host ∷ []) was.not_below (All-cons (λ other. best.0 ≤ other.0) host [] no_lower (All-nil (λ other. best.0 ≤ other.0)));
}

all_above : (low high : ℕ) (hosts : List Host) → low < high → All (λ other. high ≤ other.0) hosts → All (λ other. low < other.0) hosts
all_above low high [] lower above = All-nil (λ other. low < other.0)
all_above low high (host ∷ hosts) lower above =
    let first : high ≤ host.0 = All-head (λ other. high ≤ other.0) host hosts above in
    All-cons (λ other. low < other.0) host hosts (omega (arith, lower, first)) (all_above low high hosts lower (All-tail (λ other. high ≤ other.0) host hosts above))

all_above_too : (low high : ℕ) (hosts : List Host) → low < high → All (λ other. high < other.0) hosts → All (λ other. low < other.0) hosts
all_above_too low high [] lower above = All-nil (λ other. low < other.0)
all_above_too low high (host ∷ hosts) lower above =
    let first : high < host.0 = All-head (λ other. high < other.0) host hosts above in
    All-cons (λ other. low < other.0) host hosts (omega (arith, lower, first)) (all_above_too low high hosts lower (All-tail (λ other. high < other.0) host hosts above))

-- a host of a lower number
pub best_changes : (hosts : List Host) (best host : Host) → IsPreferred hosts best → host.0 < best.0 → IsPreferred (hosts ++ (host ∷ [])) host
best_changes hosts best host was lower = record {
  before = hosts;
  after = [];
  all = refl;
  above = subst (λ h. All (λ other. host.0 < other.0) h) (sym was.all)
      (All-append (λ other. host.0 < other.0) was.before (best ∷ was.after) (all_above_too host.0 best.0 was.before lower was.above)
      (All-cons (λ other. host.0 < other.0) best was.after lower (all_above host.0 best.0 was.after lower was.not_below)));
  not_below = All-nil (λ other. host.0 ≤ other.0);
}

-- records of other types have no address of the host
pub others_go_on : (host : List (List ℕ)) → GoesOn 1 (All (HasNoAddressOf host))
others_go_on host xs ys before others = All-append (HasNoAddressOf host) xs ys before (other_records ys others)
  where
    other_records : (its : List RecordFields) → All (IsNot 1) its → All (HasNoAddressOf host) its
    other_records [] others = All-nil (HasNoAddressOf host)
    other_records (it ∷ its) others = All-cons (HasNoAddressOf host) it its (inl (All-head (IsNot 1) it its others)) (other_records its (All-tail (IsNot 1) it its others))

-- an A record more, of another owner
pub other_more : (its : List RecordFields) (it : RecordFields) (host : List (List ℕ)) (addr : Ipv4Addr) → All (HasNoAddressOf host) its → IsAddressRecord it addr → (IsOf it host → ⊥) → All (HasNoAddressOf host) (its ++ (it ∷ []))
other_more its it host addr others address other = All-append (HasNoAddressOf host) its (it ∷ []) others (All-cons (HasNoAddressOf host) it [] (inr (addr, address, other)) (All-nil (HasNoAddressOf host)))

-- The hosts of the records that were read, and the preferred one so far.
abbrev pub Collected : {D E : Type 0} → RecordIter D E → RecordIter D E → Option Host → Type 0
Collected s u best = (hosts : List Host) × Passed (λ its. HaveMail its hosts) s u × BestOf hosts best

-- the name of the preferred host
pub preferred_name : (hosts : List Host) (best : Option Host) → BestOf hosts best → PreferredName hosts (option_map (λ host. host.1) best)
preferred_name hosts None none = none
preferred_name hosts (Some best) is = (best.0, is)

-- the answers were all read
pub prefers_host : {D E : Type 0} (m : List ℕ) (start : ℕ) (s : RecordIter D E) (hosts : List Host) (found : Option (List (List ℕ))) → QuestionsTo m start → IsAt m start (number16 m 6) s → AllRead (λ its. HaveMail its hosts) s → PreferredName hosts found → PrefersHost m found
prefers_host m start s hosts found questions at all preferred = record {
  start = start;
  questions = questions;
  answers = all.records;
  count = all.count ∙ at.left;
  end = all.end;
  run = run_at m start (number16 m 6) all.end all.records s at all.run;
  hosts = hosts;
  mail = all.read;
  preferred = preferred;
}

-- an address was found
pub first_address : {O D E : Type 0} {g : Ghosts O} (seen : D → Ipv4Addr) (m : List ℕ) (p n : ℕ) (s u : RecordIter D E) (host : List (List ℕ)) (made : Record (ParsedName O g) D) → IsAt m p n s → Found {g = g} 1 seen (AllAt (FixedAt 4 ipv4_of)) (All (HasNoAddressOf host)) s u made → lowercase_labels (parsed_labels (owner_of made)) ≡ lowercase_labels host → FirstAddress m p n host (seen (data_of made))
first_address seen m p n s u host made at f owner = record {
  before = f.before;
  others = f.more;
  few = omega (arith, f.count, at.left);
  offset = f.offset;
  run = run_at m p n f.offset f.before s at f.run;
  it = f.it;
  end = position (kept_parser u);
  at = subst (λ o. RecordAt o f.offset f.it (position (kept_parser u))) at.octets f.at;
  address = record { a = f.of_type; end = f.made_of.data_is.0; data_is = f.made_of.data_is.1 };
  owner = ap (λ ls. lowercase_labels ls) (sym f.made_of.owner) ∙ owner;
}

-- no address was found
pub no_address : {D E : Type 0} (m : List ℕ) (p n : ℕ) (s : RecordIter D E) (host : List (List ℕ)) → IsAt m p n s → AllRead (All (HasNoAddressOf host)) s → NoAddress m p n host
no_address m p n s host at all = record { records = all.records; others = all.read; count = all.count ∙ at.left; end = all.end; run = run_at m p n all.end all.records s at all.run }

-- a record of another owner was passed by
pub passed_other : {O D E : Type 0} {g : Ghosts O} (seen : D → Ipv4Addr) (s u : RecordIter D E) (host : List (List ℕ)) (made : Record (ParsedName O g) D) → Found {g = g} 1 seen (AllAt (FixedAt 4 ipv4_of)) (All (HasNoAddressOf host)) s u made → (lowercase_labels (parsed_labels (owner_of made)) ≡ lowercase_labels host → ⊥) → Passed (All (HasNoAddressOf host)) s u
passed_other {g = g} seen s u host made f other = passed_found {g = g} 1 seen (AllAt (FixedAt 4 ipv4_of)) (All (HasNoAddressOf host)) (All (HasNoAddressOf host)) s u made f
    (other_more f.before f.it host (seen (data_of made)) f.more record { a = f.of_type; end = f.made_of.data_is.0; data_is = f.made_of.data_is.1 }
    (λ same. other (ap (λ ls. lowercase_labels ls) f.made_of.owner ∙ same)))

-- an MX record was passed by
pub passed_mail : {O D E : Type 0} {g : Ghosts O} (seen : D → Host) (s u : RecordIter D E) (hosts : List Host) (made : Record (ParsedName O g) D) → Found {g = g} 15 seen (AllAt NumberNameAt) (λ its. HaveMail its hosts) s u made → Passed (λ its. HaveMail its (hosts ++ (seen (data_of made) ∷ []))) s u
passed_mail {g = g} seen s u hosts made f = passed_found {g = g} 15 seen (AllAt NumberNameAt) (λ its. HaveMail its hosts) (λ its. HaveMail its (hosts ++ (seen (data_of made) ∷ []))) s u made f
    (mail_more f.before f.it hosts (seen (data_of made)) f.more f.of_type f.made_of.data_is)

-- A call of `next` over the A records.
abbrev pub GivesAddress : {O : Type 0} {g : Ghosts O} → RecordIter (FieldsData 1 Ipv4Addr) ParseError → Option (Result (Record (ParsedName O g) (FieldsData 1 Ipv4Addr)) ParseError) → RecordIter (FieldsData 1 Ipv4Addr) ParseError → Type 0
GivesAddress {g = g} s r u = GivesKept {g = g} (λ _. 1) (λ it. fields_of it) (λ r. nat_eq r 1) (λ _. AllAt (FixedAt 4 ipv4_of)) (λ _. NotAll refusal (FixedAt 4 ipv4_of) (ShortAt 4)) (λ a b. b ≡ a) s r u

-- A call of `next` over the MX records.
abbrev pub GivesMail : {O : Type 0} (g : Ghosts O) → RecordIter (FieldsData 15 (Sequence ℕ (NameField (ParsedName O g)))) ParseError → Option (Result (Record (ParsedName O g) (FieldsData 15 (Sequence ℕ (NameField (ParsedName O g))))) ParseError) → RecordIter (FieldsData 15 (Sequence ℕ (NameField (ParsedName O g)))) ParseError → Type 0
GivesMail g s r u = GivesKept {g = g} (λ _. 15) mail_of (λ r. nat_eq r 15) (λ _. AllAt NumberNameAt) (λ _. NotAll refusal NumberNameAt NoNumberName) (λ a b. b ≡ a) s r u

pub address_found : {O : Type 0} (g : Ghosts O) (host : List (List ℕ)) (s mid u : RecordIter (FieldsData 1 Ipv4Addr) ParseError) (made : Record (ParsedName O g) (FieldsData 1 Ipv4Addr)) → Passed (All (HasNoAddressOf host)) s mid → GivesAddress {g = g} mid (Some (Ok made)) u → Found {g = g} 1 (λ it. fields_of it) (AllAt (FixedAt 4 ipv4_of)) (All (HasNoAddressOf host)) s u made
address_found g host s mid u made passed gives = found {g = g} 1 (λ it. fields_of it) (AllAt (FixedAt 4 ipv4_of)) (λ _. NotAll refusal (FixedAt 4 ipv4_of) (ShortAt 4)) (λ a b. b ≡ a) (All (HasNoAddressOf host)) (others_go_on host) s mid u made passed gives

pub address_over : {O : Type 0} {g : Ghosts O} (like : ParsedName O g) (host : List (List ℕ)) (s mid u : RecordIter (FieldsData 1 Ipv4Addr) ParseError) → Passed (All (HasNoAddressOf host)) s mid → GivesAddress {g = g} mid None u → AllRead (All (HasNoAddressOf host)) s
address_over {g = g} like host s mid u passed gives = all_read g 1 (λ it. fields_of it) (AllAt (FixedAt 4 ipv4_of)) (λ _. NotAll refusal (FixedAt 4 ipv4_of) (ShortAt 4)) (λ a b. b ≡ a) (All (HasNoAddressOf host)) (others_go_on host) s mid u passed gives

pub address_stopped : {O : Type 0} {g : Ghosts O} (like : ParsedName O g) (host : List (List ℕ)) (m : List ℕ) (p n : ℕ) (s mid u : RecordIter (FieldsData 1 Ipv4Addr) ParseError) (why : ParseError) → IsAt m p n s → Passed (All (HasNoAddressOf host)) s mid → GivesAddress {g = g} mid (Some (Err why)) u → StopsAtRecord 1 (All (HasNoAddressOf host)) (NotAll refusal (FixedAt 4 ipv4_of) (ShortAt 4)) m p n why
address_stopped {g = g} like host m p n s mid u why at passed gives = stops_at 1 (All (HasNoAddressOf host)) (NotAll refusal (FixedAt 4 ipv4_of) (ShortAt 4)) m p n s why at
    (stopped g 1 (λ it. fields_of it) (AllAt (FixedAt 4 ipv4_of)) (NotAll refusal (FixedAt 4 ipv4_of) (ShortAt 4)) (λ a b. b ≡ a) (All (HasNoAddressOf host)) (λ a b same. same) (others_go_on host) s mid u why passed gives)

pub mail_found : {O : Type 0} (g : Ghosts O) (hosts : List Host) (s mid u : RecordIter (FieldsData 15 (Sequence ℕ (NameField (ParsedName O g)))) ParseError) (made : Record (ParsedName O g) (FieldsData 15 (Sequence ℕ (NameField (ParsedName O g))))) → Passed (λ its. HaveMail its hosts) s mid → GivesMail g mid (Some (Ok made)) u → Passed (λ its. HaveMail its (hosts ++ (mail_of (data_of made) ∷ []))) s u
mail_found g hosts s mid u made passed gives = passed_mail {g = g} mail_of s u hosts made
    (found {g = g} 15 mail_of (AllAt NumberNameAt) (λ _. NotAll refusal NumberNameAt NoNumberName) (λ a b. b ≡ a) (λ its. HaveMail its hosts) (mail_goes_on hosts) s mid u made passed gives)

pub mail_over : {O : Type 0} (g : Ghosts O) (hosts : List Host) (s mid u : RecordIter (FieldsData 15 (Sequence ℕ (NameField (ParsedName O g)))) ParseError) → Passed (λ its. HaveMail its hosts) s mid → GivesMail g mid None u → AllRead (λ its. HaveMail its hosts) s
mail_over g hosts s mid u passed gives = all_read g 15 mail_of (AllAt NumberNameAt) (λ _. NotAll refusal NumberNameAt NoNumberName) (λ a b. b ≡ a) (λ its. HaveMail its hosts) (mail_goes_on hosts) s mid u passed gives

any_hosts : GoesOn 15 (λ its. (hosts : List Host) × HaveMail its hosts)
any_hosts xs ys (hosts, mail) others = (hosts, mail_goes_on hosts xs ys mail others)

some_hosts : {D E : Type 0} (hosts : List Host) (s u : RecordIter D E) → Passed (λ its. HaveMail its hosts) s u → Passed (λ its. (hosts : List Host) × HaveMail its hosts) s u
some_hosts hosts s u passed = record { octets = passed.octets; class = passed.class; before = passed.before; read = (hosts, passed.read); count = passed.count; run = passed.run }

pub mail_stopped : {O : Type 0} (g : Ghosts O) (hosts : List Host) (m : List ℕ) (p n : ℕ) (s mid u : RecordIter (FieldsData 15 (Sequence ℕ (NameField (ParsedName O g)))) ParseError) (why : ParseError) → IsAt m p n s → Passed (λ its. HaveMail its hosts) s mid → GivesMail g mid (Some (Err why)) u → StopsAtRecord 15 (λ its. (hosts : List Host) × HaveMail its hosts) (NotAll refusal NumberNameAt NoNumberName) m p n why
mail_stopped g hosts m p n s mid u why at passed gives = stops_at 15 (λ its. (hosts : List Host) × HaveMail its hosts) (NotAll refusal NumberNameAt NoNumberName) m p n s why at
    (stopped g 15 mail_of (AllAt NumberNameAt) (NotAll refusal NumberNameAt NoNumberName) (λ a b. b ≡ a) (λ its. (hosts : List Host) × HaveMail its hosts) (λ a b same. same) any_hosts s mid u why (some_hosts hosts s mid passed) gives)
