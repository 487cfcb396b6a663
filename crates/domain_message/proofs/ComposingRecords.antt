-- What was composed of a record.
use Rattle.std.proofs.Common.{◌≡◌, ℕ, ◌+◌, ◌<◌, ◌≤◌, List, ◌++◌, length, length-append, append_assoc, refl, ap, subst, ◌∙◌, arith}
use Rattle.std.specs.Prelude.{Bool}
use Rattle.std.specs.Int.{w16, to_be_bytes}
use Rattle.domain_rdata.specs.ReadBack.{Appended, Exceeds}
use Rattle.domain_rdata.specs.RecordData.{NameOctets, LengthAndData, ExceedsWithLength, IsTooLong, ComposeRefused, IfLong}
use Rattle.domain_rdata.specs.declared.record_data.ComposeRdataError.{ComposeRdataError}
use Rattle.domain_rdata.specs.declared.record_data.ComposeRdataError.TheVariants.{Append, Long}
use Rattle.domain_rdata.specs.LeavingNames.{LeavesNames, Outgrows}
use Rattle.domain_message.specs.LeftToTarget.{NameThenData, NameThenLong}
use Rattle.domain_message.specs.MayCompose.{IsNameThen, RefusesRecord}
use Rattle.domain_message.specs.MayCompose.RefusesRecord.{at_data}
use Rattle.domain_message.specs.Composing.{BeginsWithName, type_and_class, QuestionOctets, before_length, RecordOctets, RecordExceeds, ComposeRecordRefused}
use Rattle.domain_message.specs.Composing.RecordExceeds.{no_numbers, no_data}

pub record_appended : (owner : List (List ℕ)) (rtype class ttl : ℕ) (May : List ℕ → List ℕ → Type 0) (b : Bool) (t named mid new : List ℕ) → NameOctets owner b t named → mid ≡ t ++ named ++ before_length rtype class ttl → LengthAndData May mid new → Appended (RecordOctets owner rtype class ttl May b t) t new
record_appended owner rtype class ttl May b t named mid new name is done = record {
  octets = named ++ (before_length rtype class ttl ++ (to_be_bytes w16 (length done.octets) ++ done.octets));
  allowed = record {
    named = named;
    name_allowed = name;
    rdata = done.octets;
    few = done.few;
    data_allowed = subst (λ m. May (m ++ to_be_bytes w16 (length done.octets)) done.octets) is done.allowed;
    all = refl;
  };
  all = done.all ∙ (ap (λ m. m ++ to_be_bytes w16 (length done.octets) ++ done.octets) is ∙ simp append_assoc);
}

-- what is appended for the owner's name, then the numbers
pub begins_with_owner : (May : List ℕ → Type 0) (Data : List ℕ → List ℕ → Type 0) (t mid mid2 new numbers : List ℕ) (r rtype class ttl : ℕ) → Appended May t mid → mid2 ≡ mid ++ numbers → numbers ≡ before_length r class ttl → r ≡ rtype → LengthAndData Data mid2 new → Appended (BeginsWithName May (before_length rtype class ttl)) t new
begins_with_owner May Data t mid mid2 new numbers r rtype class ttl name is same typed done = record {
  octets = name.octets ++ (before_length rtype class ttl ++ (to_be_bytes w16 (length done.octets) ++ done.octets));
  allowed = record {
    named = name.octets;
    name_allowed = name.allowed;
    rest = to_be_bytes w16 (length done.octets) ++ done.octets;
    all = refl;
  };
  all = done.all ∙ (ap (λ m. m ++ to_be_bytes w16 (length done.octets) ++ done.octets) (is ∙ (ap (λ m. m ++ numbers) name.all ∙ ap (λ x. t ++ name.octets ++ x) (same ∙ ap (λ k. before_length k class ttl) typed))) ∙ simp append_assoc);
}

-- the name and the numbers after it
pub numbers_after : (owner : List (List ℕ)) (b : Bool) (t mid mid2 numbers : List ℕ) (r rtype class ttl : ℕ) → (done : Appended (NameOctets owner b t) t mid) → mid2 ≡ mid ++ numbers → numbers ≡ before_length r class ttl → r ≡ rtype → mid2 ≡ t ++ done.octets ++ before_length rtype class ttl
numbers_after owner b t mid mid2 numbers r rtype class ttl done is same typed = is ∙ (ap (λ m. m ++ numbers) done.all ∙ ap (λ x. t ++ done.octets ++ x) (same ∙ ap (λ k. before_length k class ttl) typed))

-- the numbers exceed the spare capacity
pub numbers_exceed : (owner : List (List ℕ)) (rtype class ttl : ℕ) (May : List ℕ → List ℕ → Type 0) (b : Bool) (t mid : List ℕ) (capacity room n : ℕ) → (done : Appended (NameOctets owner b t) t mid) → n ≡ 8 → capacity ≤ room → room < length mid + n → RecordExceeds owner rtype class ttl May b t capacity
numbers_exceed owner rtype class ttl May b t mid capacity room n done size grown full = no_numbers done.octets done.allowed (omega (arith, size, grown, full, ap length done.all, length-append t done.octets))

-- why the data was refused
pub data_refused : {E : Type 0} (owner : List (List ℕ)) (rtype class ttl : ℕ) (May : List ℕ → List ℕ → Type 0) (b : Bool) (t named mid : List ℕ) (capacity room : ℕ) (e : ComposeRdataError E) → NameOctets owner b t named → mid ≡ t ++ named ++ before_length rtype class ttl → capacity ≤ room → ComposeRefused May mid room e → ComposeRecordRefused owner rtype class ttl May b t capacity e
data_refused owner rtype class ttl May b t named mid capacity room (Append e) name is grown refused = no_data named room name grown (subst (λ m. ExceedsWithLength May m room) is refused)
data_refused owner rtype class ttl May b t named mid capacity room (Long e) name is grown refused = (named, name, subst (λ m. IsTooLong May m) is refused)

-- the octets of a question
question_octets : (name : List (List ℕ)) (rtype class : ℕ) (b : Bool) (t named : List ℕ) → NameOctets name b t named → QuestionOctets name rtype class b t (named ++ type_and_class rtype class)
question_octets name rtype class b t named allowed = record { named = named; name_allowed = allowed; all = refl }

pub question_appended : (name : List (List ℕ)) (rtype class : ℕ) (b : Bool) (t mid new : List ℕ) → Appended (NameOctets name b t) t mid → new ≡ mid ++ type_and_class rtype class → Appended (QuestionOctets name rtype class b t) t new
question_appended name rtype class b t mid new done is = record {
  octets = done.octets ++ type_and_class rtype class;
  allowed = question_octets name rtype class b t done.octets done.allowed;
  all = is ∙ (ap (λ m. m ++ type_and_class rtype class) done.all ∙ append_assoc t done.octets (type_and_class rtype class));
}

-- the name exceeds the spare capacity
pub question_name_exceeds : (name : List (List ℕ)) (rtype class : ℕ) (b : Bool) (t : List ℕ) (capacity : ℕ) → Exceeds (NameOctets name b t) t capacity → Exceeds (QuestionOctets name rtype class b t) t capacity
question_name_exceeds name rtype class b t capacity refused = record {
  octets = refused.octets ++ type_and_class rtype class;
  allowed = question_octets name rtype class b t refused.octets refused.allowed;
  full = omega (arith, refused.full, length-append refused.octets (type_and_class rtype class));
}

-- the numbers exceed the spare capacity
pub question_exceeds : (name : List (List ℕ)) (rtype class : ℕ) (b : Bool) (t mid : List ℕ) (capacity room n : ℕ) → Appended (NameOctets name b t) t mid → n ≡ length (type_and_class rtype class) → capacity ≤ room → room < length mid + n → Exceeds (QuestionOctets name rtype class b t) t capacity
question_exceeds name rtype class b t mid capacity room n done size grown full = record {
  octets = done.octets ++ type_and_class rtype class;
  allowed = question_octets name rtype class b t done.octets done.allowed;
  full = omega (arith, full, grown, size, ap length done.all, length-append t done.octets, length-append done.octets (type_and_class rtype class));
}

-- what a composer may append for the name, or the numbers after it, exceed the spare capacity
pub named_exceeds : (May : List ℕ → Type 0) (after t : List ℕ) (capacity : ℕ) → Exceeds May t capacity → Exceeds (IsNameThen May after) t capacity
named_exceeds May after t capacity refused = record {
  octets = refused.octets ++ after;
  allowed = (refused.octets, refused.allowed, refl);
  full = omega (arith, refused.full, length-append refused.octets after);
}

pub after_name_exceeds : (May : List ℕ → Type 0) (after t mid : List ℕ) (capacity room n : ℕ) → Appended May t mid → n ≡ length after → capacity ≤ room → room < length mid + n → Exceeds (IsNameThen May after) t capacity
after_name_exceeds May after t mid capacity room n done size grown full = record {
  octets = done.octets ++ after;
  allowed = (done.octets, done.allowed, refl);
  full = omega (arith, full, grown, size, ap length done.all, length-append t done.octets, length-append done.octets after);
}

-- what a composer appends for a name
pub name_appended : (name : List (List ℕ)) (b : Bool) (t new : List ℕ) (May : List ℕ → Type 0) → ((s : List ℕ) → May s → NameOctets name b t s) → Appended May t new → Appended (NameOctets name b t) t new
name_appended name b t new May names done = record { octets = done.octets; allowed = names done.octets done.allowed; all = done.all }

pub names_exceed : (name : List (List ℕ)) (b : Bool) (t : List ℕ) (May : List ℕ → Type 0) (capacity : ℕ) → ((s : List ℕ) → May s → NameOctets name b t s) → Exceeds May t capacity → Exceeds (NameOctets name b t) t capacity
names_exceed name b t May capacity names refused = record { octets = refused.octets; allowed = names refused.octets refused.allowed; full = refused.full }

-- a target's own calls appended the owner's name and the numbers, and the data came after them
pub name_then_data : {T : Type 0} (octets : T → List ℕ) (extends : T → List ℕ → T → Type 0) (cuts : T → ℕ → T → Type 0) (appends written : T → T → Type 0) (old named numbered new : T) (numbers : List ℕ) (r rtype class ttl : ℕ) → appends old named → extends named numbers numbered → numbers ≡ before_length r class ttl → r ≡ rtype → LeavesNames octets extends cuts written numbered new → NameThenData octets extends cuts appends written (before_length rtype class ttl) old new
name_then_data octets extends cuts appends written old named numbered new numbers r rtype class ttl name done same typed rest =
    let P : List ℕ → Type 0 = λ x. extends named x numbered in
    record {
      numbered = numbered;
      front = record { named = named; name = name; rest = subst P (same ∙ ap (λ k. before_length k class ttl) typed) done };
      rest = rest;
    }

-- the data is too long after the owner's name and the numbers
pub data_outgrows : {T E : Type 0} (octets : T → List ℕ) (extends : T → List ℕ → T → Type 0) (cuts : T → ℕ → T → Type 0) (appends written : T → T → Type 0) (uncompressed : List ℕ) (old named numbered : T) (numbers : List ℕ) (r rtype class ttl : ℕ) (e : ComposeRdataError E) → appends old named → extends named numbers numbered → numbers ≡ before_length r class ttl → r ≡ rtype → IfLong (Outgrows octets extends cuts written uncompressed numbered) e → IfLong (NameThenLong octets extends cuts appends written uncompressed (before_length rtype class ttl) old) e
data_outgrows octets extends cuts appends written uncompressed old named numbered numbers r rtype class ttl (Append e) name done same typed long = tt
data_outgrows octets extends cuts appends written uncompressed old named numbered numbers r rtype class ttl (Long e) name done same typed long =
    let P : List ℕ → Type 0 = λ x. extends named x numbered in
    record {
      numbered = numbered;
      front = record { named = named; name = name; rest = subst P (same ∙ ap (λ k. before_length k class ttl) typed) done };
      rest = long;
    }

-- the data was refused after the owner's name and the numbers
pub refused_at_data : {T E : Type 0} (octets : T → List ℕ) (May : List ℕ → Type 0) (appends : T → T → Type 0) (Refuses : List ℕ → ℕ → E → Type 0) (old named numbered : T) (numbers : List ℕ) (r rtype class ttl capacity room : ℕ) (e : E) → appends old named → octets numbered ≡ octets named ++ numbers → numbers ≡ before_length r class ttl → r ≡ rtype → capacity ≤ room → Refuses (octets numbered) room e → RefusesRecord octets May appends (before_length rtype class ttl) Refuses old capacity e
refused_at_data octets May appends Refuses old named numbered numbers r rtype class ttl capacity room e name is same typed grown refused =
    at_data named room name grown (subst (λ t. Refuses t room e) (is ∙ ap (λ x. octets named ++ x) (same ∙ ap (λ k. before_length k class ttl) typed)) refused)
