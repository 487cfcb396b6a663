-- Lines that begin with a semicolon: each is of one kind.
use Rattle.std.proofs.Common.{◌≡◌, ℕ, ◌-◌, ◌<◌, ◌≤◌, List, [], ◌∷◌, ◌++◌, length, take, drop, Bool, true, false, cond, refl, sym, ap, subst, ◌∙◌, inl, inr, arith, append_assoc}
use Rattle.std.specs.Prelude.{◌⊎◌, codes, slice_index}
use Rattle.std.proofs.lemmas.Bool.{false≢true, cases_order}
use Rattle.std.proofs.lemmas.List.{append-nil, append_cancel_left}
use Rattle.domain_header.specs.Tables.{opcode_text, rcode_text}
use Rattle.domain_header.specs.declared.flags.Header.{Header}
use Rattle.domain_make.specs.Stops.{IfFault, Tells, TellsMissing}
use Rattle.domain_make.specs.Parts.{IsNumber16}
use Rattle.domain_make.specs.Refusals.{IsOther, NoRemark}
use Rattle.domain_make.specs.Refusals.NoRemark.{late_codes, no_codes, late_flags, no_flags, no_heading, of_opt}
use Rattle.domain_make.specs.Remarks.{IsTrimmed, IsCodesLine, AreCodes, IsFlagsLine, flag_words, words_before, BeginsWithFlags, IsWithColon, IsHeading, EndsInSection, BeginsAsOpt, Remarks}
use Rattle.domain_make.specs.Remarks.IsHeading.{questions, answers, authority, additional}
use Rattle.domain_make.specs.Remarks.Remarks.{codes_told, flags_told, heading, comment}
use Rattle.domain_make.specs.Words.{IsBlank}
use Rattle.domain_make.specs.declared.error.Fault.{Fault}
use Rattle.domain_make.specs.declared.error.Fault.TheVariants as fault
use Rattle.domain_make.specs.declared.error.Stop.{Stop}
use Rattle.domain_make.specs.declared.remark.Flags.{Flags}
use Rattle.domain_make.specs.declared.remark.Stage.{Stage}
use Rattle.domain_make.specs.declared.remark.Stage.TheVariants.{Start, Codes}
use Rattle.domain_make.proofs.Telling.{if_refused}
use Rattle.domain_make.proofs.Texts.{differ, apart, Without, parted_once, not_without, opcode_lacks, rcode_lacks}

-- ---- codes

-- The parts of a header's first line up to a comma.
pub codes_parts : (text a rest : List ℕ) (opcode rcode id : ℕ) → (are : AreCodes text opcode rcode id) → text ≡ a ++ (44 ∷ rest) → Without 44 a
    → (opcode_text opcode ≡ a) × (codes " status: " ++ (rcode_text rcode ++ (codes ", id: " ++ are.digits)) ≡ rest)
codes_parts text a rest opcode rcode id are is none =
    parted_once 44 (opcode_text opcode) (codes " status: " ++ (rcode_text rcode ++ (codes ", id: " ++ are.digits))) a rest (opcode_lacks opcode are.small_opcode) none (sym are.text_is ∙ is)

pub status_parts : (text a rest : List ℕ) (rcode : ℕ) (digits : List ℕ) → rcode < 16 → rcode_text rcode ++ (codes ", id: " ++ digits) ≡ a ++ (44 ∷ rest) → Without 44 a → (rcode_text rcode ≡ a) × (codes " id: " ++ digits ≡ rest)
status_parts text a rest rcode digits small is none = parted_once 44 (rcode_text rcode) (codes " id: " ++ digits) a rest (rcode_lacks rcode small) none is

-- The parts of a text that is codes and an identifier.
pub record HasParts (text a rest status b more : List ℕ) : Type 0 where
  pub first : text ≡ a ++ (44 ∷ rest)
  pub no_comma : Without 44 a
  pub second : rest ≡ codes " status: " ++ status
  pub third : status ≡ b ++ (44 ∷ more)
  pub none_too : Without 44 b

pub comma_there : (text : List ℕ) → Without 44 text → (o r i : ℕ) → AreCodes text o r i → ⊥
comma_there text none o r i are = not_without 44 (opcode_text o) (codes " status: " ++ (rcode_text r ++ (codes ", id: " ++ are.digits))) text are.text_is none

pub status_there : (text a rest : List ℕ) → text ≡ a ++ (44 ∷ rest) → Without 44 a → ((x : List ℕ) → rest ≡ codes " status: " ++ x → ⊥) → (o r i : ℕ) → AreCodes text o r i → ⊥
status_there text a rest is none never o r i are = never (rcode_text r ++ (codes ", id: " ++ are.digits)) (sym (codes_parts text a rest o r i are is none).1)

status_is : (text a rest status : List ℕ) (o r i : ℕ) → (are : AreCodes text o r i) → text ≡ a ++ (44 ∷ rest) → Without 44 a → rest ≡ codes " status: " ++ status → rcode_text r ++ (codes ", id: " ++ are.digits) ≡ status
status_is text a rest status o r i are is none second = append_cancel_left (codes " status: ") (rcode_text r ++ (codes ", id: " ++ are.digits)) status ((codes_parts text a rest o r i are is none).1 ∙ second)

pub second_there : (text a rest status : List ℕ) → text ≡ a ++ (44 ∷ rest) → Without 44 a → rest ≡ codes " status: " ++ status → Without 44 status → (o r i : ℕ) → AreCodes text o r i → ⊥
second_there text a rest status is none second lack o r i are = not_without 44 (rcode_text r) (codes " id: " ++ are.digits) status (sym (status_is text a rest status o r i are is none second)) lack

-- The codes and the digits are those of the parts.
same_parts : (text a rest status b more : List ℕ) (o r i : ℕ) → (are : AreCodes text o r i) → HasParts text a rest status b more → (opcode_text o ≡ a) × (rcode_text r ≡ b) × (codes " id: " ++ are.digits ≡ more)
same_parts text a rest status b more o r i are has =
    let later = status_parts text b more r are.digits are.small_rcode (status_is text a rest status o r i are has.first has.no_comma has.second ∙ has.third) has.none_too in
    ((codes_parts text a rest o r i are has.first has.no_comma).0, later.0, later.1)

pub id_there : (text a rest status b more : List ℕ) → HasParts text a rest status b more → ((x : List ℕ) → more ≡ codes " id: " ++ x → ⊥) → (o r i : ℕ) → AreCodes text o r i → ⊥
id_there text a rest status b more has never o r i are = never are.digits (sym (same_parts text a rest status b more o r i are has).2)

pub opcode_there : (text a rest status b more : List ℕ) → HasParts text a rest status b more → ((n : ℕ) → (n < 16) × (a ≡ opcode_text n) → ⊥) → (o r i : ℕ) → AreCodes text o r i → ⊥
opcode_there text a rest status b more has never o r i are = never o (are.small_opcode, sym (same_parts text a rest status b more o r i are has).0)

pub rcode_there : (text a rest status b more : List ℕ) → HasParts text a rest status b more → ((n : ℕ) → (n < 16) × (b ≡ rcode_text n) → ⊥) → (o r i : ℕ) → AreCodes text o r i → ⊥
rcode_there text a rest status b more has never o r i are = never r (are.small_rcode, sym (same_parts text a rest status b more o r i are has).1)

pub number_there : (text a rest status b more digits : List ℕ) → HasParts text a rest status b more → more ≡ codes " id: " ++ digits → ((n : ℕ) → IsNumber16 digits n → ⊥) → (o r i : ℕ) → AreCodes text o r i → ⊥
number_there text a rest status b more digits has last never o r i are =
    never i (subst (λ d. IsNumber16 d i) (append_cancel_left (codes " id: ") are.digits digits ((same_parts text a rest status b more o r i are has).2 ∙ last)) are.id_is)

-- What is reported of a line of a header's codes.
abbrev pub NoCodes : List ℕ → Fault → ℕ → Type 0
NoCodes text f c = Tells fault.Header 1 f c × ((o r i : ℕ) → AreCodes text o r i → ⊥)

-- A part that isn't there.
pub codes_lack : {A : Type 0} (Says : A → Type 0) (text : List ℕ) (e : Stop) → (((x : A) → Says x → ⊥) → (o r i : ℕ) → AreCodes text o r i → ⊥) → IfFault e (TellsMissing Says fault.Header 1) → IfFault e (NoCodes text)
codes_lack Says text e there h = if_refused (TellsMissing Says fault.Header 1) (NoCodes text) e (λ f c lack. (lack.0, there lack.1)) h

pub codes_refused : (text rest : List ℕ) (stage : Stage) (e : Stop) → IsCodesLine text rest → stage ≡ Start → IfFault e (NoCodes rest) → IfFault e (λ f c. NoRemark text stage f × (c ≡ 1))
codes_refused text rest stage e is start h = if_refused (NoCodes rest) (λ f c. NoRemark text stage f × (c ≡ 1)) e (λ f c lack. (no_codes rest is start lack.1 lack.0.0, lack.0.1)) h

pub flags_refused : (text rest : List ℕ) (stage : Stage) (e : Stop) → IsFlagsLine text rest → (stage ≡ Start) ⊎ (stage ≡ Codes) → IfFault e (TellsMissing (BeginsWithFlags rest) fault.Header 1) → IfFault e (λ f c. NoRemark text stage f × (c ≡ 1))
flags_refused text rest stage e is at h = if_refused (TellsMissing (BeginsWithFlags rest) fault.Header 1) (λ f c. NoRemark text stage f × (c ≡ 1)) e (λ f c lack. (no_flags rest is at lack.1 lack.0.0, lack.0.1)) h

pub other_refused : (text : List ℕ) (stage : Stage) (f : Fault) → IsOther text → (EndsInSection text × (f ≡ fault.Heading)) ⊎ ((EndsInSection text → ⊥) × BeginsAsOpt text × (f ≡ fault.Opt)) → NoRemark text stage f
other_refused text stage f is (inl h) = no_heading is h.0 h.1
other_refused text stage f is (inr h) = of_opt is h.0 h.1 h.2

-- ---- flags

-- whether the word differs from each of these
abbrev pub differs : List ℕ → List (Bool × List ℕ) → Bool
differs word [] = true
differs word (flag ∷ flags) = cond (differ flag.1 word) (differs word flags) false

both_true : (t u : Bool) → cond t u false ≡ true → (t ≡ true) × (u ≡ true)
both_true true u e = (refl, e)
both_true false u e = absurd (false≢true e)

none_next : (b : Bool) (w word after x : List ℕ) → differ w word ≡ true → (after ≡ word ++ x → ⊥) → cond b w [] ++ after ≡ word ++ x → ⊥
none_next true w word after x d never e = apart w word after x d e
none_next false w word after x d never e = never e

-- Words that differ from this one, and then what doesn't begin with it, don't begin with it.
pub none_before : (word : List ℕ) (flags : List (Bool × List ℕ)) (stop x : List ℕ) → differs word flags ≡ true → (stop ≡ word ++ x → ⊥) → words_before flags stop ≡ word ++ x → ⊥
none_before word [] stop x d ends e = ends e
none_before word (flag ∷ flags) stop x d ends e =
    let both = both_true (differ flag.1 word) (differs word flags) d in
    none_next flag.0 flag.1 word (words_before flags stop) x both.0 (none_before word flags stop x both.1 ends) e

-- A word that was looked for first was there exactly when it was reported.
pub one_flag : (word text rest after : List ℕ) (b told : Bool) → text ≡ cond b word [] ++ rest → (b ≡ false → (x : List ℕ) → text ≡ word ++ x → ⊥) → text ≡ cond told word [] ++ after → (told ≡ false → (x : List ℕ) → after ≡ word ++ x → ⊥)
    → rest ≡ after
one_flag word text rest after true true is none also never = append_cancel_left word rest after (sym is ∙ also)
one_flag word text rest after true false is none also never = absurd (never refl rest (sym also ∙ is))
one_flag word text rest after false true is none also never = absurd (none refl after also)
one_flag word text rest after false false is none also never = sym is ∙ also

-- The bit Z isn't what follows the flags.
pub no_bit_z : (rest : List ℕ) → ((more : List ℕ) → rest ≡ codes "MBZ: 0x4" ++ more → ⊥) → (x : List ℕ) → codes "; " ++ rest ≡ codes "; MBZ: 0x4" ++ x → ⊥
no_bit_z rest never x e = never x (append_cancel_left (codes "; ") rest (codes "MBZ: 0x4" ++ x) e)

-- The word was looked for at the beginning of a text, and this is the rest.
abbrev pub Looked : List ℕ → List ℕ → List ℕ → Bool → Type 0
Looked word text rest b = (text ≡ cond b word [] ++ rest) × (b ≡ false → (x : List ℕ) → text ≡ word ++ x → ⊥)

pub flag_step : (word text rest : List ℕ) (b told : Bool) (flags : List (Bool × List ℕ)) (stop : List ℕ) → Looked word text rest b → text ≡ cond told word [] ++ words_before flags stop → differs word flags ≡ true
    → (told ≡ false → (x : List ℕ) → stop ≡ word ++ x → ⊥) → rest ≡ words_before flags stop
flag_step word text rest b told flags stop look is d ends = one_flag word text rest (words_before flags stop) b told look.0 look.1 is (λ off x. none_before word flags stop x d (ends off x))

-- Flags that were looked for one after the other are all that a text begins with.
pub flags_only : (text r1 r2 r3 r4 r5 r6 r7 r8 : List ℕ) (b1 b2 b3 b4 b5 b6 b7 b8 : Bool) → Looked (codes " qr") text r1 b1 → Looked (codes " aa") r1 r2 b2 → Looked (codes " tc") r2 r3 b3 → Looked (codes " rd") r3 r4 b4
    → Looked (codes " ra") r4 r5 b5 → Looked (codes " ad") r5 r6 b6 → Looked (codes " cd") r6 r7 b7 → Looked (codes "; MBZ: 0x4") r7 r8 b8 → (flags : Flags) → BeginsWithFlags text flags → (rest : List ℕ) × (r8 ≡ codes "; " ++ rest)
flags_only text r1 r2 r3 r4 r5 r6 r7 r8 b1 b2 b3 b4 b5 b6 b7 b8 l1 l2 l3 l4 l5 l6 l7 l8 flags has =
    let w : List (Bool × List ℕ) = flag_words flags in
    let stop : List ℕ = codes "; " ++ has.rest in
    let e1 : r1 ≡ words_before (drop 1 w) stop = flag_step (codes " qr") text r1 b1 flags.qr (drop 1 w) stop l1 has.text_is refl (λ _ x. apart (codes "; ") (codes " qr") has.rest x refl) in
    let e2 : r2 ≡ words_before (drop 2 w) stop = flag_step (codes " aa") r1 r2 b2 flags.aa (drop 2 w) stop l2 e1 refl (λ _ x. apart (codes "; ") (codes " aa") has.rest x refl) in
    let e3 : r3 ≡ words_before (drop 3 w) stop = flag_step (codes " tc") r2 r3 b3 flags.tc (drop 3 w) stop l3 e2 refl (λ _ x. apart (codes "; ") (codes " tc") has.rest x refl) in
    let e4 : r4 ≡ words_before (drop 4 w) stop = flag_step (codes " rd") r3 r4 b4 flags.rd (drop 4 w) stop l4 e3 refl (λ _ x. apart (codes "; ") (codes " rd") has.rest x refl) in
    let e5 : r5 ≡ words_before (drop 5 w) stop = flag_step (codes " ra") r4 r5 b5 flags.ra (drop 5 w) stop l5 e4 refl (λ _ x. apart (codes "; ") (codes " ra") has.rest x refl) in
    let e6 : r6 ≡ words_before (drop 6 w) stop = flag_step (codes " ad") r5 r6 b6 flags.ad (drop 6 w) stop l6 e5 refl (λ _ x. apart (codes "; ") (codes " ad") has.rest x refl) in
    let e7 : r7 ≡ words_before (drop 7 w) stop = flag_step (codes " cd") r6 r7 b7 flags.cd (drop 7 w) stop l7 e6 refl (λ _ x. apart (codes "; ") (codes " cd") has.rest x refl) in
    let e8 : r8 ≡ words_before (drop 8 w) stop = flag_step (codes "; MBZ: 0x4") r7 r8 b8 flags.z (drop 8 w) stop l8 e7 refl (λ off x. no_bit_z has.rest (has.no_z off) x) in
    (has.rest, e8)

-- The bit Z that wasn't there isn't after it.
pub no_z_after : (word text rest : List ℕ) (b : Bool) → Looked word text rest b → b ≡ false → (x : List ℕ) → rest ≡ word ++ x → ⊥
no_z_after word text rest true look off x is = false≢true (sym off)
no_z_after word text rest false look off x is = look.1 refl x (look.0 ∙ is)

pub flags_lack : (text rest : List ℕ) (e : Stop) → ((flags : Flags) → BeginsWithFlags text flags → (x : List ℕ) × (rest ≡ codes "; " ++ x)) → IfFault e (TellsMissing (λ x. rest ≡ codes "; " ++ x) fault.Header 1)
    → IfFault e (TellsMissing (BeginsWithFlags text) fault.Header 1)
flags_lack text rest e only h =
    if_refused (TellsMissing (λ x. rest ≡ codes "; " ++ x) fault.Header 1) (TellsMissing (BeginsWithFlags text) fault.Header 1) e (λ f c lack. (lack.0, λ flags has. let w = only flags has in lack.1 w.0 w.1)) h

-- ---- kinds of lines

begins_heading : (h text : List ℕ) → IsWithColon h text → (x : List ℕ) × (text ≡ h ++ x)
begins_heading h text (inl e) = ([], e ∙ sym (append-nil h))
begins_heading h text (inr e) = (codes ":", e)

-- Lines that begin with words that differ aren't one.
pub two_kinds : (a b text x y : List ℕ) → differ a b ≡ true → text ≡ a ++ x → text ≡ b ++ y → ⊥
two_kinds a b text x y d e f = apart a b x y d (sym e ∙ f)

two_headings : (a b text : List ℕ) → differ a b ≡ true → IsWithColon a text → IsWithColon b text → ⊥
two_headings a b text d e f = let p = begins_heading a text e in let q = begins_heading b text f in two_kinds a b text p.0 q.0 d p.1 q.1

pub codes_flags : (text rest more : List ℕ) → IsCodesLine text rest → IsFlagsLine text more → ⊥
codes_flags text rest more (inl e) f = two_kinds (codes ";; opcode: ") (codes ";; flags:") text rest more refl e f
codes_flags text rest more (inr e) f = two_kinds (codes ";; ->>HEADER<<- opcode: ") (codes ";; flags:") text rest more refl e f

heading_begins : (text : List ℕ) (stage : Stage) (b x : List ℕ) → IsHeading text stage → differ (codes ";; QUESTION SECTION") b ≡ true → differ (codes ";; ANSWER SECTION") b ≡ true → differ (codes ";; AUTHORITY SECTION") b ≡ true
    → differ (codes ";; ADDITIONAL SECTION") b ≡ true → text ≡ b ++ x → ⊥
heading_begins text stage b x (questions w) q an au ad e = let p = begins_heading (codes ";; QUESTION SECTION") text w in two_kinds (codes ";; QUESTION SECTION") b text p.0 x q p.1 e
heading_begins text stage b x (answers w) q an au ad e = let p = begins_heading (codes ";; ANSWER SECTION") text w in two_kinds (codes ";; ANSWER SECTION") b text p.0 x an p.1 e
heading_begins text stage b x (authority w) q an au ad e = let p = begins_heading (codes ";; AUTHORITY SECTION") text w in two_kinds (codes ";; AUTHORITY SECTION") b text p.0 x au p.1 e
heading_begins text stage b x (additional w) q an au ad e = let p = begins_heading (codes ";; ADDITIONAL SECTION") text w in two_kinds (codes ";; ADDITIONAL SECTION") b text p.0 x ad p.1 e

pub codes_heading : (text rest : List ℕ) (stage : Stage) → IsCodesLine text rest → IsHeading text stage → ⊥
codes_heading text rest stage (inl e) h = heading_begins text stage (codes ";; opcode: ") rest h refl refl refl refl e
codes_heading text rest stage (inr e) h = heading_begins text stage (codes ";; ->>HEADER<<- opcode: ") rest h refl refl refl refl e

opt_codes : (text rest : List ℕ) → BeginsAsOpt text → IsCodesLine text rest → ⊥
opt_codes text rest begins (inl line) = elim begins.1 [
  | inl e ↦ two_kinds (codes "; EDNS:") (codes ";; opcode: ") text begins.0 rest refl e line
  | inr other ↦ elim other [
    | inl e ↦ two_kinds (codes "; OPT=") (codes ";; opcode: ") text begins.0 rest refl e line
    | inr e ↦ two_kinds (codes "; \\# ") (codes ";; opcode: ") text begins.0 rest refl e line
  ]
]
opt_codes text rest begins (inr line) = elim begins.1 [
  | inl e ↦ two_kinds (codes "; EDNS:") (codes ";; ->>HEADER<<- opcode: ") text begins.0 rest refl e line
  | inr other ↦ elim other [
    | inl e ↦ two_kinds (codes "; OPT=") (codes ";; ->>HEADER<<- opcode: ") text begins.0 rest refl e line
    | inr e ↦ two_kinds (codes "; \\# ") (codes ";; ->>HEADER<<- opcode: ") text begins.0 rest refl e line
  ]
]

pub flags_heading : (text rest : List ℕ) (stage : Stage) → IsFlagsLine text rest → IsHeading text stage → ⊥
flags_heading text rest stage e h = heading_begins text stage (codes ";; flags:") rest h refl refl refl refl e

codes_once : (text rest more : List ℕ) → IsCodesLine text rest → IsCodesLine text more → rest ≡ more
codes_once text rest more (inl e) (inl f) = append_cancel_left (codes ";; opcode: ") rest more (sym e ∙ f)
codes_once text rest more (inl e) (inr f) = absurd (two_kinds (codes ";; opcode: ") (codes ";; ->>HEADER<<- opcode: ") text rest more refl e f)
codes_once text rest more (inr e) (inl f) = absurd (two_kinds (codes ";; opcode: ") (codes ";; ->>HEADER<<- opcode: ") text more rest refl f e)
codes_once text rest more (inr e) (inr f) = append_cancel_left (codes ";; ->>HEADER<<- opcode: ") rest more (sym e ∙ f)

flags_once : (text rest more : List ℕ) → IsFlagsLine text rest → IsFlagsLine text more → rest ≡ more
flags_once text rest more e f = append_cancel_left (codes ";; flags:") rest more (sym e ∙ f)

abbrev asking : List ℕ
asking = codes ";; QUESTION SECTION"

abbrev answering : List ℕ
answering = codes ";; ANSWER SECTION"

abbrev naming : List ℕ
naming = codes ";; AUTHORITY SECTION"

abbrev adding : List ℕ
adding = codes ";; ADDITIONAL SECTION"

-- A heading is of one section.
pub heading_once : (text : List ℕ) (a b : Stage) → IsHeading text a → IsHeading text b → a ≡ b
heading_once text a b (questions x) (questions y) = refl
heading_once text a b (questions x) (answers y) = absurd (two_headings asking answering text refl x y)
heading_once text a b (questions x) (authority y) = absurd (two_headings asking naming text refl x y)
heading_once text a b (questions x) (additional y) = absurd (two_headings asking adding text refl x y)
heading_once text a b (answers x) (questions y) = absurd (two_headings answering asking text refl x y)
heading_once text a b (answers x) (answers y) = refl
heading_once text a b (answers x) (authority y) = absurd (two_headings answering naming text refl x y)
heading_once text a b (answers x) (additional y) = absurd (two_headings answering adding text refl x y)
heading_once text a b (authority x) (questions y) = absurd (two_headings naming asking text refl x y)
heading_once text a b (authority x) (answers y) = absurd (two_headings naming answering text refl x y)
heading_once text a b (authority x) (authority y) = refl
heading_once text a b (authority x) (additional y) = absurd (two_headings naming adding text refl x y)
heading_once text a b (additional x) (questions y) = absurd (two_headings adding asking text refl x y)
heading_once text a b (additional x) (answers y) = absurd (two_headings adding answering text refl x y)
heading_once text a b (additional x) (authority y) = absurd (two_headings adding naming text refl x y)
heading_once text a b (additional x) (additional y) = refl

trimmed_end : (line : List ℕ) (e d : ℕ) → e ≤ length line → d ≤ length line → ((k : ℕ) → e ≤ k → k < length line → IsBlank (slice_index line k)) → (0 < d → IsBlank (slice_index line (d - 1)) → ⊥) → e < d → ⊥
trimmed_end line e d within inside white last less = last (omega arith) (white (d - 1) (omega arith) (omega arith))

-- A line has one text before the white space at its end.
pub trimmed_once : (line text also : List ℕ) → IsTrimmed line text → IsTrimmed line also → text ≡ also
trimmed_once line text also a b = elim (cases_order a.end b.end) [
  | inl same ↦ a.text_is ∙ (ap (λ n. take n line) same ∙ sym b.text_is)
  | inr other ↦ elim other [
    | inl less ↦ absurd (trimmed_end line a.end b.end a.within b.within a.blank b.last less)
    | inr more ↦ absurd (trimmed_end line b.end a.end b.within a.within b.blank a.last more)
  ]
]

-- A line that isn't taken at a stage says nothing then.
pub no_remark : (text : List ℕ) (stage next : Stage) (f : Fault) (old new : Header) → NoRemark text stage f → Remarks text stage old next new → ⊥
no_remark text stage next f old new (late_codes rest is late told) (codes_told more o r i start also are sets) = late start
no_remark text stage next f old new (late_codes rest is late told) (flags_told more fl at also has sets) = codes_flags text rest more is also
no_remark text stage next f old new (late_codes rest is late told) (heading h) = codes_heading text rest next is h
no_remark text stage next f old new (late_codes rest is late told) (comment c) = c.no_codes rest is
no_remark text stage next f old new (no_codes rest is start never told) (codes_told more o r i at also are sets) = never o r i (subst (λ t. AreCodes t o r i) (codes_once text more rest also is) are)
no_remark text stage next f old new (no_codes rest is start never told) (flags_told more fl at also has sets) = codes_flags text rest more is also
no_remark text stage next f old new (no_codes rest is start never told) (heading h) = codes_heading text rest next is h
no_remark text stage next f old new (no_codes rest is start never told) (comment c) = c.no_codes rest is
no_remark text stage next f old new (late_flags rest is late told) (codes_told more o r i start also are sets) = codes_flags text more rest also is
no_remark text stage next f old new (late_flags rest is late told) (flags_told more fl at also has sets) = late at
no_remark text stage next f old new (late_flags rest is late told) (heading h) = flags_heading text rest next is h
no_remark text stage next f old new (late_flags rest is late told) (comment c) = c.no_flags rest is
no_remark text stage next f old new (no_flags rest is at never told) (codes_told more o r i start also are sets) = codes_flags text more rest also is
no_remark text stage next f old new (no_flags rest is at never told) (flags_told more fl also same has sets) = never fl (subst (λ t. BeginsWithFlags t fl) (flags_once text more rest same is) has)
no_remark text stage next f old new (no_flags rest is at never told) (heading h) = flags_heading text rest next is h
no_remark text stage next f old new (no_flags rest is at never told) (comment c) = c.no_flags rest is
no_remark text stage next f old new (no_heading other section told) (codes_told more o r i start also are sets) = other.no_codes more also
no_remark text stage next f old new (no_heading other section told) (flags_told more fl at also has sets) = other.no_flags more also
no_remark text stage next f old new (no_heading other section told) (heading h) = other.no_heading next h
no_remark text stage next f old new (no_heading other section told) (comment c) = c.no_section section
no_remark text stage next f old new (of_opt other section opt told) (codes_told more o r i start also are sets) = other.no_codes more also
no_remark text stage next f old new (of_opt other section opt told) (flags_told more fl at also has sets) = other.no_flags more also
no_remark text stage next f old new (of_opt other section opt told) (heading h) = other.no_heading next h
no_remark text stage next f old new (of_opt other section opt told) (comment c) = c.no_opt opt

-- A line leads from a stage to one other.
pub remark_once : (text : List ℕ) (stage next also : Stage) (old new was is : Header) → Remarks text stage old next new → Remarks text stage was also is → next ≡ also
remark_once text stage next also old new was is (codes_told a o r i start line are sets) (codes_told b p q j at same have set) = refl
remark_once text stage next also old new was is (codes_told a o r i start line are sets) (flags_told b fl at same has set) = absurd (codes_flags text a b line same)
remark_once text stage next also old new was is (codes_told a o r i start line are sets) (heading h) = absurd (codes_heading text a also line h)
remark_once text stage next also old new was is (codes_told a o r i start line are sets) (comment c) = absurd (c.no_codes a line)
remark_once text stage next also old new was is (flags_told a fl start line are sets) (codes_told b p q j at same have set) = absurd (codes_flags text b a same line)
remark_once text stage next also old new was is (flags_told a fl start line are sets) (flags_told b gl at same has set) = refl
remark_once text stage next also old new was is (flags_told a fl start line are sets) (heading h) = absurd (flags_heading text a also line h)
remark_once text stage next also old new was is (flags_told a fl start line are sets) (comment c) = absurd (c.no_flags a line)
remark_once text stage next also old new was is (heading h) (codes_told b p q j at same have set) = absurd (codes_heading text b next same h)
remark_once text stage next also old new was is (heading h) (flags_told b fl at same has set) = absurd (flags_heading text b next same h)
remark_once text stage next also old new was is (heading h) (heading k) = heading_once text next also h k
remark_once text stage next also old new was is (heading h) (comment c) = absurd (c.no_heading next h)
remark_once text stage next also old new was is (comment c) (codes_told b p q j at same have set) = absurd (c.no_codes b same)
remark_once text stage next also old new was is (comment c) (flags_told b fl at same has set) = absurd (c.no_flags b same)
remark_once text stage next also old new was is (comment c) (heading k) = absurd (c.no_heading also k)
remark_once text stage next also old new was is (comment c) (comment d) = refl

-- A line that begins as one of an OPT record is none of a header, no heading and no comment.
pub no_opt_remark : (text : List ℕ) (stage next : Stage) (old new : Header) → BeginsAsOpt text → Remarks text stage old next new → ⊥
no_opt_remark text stage next old new begins (codes_told rest o r i start line are sets) = opt_codes text rest begins line
no_opt_remark text stage next old new begins (flags_told rest fl at line has sets) = elim begins.1 [
  | inl e ↦ two_kinds (codes "; EDNS:") (codes ";; flags:") text begins.0 rest refl e line
  | inr other ↦ elim other [
    | inl e ↦ two_kinds (codes "; OPT=") (codes ";; flags:") text begins.0 rest refl e line
    | inr e ↦ two_kinds (codes "; \\# ") (codes ";; flags:") text begins.0 rest refl e line
  ]
]
no_opt_remark text stage next old new begins (heading h) = elim begins.1 [
  | inl e ↦ heading_begins text next (codes "; EDNS:") begins.0 h refl refl refl refl e
  | inr other ↦ elim other [
    | inl e ↦ heading_begins text next (codes "; OPT=") begins.0 h refl refl refl refl e
    | inr e ↦ heading_begins text next (codes "; \\# ") begins.0 h refl refl refl refl e
  ]
]
no_opt_remark text stage next old new begins (comment c) = c.no_opt begins

-- A line ends as a heading does, with a colon or without.
pub section_is : (line : List ℕ) → ((front : List ℕ) × (line ≡ front ++ codes " SECTION")) ⊎ ((front : List ℕ) × (line ≡ front ++ codes " SECTION:")) → EndsInSection line
section_is line (inl h) = (h.0, inl h.1)
section_is line (inr h) = (h.0, inr (h.1 ∙ sym (append_assoc h.0 (codes " SECTION") (codes ":"))))

pub section_ends : (line : List ℕ) → EndsInSection line → ((front : List ℕ) × (line ≡ front ++ codes " SECTION")) ⊎ ((front : List ℕ) × (line ≡ front ++ codes " SECTION:"))
section_ends line h = elim h.1 [ inl e ↦ inl (h.0, e) | inr e ↦ inr (h.0, e ∙ append_assoc h.0 (codes " SECTION") (codes ":")) ]
