-- Classes and types, questions and records: words are one of each at most.
use Rattle.std.proofs.Common.{◌≡◌, ℕ, List, [], ◌∷◌, ◌++◌, length, map, drop, Result, Ok, Err, refl, sym, ap, subst, ◌∙◌, arith, inl, inr}
use Rattle.std.specs.Prelude.{Option, Some, None, codes}
use Rattle.std.proofs.lemmas.Bool.{false≢true}
use Rattle.std.specs.Str.Parse.{digits_value}
use Rattle.std.proofs.lemmas.List.{length-map}
use Rattle.domain_label.specs.Lowercase.{lowercase}
use Rattle.domain_header.specs.Mnemonics.{Row, NumberOf}
use Rattle.domain_header.specs.Mnemonics.NumberOf.{nowhere, here, later}
use Rattle.domain_header.specs.Numbered.{Named, IsNumbered}
use Rattle.domain_header.specs.Numbered.Named.{by_mnemonic, by_number, nothing}
use Rattle.domain_message.specs.Entries.{QuestionFields}
use Rattle.domain_message_builder.specs.Contents.{RecordHead}
use Rattle.domain_header.specs.Rtypes.{rtype_rows}
use Rattle.domain_header.specs.Tables.{class_rows}
use Rattle.domain_make.specs.Data.{IsData}
use Rattle.domain_make.specs.Parts.{IsNameWord}
use Rattle.domain_make.specs.Words.{WordAt}
use Rattle.domain_make.specs.declared.error.Fault.{Fault}
use Rattle.domain_make.specs.Entries.{IsClassWord, IsTypeWord, AreStated, IsQuestionWords, IsRecordWords}
use Rattle.domain_make.specs.Entries.AreStated.{ttl_first, class_first}
use Rattle.domain_make.specs.Faults.{NoQuestionWords, NoStated, NoRecordWords}
use Rattle.domain_make.specs.Faults.NoStated.{no_ttl, ttl_alone, no_class as no_class_word, class_alone}
use Rattle.domain_make.specs.Stops.{NoName, NoData}
use Rattle.domain_make.specs.Stops.NoName.{no_dot, no_text}
use Rattle.domain_make.specs.Data.{text_from}
use Rattle.domain_make.specs.Data.IsData.{nothing as no_data_meant, says}
use Rattle.domain_make.specs.Words.{AreWords, placed}
use Rattle.domain_make.specs.Stops.{NoWords}
use Rattle.domain_descriptor.specs.Table.{known_fields}
use Rattle.domain_rdata_text.specs.declared.error.Fault.{Fault as TextFault}
use Rattle.domain_rdata_text.specs.Texts.{IsNotPlain, IsReadFault, IsPlain, IsGenericText, text_octets}
use Rattle.domain_rdata_text.specs.Words.{WordAt as TextWord, split, words_of}
use Rattle.domain_rdata_text.specs.declared.words.Word.{Word as Found}
use Rattle.domain_rdata_text.proofs.Plainly.{plain_or_not}
use Rattle.domain_make.specs.Faults.NoQuestionWords.{class as lack_question_class, name as lack_question_name, number as lack_question_number, rtype as lack_question_rtype}
use Rattle.domain_make.specs.Faults.NoRecordWords.{few as lack_record_few, owner as lack_record_owner, rdata as lack_record_rdata, rtype as lack_record_rtype, stated as lack_record_stated}

some_same : {A : Type 0} (x y : A) → Some x ≡ Some y → x ≡ y
some_same x y e = cc

some_none : {A : Type 0} (x : A) → Some x ≡ None → ⊥
some_none x e = cc

same_head : (w v : WordAt) (ws vs : List WordAt) → w ∷ ws ≡ v ∷ vs → w ≡ v
same_head w v ws vs e = cc

same_tail : (w v : WordAt) (ws vs : List WordAt) → w ∷ ws ≡ v ∷ vs → ws ≡ vs
same_tail w v ws vs e = cc

abbrev AreSame : {A E : Type 0} → Result A E → Result A E → Type 0
AreSame a b = a ≡ b

not_both : {A E : Type 0} (a : A) (e : E) → AreSame (Ok a) (Err e) → ⊥
not_both a e h = cc

abbrev or_this : {A E : Type 0} → A → Result A E → A
or_this a (Ok b) = b
or_this a (Err e) = a

same_ok : {A E : Type 0} (a b : A) → AreSame {A = A} {E = E} (Ok a) (Ok b) → a ≡ b
same_ok a b h = ap (or_this a) h

-- ---- words

-- Words that were found and placed are those of the line.
pub are_words : (line : List ℕ) (start : ℕ) (items slice : List Found) (words : List WordAt) → split (drop start line) ≡ Ok (words_of items) → slice ≡ items → words ≡ map (placed (length line) start) (words_of slice) → AreWords line start words
are_words line start items slice words is same are =
    record { found = words_of items; are = is; placed_are = are ∙ ap (λ (x : List Found). map (placed (length line) start) (words_of x)) same }

-- A line has its words in one way,
pub words_once : (line : List ℕ) (start : ℕ) (words also : List WordAt) → AreWords line start words → AreWords line start also → words ≡ also
words_once line start words also are they =
    are.placed_are ∙ (ap (λ (ws : List TextWord). map (placed (length line) start) ws) (same_ok are.found they.found (sym are.are ∙ they.are)) ∙ sym they.placed_are)

-- or has none.
pub no_words : (line : List ℕ) (start : ℕ) (f : Fault) (c : ℕ) (words : List WordAt) → NoWords line start f c → AreWords line start words → ⊥
no_words line start f c words lack are = not_both are.found lack.why (sym are.are ∙ lack.are)

-- ---- names and data

no_name : (w : WordAt) (f : Fault) (c : ℕ) (ls : List (List ℕ)) → NoName w f c → IsNameWord w.octets ls → ⊥
no_name w f c ls (no_dot never told) is = never is.absolute
no_name w f c ls (no_text ends lack) is = lack.1 ls is

says_or_fault : (rtype class : ℕ) (text octets : List ℕ) (why : TextFault) → text_octets (known_fields rtype class) text ≡ Ok octets → (IsGenericText text → IsPlain (known_fields rtype class) octets)
    → IsReadFault (known_fields rtype class) text why → ⊥
says_or_fault rtype class text octets why told plain (inl refused) = not_both octets why (sym told ∙ refused)
says_or_fault rtype class text octets why told plain (inr (generic, (others, said, at, not))) =
    let ks = known_fields rtype class in
    plain_or_not ks octets (plain generic) (subst (λ (x : List ℕ). IsNotPlain ks x) (same_ok others octets (sym said ∙ told)) not)

no_data : (rtype class : ℕ) (line : List ℕ) (words : List WordAt) (f : Fault) (c : ℕ) (octets : List ℕ) → NoData rtype class line words f c → IsData rtype class line words octets → ⊥
no_data rtype class line words f c octets lack (no_data_meant meant empty) = lack.meant meant
no_data rtype class line words f c octets lack (says other is plain) = says_or_fault rtype class (text_from line words) octets lack.why is plain lack.refused

-- ---- classes and types

number_of_once : (word : List ℕ) (rows : List Row) (a b : Option ℕ) → NumberOf word rows a → NumberOf word rows b → a ≡ b
number_of_once word [] a b nowhere nowhere = refl
number_of_once word (r ∷ rows) a b (here is) (here also) = refl
number_of_once word (r ∷ rows) a b (here is) (later other rest) = absurd (other is)
number_of_once word (r ∷ rows) a b (later other rest) (here is) = absurd (other is)
number_of_once word (r ∷ rows) a b (later other rest) (later also more) = number_of_once word rows a b rest more

same_length : (first also word : List ℕ) → lowercase first ≡ lowercase word → lowercase also ≡ lowercase word → length first ≡ length also
same_length first also word e f = sym (length-map first _) ∙ (ap length (e ∙ sym f) ∙ length-map also _)

split_once : (a b x y : List ℕ) → length a ≡ length b → a ++ x ≡ b ++ y → x ≡ y
split_once [] [] x y l e = e
split_once [] (c ∷ b) x y l e = absurd (omega arith)
split_once (c ∷ a) [] x y l e = absurd (omega arith)
split_once (c ∷ a) (d ∷ b) x y l e = split_once a b x y (omega arith) (cc)

numbered_once : (word text : List ℕ) (n m : ℕ) → IsNumbered word text n → IsNumbered word text m → n ≡ m
numbered_once word text n m a b =
    let rest : a.rest ≡ b.rest = split_once a.first b.first a.rest b.rest (same_length a.first b.first word a.same b.same) (sym a.parts ∙ b.parts) in
    sym a.number.value ∙ (ap (digits_value 10) rest ∙ b.number.value)

named_once : (rows : List Row) (word text : List ℕ) (n m : ℕ) → Named rows word text (Some n) → Named rows word text (Some m) → n ≡ m
named_once rows word text n m (by_mnemonic a) (by_mnemonic b) = some_same n m (number_of_once text rows (Some n) (Some m) a b)
named_once rows word text n m (by_mnemonic a) (by_number b is) = absurd (some_none n (number_of_once text rows (Some n) None a b))
named_once rows word text n m (by_number a is) (by_mnemonic b) = absurd (some_none m (number_of_once text rows (Some m) None b a))
named_once rows word text n m (by_number a is) (by_number b also) = numbered_once word text n m is also

named_none : (rows : List Row) (word text : List ℕ) (n : ℕ) → Named rows word text None → Named rows word text (Some n) → ⊥
named_none rows word text n (nothing a none) (by_mnemonic b) = some_none n (number_of_once text rows (Some n) None b a)
named_none rows word text n (nothing a none) (by_number b is) = none n is

-- A text that names nothing is the word of no class, and of no type.
pub no_class : (text word : List ℕ) → text ≡ word → Named class_rows (codes "CLASS") text None → (n : ℕ) → IsClassWord word n → ⊥
no_class text word same none n is = named_none class_rows (codes "CLASS") word n (subst (λ t. Named class_rows (codes "CLASS") t None) same none) is.1

pub no_type : (text word : List ℕ) → text ≡ word → Named rtype_rows (codes "TYPE") text None → (n : ℕ) → IsTypeWord word n → ⊥
no_type text word same none n is = named_none rtype_rows (codes "TYPE") word n (subst (λ t. Named rtype_rows (codes "TYPE") t None) same none) is.1

-- A word names one class, and one type.
pub class_once : (word : List ℕ) (n m : ℕ) → IsClassWord word n → IsClassWord word m → n ≡ m
class_once word n m a b = named_once _ _ word n m a.1 b.1

pub type_once : (word : List ℕ) (n m : ℕ) → IsTypeWord word n → IsTypeWord word m → n ≡ m
type_once word n m a b = named_once _ _ word n m a.1 b.1

-- Three words, and four before others, are one by one the same.
pub no_question : (words : List WordAt) (f : Fault) (c : ℕ) (q : QuestionFields) → NoQuestionWords words f c → IsQuestionWords words q → ⊥
no_question words f c q (lack_question_number other told) is = other (ap length is.parts)
no_question words f c q (lack_question_name n k t parts lack) is = no_name n f c q.name lack (subst (λ v. IsNameWord v.octets q.name) (same_head is.name n _ _ (sym is.parts ∙ parts)) is.name_is)
no_question words f c q (lack_question_class n k t ls parts name lack) is =
    let rest = same_tail is.name n (is.class ∷ is.rtype ∷ []) (k ∷ t ∷ []) (sym is.parts ∙ parts) in
    lack.1 q.class (subst (λ v. IsClassWord v.octets q.class) (same_head is.class k (is.rtype ∷ []) (t ∷ []) rest) is.class_is)
no_question words f c q (lack_question_rtype n k t ls class parts name named lack) is =
    let rest = same_tail is.name n (is.class ∷ is.rtype ∷ []) (k ∷ t ∷ []) (sym is.parts ∙ parts) in
    let last = same_tail is.class k (is.rtype ∷ []) (t ∷ []) rest in
    lack.1 q.rtype (subst (λ v. IsTypeWord v.octets q.rtype) (same_head is.rtype t [] [] last) is.type_is)

-- The words of a record, one by one.
record SameRecord (o a b t p u x y : WordAt) (rest more : List WordAt) : Type 0 where
  owner : p ≡ o
  first : u ≡ a
  second : x ≡ b
  rtype : y ≡ t
  rest_is : more ≡ rest

same_record : (o a b t p u x y : WordAt) (rest more : List WordAt) → p ∷ u ∷ x ∷ y ∷ more ≡ o ∷ a ∷ b ∷ t ∷ rest → SameRecord o a b t p u x y rest more
same_record o a b t p u x y rest more e =
    let e1 = same_tail p o (u ∷ x ∷ y ∷ more) (a ∷ b ∷ t ∷ rest) e in
    let e2 = same_tail u a (x ∷ y ∷ more) (b ∷ t ∷ rest) e1 in
    let e3 = same_tail x b (y ∷ more) (t ∷ rest) e2 in
    record {
      owner = same_head p o (u ∷ x ∷ y ∷ more) (a ∷ b ∷ t ∷ rest) e;
      first = same_head u a (x ∷ y ∷ more) (b ∷ t ∷ rest) e1;
      second = same_head x b (y ∷ more) (t ∷ rest) e2;
      rtype = same_head y t more rest e3;
      rest_is = same_tail y t more rest e3;
    }

-- Two words are a TTL and a class, or not.
no_stated : (a b : WordAt) (f : Fault) (c : ℕ) (n class : ℕ) → NoStated a b f c → AreStated a b n class → ⊥
no_stated a b f c n class (no_ttl digit lack) (ttl_first is ttl named) = lack.1 n ttl
no_stated a b f c n class (no_ttl digit lack) (class_first other named ttl) = false≢true (sym other ∙ digit)
no_stated a b f c n class (ttl_alone m digit ttl lack) (ttl_first is also named) = lack.1 class named
no_stated a b f c n class (ttl_alone m digit ttl lack) (class_first other named also) = false≢true (sym other ∙ digit)
no_stated a b f c n class (no_class_word other lack) (ttl_first digit ttl named) = false≢true (sym other ∙ digit)
no_stated a b f c n class (no_class_word other lack) (class_first also named ttl) = lack.1 class named
no_stated a b f c n class (class_alone m other named lack) (ttl_first digit ttl also) = false≢true (sym other ∙ digit)
no_stated a b f c n class (class_alone m other named lack) (class_first also has ttl) = lack.1 n ttl

-- They state one class.
stated_once : (a b : WordAt) (n m class kind : ℕ) → AreStated a b n class → AreStated a b m kind → class ≡ kind
stated_once a b n m class kind (ttl_first is ttl named) (ttl_first also other has) = class_once b.octets class kind named has
stated_once a b n m class kind (ttl_first is ttl named) (class_first other has also) = absurd (false≢true (sym other ∙ is))
stated_once a b n m class kind (class_first other named ttl) (ttl_first is also has) = absurd (false≢true (sym other ∙ is))
stated_once a b n m class kind (class_first is named ttl) (class_first also has other) = class_once a.octets class kind named has

pub no_record : (line : List ℕ) (words : List WordAt) (f : Fault) (c : ℕ) (head : RecordHead) (octets : List ℕ) → NoRecordWords line words f c → IsRecordWords line words head octets → ⊥
no_record line words f c head octets (lack_record_few few told) is = absurd (omega (arith, few, ap length is.parts))
no_record line words f c head octets (lack_record_owner o a b t rest parts lack) is =
    let same = same_record o a b t is.owner is.first is.second is.rtype rest is.rest (sym is.parts ∙ parts) in
    no_name o f c head.owner lack (subst (λ v. IsNameWord v.octets head.owner) same.owner is.owner_is)
no_record line words f c head octets (lack_record_stated o a b t rest ls parts name lack) is =
    let same = same_record o a b t is.owner is.first is.second is.rtype rest is.rest (sym is.parts ∙ parts) in
    no_stated a b f c head.ttl head.class lack (subst (λ v. AreStated v b head.ttl head.class) same.first (subst (λ v. AreStated is.first v head.ttl head.class) same.second is.stated_are))
no_record line words f c head octets (lack_record_rtype o a b t rest ls n class parts name stated lack) is =
    let same = same_record o a b t is.owner is.first is.second is.rtype rest is.rest (sym is.parts ∙ parts) in
    lack.1 head.rtype (subst (λ v. IsTypeWord v.octets head.rtype) same.rtype is.type_is)
no_record line words f c head octets (lack_record_rdata rtype class t rest begins lack) is =
    let same = same_record begins.owner begins.first begins.second t is.owner is.first is.second is.rtype rest is.rest (sym is.parts ∙ begins.parts) in
    let type_is : head.rtype ≡ rtype = type_once t.octets head.rtype rtype (subst (λ v. IsTypeWord v.octets head.rtype) same.rtype is.type_is) begins.type_is in
    let stated : AreStated begins.first begins.second head.ttl head.class =
    subst (λ v. AreStated v begins.second head.ttl head.class) same.first (subst (λ v. AreStated is.first v head.ttl head.class) same.second is.stated_are) in
    let class_is : head.class ≡ class = stated_once begins.first begins.second head.ttl begins.seconds head.class class stated begins.stated_are in
    no_data rtype class line rest f c octets lack
    (subst (λ n. IsData n class line rest octets) type_is (subst (λ n. IsData head.rtype n line rest octets) class_is (subst (λ ws. IsData head.rtype head.class line ws octets) same.rest_is is.data_is)))
