-- Entries that are cut.
use Rattle.std.proofs.Common.{◌≡◌, ℕ, ◌+◌, ◌<◌, ◌≤◌, inl, inr, List, ◌++◌, length, take, refl, sym, ap, subst, ◌∙◌, arith}
use Rattle.std.specs.Int.{w16, w32, from_be_bytes}
use Rattle.std.proofs.lemmas.List.{length-take-le}
use Rattle.octseq.specs.declared.parse.Parser.{Parser}
use Rattle.octseq.specs.Parsing.{message, position, next, MovesTo}
use Rattle.domain_wire.specs.declared.error.ParseError.{ParseError}
use Rattle.domain_wire.specs.declared.error.ParseError.TheVariants.{ShortInput}
use Rattle.domain_reading.specs.Grammar.{Names, EncodingEnds}
use Rattle.domain_reading.specs.ParseResult.{MovesPastName}
use Rattle.domain_parsed.specs.ParsedNames.{parsed_labels}
use Rattle.domain_tool.specs.declared.entry.RecordHeader.{RecordHeader}
use Rattle.domain_tool.specs.Entries.{IsRecordHeader}
use Rattle.domain_tool.specs.declared.entry_kind.EntryKind.{EntryKind}
use Rattle.domain_tool.specs.declared.entry_kind.EntryKind.TheVariants.{Question}
use Rattle.domain_header.specs.Numbers.{number16, number32}
use Rattle.domain_tool.specs.Lines.{IsLineOf, IsQuestion, kind_word, NameTo, NoQuestionLine, NoRecordLine}
use Rattle.domain_tool.specs.Lines.NoQuestionLine.{cut}
use Rattle.domain_tool.specs.Lines.NoRecordLine.{cut as cut_record}

-- a parser that was moved is over the same octets
pub same_message : (old new : Parser) (n : ℕ) → MovesTo old new n → message new ≡ message old
same_message old new n moved = ap (λ o. take new.end o.now) moved.octets ∙ ap (λ e. take e old.octets.now) moved.end

-- the name that was read, and the offset after it
pub name_to : (old new : Parser) (ls : List (List ℕ)) → Names 255 (message old) (position old) ls → MovesPastName old new → NameTo (message old) (position old) ls (position new)
name_to old new ls named moves = record {
  named = named;
  front = subst (λ e. EncodingEnds (message old) (position old) e) (sym moves.2.offset) moves.1;
}

pub cut_question : (old after : Parser) (ls : List (List ℕ)) (why : ParseError) → Names 255 (message old) (position old) ls → MovesPastName old after → length (message after) < position after + 4 → why ≡ ShortInput → NoQuestionLine (message old) (position old) why
cut_question old after ls why named moves short told =
    cut ls (position after) (name_to old after ls named moves) (omega (arith, short, ap length (same_message old after moves.0 moves.2))) told

pub cut_record_head : (old after : Parser) (ls : List (List ℕ)) (why : ParseError) → Names 255 (message old) (position old) ls → MovesPastName old after → length (message after) < position after + 10 → why ≡ ShortInput → NoRecordLine (message old) (position old) why
cut_record_head old after ls why named moves short told =
    cut_record ls (position after) (name_to old after ls named moves) (inl (omega (arith, short, ap length (same_message old after moves.0 moves.2)))) told

-- the number that a parser reads stands at its offset
pub read16 : (p : Parser) (m : List ℕ) (at n : ℕ) → message p ≡ m → position p ≡ at → n ≡ from_be_bytes w16 (next p 2) → n ≡ number16 m at
read16 p m at n same there e = e ∙ (ap (λ x. number16 x (position p)) same ∙ ap (number16 m) there)

pub read32 : (p : Parser) (m : List ℕ) (at n : ℕ) → message p ≡ m → position p ≡ at → n ≡ from_be_bytes w32 (next p 4) → n ≡ number32 m at
read32 p m at n same there e = e ∙ (ap (λ x. number32 x (position p)) same ∙ ap (number32 m) there)

-- the data after a head is cut
pub cut_data : (m : List ℕ) (p e : ℕ) (it : RecordHeader) (why : ParseError) → IsRecordHeader m p it e → length m < e + it.len → why ≡ ShortInput → NoRecordLine m p why
cut_data m p e it why head short told =
    let end = head.end in let len = head.len in
    cut_record (parsed_labels it.name) head.after head.name (inr (omega (arith, short, end, len))) told

-- a parser stands inside of its octets
pub place_inside : (p : Parser) → position p ≤ length (message p)
place_inside p =
    let e : length (message p) ≡ p.end = length-take-le p.end p.octets.now p.inside in
    omega (arith, e, p.ordered)

-- the line of a question
pub line_of_question : (m : List ℕ) (s : EntryKind) (p e : ℕ) (shown : List ℕ) → s ≡ Question → IsQuestion m p shown e → IsLineOf m s p (kind_word Question ++ shown) e
line_of_question m s p e shown is question =
    subst (λ x. IsLineOf m x p (kind_word Question ++ shown) e) (sym is) (shown, question, refl)

-- moved and then moved on
pub moves_on : (old mid new : Parser) (n k : ℕ) → MovesTo old mid n → MovesTo mid new k → MovesTo old new k
moves_on old mid new n k one two = record {
  octets = two.octets ∙ one.octets;
  end = two.end ∙ one.end;
  offset = two.offset;
}
