-- Names that were parsed.
use Rattle.std.proofs.Common.{◌≡◌, ℕ, ◌+◌, ◌<◌, List, length, refl, sym, ap, subst, arith}
use Rattle.octseq.specs.declared.parse.Parser.{Parser}
use Rattle.octseq.specs.Parsing.{message, position}
use Rattle.domain_wire.specs.declared.error.ParseError.TheVariants.{ShortInput}
use Rattle.domain_reading.specs.Grammar.{Names, EncodingEnds}
use Rattle.domain_reading.specs.Labels.{labels_at}
use Rattle.domain_reading.proofs.LabelsAt.{labels_named}
use Rattle.domain_reading.specs.ParseResult.{MovesPastName}
use Rattle.domain_message.specs.ParserFacts.{same_message}
use Rattle.domain_message.specs.Readings.{name_once}
use Rattle.domain_message.specs.Entries.{WholeNameAt, NoNameBefore, HeaderFields, RecordHeaderAt}
use Rattle.domain_message.specs.Entries.NoNameBefore.{too_short}

-- the name that was parsed, and where its encoding ends
pub name_to : (old new : Parser) (ls : List (List ℕ)) → Names 255 (message old) (position old) ls → MovesPastName old new → WholeNameAt (message old) (position old) ls (position new)
name_to old new ls named moves = record {
  labels = named;
  encoding = subst (λ e. EncodingEnds (message old) (position old) e) (sym moves.2.offset) moves.1;
}

-- the owner of a record is what a function of the message and the offset gives
pub owner_at : {m : List ℕ} {p q : ℕ} {h : HeaderFields} → RecordHeaderAt m p h q → RecordHeaderAt m p (record { owner = labels_at m p; rtype = h.rtype; class = h.class; ttl = h.ttl; rdlen = h.rdlen }) q
owner_at {m} {p} at = record {
  name_end = at.name_end;
  name = subst (λ ls. WholeNameAt m p ls at.name_end) (sym (labels_named at.name.labels)) at.name;
  rtype = at.rtype;
  class = at.class;
  ttl = at.ttl;
  rdlen = at.rdlen;
  inside = at.inside;
  end = at.end;
}

-- too few octets follow a name
pub short_after : (n : ℕ) (old new : Parser) (ls : List (List ℕ)) → Names 255 (message old) (position old) ls → MovesPastName old new → length (message new) < position new + n → NoNameBefore n (message old) (position old) ShortInput
short_after n old new ls named moves short =
    too_short ls (position new) (name_to old new ls named moves) (omega (arith, short, ap length (same_message old new moves.0 moves.2))) refl

-- a name that was parsed before the end of the octets isn't all of them
pub not_whole : (old new : Parser) (ls target : List (List ℕ)) (m : List ℕ) (p : ℕ) → message old ≡ m → position old ≡ p → Names 255 (message old) (position old) ls → MovesPastName old new → position new < length (message new) → WholeNameAt m p target (length m) → ⊥
not_whole old new ls target m p is at named moves more whole =
    let one = name_to old new ls named moves in
    let other = subst (λ o. WholeNameAt o (position old) target (length o)) (sym is) (subst (λ q. WholeNameAt m q target (length m)) (sym at) whole) in
    let same = (name_once one other).1 in
    omega (arith, same, more, ap length (same_message old new moves.0 moves.2))
