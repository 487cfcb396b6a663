use Rattle.std.proofs.Common.{◌≡◌, ℕ, List, [], ◌++◌, length, take, rules, sym, ap, ◌∙◌}
use Rattle.std.proofs.lemmas.List.{append-nil}
use Rattle.octseq.specs.declared.parse.Parser.{Parser}
use Rattle.octseq.specs.Parsing.{message, MovesTo}
use Rattle.domain_label.specs.Wire.{wire, IsAbsoluteName}
use Rattle.domain_reading.specs.ParseResult.{StandsUncompressed}
use Rattle.domain_name.specs.Names.{name_labels}
use Rattle.examples.proofs.circle.put_and_read.Goals as goal

-- a name after twelve octets lies plainly there
plainly : (old new : Parser) (header octets name : List ℕ) (ls : List (List ℕ)) → IsAbsoluteName ls → MovesTo old new 12 → message old ≡ octets → octets ≡ header ++ name → name ≡ wire ls → length header ≡ 12 → StandsUncompressed new ls
plainly old new header octets name ls absolute moved all parts form twelve = record {
  name = absolute;
  before = header;
  after = [];
  octets = ap (λ o. take new.end o.now) moved.octets ∙ (ap (λ e. take e old.octets.now) moved.end ∙ (all ∙ (parts ∙ (ap (λ w. header ++ w) form ∙ sym (append-nil (header ++ wire ls))))));
  here = moved.offset ∙ sym twelve;
}

pub unreachable-requires-in_default-parse : goal.unreachable-requires-in_default-parse
unreachable-requires-in_default-parse c =
    let twelve : length c.append_slice.new.self.items ≡ 12 = search rules in
    let lies = plainly c.from_ref-parser.result c.seek.new.self c.append_slice.new.self.items c.as_slice-2.result.now c.as_slice.result.now (name_labels c.args.name.now) c.as_slice.ensures.absolute c.in-Ok-seek.ensures.ok c.from_ref-parser.ensures.message (c.as_slice-2.ensures.value ∙ c.in-Ok-append_slice.ensures.ok) c.as_slice.ensures.wire twelve in
    c.in_default-parse.ensures.uncompressed (name_labels c.args.name.now) lies

pub returns : goal.returns
returns c =
    let twelve : length c.append_slice.new.self.items ≡ 12 = search rules in
    let lies = plainly c.from_ref-parser.result c.seek.new.self c.append_slice.new.self.items c.as_slice-2.result.now c.as_slice.result.now (name_labels c.args.name.now) c.as_slice.ensures.absolute c.in-Ok-seek.ensures.ok c.from_ref-parser.ensures.message (c.as_slice-2.ensures.value ∙ c.in-Ok-append_slice.ensures.ok) c.as_slice.ensures.wire twelve in
    let read = c.in-Ok-parse.ensures.uncompressed (name_labels c.args.name.now) lies in
    c.in-Ok-to_name.ensures.ok ∙ read.0
