use Rattle.std.proofs.Common.{◌≡◌, ◌∙◌, List, ℕ, ◌++◌, length, ap, sym, arith}
use Rattle.std.proofs.lemmas.Bool.Decides.{nat_tests}
use Rattle.domain_parsed.specs.ParsedNames.{parsed_labels}
use Rattle.domain_fields.specs.Parts.{Part, a_name, part_octets}
use Rattle.domain_any_rdata.specs.Readers.{in_hand}
use Rattle.domain_any_rdata.proofs.Cutting.{name_taken, none_of}
use Rattle.domain_any_rdata.proofs.Lengths.{part_size}
use Rattle.domain_any_rdata.proofs.Named.{named_part, part_taken}
use Rattle.domain_any_rdata.proofs.reader.OctetReader.fill.Goals as goal

pub field-preserved-in-Ok-1 : goal.field-preserved-in-Ok-1
field-preserved-in-Ok-1 c =
    let it = c.field.self in
    let taken = part_taken it.fields c.in-Some.field c.next.new.self c.in-Some.ensures.steps in
    let is = named_part c.in-Some.field (parsed_labels c.in-Some-name.name) c.in-Some-name.ensures.some.0 c.in-Some-name.ensures.some.1 in
    let first = ap (λ (o : List ℕ). length o) c.first.ensures in
    let few : length (in_hand it) ≡ 0 = grind (arith, nat_tests) in
    let none = none_of (in_hand it) few in
    name_taken it _ _ c.append_cased.new.target.items c.truncate.new.self.items none taken c.truncate.ensures.items
    (c.in-Ok.ensures.ok ∙ ap (λ (x : Part). c.truncate.new.self.items ++ part_octets it.lowercase x) (sym is))
    ∙ c.field.invariant

pub unreachable-requires : goal.unreachable-requires
unreachable-requires c =
    let name = c.in-Some-name.name in
    omega (arith, c.in_default-append_cased.ensures.full, part_size c.field.self.lowercase (a_name (parsed_labels name)), name.absolute.1, ap (λ (o : List ℕ). length o) c.truncate.ensures.items)
