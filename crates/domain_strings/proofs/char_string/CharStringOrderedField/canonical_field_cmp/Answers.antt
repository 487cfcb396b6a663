use Rattle.std.proofs.Common.{◌≡◌, length, rules}
use Rattle.std.specs.Cmp.Lexicographic.{slice_cmp}
use Rattle.std.specs.Ordering.{nat_cmp}
use Rattle.std.specs.declared.cmp.Ordering.TheVariants.{Equal}
use Rattle.domain_strings.specs.Views.{char_octets}
use Rattle.domain_strings.proofs.StringOrder.{same_length_followed}
use Rattle.domain_strings.proofs.char_string.CharStringOrderedField.canonical_field_cmp.Goals as goal

pub returns-in-Equal-clause-followed : goal.returns-in-Equal-clause-followed
returns-in-Equal-clause-followed g c =
    let one = char_octets {g = g.Octs.Octets} c.args.self.now in
    let other = char_octets {g = g.Octs.Octets} c.args.other.now in
    let same : nat_cmp (length one) (length other) ≡ Equal = search rules in
    let order : c.cmp-in-Equal.result ≡ slice_cmp nat_cmp one other = search rules in
    same_length_followed one other _ same order
