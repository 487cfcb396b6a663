use Rattle.std.proofs.Common.{ap, ◌∙◌, fold}
use Rattle.domain_list.specs.NameLaws.{hash_input_is_wire}
use Rattle.domain_list.proofs.EqualSuffixLabels.{name_labels_short}
use Rattle.domain_list.proofs.Octetwise.{lowercase_hash_input}
use Rattle.domain_list.proofs.hashing.hash_name.Goals as goal

pub returns-in-Some-clause-fed : goal.returns-in-Some-clause-fed
returns-in-Some-clause-fed g c =
    let ls = g.N.NameLabels.labels c.args.name.now in
    c.hash_octets.ensures ∙ ap (fold g.H.Hasher.write c.args.state.now) (lowercase_hash_input c.in-Some.flat.now ls c.in-Some.ensures.wire (name_labels_short ls (g.met.N.NameLabels.lawful c.args.name.now)))

pub returns-in-Some-clause-wire : goal.returns-in-Some-clause-wire
returns-in-Some-clause-wire g c = hash_input_is_wire (g.N.NameLabels.labels c.args.name.now)

pub returns-in-None-clause-wire : goal.returns-in-None-clause-wire
returns-in-None-clause-wire g c = hash_input_is_wire (g.N.NameLabels.labels c.args.name.now)
