use Rattle.std.proofs.Common.{ap, ◌∙◌}
use Rattle.domain_label.specs.Lowercase.{lowercase}
use Rattle.domain_label.proofs.CanonicalForm.{lowercase_wire}
use Rattle.domain_list.proofs.EqualSuffixLabels.{name_labels_short}
use Rattle.domain_list.proofs.BufferContents.{lowered_front}
use Rattle.domain_list.proofs.composing.put_lowercase_name.Goals as goal

pub returns-in-Some-clause-wire : goal.returns-in-Some-clause-wire
returns-in-Some-clause-wire g c =
    let ls = g.N.NameLabels.labels c.args.name.now in
    c.put_lowercase.ensures.low ∙ (ap lowercase c.in-Some.ensures.wire ∙ lowercase_wire ls (name_labels_short ls (g.met.N.NameLabels.lawful c.args.name.now)))

pub returns-clause-wire : goal.returns-clause-wire
returns-clause-wire g c =
    let ls = g.N.NameLabels.labels c.args.name.now in
    lowered_front c.put_name-len.new.octets _ _ ls c.make_ascii_lowercase.ensures.after c.put_name-len.ensures.wire (name_labels_short ls (g.met.N.NameLabels.lawful c.args.name.now))
