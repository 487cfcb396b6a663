use Rattle.domain_list.proofs.BufferContents.{lowered_front}
use Rattle.domain_list.proofs.EqualSuffixLabels.{name_labels_short}
use Rattle.domain_nsec3.proofs.hashing.put_canonical.Goals as goal

pub returns-clause-wire : goal.returns-clause-wire
returns-clause-wire g c =
    let ls = g.N.NameLabels.labels c.args.name.now in
    lowered_front c.put_name-len.new.octets _ _ ls c.make_ascii_lowercase.ensures.after c.put_name-len.ensures.wire (name_labels_short ls (g.met.N.NameLabels.lawful c.args.name.now))
