use Rattle.std.proofs.Common.{rules}
use Rattle.domain_label.specs.Labels.{label_octets}
use Rattle.domain_list.proofs.BufferContents.{label_put}
use Rattle.domain_list.proofs.composing.put_label.Goals as goal

pub returns-clause-wire : goal.returns-clause-wire
returns-clause-wire c =
    label_put c.args.octets.now c.put_octets.new.octets _ (label_octets c.args.label) c.args.len c.len.result c.len-2.result (search rules) c.requires (search rules) c.len.ensures c.len-2.ensures c.put_octets.ensures
