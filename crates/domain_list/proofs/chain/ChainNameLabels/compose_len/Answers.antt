use Rattle.std.proofs.Common.{arith}
use Rattle.domain_label.proofs.WireLaws.{length-wire_append}
use Rattle.domain_list.proofs.chain.ChainNameLabels.compose_len.Goals as goal

pub returns : goal.returns
returns g c =
    let ls = g.L.NameLabels.labels c.args.self.now.left in
    let rs = g.R.NameLabels.labels c.args.self.now.right in
    omega (arith, length-wire_append ls rs, c.compose_len.ensures, c.compose_len-2.ensures)
