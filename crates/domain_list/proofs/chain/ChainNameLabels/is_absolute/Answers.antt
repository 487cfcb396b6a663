use Rattle.domain_label.proofs.WireLaws.{relative_then_absolute}
use Rattle.domain_list.proofs.Chaining.{chain_is_absolute}
use Rattle.domain_list.proofs.chain.ChainNameLabels.is_absolute.Goals as goal

pub returns : goal.returns
returns g c =
    let ls = g.L.NameLabels.labels c.args.self.now.left in
    let rs = g.R.NameLabels.labels c.args.self.now.right in
    let relative = c.args.self.now.fits.0 in
    (λ h. relative_then_absolute ls rs relative (c.is_absolute.ensures.0 h), λ a. c.is_absolute.ensures.1 (chain_is_absolute ls rs relative a))
