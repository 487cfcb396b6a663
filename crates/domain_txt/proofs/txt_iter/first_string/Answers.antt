use Rattle.std.proofs.Common.{refl}
use Rattle.domain_txt.proofs.TxtPassing.{first_parts, first_fits}
use Rattle.domain_txt.proofs.txt_iter.first_string.Goals as goal

pub split_at-requires : goal.split_at-requires
split_at-requires c = first_fits c.args.octets.now _ c.from.result c.requires c.in-len1-up.len_at_least refl c.from.ensures

pub returns : goal.returns
returns c = first_parts c.args.octets.now _ _ _ c.from.result c.requires c.in-len1-up.len_at_least refl c.from.ensures c.split_at.ensures.front c.split_at.ensures.back
