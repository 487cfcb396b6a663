use Rattle.std.proofs.Common.{refl}
use Rattle.domain_label.proofs.WireLaws.{absolute_wire}
use Rattle.domain_name.proofs.Stripping.{absolute_suffix_begins, stripped}
use Rattle.domain_name.proofs.absolute.Name.strip_suffix.Goals as goal

pub suffix_offset-requires : goal.suffix_offset-requires
suffix_offset-requires g c κs = ((refl, tt), rw c.as_slice.ensures.octets (absolute_wire c.args.self.absolute))

pub truncate-requires : goal.truncate-requires
truncate-requires g c =
    let bs = g.N.NameLabels.labels c.args.base.now in
    let a = g.met.N.Absolute.absolute c.args.base.now in
    let ends = rw c.as_slice.ensures.octets at c.in-Some.ensures.exact.0 refl in
    let offset = rw c.as_slice.ensures.octets at c.in-Some.ensures.offset in
    absolute_suffix_begins _ bs c.in-Some.offset (absolute_wire c.args.self.absolute) a.0 ends offset

pub returns-in-Some-clause-ok : goal.returns-in-Some-clause-ok
returns-in-Some-clause-ok g c =
    let bs = g.N.NameLabels.labels c.args.base.now in
    let ends = rw c.as_slice.ensures.octets at c.in-Some.ensures.exact.0 refl in
    let offset = rw c.as_slice.ensures.octets at c.in-Some.ensures.offset in
    let parts = c.truncate.ensures.parts in
    stripped _ bs _ parts.0 c.in-Some.offset (absolute_wire c.args.self.absolute) ends offset parts.1 c.truncate.ensures.offset
