use Rattle.std.proofs.Common.{refl}
use Rattle.domain_label.proofs.WireLaws.{relative_wire}
use Rattle.domain_name.proofs.Stripping.{suffix_begins, stripped}
use Rattle.domain_name.proofs.relative.RelativeName.strip_suffix.Goals as goal

pub suffix_offset-requires : goal.suffix_offset-requires
suffix_offset-requires g c κs = ((refl, tt), rw c.as_slice.ensures.octets (relative_wire c.args.self.now.relative))

pub truncate-requires : goal.truncate-requires
truncate-requires g c =
    let bs = g.N.NameLabels.labels c.args.base.now in
    let ends = rw c.as_slice.ensures.octets at c.in-Some.ensures.exact.0 refl in
    let offset = rw c.as_slice.ensures.octets at c.in-Some.ensures.offset in
    suffix_begins _ bs c.in-Some.offset (relative_wire c.args.self.now.relative) ends offset

pub returns-clause-ok : goal.returns-clause-ok
returns-clause-ok g c =
    let bs = g.N.NameLabels.labels c.args.base.now in
    let ends = rw c.as_slice.ensures.octets at c.in-Some.ensures.exact.0 refl in
    let offset = rw c.as_slice.ensures.octets at c.in-Some.ensures.offset in
    let parts = c.truncate.ensures.parts in
    stripped _ bs _ parts.0 c.in-Some.offset (relative_wire c.args.self.now.relative) ends offset parts.1 c.truncate.ensures.offset
