use Rattle.std.proofs.Common.{◌<◌, ◌+◌, OnOk, OnErr, length, sym, subst}
use Rattle.domain_parsed.specs.ParsedNames.{parsed_labels}
use Rattle.domain_rdata.specs.ReadBack.{Appended}
use Rattle.domain_fields.specs.Parts.{part_octets}
use Rattle.domain_any_rdata.specs.Composing.{PartComposed, part_written, lowers}
use Rattle.domain_any_rdata.proofs.Named.{named_part}
use Rattle.domain_any_rdata.proofs.compose.append_field.Goals as goal

pub returns-in-Some-clause-ok : goal.returns-in-Some-clause-ok
returns-in-Some-clause-ok g c =
    let is = named_part c.args.field.now (parsed_labels c.in-Some.name) c.in-Some.ensures.some.0 c.in-Some.ensures.some.1 in
    let o = g.T.Octets.octets in
    subst (λ x. OnOk c.append_name.result (Appended (PartComposed x c.args.how g.T.Composer.compresses (o c.args.target.now)) (o c.args.target.now) (o c.append_name.new.target))) (sym is) c.append_name.ensures.ok

pub returns-in-Some-clause-names : goal.returns-in-Some-clause-names
returns-in-Some-clause-names g c =
    let is = named_part c.args.field.now (parsed_labels c.in-Some.name) c.in-Some.ensures.some.0 c.in-Some.ensures.some.1 in
    subst (λ x. OnOk c.append_name.result (part_written x c.args.how _ g.T.OctetsBuilder.extends g.T.Composer.appends c.args.target.now c.append_name.new.target)) (sym is) c.append_name.ensures.names

pub returns-in-Some-clause-full : goal.returns-in-Some-clause-full
returns-in-Some-clause-full g c =
    let is = named_part c.args.field.now (parsed_labels c.in-Some.name) c.in-Some.ensures.some.0 c.in-Some.ensures.some.1 in
    subst (λ x. OnErr c.append_name.result (g.T.Octets.capacity c.args.target.now < length (g.T.Octets.octets c.args.target.now) + length (part_octets (lowers c.args.how) x))) (sym is) c.append_name.ensures.full

pub returns-in-Some-clause-some : goal.returns-in-Some-clause-some
returns-in-Some-clause-some g c =
    let is = named_part c.args.field.now (parsed_labels c.in-Some.name) c.in-Some.ensures.some.0 c.in-Some.ensures.some.1 in
    subst (λ x. OnErr c.append_name.result (0 < length (part_octets (lowers c.args.how) x))) (sym is) c.append_name.ensures.some
