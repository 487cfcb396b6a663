use Rattle.std.proofs.Common.{length}
use Rattle.domain_descriptor.specs.Rdatas.{kinds_left}
use Rattle.domain_any_rdata.specs.Parts.{rdata_parts, parts_left}
use Rattle.domain_any_rdata.proofs.Composed.{TargetMembers, Still}
use Rattle.domain_any_rdata.proofs.compose.compose_fields.Given as goal

abbrev pub invariant-field : goal.invariant-field
invariant-field g l =
    let members : TargetMembers _ = record {
      octets = g.T.Octets.octets;
      capacity = g.T.Octets.capacity;
      extends = g.T.OctetsBuilder.extends;
      compresses = g.T.Composer.compresses;
      Memory = g.T.Composer.Memory;
      memory = g.T.Composer.memory;
      kept_within = g.T.Composer.kept_within;
      appends = g.T.Composer.appends;
    } in
    Still members (rdata_parts l.fn.rdata) (parts_left l.fields) l.fn.how l.initial.target l.target

abbrev pub decreases-field : goal.decreases-field
decreases-field g l = length (kinds_left l.fields)
