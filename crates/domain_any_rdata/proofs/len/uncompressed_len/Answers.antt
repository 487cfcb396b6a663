use Rattle.std.proofs.Common.{◌+◌, refl, arith}
use Rattle.domain_any_rdata.specs.Parts.{rdata_parts, part_of, parts_left}
use Rattle.domain_any_rdata.proofs.Lengths.{part_less}
use Rattle.domain_any_rdata.proofs.Named.{part_taken}
use Rattle.domain_any_rdata.proofs.len.uncompressed_len.Goals as goal

pub field-preserved : goal.field-preserved
field-preserved c =
    let taken = part_taken c.field.fields c.in-Some.field c.next.new.self c.in-Some.ensures.steps in
    record {
      sum = part_less (rdata_parts c.args.rdata.now) (parts_left c.field.fields) (parts_left c.next.new.self) (part_of c.in-Some.field) c.field.len (c.field.len + c.field_len-n.result) c.field_len-n.result
          taken c.field.invariant.sum c.field_len-n.ensures refl;
      small = omega arith;
    }
