use Rattle.std.proofs.Common.{◌≡◌, ◌∙◌, ◌&&◌, false, sym, ap}
use Rattle.domain_descriptor.specs.Table.{compresses_names}
use Rattle.domain_any_rdata.specs.AllData.{data_type, data_parts, is_known_data}
use Rattle.domain_any_rdata.proofs.Forms.{all_sized, form_size, no_left, no_right}
use Rattle.domain_any_rdata.proofs.all.AllRecordDataComposeRecordData.rdlen.Goals as goal
use Rattle.domain_any_rdata.proofs.all.AllRecordDataComposeRecordData.rdlen.Goals.{else-compress-via-then-compress+else-compresses_names, else-compress-via-else-compress}

pub returns-clause-composed : goal.returns-clause-composed
returns-clause-composed c =
    let it = c.args.self.now in
    let other : (c.args.compress && compresses_names (data_type it)) ≡ false = elim c.else-compress.branch [
      | else-compress-via-then-compress+else-compresses_names w ↦ no_right c.args.compress (compresses_names (data_type it)) (ap compresses_names (sym w.rtype.ensures) ∙ sym w.compresses_names.ensures ∙ w.if-compresses_names.false)
      | else-compress-via-else-compress w ↦ no_left c.args.compress (compresses_names (data_type it)) w.if-compress.false
    ] in
    all_sized c.args.compress (compresses_names (data_type it)) (data_parts it) c.uncompressed_len.result other c.uncompressed_len.ensures.some

pub returns-clause-canonical : goal.returns-clause-canonical
returns-clause-canonical c =
    let it = c.args.self.now in
    form_size (data_type it) (is_known_data it) c.args.compress (data_parts it) c.uncompressed_len.result c.uncompressed_len.ensures.some
