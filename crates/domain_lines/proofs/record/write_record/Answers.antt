use Rattle.std.proofs.Common.{refl}
use Rattle.std.proofs.lemmas.Bool.{false≢true}
use Rattle.domain_message.specs.RecordModel.{record_fields}
use Rattle.domain_any_rdata.specs.AllData.{data_of}
use Rattle.domain_any_rdata.specs.Texts.{rdata_text}
use Rattle.domain_lines.proofs.Recording.{typed_line, unread_line}
use Rattle.domain_lines.specs.Records.{bare_text, line_text, unread_text}
use Rattle.domain_lines.specs.Records.IsRecordLine.{bare}
use Rattle.domain_lines.proofs.record.write_record.Goals as goal

pub returns-then-is_bare-clause-written : goal.returns-then-is_bare-clause-written
returns-then-is_bare-clause-written g c = (bare_text (record_fields c.args.found.now), bare (c.is_bare.ensures.0 c.if-is_bare.true) refl, c.in_ok-put_line.ensures.taken)

pub returns-in_ok-put_line-in-Ok-clause-written : goal.returns-in_ok-put_line-in-Ok-clause-written
returns-in_ok-put_line-in-Ok-clause-written g c =
    let it = record_fields c.args.found.now in
    let found = data_of c.in-Ok.rdata in
    (line_text it (rdata_text found), typed_line it _ _ _ _ found c.rtype.ensures c.class.ensures c.data-data.ensures.message c.data-data.ensures.offset (λ is. false≢true (c.if-is_bare.ensures.1 is)) c.in-Ok.ensures.ok c.in-Ok.ensures.whole, c.in_ok-put_line-in-Ok.ensures.taken)

pub returns-in_ok-put_line-in-Err-clause-written : goal.returns-in_ok-put_line-in-Err-clause-written
returns-in_ok-put_line-in-Err-clause-written g c =
    let it = record_fields c.args.found.now in
    let why = c.in-Err.why in
    (unread_text it why, unread_line it _ _ _ _ why c.rtype.ensures c.class.ensures c.data-data.ensures.message c.data-data.ensures.offset (λ is. false≢true (c.if-is_bare.ensures.1 is)) c.in-Err.ensures.err, c.in_ok-put_line-in-Err.ensures.taken)
