use Rattle.std.proofs.Common.{◌∙◌}
use Rattle.domain_message_builder.proofs.Sets.{members_of}
use Rattle.domain_message_builder.specs.MarkedViews.{marked_state}
use Rattle.examples.proofs.SignedSets.{both, second_refused}
use Rattle.examples.proofs.signing.push_signed.Goals as goal

pub returns-in-Err-push_rrset : goal.returns-in-Err-push_rrset
returns-in-Err-push_rrset g c =
    let d = members_of g.D.RecordData.type_number g.D.ComposeRecordData.composed g.D.ComposeRecordData.written g.D.ComposeRecordData.uncompressed g.D.ComposeRecordData.lowercase g.D.ComposeRecordData.knows_len in
    let e = members_of g.S.RecordData.type_number g.S.ComposeRecordData.composed g.S.ComposeRecordData.written g.S.ComposeRecordData.uncompressed g.S.ComposeRecordData.lowercase g.S.ComposeRecordData.knows_len in
    second_refused d e c.args.section _ c.args.class c.args.ttl c.args.rdata.now c.args.signatures.now c.args.message c.mark-marked.result.builder c.push_rrset.new.self.builder c.cut-in-Err-push_rrset.result c.in-Err-push_rrset._refused
    (marked_state c.push_rrset-2.new.self) c.mark-marked.ensures.same (c.in-Err-push_rrset.ensures.marked ∙ (c.in_default.ensures.marked ∙ c.mark-marked.ensures.marked))
    c.cut-in-Err-push_rrset.ensures c.in_default.ensures.ok c.in-Err-push_rrset.ensures.why

pub returns : goal.returns
returns g c =
    let d = members_of g.D.RecordData.type_number g.D.ComposeRecordData.composed g.D.ComposeRecordData.written g.D.ComposeRecordData.uncompressed g.D.ComposeRecordData.lowercase g.D.ComposeRecordData.knows_len in
    let e = members_of g.S.RecordData.type_number g.S.ComposeRecordData.composed g.S.ComposeRecordData.written g.S.ComposeRecordData.uncompressed g.S.ComposeRecordData.lowercase g.S.ComposeRecordData.knows_len in
    both d e c.args.section _ c.args.class c.args.ttl c.args.rdata.now c.args.signatures.now c.args.message c.mark-marked.result.builder c.push_rrset.new.self.builder c.push_rrset-2.new.self.builder c.into_builder.result
    c.mark-marked.ensures.same c.into_builder.ensures c.in_default.ensures.ok c.in_default-push_rrset.ensures.ok
