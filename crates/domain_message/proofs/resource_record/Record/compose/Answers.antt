use Rattle.std.proofs.Common.{length, ap, arith}
use Rattle.domain_message.specs.RecordParts.{owner_of}
use Rattle.domain_message.proofs.ComposingRecords.{name_appended, numbers_after, numbers_exceed, data_refused, begins_with_owner, record_appended, name_then_data, named_exceeds, after_name_exceeds, refused_at_data, data_outgrows}
use Rattle.domain_message.specs.MayCompose.RefusesRecord.{at_owner}
use Rattle.domain_message.proofs.resource_record.Record.compose.Goals as goal

pub returns-in-Err-append_slice-clause-why : goal.returns-in-Err-append_slice-clause-why
returns-in-Err-append_slice-clause-why g c =
    let laws = g.met.Target.Composer in
    let absolute = g.met.N.Absolute.absolute (owner_of c.args.self.now) in
    let named = name_appended _ g.Target.Composer.compresses (g.Target.Octets.octets c.args.target.now) _ _ (λ s may. record { read = laws.reads_back _ _ s absolute may; flat = λ plain. laws.flat _ _ s plain may }) c.in_default.ensures.ok in
    numbers_exceed _ _ _ _ _ _ _ _ _ _ _ named (ap length c.octets_before_length-numbers.ensures) (omega (arith, c.in_default.ensures.capacity, c.in-Err-append_slice.ensures.capacity)) c.in-Err-append_slice.ensures.full

pub returns-in-Err-compose_len_rdata-clause-why : goal.returns-in-Err-compose_len_rdata-clause-why
returns-in-Err-compose_len_rdata-clause-why g c =
    let laws = g.met.Target.Composer in
    let absolute = g.met.N.Absolute.absolute (owner_of c.args.self.now) in
    let named = name_appended _ g.Target.Composer.compresses (g.Target.Octets.octets c.args.target.now) _ _ (λ s may. record { read = laws.reads_back _ _ s absolute may; flat = λ plain. laws.flat _ _ s plain may }) c.in_default.ensures.ok in
    data_refused _ _ _ _ _ _ _ _ _ _ _ _ named.allowed (numbers_after _ _ _ _ _ _ _ _ _ _ named c.in_default-append_slice.ensures.ok c.octets_before_length-numbers.ensures c.rtype.ensures) (omega (arith, c.in_default.ensures.capacity, c.in_default-append_slice.ensures.capacity)) c.in-Err-compose_len_rdata.ensures.why

pub returns-clause-ok : goal.returns-clause-ok
returns-clause-ok g c =
    let laws = g.met.Target.Composer in
    let absolute = g.met.N.Absolute.absolute (owner_of c.args.self.now) in
    let named = name_appended _ g.Target.Composer.compresses (g.Target.Octets.octets c.args.target.now) _ _ (λ s may. record { read = laws.reads_back _ _ s absolute may; flat = λ plain. laws.flat _ _ s plain may }) c.in_default.ensures.ok in
    record_appended _ _ _ _ _ _ _ _ _ _ named.allowed (numbers_after _ _ _ _ _ _ _ _ _ _ named c.in_default-append_slice.ensures.ok c.octets_before_length-numbers.ensures c.rtype.ensures) c.in_default-compose_len_rdata.ensures.ok

pub returns-clause-name : goal.returns-clause-name
returns-clause-name g c =
    begins_with_owner _ _ _ _ _ _ _ _ _ _ _ c.in_default.ensures.ok c.in_default-append_slice.ensures.ok c.octets_before_length-numbers.ensures c.rtype.ensures c.in_default-compose_len_rdata.ensures.ok

pub returns-clause-written : goal.returns-clause-written
returns-clause-written g c compressing =
    name_then_data _ _ _ _ _ _ _ _ _ _ _ _ _ _ c.in_default.ensures.appends c.in_default-append_slice.ensures.extends c.octets_before_length-numbers.ensures c.rtype.ensures (c.in_default-compose_len_rdata.ensures.names compressing)

pub returns-in-Err-clause-tight : goal.returns-in-Err-clause-tight
returns-in-Err-clause-tight g c = at_owner (named_exceeds _ _ _ _ c.in-Err.ensures.full)

pub returns-in-Err-append_slice-clause-tight : goal.returns-in-Err-append_slice-clause-tight
returns-in-Err-append_slice-clause-tight g c =
    at_owner (after_name_exceeds _ _ _ _ _ _ _ c.in_default.ensures.ok (ap length c.octets_before_length-numbers.ensures) (omega (arith, c.in_default.ensures.capacity, c.in-Err-append_slice.ensures.capacity)) c.in-Err-append_slice.ensures.full)

pub returns-in-Err-compose_len_rdata-clause-tight : goal.returns-in-Err-compose_len_rdata-clause-tight
returns-in-Err-compose_len_rdata-clause-tight g c =
    refused_at_data _ _ _ _ _ _ _ _ _ _ _ _ _ _ _ c.in_default.ensures.appends c.in_default-append_slice.ensures.ok c.octets_before_length-numbers.ensures c.rtype.ensures (omega (arith, c.in_default.ensures.capacity, c.in_default-append_slice.ensures.capacity)) c.in-Err-compose_len_rdata.ensures.why

pub returns-in-Err-compose_len_rdata-clause-long : goal.returns-in-Err-compose_len_rdata-clause-long
returns-in-Err-compose_len_rdata-clause-long g c =
    data_outgrows _ _ _ _ _ _ _ _ _ _ _ _ _ _ _ c.in_default.ensures.appends c.in_default-append_slice.ensures.extends c.octets_before_length-numbers.ensures c.rtype.ensures c.in-Err-compose_len_rdata.ensures.long
