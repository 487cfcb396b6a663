use Rattle.dnsnames_zone_c.proofs.Giving.{answers_from}
use Rattle.dnsnames_zone_c.specs.Zones.{server_of}
use Rattle.dnsnames_zone_c.proofs.zone.dnsnames_zone_answer.Goals as goal

pub returns-clause-answers : goal.returns-clause-answers
returns-clause-answers c =
    answers_from c.in-Some.zone.value c.deref.result.now c.args.slot.now.held (server_of c.args.stream c.args.payload_size) c.server_with-server.result c.args.query.now
    c.answer-status.result c.args.buffer.now c.answer-status.new.buffer c.args.length.now c.answer-status.new.length c.in-Some.ensures.taken c.deref.ensures
    c.server_with-server.ensures c.answer-status.ensures
