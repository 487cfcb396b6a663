use Rattle.std.proofs.Common.{◌∷◌, ◌++◌, [], subst}
use Rattle.std.proofs.lemmas.Result.{on_ok_weaker}
use Rattle.domain_header.specs.Values.{rcode_number, ttl_seconds}
use Rattle.domain_message.specs.RecordModel.{record_fields}
use Rattle.domain_lines.specs.Edns.{edns_line}
use Rattle.domain_lines.proofs.Entries.{wrote_opt}
use Rattle.domain_lines.proofs.record.write_opt.Goals as goal

pub returns-clause-written : goal.returns-clause-written
returns-clause-written g c =
    let it = record_fields c.args.found.now in
    let rcode = rcode_number c.args.rcode in
    let old = c.args.output.now in
    let one = c.write_another.new.output in
    let two = c.put_line.new.self in
    let new = c.write_options.new.output in
    let by_class = subst (λ class. g.W.Sink.takes one two (edns_line (ttl_seconds c.ttl-ttl.result) class rcode ++ 10 ∷ [])) c.class-class.ensures c.in_ok-put_line.ensures.taken in
    let line = subst (λ ttl. g.W.Sink.takes one two (edns_line ttl it.header.class rcode ++ 10 ∷ [])) c.ttl-ttl.ensures by_class in
    on_ok_weaker c.write_options.result (λ options. wrote_opt g.W.Sink.takes g.met.W.Sink.joined rcode c.args.another it c.data_octets.result.now old one two new c.data_octets.ensures.octets c.in_ok-write_another.ensures.written line options) c.write_options.ensures.written
