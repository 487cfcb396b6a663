use Rattle.std.proofs.Common.{◌≡◌, subst}
use Rattle.std.proofs.lemmas.Result.{on_ok_weaker}
use Rattle.octseq.specs.Parsing.{message, position}
use Rattle.domain_header.specs.Values.{rcode_number}
use Rattle.domain_message.specs.Sections.{counted_records}
use Rattle.domain_lines.specs.Messages.{header_rcode}
use Rattle.domain_lines.proofs.Showing.{wrote_section, stopped_section}
use Rattle.domain_lines.proofs.message.write_section.Goals as goal

pub returns-clause-written : goal.returns-clause-written
returns-clause-written g c =
    let m = message c.args.parser.now in
    let count : c.count_of-count.result ≡ counted_records m c.args.section = subst (λ o. c.count_of-count.result ≡ counted_records o c.args.section) c.as_slice.ensures c.count_of-count.ensures in
    let code : rcode_number c.rcode_of-rcode.result ≡ header_rcode m = subst (λ o. rcode_number c.rcode_of-rcode.result ≡ header_rcode o) c.as_slice-2.ensures c.rcode_of-rcode.ensures in
    on_ok_weaker c.write_records.result (λ all. wrote_section g.W.Sink.takes g.met.W.Sink.nothing g.met.W.Sink.joined m c.args.section (rcode_number c.rcode_of-rcode.result) (position c.args.parser.now) (position c.write_records.new.parser) c.count_of-count.result _ _ _ code count c.in_ok-put_line.ensures.taken all) c.write_records.ensures.written

pub returns-clause-refused : goal.returns-clause-refused
returns-clause-refused g c =
    let m = message c.args.parser.now in
    let count : c.count_of-count.result ≡ counted_records m c.args.section = subst (λ o. c.count_of-count.result ≡ counted_records o c.args.section) c.as_slice.ensures c.count_of-count.ensures in
    let code : rcode_number c.rcode_of-rcode.result ≡ header_rcode m = subst (λ o. rcode_number c.rcode_of-rcode.result ≡ header_rcode o) c.as_slice-2.ensures c.rcode_of-rcode.ensures in
    stopped_section g.W.Sink.takes g.met.W.Sink.nothing g.met.W.Sink.joined m c.args.section (rcode_number c.rcode_of-rcode.result) (position c.args.parser.now) c.count_of-count.result _ _ _ c.write_records.result code count c.in_ok-put_line.ensures.taken c.write_records.ensures.refused
