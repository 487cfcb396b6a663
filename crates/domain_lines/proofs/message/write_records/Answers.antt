use Rattle.std.proofs.Common.{arith}
use Rattle.domain_header.specs.Values.{rcode_number}
use Rattle.domain_message.specs.Entries.{RecordAt, NoRecord}
use Rattle.domain_message.specs.RecordModel.{record_fields}
use Rattle.domain_lines.specs.Records.{IsEntryText}
use Rattle.domain_lines.proofs.Showing.{recorded_none, recorded_more, written_all, written_missing}
use Rattle.domain_lines.proofs.message.write_records.Goals as goal

pub loop-record-init : goal.loop-record-init
loop-record-init g c = recorded_none g.W.Sink.takes g.met.W.Sink.nothing g.met.W.Sink.joined (rcode_number c.args.rcode) c.args.section _ _

pub loop-record-preserved : goal.loop-record-preserved
loop-record-preserved g c =
    recorded_more g.W.Sink.takes g.met.W.Sink.nothing g.met.W.Sink.joined (rcode_number c.args.rcode) c.args.section _ _ _ c.loop-record._record _ _ _ (record_fields c.in-Ok.found) c.loop-record.opt_seen c.in_ok-seen.seen c.loop-record.invariant c.in-Ok.ensures.ok c.in-Ok.ensures.moves c.in_ok-seen.ensures.written c.in_ok-seen.ensures.seen

pub returns-in-Err-clause-refused : goal.returns-in-Err-clause-refused
returns-in-Err-clause-refused g c =
    written_missing g.W.Sink.takes g.met.W.Sink.nothing g.met.W.Sink.joined RecordAt NoRecord (IsEntryText (rcode_number c.args.rcode) c.args.section) _ _ c.args.count c.loop-record._record _ _ c.in-Err.e c.loop-record.invariant.written c.loop-record-test.true c.in-Err.ensures.err

pub returns-clause-written : goal.returns-clause-written
returns-clause-written g c = written_all g.W.Sink.takes g.met.W.Sink.nothing g.met.W.Sink.joined RecordAt (IsEntryText (rcode_number c.args.rcode) c.args.section) _ _ c.args.count c.loop-record._record _ _ c.loop-record.invariant.written (omega arith)

pub returns-clause-moves : goal.returns-clause-moves
returns-clause-moves g c = c.loop-record.invariant.written.moves
