use Rattle.std.proofs.Common.{◌≡◌, arith, ap, length, sym, ◌∙◌}
use Rattle.std.specs.Prelude.{Ok}
use Rattle.domain_message.specs.Entries.{RecordAt, NoRecord}
use Rattle.domain_message.specs.ParserFacts.{same_message}
use Rattle.domain_message.proofs.Sections.{skipped_none, skipped_more, misses, begins}
use Rattle.domain_message.proofs.section.RecordSection.next_section.Goals as goal

pub loop-record-init : goal.loop-record-init
loop-record-init c = skipped_none _ _

pub loop-record-preserved : goal.loop-record-preserved
loop-record-preserved c = skipped_more _ _ _ _ _ _ c.loop-record.invariant c.in_default-parse.ensures.ok c.in_default-parse.ensures.moves

pub returns-in-Err-parse-clause-err : goal.returns-in-Err-parse-clause-err
returns-in-Err-parse-clause-err c = misses RecordAt NoRecord _ _ _ _ _ _ c.in-Ok.is c.loop-record.invariant c.loop-record-test.true c.in-Err-parse.ensures.err

pub at-requires : goal.at-requires
at-requires c = let same = ap length (same_message _ _ _ c.loop-record.invariant.moves) in omega (arith, c.args.self.header, same)

pub returns-clause-ok : goal.returns-clause-ok
returns-clause-ok c =
    let all : c.in-Ok.count ≡ c.loop-record._record = omega (arith, c.loop-record-test.false, c.loop-record.auto._record-end) in
    (c.in-Some.section, sym c.next_section.ensures ∙ c.in-Some.is, begins _ _ _ _ _ _ _ (c.in-Ok.is ∙ ap (λ n. Ok n) all) c.loop-record.invariant c.at.ensures)
