use Rattle.std.proofs.Common.{arith, refl}
use Rattle.domain_parsed.specs.ParsedNames.{parsed_labels}
use Rattle.domain_message.proofs.Aliases.{followed_none, followed_more, followed_end, followed_on}
use Rattle.domain_message.proofs.alias.end_of_chain.Goals as goal

pub loop-look-init : goal.loop-look-init
loop-look-init g c = (followed_none c.args.answers (parsed_labels c.args.from), omega arith)

pub loop-look-preserved : goal.loop-look-preserved
loop-look-preserved g c = (
  followed_more c.args.answers c.loop-look._look (parsed_labels c.args.from) (parsed_labels c.loop-look.name) (parsed_labels c.in-Some.target) c.loop-look.invariant.0 c.in-Some.ensures.some,
  omega (arith, c.loop-look.invariant.1, c.first_alias.ensures.one_pass),
)

pub returns-in-None-clause-some : goal.returns-in-None-clause-some
returns-in-None-clause-some g c = followed_end c.args.answers c.loop-look._look c.args.looks (parsed_labels c.args.from) (parsed_labels c.loop-look.name) c.loop-look.invariant.0 c.loop-look-test.true (c.in-None.ensures.none refl)

pub returns-clause-none : goal.returns-clause-none
returns-clause-none g c = λ _. followed_on c.args.answers c.loop-look._look c.args.looks (parsed_labels c.args.from) (parsed_labels c.loop-look.name) c.loop-look.invariant.0 (omega (arith, c.loop-look-test.false, c.loop-look.auto._look-end))
