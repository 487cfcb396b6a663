use Rattle.std.proofs.Common.{subst}
use Rattle.dnsnames_c.specs.Answers.{Gives}
use Rattle.dnsnames_c.proofs.data.give_name.Goals as goal

pub returns : goal.returns
returns c =
    let name = c.in-Ok.ensures.name in
    (name.0, name.1, subst (λ s. Gives s c.give.result c.args.buffer.now c.give.new.buffer c.give.new.length) name.3 c.give.ensures)
