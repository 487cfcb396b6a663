use Rattle.std.proofs.Common.{arith}
use Rattle.std.proofs.lemmas.Result.{IfErr-weaker}
use Rattle.domain_reading.specs.ParseResult.{FaultWithin}
use Rattle.domain_reading.proofs.uncounted.read_name_with.Goals as goal

pub returns-clause-fault : goal.returns-clause-fault
returns-clause-fault g c =
    IfErr-weaker _ _ (FaultWithin c.args.limit c.args.message.now c.args.progress.now.at) (λ fault f. (f.0, omega (arith, f.1, c.read_name_counted.ensures.few_heads, c.new.ensures))) c.read_name_counted.ensures.fault
