use Rattle.dnsnames_c.proofs.Dots.{dot_cut}
use Rattle.dnsnames_c.proofs.text.without_final_dot.Goals as goal

pub returns-then-text-gt1 : goal.returns-then-text-gt1
returns-then-text-gt1 c = λ ls h e. dot_cut c.args.text.now ls h e c.if-text-gt1.true
