use Rattle.std.proofs.Common.{arith, refl}
use Rattle.std.proofs.lemmas.Bool.{false≢true}
use Rattle.domain_make.specs.Steps.Reaches.{begins, further}
use Rattle.domain_make.specs.Words.SymbolStep.{escaped, unescaped_dot, other}
use Rattle.domain_make.proofs.Scanning.{dotted, no_dot}
use Rattle.domain_make.proofs.parts.ends_in_dot.Goals as goal

pub loop-at-init : goal.loop-at-init
loop-at-init c = record { to = begins; inside = omega arith }

pub loop-at-preserved-then-octet-eq92 : goal.loop-at-preserved-then-octet-eq92
loop-at-preserved-then-octet-eq92 c = record { to = further c.loop-at.invariant.to (escaped c.if-octet-eq92.true (omega arith) refl); inside = omega arith }

pub loop-at-preserved-then-octet-eq46 : goal.loop-at-preserved-then-octet-eq46
loop-at-preserved-then-octet-eq46 c = record { to = further c.loop-at.invariant.to (unescaped_dot c.if-octet-eq46.true refl); inside = omega arith }

pub loop-at-preserved : goal.loop-at-preserved
loop-at-preserved c = record { to = further c.loop-at.invariant.to (other c.loop-at-test.true c.if-octet-eq92.false c.if-octet-eq46.false refl); inside = omega arith }

pub returns-then-text-at-lt2 : goal.returns-then-text-at-lt2
returns-then-text-at-lt2 c = (λ is. absurd (false≢true is), λ ends. absurd (no_dot _ _ _ c.loop-at.invariant.to c.if-octet-eq92.true (omega arith) ends))

pub returns : goal.returns
returns c = dotted c.args.text.now c.loop-at.dot c.loop-at.at (omega arith) c.loop-at.invariant.to
