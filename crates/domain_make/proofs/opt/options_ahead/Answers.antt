use Rattle.std.proofs.Common.{arith, subst}
use Rattle.domain_make.specs.Opts.{AddsLine}
use Rattle.domain_make.proofs.Opting.{options_none, options_more, options_last, options_end, fewer}
use Rattle.domain_make.proofs.opt.options_ahead.Goals as goal

pub loop-rest-init : goal.loop-rest-init
loop-rest-init c = options_none _ _ c.new-options.ensures.items

pub loop-rest-preserved : goal.loop-rest-preserved
loop-rest-preserved c =
    options_more _ _ _ _ _ _ _ (omega arith) c.first_line.ensures c.trimmed.ensures (subst (λ k. AddsLine c.trimmed.result.now c.loop-rest.options.items c.push_line.new.options.items k) c.in-Whole.is c.in_ok-push_line.ensures.ok) c.loop-rest.invariant

pub loop-rest-smaller : goal.loop-rest-smaller
loop-rest-smaller c = fewer _ _ _ (omega arith) c.first_line.ensures

pub returns-in-Cut : goal.returns-in-Cut
returns-in-Cut c = record {
  ok = options_last _ _ _ _ _ _ _ _ c.in-Cut.is (omega arith) c.first_line.ensures c.trimmed.ensures c.in_ok-push_line.ensures.ok c.loop-rest.invariant;
  err = tt;
}

pub returns-clause-ok : goal.returns-clause-ok
returns-clause-ok c = options_end _ _ _ (omega arith) c.loop-rest.invariant
