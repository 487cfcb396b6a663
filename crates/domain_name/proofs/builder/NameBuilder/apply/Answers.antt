use Rattle.std.proofs.Common.{sym, subst}
use Rattle.domain_builder.specs.Inside.{room}
use Rattle.domain_name.specs.Builders.{built, held}
use Rattle.domain_name.specs.Calls.{TakesCall, PassesOver}
use Rattle.domain_builder.specs.NameSymbols.{name_symbols}
use Rattle.domain_name.specs.declared.calls.BuilderCall.{BuilderCall}
use Rattle.domain_name.proofs.Calling.{refused_text}
use Rattle.domain_name.proofs.builder.NameBuilder.apply.Goals as goal

pub returns-in-Ok-append_str : goal.returns-in-Ok-append_str
returns-in-Ok-append_str g c = subst (λ (z : BuilderCall). TakesCall (held c.args.self.now) z (held c.append_str.new.self)) (sym c.in-AppendChars.is) (c.in-Ok-append_str.ensures.takes, c.append_str.ensures.grows)

pub returns-in-Err-append_str : goal.returns-in-Err-append_str
returns-in-Err-append_str g c = subst (λ (z : BuilderCall). PassesOver g.B.Octets.limit (held c.args.self.now) z (held c.append_str.new.self)) (sym c.in-AppendChars.is) (λ items r. refused_text (room g.B.Octets.limit (held c.append_str.new.self)) (built c.args.self.now) (built c.append_str.new.self) (name_symbols items) c.in-Err-append_str.field-0 (c.in-Err-append_str.ensures.takes items r), c.append_str.ensures.grows)
