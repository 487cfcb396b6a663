use Rattle.std.proofs.Common.{refl, subst}
use Rattle.std.specs.Prelude.{Some, None}
use Rattle.domain_parsed.specs.ParsedNames.{parsed_labels}
use Rattle.domain_message.specs.AliasParts.{GivesAlias}
use Rattle.domain_message.specs.Sections.{GivesRecord}
use Rattle.domain_message.proofs.Aliases.{looked_more, found_here, nothing_left, one_missing}
use Rattle.domain_message.proofs.alias.first_alias.Goals as goal

pub returns-in_default-clause-none : goal.returns-in_default-clause-none
returns-in_default-clause-none g c = λ _. subst (λ r. GivesAlias r (parsed_labels c.args.name.now) None) c.into_iter-item-iterator.ensures.into_iter_gives (one_missing (parsed_labels c.args.name.now) c.into_iter-item-iterator.result c.loop-item.item-iterator c.next.new.self _ c.loop-item.invariant.2 (subst (λ r. GivesRecord c.loop-item.item-iterator (Some r) c.next.new.self) c.in_default.is c.in-Some.ensures.steps))

pub returns-in-Some-alias_of-clause-some : goal.returns-in-Some-alias_of-clause-some
returns-in-Some-alias_of-clause-some g c = subst (λ r. GivesAlias r (parsed_labels c.args.name.now) (Some (parsed_labels c.in-Some-alias_of.target))) c.into_iter-item-iterator.ensures.into_iter_gives (found_here (parsed_labels c.args.name.now) (parsed_labels c.in-Some-alias_of.target) c.into_iter-item-iterator.result c.loop-item.item-iterator c.next.new.self c.in-Ok.found c.loop-item.invariant.2 (subst (λ r. GivesRecord c.loop-item.item-iterator (Some r) c.next.new.self) c.in-Ok.is c.in-Some.ensures.steps) c.in-Some-alias_of.ensures.some)

pub loop-item-preserved : goal.loop-item-preserved
loop-item-preserved g c = (
  tt,
  tt,
  looked_more (parsed_labels c.args.name.now) c.into_iter-item-iterator.result c.loop-item.item-iterator c.next.new.self c.in-Ok.found c.loop-item.invariant.2
      (subst (λ r. GivesRecord c.loop-item.item-iterator (Some r) c.next.new.self) c.in-Ok.is c.in-Some.ensures.steps)
      (c.in-None-alias_of.ensures.none refl),
)

pub returns-clause-none : goal.returns-clause-none
returns-clause-none g c = λ _. subst (λ r. GivesAlias r (parsed_labels c.args.name.now) None) c.into_iter-item-iterator.ensures.into_iter_gives (nothing_left (parsed_labels c.args.name.now) c.into_iter-item-iterator.result c.loop-item.item-iterator c.next.new.self c.loop-item.invariant.2 c.in-None.ensures.steps)
