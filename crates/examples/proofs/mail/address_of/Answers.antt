use Rattle.std.proofs.Common.{◌≡◌, sym, subst, inl, inr}
use Rattle.std.specs.Prelude.{Some}
use Rattle.std.proofs.lemmas.Result.{err_from_is_err_and}
use Rattle.domain_label.specs.Lowercase.{lowercase_labels}
use Rattle.domain_parsed.specs.ParsedNames.{parsed_labels}
use Rattle.domain_header.specs.Numbers.{number16}
use Rattle.domain_message.specs.Messages.{message_octets}
use Rattle.domain_message.specs.declared.section.Section.TheVariants.{Additional}
use Rattle.examples.proofs.Passing.{IsAt, begins_at}
use Rattle.examples.proofs.Finding.{GivesAddress, address_found, address_over, address_stopped, first_address, no_address, passed_other}
use Rattle.examples.proofs.mail.address_of.Goals as goal

pub returns-in_err-additional-clause-err : goal.returns-in_err-additional-clause-err
returns-in_err-additional-clause-err c =
    let p = err_from_is_err_and c.from_residual.result c.from_residual.ensures.1 in
    rw (p.1, p.2) (inl c.in_err-additional.ensures.err)

pub returns-in_err-record-clause-err : goal.returns-in_err-record-clause-err
returns-in_err-record-clause-err c =
    let p = err_from_is_err_and c.from_residual-in_err-record.result c.from_residual-in_err-record.ensures.1 in
    let m = message_octets c.args.message.now in
    let start = c.in_ok-additional.ensures.ok.0 in
    let began = begins_at m Additional start c.in_ok-additional.field-0 c.limit_to-item-items.result c.in_ok-additional.ensures.ok.2 c.limit_to-item-items.ensures.message c.limit_to-item-items.ensures.offset c.limit_to-item-items.ensures.left in
    let at = subst (λ s. IsAt m start (number16 m 10) s) (sym c.into_iter-item-iterator.ensures.into_iter_gives) began in
    rw (p.1, p.2) (inr (
      start,
      c.in_ok-additional.ensures.ok.1,
      address_stopped c.args.host.now (parsed_labels c.args.host.now) m start (number16 m 10) c.into_iter-item-iterator.result c.loop-item.item-iterator c.next.new.self _ at c.loop-item.invariant.2
          (subst (λ r. GivesAddress c.loop-item.item-iterator (Some r) c.next.new.self) c.in_err-record.was c.in-Some.ensures.steps),
    ))

pub returns-then-name_eq-clause-ok : goal.returns-then-name_eq-clause-ok
returns-then-name_eq-clause-ok c =
    let m = message_octets c.args.message.now in
    let start = c.in_ok-additional.ensures.ok.0 in
    let began = begins_at m Additional start c.in_ok-additional.field-0 c.limit_to-item-items.result c.in_ok-additional.ensures.ok.2 c.limit_to-item-items.ensures.message c.limit_to-item-items.ensures.offset c.limit_to-item-items.ensures.left in
    let at = subst (λ s. IsAt m start (number16 m 10) s) (sym c.into_iter-item-iterator.ensures.into_iter_gives) began in
    let found = address_found _ (parsed_labels c.args.host.now) c.into_iter-item-iterator.result c.loop-item.item-iterator c.next.new.self c.in_ok-record.record c.loop-item.invariant.2
    (subst (λ r. GivesAddress c.loop-item.item-iterator (Some r) c.next.new.self) c.in_ok-record.was c.in-Some.ensures.steps) in
    let owner = subst (λ o. lowercase_labels (parsed_labels o) ≡ lowercase_labels (parsed_labels c.args.host.now)) c.owner.ensures (c.name_eq.ensures.0 c.if-name_eq.true) in
    rw (c.addr.ensures, c.data.ensures) (start, c.in_ok-additional.ensures.ok.1, first_address _ m start (number16 m 10) c.into_iter-item-iterator.result c.next.new.self (parsed_labels c.args.host.now) c.in_ok-record.record at found owner)

pub loop-item-preserved : goal.loop-item-preserved
loop-item-preserved c =
    let found = address_found _ (parsed_labels c.args.host.now) c.into_iter-item-iterator.result c.loop-item.item-iterator c.next.new.self c.in_ok-record.record c.loop-item.invariant.2
    (subst (λ r. GivesAddress c.loop-item.item-iterator (Some r) c.next.new.self) c.in_ok-record.was c.in-Some.ensures.steps) in (
      tt,
      tt,
      passed_other _ c.into_iter-item-iterator.result c.next.new.self (parsed_labels c.args.host.now) c.in_ok-record.record found
          (λ same.
          let yes = c.name_eq.ensures.1 (subst (λ o. lowercase_labels (parsed_labels o) ≡ lowercase_labels (parsed_labels c.args.host.now)) (sym c.owner.ensures) same) in
          cc (yes, c.if-name_eq.false)),
    )

pub returns-clause-ok : goal.returns-clause-ok
returns-clause-ok c =
    let m = message_octets c.args.message.now in
    let start = c.in_ok-additional.ensures.ok.0 in
    let began = begins_at m Additional start c.in_ok-additional.field-0 c.limit_to-item-items.result c.in_ok-additional.ensures.ok.2 c.limit_to-item-items.ensures.message c.limit_to-item-items.ensures.offset c.limit_to-item-items.ensures.left in
    let at = subst (λ s. IsAt m start (number16 m 10) s) (sym c.into_iter-item-iterator.ensures.into_iter_gives) began in (
      start,
      c.in_ok-additional.ensures.ok.1,
      no_address m start (number16 m 10) c.into_iter-item-iterator.result (parsed_labels c.args.host.now) at
          (address_over c.args.host.now (parsed_labels c.args.host.now) c.into_iter-item-iterator.result c.loop-item.item-iterator c.next.new.self c.loop-item.invariant.2 c.in-None.ensures.steps),
    )
