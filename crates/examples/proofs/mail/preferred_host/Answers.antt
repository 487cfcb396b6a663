use Rattle.std.proofs.Common.{◌≡◌, ◌<◌, ◌≤◌, ◌++◌, ◌∷◌, [], refl, sym, subst, inl, inr, arith}
use Rattle.std.specs.Prelude.{false, Some, None, option_map}
use Rattle.std.proofs.lemmas.Result.{err_from_is_err_and}
use Rattle.domain_header.specs.Numbers.{number16}
use Rattle.domain_message.specs.Kept.{kept_class}
use Rattle.domain_message.specs.Messages.{message_octets}
use Rattle.domain_message.specs.declared.section.Section.TheVariants.{Answer}
use Rattle.examples.specs.MessageHosts.{HaveMail}
use Rattle.examples.proofs.Passing.{IsAt, Passed, begins_at, passed_none}
use Rattle.examples.proofs.Finding.{BestOf, GivesMail, mail_of, mail_found, mail_over, mail_stopped, prefers_host, preferred_name, best_first, best_stays, best_changes}
use Rattle.examples.proofs.mail.preferred_host.Goals as goal

pub returns-in_err-answer-clause-err : goal.returns-in_err-answer-clause-err
returns-in_err-answer-clause-err c =
    let p = err_from_is_err_and c.from_residual.result c.from_residual.ensures.1 in
    rw (p.1, p.2) (inl c.in_err-answer.ensures.err)

pub loop-item-init : goal.loop-item-init
loop-item-init c = (tt, tt, ([], passed_none (λ its. HaveMail its []) c.into_iter-item-iterator.result (subst (λ s. kept_class s ≡ false) (sym c.into_iter-item-iterator.ensures.into_iter_gives) c.limit_to-item-items.ensures.class) refl, refl))

pub returns-in_err-record-clause-err : goal.returns-in_err-record-clause-err
returns-in_err-record-clause-err c =
    let p = err_from_is_err_and c.from_residual-in_err-record.result c.from_residual-in_err-record.ensures.1 in
    let m = message_octets c.args.message.now in
    let start = c.in_ok-answer.ensures.ok.0 in
    let began = begins_at m Answer start c.in_ok-answer.field-0 c.limit_to-item-items.result c.in_ok-answer.ensures.ok.2 c.limit_to-item-items.ensures.message c.limit_to-item-items.ensures.offset c.limit_to-item-items.ensures.left in
    let at = subst (λ s. IsAt m start (number16 m 6) s) (sym c.into_iter-item-iterator.ensures.into_iter_gives) began in
    let so_far = c.loop-item.invariant.2 in
    rw (p.1, p.2) (inr (
      start,
      c.in_ok-answer.ensures.ok.1,
      mail_stopped _ so_far.0 m start (number16 m 6) c.into_iter-item-iterator.result c.loop-item.item-iterator c.next.new.self _ at so_far.1
          (subst (λ r. GivesMail _ c.loop-item.item-iterator (Some r) c.next.new.self) c.in_err-record.was c.in-Some.ensures.steps),
    ))

pub returns-in-Some-preferred-2-clause-ok : goal.returns-in-Some-preferred-2-clause-ok
returns-in-Some-preferred-2-clause-ok c =
    let m = message_octets c.args.message.now in
    let start = c.in_ok-answer.ensures.ok.0 in
    let began = begins_at m Answer start c.in_ok-answer.field-0 c.limit_to-item-items.result c.in_ok-answer.ensures.ok.2 c.limit_to-item-items.ensures.message c.limit_to-item-items.ensures.offset c.limit_to-item-items.ensures.left in
    let at = subst (λ s. IsAt m start (number16 m 6) s) (sym c.into_iter-item-iterator.ensures.into_iter_gives) began in
    let so_far = c.loop-item.invariant.2 in
    let all = mail_over _ so_far.0 c.into_iter-item-iterator.result c.loop-item.item-iterator c.next.new.self so_far.1 c.in-None.ensures.steps in
    let best = subst (λ o. BestOf so_far.0 (option_map mail_of o)) c.in-Some-preferred-2.is so_far.2 in
    rw c.exchange.ensures (prefers_host m start c.into_iter-item-iterator.result so_far.0 _ c.in_ok-answer.ensures.ok.1 at all (preferred_name so_far.0 (Some (mail_of c.in-Some-preferred-2.best)) best))

pub returns-in-None-preferred-2-clause-ok : goal.returns-in-None-preferred-2-clause-ok
returns-in-None-preferred-2-clause-ok c =
    let m = message_octets c.args.message.now in
    let start = c.in_ok-answer.ensures.ok.0 in
    let began = begins_at m Answer start c.in_ok-answer.field-0 c.limit_to-item-items.result c.in_ok-answer.ensures.ok.2 c.limit_to-item-items.ensures.message c.limit_to-item-items.ensures.offset c.limit_to-item-items.ensures.left in
    let at = subst (λ s. IsAt m start (number16 m 6) s) (sym c.into_iter-item-iterator.ensures.into_iter_gives) began in
    let so_far = c.loop-item.invariant.2 in
    let all = mail_over _ so_far.0 c.into_iter-item-iterator.result c.loop-item.item-iterator c.next.new.self so_far.1 c.in-None.ensures.steps in
    let best = subst (λ o. BestOf so_far.0 (option_map mail_of o)) c.in-None-preferred-2.is so_far.2 in
    prefers_host m start c.into_iter-item-iterator.result so_far.0 None c.in_ok-answer.ensures.ok.1 at all best

pub loop-item-preserved-then-preference : goal.loop-item-preserved-then-preference
loop-item-preserved-then-preference c =
    let so_far = c.loop-item.invariant.2 in
    let found = mail_found _ so_far.0 c.into_iter-item-iterator.result c.loop-item.item-iterator c.next.new.self c.in_ok-record.record so_far.1 (subst (λ r. GivesMail _ c.loop-item.item-iterator (Some r) c.next.new.self) c.in_ok-record.was c.in-Some.ensures.steps) in
    let passed = subst (λ d. Passed (λ its. HaveMail its (so_far.0 ++ (mail_of d ∷ []))) c.into_iter-item-iterator.result c.next.new.self) (sym c.data.ensures) found in
    let was = subst (λ o. BestOf so_far.0 (option_map mail_of o)) c.in-Some-preferred.is so_far.2 in
    let lower : (mail_of c.data.result.now).0 < (mail_of c.in-Some-preferred.best).0 = omega (arith, c.if-preference.true, c.preference.ensures, c.preference-in-Some-preferred.ensures) in
    (tt, tt, (so_far.0 ++ (mail_of c.data.result.now ∷ []), passed, best_changes so_far.0 (mail_of c.in-Some-preferred.best) (mail_of c.data.result.now) was lower))

pub loop-item-preserved-else-preference : goal.loop-item-preserved-else-preference
loop-item-preserved-else-preference c =
    let so_far = c.loop-item.invariant.2 in
    let found = mail_found _ so_far.0 c.into_iter-item-iterator.result c.loop-item.item-iterator c.next.new.self c.in_ok-record.record so_far.1 (subst (λ r. GivesMail _ c.loop-item.item-iterator (Some r) c.next.new.self) c.in_ok-record.was c.in-Some.ensures.steps) in
    let passed = subst (λ d. Passed (λ its. HaveMail its (so_far.0 ++ (mail_of d ∷ []))) c.into_iter-item-iterator.result c.next.new.self) (sym c.data.ensures) found in
    let was = subst (λ o. BestOf so_far.0 (option_map mail_of o)) c.in-Some-preferred.is so_far.2 in
    let no_lower : (mail_of c.in-Some-preferred.best).0 ≤ (mail_of c.data.result.now).0 = omega (arith, c.if-preference.false, c.preference.ensures, c.preference-in-Some-preferred.ensures) in
    (tt, tt, (so_far.0 ++ (mail_of c.data.result.now ∷ []), passed, subst (λ o. BestOf (so_far.0 ++ (mail_of c.data.result.now ∷ [])) (option_map mail_of o)) (sym c.in-Some-preferred.is) (best_stays so_far.0 (mail_of c.in-Some-preferred.best) (mail_of c.data.result.now) was no_lower)))

pub loop-item-preserved : goal.loop-item-preserved
loop-item-preserved c =
    let so_far = c.loop-item.invariant.2 in
    let found = mail_found _ so_far.0 c.into_iter-item-iterator.result c.loop-item.item-iterator c.next.new.self c.in_ok-record.record so_far.1 (subst (λ r. GivesMail _ c.loop-item.item-iterator (Some r) c.next.new.self) c.in_ok-record.was c.in-Some.ensures.steps) in
    let passed = subst (λ d. Passed (λ its. HaveMail its (so_far.0 ++ (mail_of d ∷ []))) c.into_iter-item-iterator.result c.next.new.self) (sym c.data.ensures) found in
    let none = subst (λ o. BestOf so_far.0 (option_map mail_of o)) c.in-None-preferred.is so_far.2 in
    (tt, tt, (so_far.0 ++ (mail_of c.data.result.now ∷ []), passed, best_first so_far.0 (mail_of c.data.result.now) none))
