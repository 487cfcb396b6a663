use Rattle.std.proofs.Common.{◌≡◌, ℕ, subst, inl, inr, arith}
use Rattle.std.specs.Prelude.{Some, None, Ok, Err}
use Rattle.octseq.specs.contracts.octets.RefSliceU8Octets.TheImpl.{ghosts as octets_of_slice}
use Rattle.octseq.specs.Parsing.{position}
use Rattle.domain_header.specs.Numbers.{number16}
use Rattle.domain_message.specs.Kept.{FirstKept, kept_parser, kept_left}
use Rattle.domain_message.specs.Messages.{message_octets}
use Rattle.domain_message.specs.TsigRecords.{is_tsig}
use Rattle.domain_message.proofs.FindingTsig.{GivesTsig, took_first, tsig_missing}
use Rattle.domain_message.proofs.tsig.tsig_of.Goals as goal

pub returns-in-Err-clause-err : goal.returns-in-Err-clause-err
returns-in-Err-clause-err g c = inl c.in-Err.ensures.err

pub returns-in-Some-Err-clause-err : goal.returns-in-Some-Err-clause-err
returns-in-Some-Err-clause-err g c =
    let m = message_octets {g = g.Octs.Octets} c.args.message.now in
    let begins = c.in-Ok.ensures.ok in
    let e : ℕ = begins.0 in
    let s = c.limit_to-records.result in
    let t = c.next.new.self in
    let first = took_first octets_of_slice (λ a b. b ≡ a) m e c.in-Ok.section s t (Some (Err c.in-Some-Err.e)) begins.2 c.limit_to-records.ensures.message c.limit_to-records.ensures.offset c.limit_to-records.ensures.left c.limit_to-records.ensures.class (subst (λ r. GivesTsig octets_of_slice (λ a b. b ≡ a) s (Some r) t) c.in-Some-Err.field-0-is c.in-Some-Err.ensures.steps) in
    inr (e, begins.1, tsig_missing octets_of_slice (λ a b. b ≡ a) m e (number16 m 10) (position (kept_parser t)) (kept_left t) c.in-Some-Err.e (λ a b same. same) first)

pub returns-in-None-clause-ok : goal.returns-in-None-clause-ok
returns-in-None-clause-ok g c =
    let m = message_octets {g = g.Octs.Octets} c.args.message.now in
    let begins = c.in-Ok.ensures.ok in
    let e : ℕ = begins.0 in
    let s = c.limit_to-records.result in
    let t = c.next.new.self in
    let first = took_first octets_of_slice (λ a b. b ≡ a) m e c.in-Ok.section s t None begins.2 c.limit_to-records.ensures.message c.limit_to-records.ensures.offset c.limit_to-records.ensures.left c.limit_to-records.ensures.class c.in-None.ensures.steps in
    (e, begins.1, first.0)

pub returns-then-left-gt0-clause-err : goal.returns-then-left-gt0-clause-err
returns-then-left-gt0-clause-err g c =
    let m = message_octets {g = g.Octs.Octets} c.args.message.now in
    let begins = c.in-Ok.ensures.ok in
    let e : ℕ = begins.0 in
    let s = c.limit_to-records.result in
    let t = c.next.new.self in
    let first = took_first octets_of_slice (λ a b. b ≡ a) m e c.in-Ok.section s t (Some (Ok c.in-Some-Ok.found)) begins.2 c.limit_to-records.ensures.message c.limit_to-records.ensures.offset c.limit_to-records.ensures.left c.limit_to-records.ensures.class (subst (λ r. GivesTsig octets_of_slice (λ a b. b ≡ a) s (Some r) t) c.in-Some-Ok.field-0-is c.in-Some-Ok.ensures.steps) in
    (first.0, position (kept_parser t), kept_left t, (e, begins.1, first.1), omega (arith, c.if-left-gt0.true, c.left.ensures))

pub returns-clause-ok : goal.returns-clause-ok
returns-clause-ok g c =
    let m = message_octets {g = g.Octs.Octets} c.args.message.now in
    let begins = c.in-Ok.ensures.ok in
    let e : ℕ = begins.0 in
    let s = c.limit_to-records.result in
    let t = c.next.new.self in
    let first = took_first octets_of_slice (λ a b. b ≡ a) m e c.in-Ok.section s t (Some (Ok c.in-Some-Ok.found)) begins.2 c.limit_to-records.ensures.message c.limit_to-records.ensures.offset c.limit_to-records.ensures.left c.limit_to-records.ensures.class (subst (λ r. GivesTsig octets_of_slice (λ a b. b ≡ a) s (Some r) t) c.in-Some-Ok.field-0-is c.in-Some-Ok.ensures.steps) in
    let none : kept_left t ≡ 0 = omega (arith, c.if-left-gt0.false, c.left.ensures) in
    (first.0, position (kept_parser t), (e, begins.1, subst (λ k. FirstKept is_tsig m e (number16 m 10) first.0 (position (kept_parser t)) k) none first.1), first.2)
