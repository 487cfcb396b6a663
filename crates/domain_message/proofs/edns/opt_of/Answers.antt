use Rattle.std.proofs.Common.{◌≡◌, ◌∙◌, ℕ, refl, subst, inl, inr, rules}
use Rattle.std.specs.Prelude.{Some, None, Ok, Err}
use Rattle.octseq.specs.contracts.octets.RefSliceU8Octets.TheImpl.{ghosts as octets_of_slice}
use Rattle.octseq.specs.Parsing.{position}
use Rattle.domain_header.specs.Numbers.{number16}
use Rattle.domain_label.specs.Wire.{Root}
use Rattle.domain_parsed.specs.ParsedNames.{parsed_labels}
use Rattle.domain_message.specs.Kept.{kept_parser, kept_left}
use Rattle.domain_message.specs.Messages.{message_octets}
use Rattle.domain_message.proofs.FindingOpt.{GivesOpt, took, over_next, begins_over, all_left, opt_missing, owner_is_root, owner_is_other, says_opt}
use Rattle.domain_message.proofs.edns.opt_of.Goals as goal

pub returns-in-Err-clause-err : goal.returns-in-Err-clause-err
returns-in-Err-clause-err g c = inl c.in-Err.ensures.err

pub returns-in-Some-Err-clause-err : goal.returns-in-Some-Err-clause-err
returns-in-Some-Err-clause-err g c =
    let m = message_octets {g = g.Octs.Octets} c.args.message.now in
    let begins = c.in-Ok.ensures.ok in
    let e : ℕ = begins.0 in
    let s = c.limit_to-records.result in
    let over = begins_over m e c.in-Ok.section s begins.2 c.limit_to-records.ensures.message c.limit_to-records.ensures.class in
    let left = all_left m e c.in-Ok.section (kept_left s) begins.2 c.limit_to-records.ensures.left in
    let t = c.next.new.self in
    let first = took octets_of_slice (λ a b. b ≡ a) m s t (Some (Err c.in-Some-Err.e)) e (number16 m 10) over (c.limit_to-records.ensures.offset ∙ begins.2.offset) left (subst (λ r. GivesOpt octets_of_slice (λ a b. b ≡ a) s (Some r) t) c.in-Some-Err.field-0-is c.in-Some-Err.ensures.steps) in
    inr (inl (e, begins.1, opt_missing octets_of_slice (λ a b. b ≡ a) m e (number16 m 10) (position (kept_parser t)) (kept_left t) c.in-Some-Err.e (λ a b same. same) first))

pub returns-in-None-clause-ok : goal.returns-in-None-clause-ok
returns-in-None-clause-ok g c =
    let m = message_octets {g = g.Octs.Octets} c.args.message.now in
    let begins = c.in-Ok.ensures.ok in
    let e : ℕ = begins.0 in
    let s = c.limit_to-records.result in
    let over = begins_over m e c.in-Ok.section s begins.2 c.limit_to-records.ensures.message c.limit_to-records.ensures.class in
    let left = all_left m e c.in-Ok.section (kept_left s) begins.2 c.limit_to-records.ensures.left in
    let t = c.next.new.self in
    let first = took octets_of_slice (λ a b. b ≡ a) m s t None e (number16 m 10) over (c.limit_to-records.ensures.offset ∙ begins.2.offset) left c.in-None.ensures.steps in
    (e, begins.1, first.0)

pub returns-clause-err : goal.returns-clause-err
returns-clause-err g c =
    let m = message_octets {g = g.Octs.Octets} c.args.message.now in
    let begins = c.in-Ok.ensures.ok in
    let e : ℕ = begins.0 in
    let s = c.limit_to-records.result in
    let over = begins_over m e c.in-Ok.section s begins.2 c.limit_to-records.ensures.message c.limit_to-records.ensures.class in
    let left = all_left m e c.in-Ok.section (kept_left s) begins.2 c.limit_to-records.ensures.left in
    let t = c.next.new.self in
    let first = took octets_of_slice (λ a b. b ≡ a) m s t (Some (Ok c.in-Some-Ok.first)) e (number16 m 10) over (c.limit_to-records.ensures.offset ∙ begins.2.offset) left (subst (λ r. GivesOpt octets_of_slice (λ a b. b ≡ a) s (Some r) t) c.in-Some-Ok.field-0-is c.in-Some-Ok.ensures.steps) in
    let after = over_next octets_of_slice (λ a b. b ≡ a) m s t (Some (Ok c.in-Some-Ok.first)) over (subst (λ r. GivesOpt octets_of_slice (λ a b. b ≡ a) s (Some r) t) c.in-Some-Ok.field-0-is c.in-Some-Ok.ensures.steps) in
    let u = c.next-2.new.self in
    let second = took octets_of_slice (λ a b. b ≡ a) m t u (Some (Ok c.in_default-second.field-0)) (position (kept_parser t)) (kept_left t) after refl refl (subst (λ r. GivesOpt octets_of_slice (λ a b. b ≡ a) t (Some r) u) c.in_default-second.is c.in-Some.ensures.steps) in
    let is_root : parsed_labels c.owner.result.now ≡ Root = search rules in
    let root = owner_is_root first.0 c.in-Some-Ok.first c.owner.result.now first.2 c.owner.ensures is_root in
    (first.0, second.0, position (kept_parser t), kept_left t, position (kept_parser u), kept_left u, ((e, begins.1, first.1), root), second.1)

pub returns-in-Err-second-clause-err : goal.returns-in-Err-second-clause-err
returns-in-Err-second-clause-err g c =
    let m = message_octets {g = g.Octs.Octets} c.args.message.now in
    let begins = c.in-Ok.ensures.ok in
    let e : ℕ = begins.0 in
    let s = c.limit_to-records.result in
    let over = begins_over m e c.in-Ok.section s begins.2 c.limit_to-records.ensures.message c.limit_to-records.ensures.class in
    let left = all_left m e c.in-Ok.section (kept_left s) begins.2 c.limit_to-records.ensures.left in
    let t = c.next.new.self in
    let first = took octets_of_slice (λ a b. b ≡ a) m s t (Some (Ok c.in-Some-Ok.first)) e (number16 m 10) over (c.limit_to-records.ensures.offset ∙ begins.2.offset) left (subst (λ r. GivesOpt octets_of_slice (λ a b. b ≡ a) s (Some r) t) c.in-Some-Ok.field-0-is c.in-Some-Ok.ensures.steps) in
    let after = over_next octets_of_slice (λ a b. b ≡ a) m s t (Some (Ok c.in-Some-Ok.first)) over (subst (λ r. GivesOpt octets_of_slice (λ a b. b ≡ a) s (Some r) t) c.in-Some-Ok.field-0-is c.in-Some-Ok.ensures.steps) in
    let u = c.next-2.new.self in
    let second = took octets_of_slice (λ a b. b ≡ a) m t u (Some (Err c.in-Err-second.e)) (position (kept_parser t)) (kept_left t) after refl refl (subst (λ r. GivesOpt octets_of_slice (λ a b. b ≡ a) t (Some r) u) c.in-Err-second.is c.in-Some.ensures.steps) in
    let is_root : parsed_labels c.owner.result.now ≡ Root = search rules in
    let root = owner_is_root first.0 c.in-Some-Ok.first c.owner.result.now first.2 c.owner.ensures is_root in
    inr (inr (first.0, position (kept_parser t), kept_left t, ((e, begins.1, first.1), root), opt_missing octets_of_slice (λ a b. b ≡ a) m (position (kept_parser t)) (kept_left t) (position (kept_parser u)) (kept_left u) c.in-Err-second.e (λ a b same. same) second))

pub returns-in_default-clause-ok : goal.returns-in_default-clause-ok
returns-in_default-clause-ok g c =
    let m = message_octets {g = g.Octs.Octets} c.args.message.now in
    let begins = c.in-Ok.ensures.ok in
    let e : ℕ = begins.0 in
    let s = c.limit_to-records.result in
    let over = begins_over m e c.in-Ok.section s begins.2 c.limit_to-records.ensures.message c.limit_to-records.ensures.class in
    let left = all_left m e c.in-Ok.section (kept_left s) begins.2 c.limit_to-records.ensures.left in
    let t = c.next.new.self in
    let first = took octets_of_slice (λ a b. b ≡ a) m s t (Some (Ok c.in-Some-Ok.first)) e (number16 m 10) over (c.limit_to-records.ensures.offset ∙ begins.2.offset) left (subst (λ r. GivesOpt octets_of_slice (λ a b. b ≡ a) s (Some r) t) c.in-Some-Ok.field-0-is c.in-Some-Ok.ensures.steps) in
    let after = over_next octets_of_slice (λ a b. b ≡ a) m s t (Some (Ok c.in-Some-Ok.first)) over (subst (λ r. GivesOpt octets_of_slice (λ a b. b ≡ a) s (Some r) t) c.in-Some-Ok.field-0-is c.in-Some-Ok.ensures.steps) in
    let u = c.next-2.new.self in
    let second = took octets_of_slice (λ a b. b ≡ a) m t u None (position (kept_parser t)) (kept_left t) after refl refl c.in_default.ensures.steps in
    let is_root : parsed_labels c.owner.result.now ≡ Root = search rules in
    let root = owner_is_root first.0 c.in-Some-Ok.first c.owner.result.now first.2 c.owner.ensures is_root in
    (first.0, position (kept_parser t), kept_left t, (e, begins.1, first.1), second.0, says_opt first.0 c.in-Some-Ok.first c.from_record.result root first.2 c.from_record.ensures.class c.from_record.ensures.ttl c.from_record.ensures.rdata)

pub returns-then-not-is_root-clause-err : goal.returns-then-not-is_root-clause-err
returns-then-not-is_root-clause-err g c =
    let m = message_octets {g = g.Octs.Octets} c.args.message.now in
    let begins = c.in-Ok.ensures.ok in
    let e : ℕ = begins.0 in
    let s = c.limit_to-records.result in
    let over = begins_over m e c.in-Ok.section s begins.2 c.limit_to-records.ensures.message c.limit_to-records.ensures.class in
    let left = all_left m e c.in-Ok.section (kept_left s) begins.2 c.limit_to-records.ensures.left in
    let t = c.next.new.self in
    let first = took octets_of_slice (λ a b. b ≡ a) m s t (Some (Ok c.in-Some-Ok.first)) e (number16 m 10) over (c.limit_to-records.ensures.offset ∙ begins.2.offset) left (subst (λ r. GivesOpt octets_of_slice (λ a b. b ≡ a) s (Some r) t) c.in-Some-Ok.field-0-is c.in-Some-Ok.ensures.steps) in
    let is_other : parsed_labels c.owner.result.now ≡ Root → ⊥ = search rules in
    (first.0, position (kept_parser t), kept_left t, (e, begins.1, first.1), owner_is_other first.0 c.in-Some-Ok.first c.owner.result.now first.2 c.owner.ensures is_other)
