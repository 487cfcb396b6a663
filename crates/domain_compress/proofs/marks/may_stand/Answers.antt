use Rattle.std.proofs.Common.{ap, nat_eq, ◌∙◌, ◌+◌, slice_range}
use Rattle.domain_compress.specs.Ends.{label_hash}
use Rattle.domain_compress.proofs.Marking.{broken_stands, root_stands, label_low, label_here, seen_marked}
use Rattle.domain_compress.proofs.marks.may_stand.Goals as goal

pub returns-in_default : goal.returns-in_default
returns-in_default c = λ ls some marked s. absurd (broken_stands _ _ ls _ (rw c.in_default.is at c.head_at.ensures) s)

pub returns-in-Root : goal.returns-in-Root
returns-in-Root c = λ ls some marked s. absurd (root_stands _ _ ls (rw c.in-Root.is at c.in-Ok.ensures) some s)

pub returns-in-Label : goal.returns-in-Label
returns-in-Label c = λ ls some marked s.
    let x = rw c.in-Label.is at c.in-Ok.ensures in
    let hashed = c.hash.ensures ∙ ap (λ n. label_hash (slice_range c.args.octets.now (c.args.offset + 1) (c.args.offset + 1 + n))) c.from.ensures in
    c.is_marked.ensures ∙ ap (λ z. nat_eq z 1) (seen_marked _ _ _ _ ls (label_low _ _ _ x) (label_here _ _ _ _ x hashed) some marked s)
