use Rattle.std.proofs.Common.{arith}
use Rattle.domain_label.proofs.WireLaws.{absolute_wire}
use Rattle.domain_flat.proofs.Splits.{start_end, end_start, start_before_end}
use Rattle.domain_name.proofs.absolute.Name.is_label_start.Goals as goal

pub is_label_end-requires : goal.is_label_end-requires
is_label_end-requires g c = rw c.as_slice.ensures.octets (absolute_wire c.args.self.now.absolute)

pub returns-then-offset-len : goal.returns-then-offset-len
returns-then-offset-len g c =
    let told = rw c.as_slice.ensures.octets at c.is_label_end.ensures in
    (λ h. end_start _ _ (omega (arith, c.if-offset-len.true, c.len.ensures)) (told.0 h), λ s. told.1 (start_end _ _ s))

pub returns-else-offset-len : goal.returns-else-offset-len
returns-else-offset-len g c = (
  λ h. absurd (grind (arith, h, c.if-offset-len.false)),
  λ s. let before = start_before_end _ _ c.args.self.now.absolute.0 s in absurd (omega (arith, before, c.if-offset-len.false, c.len.ensures)),
)
