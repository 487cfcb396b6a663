use Rattle.std.proofs.Common.{length, ◌-◌, refl, arith}
use Rattle.domain_lines.proofs.Laying.{laid_cut}
use Rattle.domain_lines.proofs.room.put_fitting.Goals as goal

pub returns-else-octets-room : goal.returns-else-octets-room
returns-else-octets-room c = λ old before at is.
    laid_cut old before c.args.octets.now c.args.buffer.now c.put_at-else-octets-room.new.buffer c.args.offset (length c.args.buffer.now - c.args.offset) at is (omega (arith, c.if-buffer-offset.false)) refl (omega (arith, c.if-octets-room.false)) c.put_at-else-octets-room.ensures
