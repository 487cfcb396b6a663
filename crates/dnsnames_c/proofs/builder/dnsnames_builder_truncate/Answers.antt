use Rattle.std.proofs.Common.{◌+◌, inl, refl, arith}
use Rattle.domain_buffer.proofs.Building.{cuts, tc_added, tc_kept}
use Rattle.dnsnames_c.proofs.builder.dnsnames_builder_truncate.Goals as goal

pub returns-then-builder-eq0 : goal.returns-then-builder-eq0
returns-then-builder-eq0 c =
    let b = c.args.builder.now in
    let usable = c.if-not-is_usable.ensures.0 refl in
    let done = cuts c.args.octets.now b (b.flags + 512) usable (tc_added b.flags c.if-builder-eq0.true) (omega arith) in
    inl (refl, usable, done.0, done.1)

pub returns-else-builder-eq0 : goal.returns-else-builder-eq0
returns-else-builder-eq0 c =
    let b = c.args.builder.now in
    let usable = c.if-not-is_usable.ensures.0 refl in
    let done = cuts c.args.octets.now b b.flags usable (tc_kept b.flags c.if-builder-eq0.false) refl in
    inl (refl, usable, done.0, done.1)
