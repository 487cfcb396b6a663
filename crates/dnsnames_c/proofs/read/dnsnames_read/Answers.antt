use Rattle.std.proofs.Common.{inl, subst}
use Rattle.dnsnames_c.specs.Answers.{Gives}
use Rattle.dnsnames_c.proofs.CompressedFlag.{compressed_number}
use Rattle.dnsnames_c.proofs.read.dnsnames_read.Goals as goal

pub returns : goal.returns
returns c =
    let name = c.in-Ok.ensures.name in
    let flag = c.in-Ok.ensures.compressed in
    inl (name.0, name.1, name.2, compressed_number c.args.message.now c.args.offset c.in-Ok.found.compressed c.number_of_bit.result c.number_of_bit.ensures flag.0 flag.1, subst (λ s. Gives s c.give.result c.args.buffer.now c.give.new.buffer c.give.new.length) name.3 c.give.ensures)
