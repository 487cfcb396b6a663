use Rattle.std.proofs.Common.{inl, refl}
use Rattle.domain_buffer.specs.Builders.{header_of, counts_of}
use Rattle.domain_buffer.proofs.Building.{header_put, finishes}
use Rattle.dnsnames_c.proofs.builder.dnsnames_builder_finish.Goals as goal

pub returns : goal.returns
returns c =
    let b = c.args.builder.now in
    let o = c.args.octets.now in
    let made = c.put_at.new.buffer in
    let fits = c.header_octets_of.ensures in
    let usable = c.if-not-is_usable.ensures.0 refl in
    let written = header_put c.header_octets_of.result o made (header_of b) (counts_of b) fits.octets c.put_at.ensures in
    inl (refl, usable, refl, written, λ it holds. finishes o b made it usable fits.id fits.questions fits.answers fits.authority fits.additional written holds)
