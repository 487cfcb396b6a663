use Rattle.std.proofs.Common.{ap, subst, sym, ◌∙◌}
use Rattle.domain_message_builder.proofs.Finishing.{finished, written_size, written_so}
use Rattle.domain_message_builder.specs.Reading.{IsMessageOf}
use Rattle.domain_message_builder.proofs.builder.MessageBuilder.finish.Goals as goal

pub returns-clause-octets : goal.returns-clause-octets
returns-clause-octets g c =
    let header = c.args.self.header in
    let counts = c.args.self.counts in
    let m = g.Target.Octets.octets c.args.self.target in
    let written = written_so c.new-section.result header counts c.write.new.message c.as_slice_mut.result.now m c.in_default.ensures.ok c.new-section.ensures.header c.new-section.ensures.counts c.as_slice_mut.ensures.value in
    g.met.Target.OctetsMut.written c.args.self.target c.write.new.message (written_size header counts m c.write.new.message c.args.self.begun written) ∙ written

pub returns-clause-target : goal.returns-clause-target
returns-clause-target g c =
    let header = c.args.self.header in
    let counts = c.args.self.counts in
    let m = g.Target.Octets.octets c.args.self.target in
    ap (g.Target.OctetsMut.with_octets c.args.self.target) (written_so c.new-section.result header counts c.write.new.message c.as_slice_mut.result.now m c.in_default.ensures.ok c.new-section.ensures.header c.new-section.ensures.counts c.as_slice_mut.ensures.value)

pub returns-clause-message : goal.returns-clause-message
returns-clause-message g c it holds =
    let header = c.args.self.header in
    let counts = c.args.self.counts in
    let m = g.Target.Octets.octets c.args.self.target in
    let written = written_so c.new-section.result header counts c.write.new.message c.as_slice_mut.result.now m c.in_default.ensures.ok c.new-section.ensures.header c.new-section.ensures.counts c.as_slice_mut.ensures.value in
    let size = written_size header counts m c.write.new.message c.args.self.begun written in
    let made = finished g.Target.Composer.compresses (record { header = header; limit = c.args.self.limit; reserved = c.args.self.reserved; counts = counts; starts = c.args.self.starts; octets = m }) it c.write.new.message c.header_fits.ensures c.counts_fit.ensures.questions c.counts_fit.ensures.answers c.counts_fit.ensures.authority c.counts_fit.ensures.additional holds written in
    subst (λ o. IsMessageOf header it o) (sym (g.met.Target.OctetsMut.written c.args.self.target c.write.new.message size)) made
