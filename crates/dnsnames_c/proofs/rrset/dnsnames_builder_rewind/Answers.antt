use Rattle.std.proofs.Common.{inl, refl, sym, subst}
use Rattle.domain_buffer.specs.Builders.{IsUsable}
use Rattle.domain_buffer.specs.Rrsets.{IsBackAt}
use Rattle.domain_buffer.proofs.Rrsets.{back_usable, is_back_at}
use Rattle.dnsnames_c.proofs.rrset.dnsnames_builder_rewind.Goals as goal

pub returns : goal.returns
returns c =
    let o = c.args.octets.now in
    let b = c.args.builder.now in
    let m = c.args.mark.now in
    let usable = c.if-not-is_usable.ensures.0 refl in
    let mark = c.if-not-is_mark.ensures.0 refl in
    let back = c.go_back.ensures in
    inl (refl, usable, mark, back, subst (λ x. IsBackAt m o b x) (sym back) (is_back_at o b m), subst (λ x. IsUsable o x) (sym back) (back_usable o b m usable mark))
