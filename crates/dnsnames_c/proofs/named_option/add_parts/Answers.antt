use Rattle.std.proofs.Common.{◌≡◌, ◌≤◌, ◌+◌, ◌++◌, ◌∙◌, length, min, inl, refl, sym, ap, subst, arith, append_assoc, length-append}
use Rattle.std.specs.Int.{w16, to_be_bytes}
use Rattle.domain_message_builder.specs.Opt.{option_octets}
use Rattle.domain_buffer.specs.Puts.{PutsAt}
use Rattle.domain_buffer.proofs.Puts.{puts_both}
use Rattle.dnsnames_c.proofs.named_option.add_parts.Goals as goal

pub returns : goal.returns
returns c =
    let o = c.args.options.now in
    let len = c.args.options_len.now in
    let a = c.args.first.now in
    let b = c.args.second.now in
    let d = c.args.third.now in
    let rdata = a ++ (b ++ d) in
    let code = to_be_bytes w16 c.args.code in
    let head = c.option_head-head.result in
    let o' = c.put_entry.new.buffer in
    let size : length rdata ≡ length a + length b + length d = omega (arith, length-append a (b ++ d), length-append b d) in
    let octets : head ++ rdata ≡ option_octets c.args.code rdata = ap (λ x. x ++ rdata) (c.option_head-head.ensures ∙ ap (λ n. code ++ to_be_bytes w16 n) (sym size)) ∙ append_assoc code (to_be_bytes w16 (length rdata)) rdata in
    let four : length head ≡ 4 = ap length c.option_head-head.ensures in
    let fits : len + 4 + length a + length b + length d ≤ min (length o) 65535 = omega (arith, c.min-room.ensures, c.if-room-short.false, c.if-room-short-2.false) in
    let inside : len + 4 + length a + length b + length d ≤ length o = omega (arith, fits, c.if-start-options.false) in
    let all = puts_both len (len + 4) head rdata o c.put_at.new.buffer o' (omega (arith, four)) (omega (arith, four, size, inside)) c.put_at.ensures c.put_entry.ensures in
    inl (refl, fits, omega (arith, size), subst (λ s. PutsAt len s o o') octets all)
