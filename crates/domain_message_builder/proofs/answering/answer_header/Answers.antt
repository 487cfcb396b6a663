use Rattle.std.proofs.Common.{arith, sym, subst, ◌∙◌}
use Rattle.domain_message_builder.proofs.Replying.{bit_back, high_bits, HighBits, low_bits, small_low, small_cd}
use Rattle.domain_message_builder.proofs.answering.answer_header.Goals as goal

pub returns : goal.returns
returns c =
    let zero_high = c.set_id.ensures.high ∙ c.new-header.ensures.high in
    let high = high_bits _ _ _ _ _ _ zero_high c.set_qr.ensures.high c.set_opcode.ensures.high c.set_rd.ensures.high in
    let last_high = c.set_rcode.ensures.high ∙ c.set_cd.ensures.high in
    let up = subst (HighBits _ _) (sym last_high) high in
    let zero_low = c.set_rd.ensures.low ∙ (c.set_opcode.ensures.low ∙ (c.set_qr.ensures.low ∙ (c.set_id.ensures.low ∙ c.new-header.ensures.low))) in
    let down = low_bits _ _ _ _ _ zero_low c.set_cd.ensures.low c.set_rcode.ensures.low in
    record {
      id_is = c.set_rcode.ensures.id ∙ (c.set_cd.ensures.id ∙ (c.set_rd.ensures.id ∙ (c.set_opcode.ensures.id ∙ (c.set_qr.ensures.id ∙ (c.set_id.ensures.id ∙ c.id.ensures)))));
      qr = up.qr;
      opcode = omega (arith, up.opcode, c.opcode.ensures);
      aa = up.aa;
      tc = up.tc;
      rd = up.rd_is ∙ bit_back c.rd.result _ (small_low _) c.rd.ensures;
      ra = down.ra;
      z = down.z;
      ad = down.ad;
      cd = down.cd_is ∙ bit_back c.cd.result _ (small_cd _) c.cd.ensures;
      rcode_is = down.rcode_is;
    }
