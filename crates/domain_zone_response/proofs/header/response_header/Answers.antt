use Rattle.std.proofs.Common.{arith, sym, subst, ◌∙◌}
use Rattle.domain_zone_response.proofs.Bits.{bit_back, high_bits, HighBits, low_bits, small_low}
use Rattle.domain_zone_response.proofs.header.response_header.Goals as goal

pub returns : goal.returns
returns c =
    let high = high_bits _ _ _ _ _ _ _ _ _ _ c.set_qr.ensures.high c.set_opcode.ensures.high c.set_aa.ensures.high c.set_tc.ensures.high c.set_rd.ensures.high in
    let up = subst (HighBits _ _ _ _) (sym c.set_rcode.ensures.high) high in
    let zero_low = c.set_rd.ensures.low ∙ (c.set_tc.ensures.low ∙ (c.set_aa.ensures.low ∙ (c.set_opcode.ensures.low ∙ (c.set_qr.ensures.low ∙ (c.set_id.ensures.low ∙ c.new-header.ensures.low))))) in
    let down = low_bits _ _ _ zero_low c.set_rcode.ensures.low in
    record {
      id_is = c.set_rcode.ensures.id ∙ (c.set_rd.ensures.id ∙ (c.set_tc.ensures.id ∙ (c.set_aa.ensures.id ∙ (c.set_opcode.ensures.id ∙ (c.set_qr.ensures.id ∙ (c.set_id.ensures.id ∙ c.id.ensures))))));
      qr = up.qr;
      opcode = omega (arith, up.opcode, c.opcode.ensures);
      aa_is = up.aa_is;
      tc_is = up.tc_is;
      rd = up.rd_is ∙ bit_back c.rd.result _ (small_low _) c.rd.ensures;
      ra = down.ra;
      z = down.z;
      ad = down.ad;
      cd = down.cd_is;
      rcode_is = down.rcode_is;
    }
