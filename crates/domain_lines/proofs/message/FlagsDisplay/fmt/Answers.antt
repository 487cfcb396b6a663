use Rattle.std.specs.Prelude.{codes}
use Rattle.domain_lines.proofs.Showing.{flag_is}
use Rattle.domain_lines.proofs.message.FlagsDisplay.fmt.Goals as goal

pub returns-clause-writes : goal.returns-clause-writes
returns-clause-writes g c plain ok =
    let qr = flag_is c.qr.result _ (codes " qr") c.word_if-qr.result.now c.qr.ensures c.word_if-qr.ensures in
    let aa = flag_is c.aa.result _ (codes " aa") c.word_if-aa.result.now c.aa.ensures c.word_if-aa.ensures in
    let tc = flag_is c.tc.result _ (codes " tc") c.word_if-tc.result.now c.tc.ensures c.word_if-tc.ensures in
    let rd = flag_is c.rd.result _ (codes " rd") c.word_if-rd.result.now c.rd.ensures c.word_if-rd.ensures in
    let ra = flag_is c.ra.result _ (codes " ra") c.word_if-ra.result.now c.ra.ensures c.word_if-ra.ensures in
    let ad = flag_is c.ad.result _ (codes " ad") c.word_if-ad.result.now c.ad.ensures c.word_if-ad.ensures in
    let cd = flag_is c.cd.result _ (codes " cd") c.word_if-cd.result.now c.cd.ensures c.word_if-cd.ensures in
    let z = flag_is c.z.result _ (codes "; MBZ: 0x4") c.word_if-z.result.now c.z.ensures c.word_if-z.ensures in
    rw (qr, aa, tc, rd, ra, ad, cd, z) at (c.write.ensures.writes plain ok)
