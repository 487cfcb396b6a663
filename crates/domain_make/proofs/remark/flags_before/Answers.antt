use Rattle.std.specs.Prelude.{codes}
use Rattle.domain_make.proofs.Marking.{flags_only, no_z_after}
use Rattle.domain_make.proofs.Texts.{follows}
use Rattle.domain_make.proofs.remark.flags_before.Goals as goal

pub returns-clause-begins : goal.returns-clause-begins
returns-clause-begins c =
    follows _ _ _ _ c.flag-qr.ensures.begins (follows _ _ _ _ c.flag-aa.ensures.begins (follows _ _ _ _ c.flag-tc.ensures.begins (follows _ _ _ _ c.flag-rd.ensures.begins (follows _ _ _ _ c.flag-ra.ensures.begins (follows _ _ _ _ c.flag-ad.ensures.begins (follows _ _ _ _ c.flag-cd.ensures.begins (c.flag-z.ensures.begins)))))))

pub returns-clause-no_z : goal.returns-clause-no_z
returns-clause-no_z c = no_z_after (codes "; MBZ: 0x4") c.flag-cd.result.1.now c.flag-z.result.1.now c.flag-z.result.0 (c.flag-z.ensures.begins, c.flag-z.ensures.none)

pub returns-clause-only : goal.returns-clause-only
returns-clause-only c =
    flags_only c.args.text.now c.flag-qr.result.1.now c.flag-aa.result.1.now c.flag-tc.result.1.now c.flag-rd.result.1.now c.flag-ra.result.1.now c.flag-ad.result.1.now c.flag-cd.result.1.now c.flag-z.result.1.now c.flag-qr.result.0 c.flag-aa.result.0 c.flag-tc.result.0 c.flag-rd.result.0 c.flag-ra.result.0 c.flag-ad.result.0 c.flag-cd.result.0 c.flag-z.result.0
    (c.flag-qr.ensures.begins, c.flag-qr.ensures.none) (c.flag-aa.ensures.begins, c.flag-aa.ensures.none) (c.flag-tc.ensures.begins, c.flag-tc.ensures.none) (c.flag-rd.ensures.begins, c.flag-rd.ensures.none) (c.flag-ra.ensures.begins, c.flag-ra.ensures.none) (c.flag-ad.ensures.begins, c.flag-ad.ensures.none) (c.flag-cd.ensures.begins, c.flag-cd.ensures.none) (c.flag-z.ensures.begins, c.flag-z.ensures.none)
