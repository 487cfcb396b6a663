use Rattle.std.proofs.Common.{Some, None, codes, sym, subst}
use Rattle.domain_header.specs.Numbered.{Named}
use Rattle.domain_header.specs.Rtypes.{rtype_rows}
use Rattle.domain_message.proofs.rtype_text.rtype_from_text.Goals as goal

pub returns-in-Some : goal.returns-in-Some
returns-in-Some c =
    subst (λ n. Named rtype_rows (codes "TYPE") c.args.text.now (Some n)) (sym c.from_int.ensures)
    (subst (λ rows. Named rows (codes "TYPE") c.args.text.now (Some c.in-Some.number)) c.rtypes.ensures c.in-Some.ensures)

pub returns-in-None : goal.returns-in-None
returns-in-None c = subst (λ rows. Named rows (codes "TYPE") c.args.text.now None) c.rtypes.ensures c.in-None.ensures
