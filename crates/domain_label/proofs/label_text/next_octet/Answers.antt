use Rattle.domain_label.proofs.LabelReading.{char_octet, escaped_octet, broken_octet}
use Rattle.domain_label.proofs.label_text.next_octet.Goals as goal

pub returns-then-c-ne92-clause-octet : goal.returns-then-c-ne92-clause-octet
returns-then-c-ne92-clause-octet g c = λ cs h. char_octet g.I.Iterator.next_gives _ c.args.start c.args.c cs c.octet_in_label.result c.if-c-ne92.true c.octet_in_label.ensures h

pub returns-in-Ok-clause-octet : goal.returns-in-Ok-clause-octet
returns-in-Ok-clause-octet g c = λ cs h. escaped_octet g.I.Iterator.next_gives _ c.args.start c.args.c cs c.in-Ok.symbol c.octet_in_label-in-Ok.result c.if-c-ne92.false (c.in-Ok.ensures.escape cs h) c.octet_in_label-in-Ok.ensures

pub returns-in-Err-clause-octet : goal.returns-in-Err-clause-octet
returns-in-Err-clause-octet g c = λ cs h. broken_octet c.args.start c.args.c cs c.in-Err.error c.if-c-ne92.false (c.in-Err.ensures.escape cs h)
