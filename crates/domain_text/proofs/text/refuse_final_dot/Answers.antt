use Rattle.std.proofs.Common.{sym, ◌∙◌}
use Rattle.domain_text.proofs.Reading.{relative_open, relative_dotted, relative_empty, relative_stops}
use Rattle.domain_text.proofs.text.refuse_final_dot.Goals as goal

pub returns-in-Err : goal.returns-in-Err
returns-in-Err c = λ ps h. relative_stops ps c.in-Err.fault (rw c.in-Err.is at h)

pub returns-then-in_label : goal.returns-then-in_label
returns-then-in_label c = λ ps h. relative_open ps c.args.buffer.now (rw c.in-Ok.is at h) (sym c.in_label.ensures ∙ c.if-in_label.true)

pub returns-then-has_label : goal.returns-then-has_label
returns-then-has_label c = λ ps h. relative_dotted ps c.args.buffer.now (rw c.in-Ok.is at h) (sym c.in_label.ensures ∙ c.if-in_label.false) (sym c.has_label.ensures ∙ c.if-has_label.true)

pub returns : goal.returns
returns c = λ ps h. relative_empty ps c.args.buffer.now (rw c.in-Ok.is at h) (sym c.in_label.ensures ∙ c.if-in_label.false) (sym c.has_label.ensures ∙ c.if-has_label.false)
