use Rattle.std.proofs.Common.{◌∷◌, [], ◌++◌, sym, ◌∙◌, true≢false}
use Rattle.domain_label.specs.Labels.{label_octets}
use Rattle.domain_flat.proofs.LabelsFromLeft.{passed_more}
use Rattle.domain_flat.proofs.flat.pass_labels.Goals as goal

pub loop-rest-preserved : goal.loop-rest-preserved
loop-rest-preserved c =
    let label = label_octets c.in_ok-label.label in
    let passed = c.loop-rest.invariant in
    (passed.0 ++ label ∷ [], passed_more _ passed.0 _ label _ passed.1 c.in_ok-label.ensures.ok (λ e. true≢false (sym (c.is_root.ensures.1 e) ∙ c.if-is_root.false)))
