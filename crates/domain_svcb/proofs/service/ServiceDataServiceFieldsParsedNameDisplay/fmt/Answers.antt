use Rattle.std.proofs.Common.{refl, ◌++◌, ◌∷◌, [], ap, sym, ◌∙◌, append_assoc}
use Rattle.std.specs.Fmt.{decimal}
use Rattle.std.specs.List.{flat_map}
use Rattle.domain_label.specs.Text.{text_with_final_dot}
use Rattle.domain_parsed.specs.ParsedNames.{parsed_labels}
use Rattle.domain_svcb.specs.ParamText.{spaced_param, service_text}
use Rattle.domain_svcb.specs.ParamViews.{param_of, params_left}
use Rattle.domain_svcb.specs.ParamsViews.{params_of}
use Rattle.domain_svcb.specs.ServiceViews.{service_fields}
use Rattle.domain_svcb.proofs.Showing.{shown_before, shown_item, shown_all}
use Rattle.domain_svcb.proofs.service.ServiceDataServiceFieldsParsedNameDisplay.fmt.Goals as goal

pub loop-param-init : goal.loop-param-init
loop-param-init g c plain =
    let it = service_fields c.args.self.now in
    let priority = decimal it.first in
    let target = text_with_final_dot (parsed_labels it.rest.first.name) in
    let left = params_left c.iter-params.result in
    shown_before g.W.Write.write_str_gives spaced_param _ _ _ (priority ++ (32 ∷ target)) left (ap (λ ps. priority ++ (32 ∷ (target ++ flat_map spaced_param ps))) (sym c.iter-params.ensures) ∙ sym (append_assoc priority (32 ∷ target) (flat_map spaced_param left))) (c.in_ok-write.ensures.writes plain refl)

pub loop-param-preserved : goal.loop-param-preserved
loop-param-preserved g c plain =
    let m = c.loop-param.invariant plain in
    shown_item g.W.Write.write_str_gives spaced_param _ _ _ _ _ _ (param_of c.in-Some.param) m c.in-Some.ensures.steps (c.in_ok-write-2.ensures.writes m.wrote.plain refl)

pub returns-clause-writes : goal.returns-clause-writes
returns-clause-writes g c plain told = shown_all g.W.Write.write_str_gives spaced_param _ _ _ _ (c.loop-param.invariant plain) c.in_default.ensures.steps.0
