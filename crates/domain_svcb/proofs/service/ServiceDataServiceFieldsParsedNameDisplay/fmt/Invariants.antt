use Rattle.std.proofs.Common.{length}
use Rattle.std.specs.Fmt.{IsPlainFormatter}
use Rattle.std.specs.List.{flat_map}
use Rattle.domain_list.specs.Moving.{HasMoved}
use Rattle.domain_parsed.specs.ParsedNames.{parsed_labels}
use Rattle.domain_svcb.specs.ParamText.{spaced_param, service_text}
use Rattle.domain_svcb.specs.ParamViews.{params_left}
use Rattle.domain_svcb.specs.ParamsViews.{params_of}
use Rattle.domain_svcb.specs.ServiceViews.{service_fields}
use Rattle.domain_svcb.proofs.service.ServiceDataServiceFieldsParsedNameDisplay.fmt.Given as goal

abbrev pub invariant-loop-param : goal.invariant-loop-param
invariant-loop-param g l =
    IsPlainFormatter l.fn.f → HasMoved g.W.Write.write_str_gives l.fn.f (service_text (service_fields l.fn.self).first (parsed_labels (service_fields l.fn.self).rest.first.name) (params_of (service_fields l.fn.self).rest.rest)) (flat_map spaced_param (params_left l.params)) l.f

abbrev pub decreases-loop-param : goal.decreases-loop-param
decreases-loop-param g l = length (params_left l.params)
