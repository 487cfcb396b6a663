use Rattle.std.proofs.Common.{◌≡◌, drop, slice_range, ap, ◌∙◌, arith}
use Rattle.std.proofs.lemmas.List.{take_rest}
use Rattle.domain_stream.specs.Framing.{first_end}
use Rattle.domain_stream.proofs.Cutting.{has_none, has_first}
use Rattle.domain_stream.proofs.messages.first_message.Goals as goal

pub returns-then-octets-end-clause-messages : goal.returns-then-octets-end-clause-messages
returns-then-octets-end-clause-messages c = has_none c.args.octets.now (omega (arith, c.message_end-end.ensures))

pub returns-clause-messages : goal.returns-clause-messages
returns-clause-messages c =
    let o = c.args.octets.now in
    let end = c.message_end-end.result in
    let same : end ≡ first_end o = c.message_end-end.ensures in
    has_first o _ _ (record {
      whole = omega (arith, same);
      message_is = ap (slice_range o 2) same;
      rest_is = take_rest o end ∙ ap (λ k. drop k o) same;
    })
