use Rattle.std.proofs.Common.{◌≡◌, ◌==◌, ◌∙◌, sym, inr, rules}
use Rattle.std.specs.Cmp.Lexicographic.{pointwise}
use Rattle.std.proofs.lemmas.Bool.{not-false}
use Rattle.domain_rdata_text.proofs.Octets.{same_when}
use Rattle.domain_rdata_text.specs.Outcome.{fault}
use Rattle.domain_rdata_text.specs.Values.{vals_of}
use Rattle.domain_rdata_text.specs.declared.error.Reason.TheVariants.{NotData}
use Rattle.domain_rdata_text.proofs.Gathering.{held_there}
use Rattle.domain_rdata_text.proofs.Refusing.{same_refusal}
use Rattle.domain_rdata_text.proofs.from_text.check_plain.Goals as goal

pub returns-then-ne-clause-err : goal.returns-then-ne-clause-err
returns-then-ne-clause-err c =
    let os = c.args.octets.now in
    let plain = c.in-Ok-plain_data.plain in
    let vs = vals_of plain.values.items in
    let at = held_there c.args.rtype c.args.class os c.in-Ok.rdata vs c.in-Ok.ensures.ok c.in-Ok-plain_data.ensures.values in
    let differ : plain.octets.items ≡ os → ⊥ = search rules in
    λ f e. (
      same_refusal c.refused-then-ne.result f (fault c.args.at NotData) c.refused-then-ne.ensures e,
      inr (vs, at.0, at.1, λ same. differ (c.in-Ok-plain_data.ensures.octets ∙ same)),
    )

pub returns-clause-ok : goal.returns-clause-ok
returns-clause-ok c =
    let os = c.args.octets.now in
    let plain = c.in-Ok-plain_data.plain in
    let vs = vals_of plain.values.items in
    let at = held_there c.args.rtype c.args.class os c.in-Ok.rdata vs c.in-Ok.ensures.ok c.in-Ok-plain_data.ensures.values in
    let equal = not-false (pointwise ◌==◌ c.as_slice.result.now os) (sym c.ne.ensures ∙ c.if-ne.false) in
    let same : plain.octets.items ≡ os = sym c.as_slice.ensures.value ∙ same_when c.as_slice.result.now os equal in
    (c.in-Ok.ensures.whole, (vs, at.0, at.1, sym c.in-Ok-plain_data.ensures.octets ∙ same))
