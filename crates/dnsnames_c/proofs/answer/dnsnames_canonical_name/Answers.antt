use Rattle.std.proofs.Common.{refl, ap, subst, inr}
use Rattle.dnsnames_c.specs.Replies.{HasNoEnd}
use Rattle.dnsnames_c.proofs.answer.dnsnames_canonical_name.Goals as goal

pub returns-in_default-canonical_name : goal.returns-in_default-canonical_name
returns-in_default-canonical_name c =
    let same = ap (λ octets. octets.now) c.in-Ok.ensures.ok in
    let none = subst (λ m. HasNoEnd m c.args.limit) same (c.in_default-canonical_name.ensures.none refl) in
    inr (inr (none, refl, refl, refl))
