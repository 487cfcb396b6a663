use Rattle.std.proofs.Common.{◌≡◌, subst}
use Rattle.std.specs.Int.{w16, from_be_bytes, to_be_bytes}
use Rattle.domain_fields.specs.ReadBack.{IsReadBack}
use Rattle.domain_wire.specs.Values.{FixedAt}
use Rattle.domain_dnssec.proofs.rtype_field.RtypeFieldReadBackField.reads_back.Goals as goal

pub returns : goal.returns
returns c =
    subst (λ n. IsReadBack (λ _ _ s. s ≡ to_be_bytes w16 n) (FixedAt 2 (from_be_bytes w16)) (λ seen. seen ≡ n)) c.to_int.ensures c.reads_back.ensures
