-- Equality of record headers is an equivalence.
use Rattle.std.specs.Cmp.{IsEquivalence, nat_eq_equiv, on_equiv, and_equiv}
use Rattle.domain_list.specs.NameLaws.{same_name_is_equivalence}
use Rattle.domain_message.specs.RecordModel.{same_header}

pub header_is_equivalence : IsEquivalence same_header
header_is_equivalence =
    and_equiv (on_equiv (λ h. h.owner) same_name_is_equivalence)
    (and_equiv (on_equiv (λ h. h.rtype) nat_eq_equiv)
    (and_equiv (on_equiv (λ h. h.class) nat_eq_equiv)
    (and_equiv (on_equiv (λ h. h.ttl) nat_eq_equiv) (on_equiv (λ h. h.rdlen) nat_eq_equiv))))
