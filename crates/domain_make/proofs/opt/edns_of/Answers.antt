use Rattle.std.proofs.Common.{refl, sym}
use Rattle.domain_make.proofs.Opting.{edns_begins, flags_found, edns_comma, edns_number, edns_parts, edns_semicolon, edns_zero, edns_size, edns_last}
use Rattle.domain_make.proofs.opt.edns_of.Goals as goal

pub returns-in_default-clause-none : goal.returns-in_default-clause-none
returns-in_default-clause-none c = λ _ told is. c.in_default.ensures _ is.text_is

pub returns-in_default-parted-clause-none : goal.returns-in_default-parted-clause-none
returns-in_default-parted-clause-none c = λ _ told is. edns_comma _ _ told is c.in-Some.ensures (c.in_default-parted.ensures.none refl)

pub returns-in_default-number_below-clause-none : goal.returns-in_default-number_below-clause-none
returns-in_default-number_below-clause-none c = λ _ told is.
    c.in_default-number_below.ensures.none refl told.version (edns_number _ _ _ _ told is c.in-Some.ensures c.in-Some-parted.ensures.some c.in-Some-parted.ensures.first)

pub returns-in_default-after-clause-none : goal.returns-in_default-after-clause-none
returns-in_default-after-clause-none c = λ _ told is. c.in_default-after.ensures _ (sym (edns_parts _ _ _ _ told is c.in-Some.ensures c.in-Some-parted.ensures.some c.in-Some-parted.ensures.first).1)

pub returns-in_default-after-2-clause-none : goal.returns-in_default-after-2-clause-none
returns-in_default-after-2-clause-none c = λ _ told is.
    c.in_default-after-2.ensures is.from_zero
    (edns_semicolon _ _ _ told (edns_begins _ _ _ _ _ c.in-Some.ensures c.in-Some-parted.ensures.some c.in-Some-parted.ensures.first c.in-Some-after.ensures) (flags_found _ _ _ _ _ (c.flag-dnssec_ok.ensures.begins, c.flag-dnssec_ok.ensures.none) (c.flag-compact_ok.ensures.begins, c.flag-compact_ok.ensures.none)) is)

pub returns-in_default-zero_of-clause-none : goal.returns-in_default-zero_of-clause-none
returns-in_default-zero_of-clause-none c = λ _ told is.
    c.in_default-zero_of.ensures.none refl told.zero _
    (edns_zero _ _ _ _ told (edns_begins _ _ _ _ _ c.in-Some.ensures c.in-Some-parted.ensures.some c.in-Some-parted.ensures.first c.in-Some-after.ensures) (flags_found _ _ _ _ _ (c.flag-dnssec_ok.ensures.begins, c.flag-dnssec_ok.ensures.none) (c.flag-compact_ok.ensures.begins, c.flag-compact_ok.ensures.none)) c.in-Some-after-2.ensures is)

pub returns-in_default-after-3-clause-none : goal.returns-in_default-after-3-clause-none
returns-in_default-after-3-clause-none c = λ _ told is.
    c.in_default-after-3.ensures is.from_size
    (edns_size _ _ _ _ _ _ told (edns_begins _ _ _ _ _ c.in-Some.ensures c.in-Some-parted.ensures.some c.in-Some-parted.ensures.first c.in-Some-after.ensures) (flags_found _ _ _ _ _ (c.flag-dnssec_ok.ensures.begins, c.flag-dnssec_ok.ensures.none) (c.flag-compact_ok.ensures.begins, c.flag-compact_ok.ensures.none)) c.in-Some-after-2.ensures c.in-Some-zero_of.ensures.some is)

pub returns-in_default-size_of-clause-none : goal.returns-in_default-size_of-clause-none
returns-in_default-size_of-clause-none c = λ _ told is.
    c.in_default-size_of.ensures.none refl told.size told.code
    (edns_last _ _ _ _ _ _ _ told (edns_begins _ _ _ _ _ c.in-Some.ensures c.in-Some-parted.ensures.some c.in-Some-parted.ensures.first c.in-Some-after.ensures) (flags_found _ _ _ _ _ (c.flag-dnssec_ok.ensures.begins, c.flag-dnssec_ok.ensures.none) (c.flag-compact_ok.ensures.begins, c.flag-compact_ok.ensures.none)) c.in-Some-after-2.ensures c.in-Some-zero_of.ensures.some c.in-Some-after-3.ensures is)
