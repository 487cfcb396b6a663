-- The line of a record, by what was read of its data.
use Rattle.std.proofs.Common.{◌≡◌, ◌∙◌, ℕ, List, refl, ap, subst}
use Rattle.domain_wire.specs.declared.error.ParseError.{ParseError}
use Rattle.domain_descriptor.specs.Fields.{AreData}
use Rattle.domain_descriptor.specs.Rdatas.{IsRdata}
use Rattle.domain_descriptor.specs.Table.{known_fields}
use Rattle.domain_descriptor.specs.declared.rdata.Rdata.{Rdata}
use Rattle.domain_any_rdata.proofs.Telling.{told_data}
use Rattle.domain_any_rdata.specs.Reading.{NoDataAt}
use Rattle.domain_any_rdata.specs.Texts.{rdata_text, shown_data}
use Rattle.domain_message.specs.Entries.{RecordFields}
use Rattle.domain_lines.specs.Records.{IsBare, HasData, HasNoData, line_text, unread_text, IsRecordLine}
use Rattle.domain_lines.specs.Records.IsRecordLine.{typed, unread}

-- data that is read where the record has it
pub typed_line : (it : RecordFields) (t k : ℕ) (m : List ℕ) (p : ℕ) (found : Rdata) → t ≡ it.header.rtype → k ≡ it.header.class → m ≡ it.octets → p ≡ it.start → (IsBare it → ⊥) → IsRdata t k m p found → AreData (known_fields t k) m p
    → IsRecordLine it (line_text it (rdata_text found))
typed_line it t k m p found rtype class octets start data_due is are =
    let there : AreData (known_fields t k) it.octets it.start = subst (λ x. AreData (known_fields t k) it.octets x) start (subst (λ x. AreData (known_fields t k) x p) octets are) in
    let here : HasData it = subst (λ x. AreData (known_fields it.header.rtype x) it.octets it.start) class (subst (λ x. AreData (known_fields x k) it.octets it.start) rtype there) in
    let moved : shown_data t k m p ≡ shown_data t k it.octets it.start = ap (λ x. shown_data t k x p) octets ∙ ap (λ x. shown_data t k it.octets x) start in
    let named : shown_data t k it.octets it.start ≡ shown_data it.header.rtype it.header.class it.octets it.start = ap (λ x. shown_data x k it.octets it.start) rtype ∙ ap (λ x. shown_data it.header.rtype x it.octets it.start) class in
    typed data_due here (ap (line_text it) (told_data t k m p found is ∙ (moved ∙ named)))

-- data that can't be read
pub unread_line : (it : RecordFields) (t k : ℕ) (m : List ℕ) (p : ℕ) (why : ParseError) → t ≡ it.header.rtype → k ≡ it.header.class → m ≡ it.octets → p ≡ it.start → (IsBare it → ⊥) → NoDataAt t k m p why → IsRecordLine it (unread_text it why)
unread_line it t k m p why rtype class octets start data_due none =
    let there : NoDataAt t k it.octets it.start why = subst (λ x. NoDataAt t k it.octets x why) start (subst (λ x. NoDataAt t k x p why) octets none) in
    let here : HasNoData it why = subst (λ x. NoDataAt it.header.rtype x it.octets it.start why) class (subst (λ x. NoDataAt x k it.octets it.start why) rtype there) in
    unread why data_due here refl
