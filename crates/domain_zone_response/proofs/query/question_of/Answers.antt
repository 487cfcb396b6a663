use Rattle.std.proofs.Common.{◌≡◌, ℕ, List, slice_index, sym, ap, ◌∙◌}
use Rattle.std.specs.Prelude.{Option}
use Rattle.domain_header.specs.Bits.{bits}
use Rattle.domain_header.specs.Values.{class_number}
use Rattle.domain_message.specs.Messages.{message_octets}
use Rattle.domain_message.specs.Models.{question_fields}
use Rattle.domain_rdata.specs.Rtypes.{rtype_number}
use Rattle.domain_zone_response.specs.Queries.{Asked, header_code, type_code, opcode_of}
use Rattle.domain_zone_response.specs.Queries.Asks.{of_header, not_one, of_class, of_type, asks}
use Rattle.domain_zone_response.proofs.query.question_of.Goals as goal

fault_of : (m : List ℕ) (asked : Asked) (high : ℕ) (r x : Option ℕ) → high ≡ slice_index m 2 → r ≡ header_code (bits 8 16 high) asked → r ≡ x → header_code (opcode_of m) asked ≡ x
fault_of m asked high r x same told is = ap (λ n. header_code (bits 8 16 n) asked) (sym same) ∙ (sym told ∙ is)

pub returns-in-Some : goal.returns-in-Some
returns-in-Some c = of_header c.in-Some.code (fault_of (message_octets c.args.message.now) c.args.asked.now _ _ _ c.header.ensures.high c.header_fault.ensures c.in-Some.is)

pub returns-in-Err : goal.returns-in-Err
returns-in-Err c = not_one c.in-Err.field-0 (fault_of (message_octets c.args.message.now) c.args.asked.now _ _ _ c.header.ensures.high c.header_fault.ensures c.in_default.is) c.in-Err.ensures.err

pub returns-then-to_int : goal.returns-then-to_int
returns-then-to_int c =
    let has = c.in-Ok.ensures.ok in
    of_class (question_fields c.in-Ok.question) (fault_of (message_octets c.args.message.now) c.args.asked.now _ _ _ c.header.ensures.high c.header_fault.ensures c.in_default.is)
    (has.0, has.1.0, has.1.1) (λ h. c.if-to_int.true (c.to_int.ensures ∙ (ap class_number c.qclass.ensures ∙ (h ∙ sym c.to_int-2.ensures))))

pub returns-in-Some-type_fault : goal.returns-in-Some-type_fault
returns-in-Some-type_fault c =
    let has = c.in-Ok.ensures.ok in
    of_type (question_fields c.in-Ok.question) c.in-Some-type_fault.code (fault_of (message_octets c.args.message.now) c.args.asked.now _ _ _ c.header.ensures.high c.header_fault.ensures c.in_default.is)
    (has.0, has.1.0, has.1.1) (sym (c.to_int.ensures ∙ ap class_number c.qclass.ensures) ∙ (c.if-to_int.false ∙ c.to_int-2.ensures))
    (ap type_code (sym (c.to_int-3.ensures ∙ ap rtype_number c.qtype.ensures)) ∙ (sym c.type_fault.ensures ∙ c.in-Some-type_fault.is))

pub returns-in-None : goal.returns-in-None
returns-in-None c =
    let has = c.in-Ok.ensures.ok in
    asks (question_fields c.in-Ok.question) (fault_of (message_octets c.args.message.now) c.args.asked.now _ _ _ c.header.ensures.high c.header_fault.ensures c.in_default.is)
    (has.0, has.1.0, has.1.1) (sym (c.to_int.ensures ∙ ap class_number c.qclass.ensures) ∙ (c.if-to_int.false ∙ c.to_int-2.ensures))
    (ap type_code (sym (c.to_int-3.ensures ∙ ap rtype_number c.qtype.ensures)) ∙ (sym c.type_fault.ensures ∙ c.in-None.is))
