use Rattle.std.proofs.Common.{rules, true, sym, subst}
use Rattle.domain_name.specs.Names.{name_labels}
use Rattle.domain_compress.specs.Composers.{target_of}
use Rattle.domain_data.specs.Views.{fields_of}
use Rattle.domain_header.specs.Values.{class_number, ttl_seconds}
use Rattle.domain_rdata.specs.ReadBack.{Appended}
use Rattle.domain_rdata.specs.Rtypes.{rtype_number}
use Rattle.domain_message.specs.Composing.{QuestionOctets, RecordOctets, ComposeRecordRefused}
use Rattle.domain_message.specs.RecordParts.{owner_of, class_of, ttl_of, data_of}
use Rattle.domain_message.specs.EntryViews.{question_name, question_type, question_class}
use Rattle.examples.specs.Responses.{IsMailResponse}
use Rattle.examples.proofs.Responding.{of_ok, of_err, head_is, same_question, same_mail, same_address, up_to_records, up_to_address, is_mail_response, mail_exceeds, address_exceeds}
use Rattle.examples.proofs.composing.mail_response.Goals as goal

pub returns-in_err-ok-4-clause-full : goal.returns-in_err-ok-4-clause-full
returns-in_err-ok-4-clause-full c none =
    let name = name_labels c.args.name in
    let host = name_labels c.args.host in
    let one = (target_of c.append_slice.new.self).items in
    let sent = of_ok c.append_slice.result c.ok-2.result c.in_ok-ok-2.field-0 _ c.ok-2.ensures.value (search rules) c.append_slice.ensures.ok in
    let written = of_ok c.write.result c.ok.result c.in_ok-ok.field-0 _ c.ok.ensures.value (search rules) c.write.ensures.ok in
    let head = head_is one _ _ (target_of c.new-message.result).items c.response_header.result c.args.id (search rules) sent written (search rules) c.response_header.ensures in
    let two = (target_of c.compose.new.target).items in
    let asked = of_ok c.compose.result c.ok-3.result c.in_ok-ok-3.field-0 _ c.ok-3.ensures.value (search rules) c.compose.ensures.ok in
    let question = same_question (λ n r k. Appended (QuestionOctets n r k true one) one two) (name_labels (question_name c.new-question.result)) name (rtype_number (question_type c.new-question.result)) 15 (class_number (question_class c.new-question.result)) 1 (search rules) (search rules) (search rules) asked in
    let before = up_to_records c.args.id name one two head question in
    let refused = of_err c.compose-2.result c.ok-4.result _ c.ok-4.ensures.value (search rules) c.compose-2.ensures.why in
    mail_exceeds c.args.id name host c.args.addr two refused.0 before (same_mail (λ n k l May. ComposeRecordRefused n 15 k l May true two 512 refused.0) (name_labels (owner_of c.new-mail.result)) name (name_labels (fields_of (data_of c.new-mail.result)).rest.name) host (class_number (class_of c.new-mail.result)) 1 (ttl_seconds (ttl_of c.new-mail.result)) 3600 (fields_of (data_of c.new-mail.result)).first 10 (search rules) (search rules) (search rules) (search rules) (search rules) refused.1)

pub returns-in_err-ok-5-clause-full : goal.returns-in_err-ok-5-clause-full
returns-in_err-ok-5-clause-full c none =
    let name = name_labels c.args.name in
    let host = name_labels c.args.host in
    let one = (target_of c.append_slice.new.self).items in
    let sent = of_ok c.append_slice.result c.ok-2.result c.in_ok-ok-2.field-0 _ c.ok-2.ensures.value (search rules) c.append_slice.ensures.ok in
    let written = of_ok c.write.result c.ok.result c.in_ok-ok.field-0 _ c.ok.ensures.value (search rules) c.write.ensures.ok in
    let head = head_is one _ _ (target_of c.new-message.result).items c.response_header.result c.args.id (search rules) sent written (search rules) c.response_header.ensures in
    let two = (target_of c.compose.new.target).items in
    let asked = of_ok c.compose.result c.ok-3.result c.in_ok-ok-3.field-0 _ c.ok-3.ensures.value (search rules) c.compose.ensures.ok in
    let question = same_question (λ n r k. Appended (QuestionOctets n r k true one) one two) (name_labels (question_name c.new-question.result)) name (rtype_number (question_type c.new-question.result)) 15 (class_number (question_class c.new-question.result)) 1 (search rules) (search rules) (search rules) asked in
    let before = up_to_records c.args.id name one two head question in
    let three = (target_of c.compose-2.new.target).items in
    let told = of_ok c.compose-2.result c.ok-4.result c.in_ok-ok-4.field-0 _ c.ok-4.ensures.value (search rules) c.compose-2.ensures.ok in
    let mail = same_mail (λ n k l May. Appended (RecordOctets n 15 k l May true two) two three) (name_labels (owner_of c.new-mail.result)) name (name_labels (fields_of (data_of c.new-mail.result)).rest.name) host (class_number (class_of c.new-mail.result)) 1 (ttl_seconds (ttl_of c.new-mail.result)) 3600 (fields_of (data_of c.new-mail.result)).first 10 (search rules) (search rules) (search rules) (search rules) (search rules) told in
    let on = up_to_address c.args.id name host two three before mail in
    let refused = of_err c.compose-3.result c.ok-5.result _ c.ok-5.ensures.value (search rules) c.compose-3.ensures.why in
    address_exceeds c.args.id name host c.args.addr three refused.0 on (same_address (λ n k l May. ComposeRecordRefused n 1 k l May true three 512 refused.0) (name_labels (owner_of c.new-address.result)) host (class_number (class_of c.new-address.result)) 1 (ttl_seconds (ttl_of c.new-address.result)) 3600 (fields_of (data_of c.new-address.result)) c.args.addr (search rules) (search rules) (search rules) (search rules) refused.1)

pub returns-clause-ok : goal.returns-clause-ok
returns-clause-ok c =
    let name = name_labels c.args.name in
    let host = name_labels c.args.host in
    let one = (target_of c.append_slice.new.self).items in
    let sent = of_ok c.append_slice.result c.ok-2.result c.in_ok-ok-2.field-0 _ c.ok-2.ensures.value (search rules) c.append_slice.ensures.ok in
    let written = of_ok c.write.result c.ok.result c.in_ok-ok.field-0 _ c.ok.ensures.value (search rules) c.write.ensures.ok in
    let head = head_is one _ _ (target_of c.new-message.result).items c.response_header.result c.args.id (search rules) sent written (search rules) c.response_header.ensures in
    let two = (target_of c.compose.new.target).items in
    let asked = of_ok c.compose.result c.ok-3.result c.in_ok-ok-3.field-0 _ c.ok-3.ensures.value (search rules) c.compose.ensures.ok in
    let question = same_question (λ n r k. Appended (QuestionOctets n r k true one) one two) (name_labels (question_name c.new-question.result)) name (rtype_number (question_type c.new-question.result)) 15 (class_number (question_class c.new-question.result)) 1 (search rules) (search rules) (search rules) asked in
    let before = up_to_records c.args.id name one two head question in
    let three = (target_of c.compose-2.new.target).items in
    let told = of_ok c.compose-2.result c.ok-4.result c.in_ok-ok-4.field-0 _ c.ok-4.ensures.value (search rules) c.compose-2.ensures.ok in
    let mail = same_mail (λ n k l May. Appended (RecordOctets n 15 k l May true two) two three) (name_labels (owner_of c.new-mail.result)) name (name_labels (fields_of (data_of c.new-mail.result)).rest.name) host (class_number (class_of c.new-mail.result)) 1 (ttl_seconds (ttl_of c.new-mail.result)) 3600 (fields_of (data_of c.new-mail.result)).first 10 (search rules) (search rules) (search rules) (search rules) (search rules) told in
    let on = up_to_address c.args.id name host two three before mail in
    let four = (target_of c.compose-3.new.target).items in
    let last = of_ok c.compose-3.result c.ok-5.result c.in_ok-ok-5.field-0 _ c.ok-5.ensures.value (search rules) c.compose-3.ensures.ok in
    let address = same_address (λ n k l May. Appended (RecordOctets n 1 k l May true three) three four) (name_labels (owner_of c.new-address.result)) host (class_number (class_of c.new-address.result)) 1 (ttl_seconds (ttl_of c.new-address.result)) 3600 (fields_of (data_of c.new-address.result)) c.args.addr (search rules) (search rules) (search rules) (search rules) last in
    subst (λ made. IsMailResponse c.args.id name host c.args.addr made.items) (sym c.into_target.ensures) (is_mail_response c.args.id name host c.args.addr three four on address)
