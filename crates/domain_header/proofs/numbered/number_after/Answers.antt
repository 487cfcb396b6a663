use Rattle.std.proofs.Common.{◌≡◌, length, take, drop, refl, ap, sym, subst, ◌∙◌}
use Rattle.std.specs.Prelude.{IfSome}
use Rattle.domain_label.specs.Lowercase.{lowercase}
use Rattle.domain_header.specs.Numbered.{IsDecimal}
use Rattle.domain_header.proofs.WordAndNumber.{rest_of, numbered}
use Rattle.domain_header.proofs.numbered.number_after.Goals as goal

pub returns-clause-some : goal.returns-clause-some
returns-clause-some c =
    let word = c.args.word.now in
    let text = c.args.text.now in
    let is_word : c.as_bytes-word.result.now ≡ word = c.as_bytes-word.ensures.value in
    let is_text : c.as_bytes.result.now ≡ text = c.as_bytes.ensures.value in
    let first : c.in-Some.first.now ≡ take (length word) text = c.in-Some.ensures.cases.1 ∙ (ap (λ w. take (length w) c.as_bytes.result.now) is_word ∙ ap (take (length word)) is_text) in
    let rest : c.in-Some.rest.now ≡ drop (length word) text = c.in-Some.ensures.cases.2 ∙ (ap (λ w. drop (length w) c.as_bytes.result.now) is_word ∙ ap (drop (length word)) is_text) in
    let same : lowercase c.in-Some.first.now ≡ lowercase c.as_bytes-word.result.now = c.if-not-eq_ignore_ascii_case.ensures.test.0 refl in
    numbered word text c.decimal_number.result (ap lowercase (sym first) ∙ (same ∙ ap lowercase is_word)) (subst (λ ds. IfSome c.decimal_number.result (IsDecimal ds)) rest c.decimal_number.ensures.some)

pub returns-clause-none : goal.returns-clause-none
returns-clause-none c = λ none n is.
    let word = c.args.word.now in
    let text = c.args.text.now in
    let is_word : c.as_bytes-word.result.now ≡ word = c.as_bytes-word.ensures.value in
    let is_text : c.as_bytes.result.now ≡ text = c.as_bytes.ensures.value in
    let rest : c.in-Some.rest.now ≡ drop (length word) text = c.in-Some.ensures.cases.2 ∙ (ap (λ w. drop (length w) c.as_bytes.result.now) is_word ∙ ap (drop (length word)) is_text) in
    c.decimal_number.ensures.none none n (subst (λ ds. IsDecimal ds n) (sym rest) (rest_of word text n is))
