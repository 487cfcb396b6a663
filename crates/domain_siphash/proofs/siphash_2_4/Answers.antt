use Rattle.std.proofs.Common.{◌≡◌, ℕ, suc, ◌+◌, ◌*◌, ◌/◌, ◌-◌, ◌≤◌, ◌++◌, length, drop, refl, ap, ◌∙◌, arith, length-drop}
use Rattle.std.proofs.lemmas.List.{drop-drop, take_rest}
use Rattle.domain_siphash.specs.SipHash.{after_words, padding, word, sip_start, sip_absorb, sip_finish}
use Rattle.domain_siphash.proofs.Padding.{word_inside, word_across}
use Rattle.domain_siphash.proofs.siphash_2_4.Goals as goal

pub words-init : goal.words-init
words-init c = (0, omega arith, refl, refl)

pub words-preserved : goal.words-preserved
words-preserved c =
    let i = c.words.invariant in
    let os = c.args.octets.now in
    let all = os ++ padding (length os) in
    let rest = c.words.rest.now in
    let n = i.0 in
    let left : length rest ≡ length os - 8 * n = ap length i.2 ∙ length-drop (8 * n) os in
    let more : 8 * n + 8 ≤ length os = omega (arith, left, c.words-test.true) in
    let taken : c.word_at-in-words.result ≡ word all (8 * n) = c.word_at-in-words.ensures ∙ ap (λ xs. word xs 0) i.2 ∙ word_inside os (padding (length os)) (8 * n) more in
    let dropped : drop 8 rest ≡ drop (8 * suc n) os = ap (drop 8) i.2 ∙ drop-drop 8 (8 * n) os ∙ ap (λ k. drop k os) (omega arith) in
    (suc n, omega (arith, more), take_rest rest 8 ∙ dropped, c.absorb.ensures ∙ ap (sip_absorb c.words.state) taken ∙ ap (λ s. sip_absorb s (word all (8 * n))) i.3)

pub last_word-requires : goal.last_word-requires
last_word-requires c =
    let i = c.words.invariant in
    omega (arith, ap length i.2, length-drop (8 * i.0) c.args.octets.now, i.1, c.words-test.false)

pub returns : goal.returns
returns c =
    let i = c.words.invariant in
    let os = c.args.octets.now in
    let key = c.args.key.now in
    let all = os ++ padding (length os) in
    let rest = c.words.rest.now in
    let n = i.0 in
    let words : suc n ≡ length os / 8 + 1 = omega (arith, ap length i.2, length-drop (8 * n) os, i.1, c.words-test.false) in
    let last : c.last_word.result ≡ word all (8 * n) = c.last_word.ensures ∙ ap (λ xs. word (xs ++ padding (length os)) 0) i.2 ∙ word_across os (padding (length os)) (8 * n) i.1 in
    let start : c.new-state.result ≡ sip_start (word key 0) (word key 8) = c.new-state.ensures ∙ ap (λ k. sip_start k c.word_at-2.result) c.word_at.ensures ∙ ap (sip_start (word key 0)) c.word_at-2.ensures in
    let absorbed : c.absorb-2.new.self ≡ after_words c.new-state.result all (suc n) = c.absorb-2.ensures ∙ ap (sip_absorb c.words.state) last ∙ ap (λ s. sip_absorb s (word all (8 * n))) i.3 in
    c.finish.ensures ∙ ap sip_finish absorbed ∙ ap (λ s. sip_finish (after_words s all (suc n))) start
    ∙ ap (λ k. sip_finish (after_words (sip_start (word key 0) (word key 8)) all k)) words
