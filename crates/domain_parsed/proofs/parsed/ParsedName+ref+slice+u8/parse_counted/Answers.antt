use Rattle.std.proofs.Common.{sym, ap, subst, ◌∙◌, rules, refl, Result, Ok, Err, OnErr}
use Rattle.octseq.specs.Parsing.{message, position}
use Rattle.domain_reading.specs.Grammar.{Names}
use Rattle.domain_parsed.proofs.Parsing.{ok_not_err, no_name, fault_counted, read_here, held, piece_tells, plainly_named, plainly_read, name_counted}
use Rattle.domain_parsed.proofs.parsed.ParsedName+ref+slice+u8.parse_counted.Goals as goal

pub returns-in_err-read_name_counted-clause-exact : goal.returns-in_err-read_name_counted-clause-exact
returns-in_err-read_name_counted-clause-exact g c =
    let here = ap (λ w. w.at) c.new-found.ensures ∙ c.pos.ensures.offset in
    let none = no_name c.args.parser.now (search rules) here c.in_err-read_name_counted.ensures.fault.0 in
    (λ ok. absurd (ok_not_err c.from_residual.result c.from_residual.ensures.0 ok), λ x. absurd (none x.0 x.1))

pub returns-in_err-read_name_counted-clause-uncompressed : goal.returns-in_err-read_name_counted-clause-uncompressed
returns-in_err-read_name_counted-clause-uncompressed g c = λ ls x.
    let here = ap (λ w. w.at) c.new-found.ensures ∙ c.pos.ensures.offset in
    absurd (no_name c.args.parser.now (search rules) here c.in_err-read_name_counted.ensures.fault.0 ls (plainly_named c.args.limit x))

pub returns-in_err-read_name_counted-clause-counted : goal.returns-in_err-read_name_counted-clause-counted
returns-in_err-read_name_counted-clause-counted g c =
    let here = ap (λ w. w.at) c.new-found.ensures ∙ c.pos.ensures.offset in
    fault_counted _ _ _ c.args.parser.now c.from_residual.result (search rules) here c.from_residual.ensures.0 c.from_residual.ensures.1 c.in_err-read_name_counted.ensures.fault

on_err : {T E : Type 0} (r : Result T E) (P : Type 0) → P → OnErr r P
on_err (Ok x) P p = tt
on_err (Err e) P p = p

pub returns-in_err-read_name_counted-clause-unchanged : goal.returns-in_err-read_name_counted-clause-unchanged
returns-in_err-read_name_counted-clause-unchanged g c = on_err c.from_residual.result _ refl

pub finish-requires-clause-holds : goal.finish-requires-clause-holds
finish-requires-clause-holds g c =
    let here = ap (λ w. w.at) c.new-found.ensures ∙ c.pos.ensures.offset in
    let r = read_here c.args.parser.now (search rules) here c.in_ok-read_name_counted.ensures.name in
    (held c.args.parser.now c.args.parser.now.octets.now refl r).holds

pub returns-clause-labels : goal.returns-clause-labels
returns-clause-labels g c =
    let parser = c.args.parser.now in
    let here = ap (λ w. w.at) c.new-found.ensures ∙ c.pos.ensures.offset in
    let r = read_here parser (search rules) here c.in_ok-read_name_counted.ensures.name in
    let h = held parser parser.octets.now refl r in
    subst (λ ls. Names c.args.limit (message parser) (position parser) ls) (sym (c.finish.ensures.labels ∙ h.same)) r.name

pub returns-clause-is_compressed : goal.returns-clause-is_compressed
returns-clause-is_compressed g c =
    let here = ap (λ w. w.at) c.new-found.ensures ∙ c.pos.ensures.offset in
    rw c.finish.ensures.is_compressed (piece_tells (read_here c.args.parser.now (search rules) here c.in_ok-read_name_counted.ensures.name))

pub returns-clause-uncompressed : goal.returns-clause-uncompressed
returns-clause-uncompressed g c = λ ls x.
    let parser = c.args.parser.now in
    let here = ap (λ w. w.at) c.new-found.ensures ∙ c.pos.ensures.offset in
    let r = read_here parser (search rules) here c.in_ok-read_name_counted.ensures.name in
    let h = held parser parser.octets.now refl r in
    let p = plainly_read x r in
    (c.finish.ensures.labels ∙ (h.same ∙ p.0), c.finish.ensures.is_compressed ∙ p.1, c.finish.ensures.moves.offset ∙ p.2)

pub returns-clause-counted : goal.returns-clause-counted
returns-clause-counted g c =
    let parser = c.args.parser.now in
    let here = ap (λ w. w.at) c.new-found.ensures ∙ c.pos.ensures.offset in
    let r = read_here parser (search rules) here c.in_ok-read_name_counted.ensures.name in
    let h = held parser parser.octets.now refl r in
    name_counted r (sym (c.finish.ensures.labels ∙ h.same))
