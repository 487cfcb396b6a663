use Rattle.std.proofs.Common.{ℕ, ◌<◌, refl, sym, subst, length}
use Rattle.domain_label.specs.Wire.{wire}
use Rattle.domain_rdata.specs.ReadBack.{StandsAt}
use Rattle.domain_compress.specs.Written.{remembered, SuffixAt}
use Rattle.domain_compress.proofs.LongerSuffix.{kept_end, longer_found}
use Rattle.domain_compress.proofs.search.better_suffix.Goals as goal

pub returns-in-Some : goal.returns-in-Some
returns-in-Some c = λ ws old.
    let P : ℕ → Type 0 = λ p. SuffixAt c.args.octets.now p c.args.name.now c.begin_or_len.result c.in-Some.begin c.in-Some.pointers in
    let Q : ℕ → Type 0 = λ n. SuffixAt c.args.octets.now c.args.written.offset c.args.name.now n c.in-Some.begin c.in-Some.pointers in
    longer_found _ _ (remembered c.args.written) ws c.args.best _ c.requires refl c.args.written.low (subst Q c.begin_or_len.ensures (subst P c.from-offset.ensures c.in-Some.ensures.some)) old

pub returns-in-None : goal.returns-in-None
returns-in-None c = λ ws old.
    kept_end _ _ (remembered c.args.written) ws _ c.requires
    (λ xs ys e more lt s. c.in-None.ensures.none refl xs ys e more (subst (λ n. length (wire xs) < n) (sym c.begin_or_len.ensures) lt) (subst (λ p. StandsAt c.args.octets.now p ys) (sym c.from-offset.ensures) s))
    old
