use Rattle.std.proofs.Common.{◌++◌, refl, sym, ap, subst, ◌∙◌}
use Rattle.std.proofs.lemmas.Bool.{false≢true}
use Rattle.domain_make.specs.Opts.{IsCut}
use Rattle.domain_make.proofs.Opting.{no_cut_word, no_cut_end, no_cut_space, no_cut_count, no_cut_pairs, no_cut, cut_is}
use Rattle.domain_make.proofs.opt.push_cut.Goals as goal

pub returns-in_default-clause-ok : goal.returns-in_default-clause-ok
returns-in_default-clause-ok c = (λ octets. no_cut_word _ octets c.in_default.ensures, refl)

pub returns-in_default-before-clause-ok : goal.returns-in_default-before-clause-ok
returns-in_default-before-clause-ok c = (λ octets. no_cut_end _ _ octets c.in-Some.ensures c.in_default-before.ensures, refl)

pub returns-in_default-parted-clause-ok : goal.returns-in_default-parted-clause-ok
returns-in_default-parted-clause-ok c = (λ octets. no_cut_space _ _ _ octets c.in-Some.ensures c.in-Some-before.ensures (c.in_default-parted.ensures.none refl), refl)

pub returns-in_default-number_below-clause-ok : goal.returns-in_default-number_below-clause-ok
returns-in_default-number_below-clause-ok c =
    (λ octets. no_cut_count _ _ _ _ _ octets c.in-Some.ensures c.in-Some-before.ensures c.in-Some-parted.ensures.some c.in-Some-parted.ensures.first (c.in_default-number_below.ensures.none refl), refl)

pub returns-in_default-2-clause-ok : goal.returns-in_default-2-clause-ok
returns-in_default-2-clause-ok c =
    (λ octets. no_cut_pairs _ _ _ _ _ _ octets c.in-Some.ensures c.in-Some-before.ensures c.in-Some-parted.ensures.some c.in-Some-parted.ensures.first c.octets_from.ensures ((rw c.in_default-2.is at c.in_ok-octets.ensures.none) refl), refl)

pub returns-then-not-is_cut-clause-ok : goal.returns-then-not-is_cut-clause-ok
returns-then-not-is_cut-clause-ok c = (
  λ octets. no_cut _ _ _ _ _ _ _ octets _ c.in-Some.ensures c.in-Some-before.ensures c.in-Some-parted.ensures.some c.in-Some-parted.ensures.first c.octets_from.ensures c.in-Some-number_below.ensures.some (rw c.in-Some-2.is at c.in_ok-octets.ensures.some)
      (λ is. false≢true (sym c.if-not-is_cut.true ∙ c.is_cut.ensures.1 (subst (λ os. IsCut os c.in-Some-number_below.count) (sym c.as_slice.ensures.value) is))),
  refl,
)

pub returns-clause-ok : goal.returns-clause-ok
returns-clause-ok c = (
  _,
  cut_is _ _ _ _ _ _ _ _ c.in-Some.ensures c.in-Some-before.ensures c.in-Some-parted.ensures.some c.octets_from.ensures c.in-Some-number_below.ensures.some (rw c.in-Some-2.is at c.in_ok-octets.ensures.some) (subst (λ os. IsCut os c.in-Some-number_below.count) c.as_slice.ensures.value (c.is_cut.ensures.0 c.if-not-is_cut.false)),
  c.in_ok-append.ensures.ok ∙ ap (λ z. c.args.options.now.items ++ z) c.as_slice-2.ensures.value,
)
