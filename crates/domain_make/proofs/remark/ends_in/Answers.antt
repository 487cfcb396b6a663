use Rattle.std.proofs.lemmas.Bool.Decides.{Decides-eqb}
use Rattle.std.proofs.lemmas.Slice.Eq.{ends_is}
use Rattle.domain_make.proofs.remark.ends_in.Goals as goal

pub returns : goal.returns
returns c =
    let h = ends_is Decides-eqb c.args.text.now c.args.end.now c.ends_with.result c.ends_with.ensures.value in
    (λ t. (_, h.0 t), λ w. h.1 w.0 w.1)
