use Rattle.std.proofs.Common.{ℕ, ◌+◌, length, refl, arith, subst}
use Rattle.domain_label.specs.Wire.{labels_in}
use Rattle.domain_compress.specs.Written.{StandsThrough}
use Rattle.domain_compress.proofs.SpelledOut.{spelled_stands}
use Rattle.domain_compress.proofs.search.is_spelled_out.Goals as goal

pub returns : goal.returns
returns c = λ same.
    let P : ℕ → Type 0 = λ p. StandsThrough c.args.octets.now p (labels_in c.args.name.now) 0 in
    let offset = c.from-offset.result in
    subst P c.from-offset.ensures (spelled_stands c.args.octets.now c.args.name.now offset (offset + length c.args.name.now) c.requires refl (omega arith) (c.same_octets.ensures.0 same))
