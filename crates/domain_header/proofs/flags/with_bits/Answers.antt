use Rattle.std.proofs.Common.{◌<◌, arith}
use Rattle.domain_header.proofs.Fields.{field_fits, field_sets}
use Rattle.domain_header.proofs.flags.with_bits.Goals as goal

pub overflow_cast-result : goal.overflow_cast-result
overflow_cast-result c =
    let octet : c.args.octet < 256 = omega arith in
    let fits = field_fits c.args.weight c.args.values c.args.value c.args.octet c.requires.weight c.requires.value c.requires.room octet in
    simp (c.from.ensures, c.from-2.ensures, c.from-octet.ensures, c.from-3.ensures, c.from-4.ensures, c.from-5.ensures) (omega (arith, fits))

pub returns : goal.returns
returns c = simp (c.from.ensures, c.from-2.ensures, c.from-octet.ensures, c.from-3.ensures, c.from-4.ensures, c.from-5.ensures) (field_sets c.args.weight c.args.values c.args.value c.args.octet c.requires.weight c.requires.value)
