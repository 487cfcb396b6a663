use Rattle.std.proofs.Common.{[], ◌∷◌, arith}
use Rattle.domain_text.specs.BuilderState.{pushed}
use Rattle.domain_text.specs.Buffer.{buffer_view}
use Rattle.domain_text.proofs.Sizes.{take_ok, long_name, long_label}
use Rattle.domain_text.proofs.Buffering.{view_pushed, size_pushed, open_pushed}
use Rattle.domain_text.proofs.buffer.push.Goals as goal

pub returns-then-ends-gt252-clause-err : goal.returns-then-ends-gt252-clause-err
returns-then-ends-gt252-clause-err c =
    let s = size_pushed c.args.octets.now c.args.ends.now.head c.args.ends.now.open_len c.args.c c.requires.inside in
    long_name (pushed (buffer_view c.args.octets.now c.args.ends.now.head c.args.ends.now.open_len) (c.args.c ∷ [])) (omega (arith, s, c.if-ends-gt252.true))

pub returns-then-ends-ge63-clause-err : goal.returns-then-ends-ge63-clause-err
returns-then-ends-ge63-clause-err c =
    let s = size_pushed c.args.octets.now c.args.ends.now.head c.args.ends.now.open_len c.args.c c.requires.inside in
    let l = open_pushed c.args.octets.now c.args.ends.now.head c.args.ends.now.open_len c.args.c c.requires.inside in
    long_label (pushed (buffer_view c.args.octets.now c.args.ends.now.head c.args.ends.now.open_len) (c.args.c ∷ [])) (omega (arith, s, c.if-ends-gt252.false)) (omega (arith, l, c.if-ends-ge63.true))

pub returns-clause-taken : goal.returns-clause-taken
returns-clause-taken c =
    let s = size_pushed c.args.octets.now c.args.ends.now.head c.args.ends.now.open_len c.args.c c.requires.inside in
    let l = open_pushed c.args.octets.now c.args.ends.now.head c.args.ends.now.open_len c.args.c c.requires.inside in
    take_ok (pushed (buffer_view c.args.octets.now c.args.ends.now.head c.args.ends.now.open_len) (c.args.c ∷ [])) (omega (arith, s, c.if-ends-gt252.false)) (omega (arith, l, c.if-ends-ge63.false))

pub returns-clause-made : goal.returns-clause-made
returns-clause-made c = view_pushed c.args.octets.now c.args.ends.now.head c.args.ends.now.open_len c.args.c c.requires.inside c.if-ends-gt252.false
