use Rattle.std.proofs.Common.{refl, ap, length, arith}
use Rattle.domain_compress.proofs.Inside.{entry_left, entry_cut}
use Rattle.domain_compress.proofs.LabelHashes.{known_first, known_rest, known_kept}
use Rattle.domain_compress.proofs.remember.forget_each.Goals as goal

pub offsets-preserved-then-from-len : goal.offsets-preserved-then-from-len
offsets-preserved-then-from-len c =
    let kept = c.offsets.invariant in
    let is = c.in-Some.ensures.cases.0 in
    record {
      all = entry_cut _ _ _ _ _ _ kept.all is (omega arith);
      known = kept.known;
      rest_known = λ old. known_rest _ _ _ _ _ is (kept.rest_known old);
      few = omega (arith, kept.few, ap length is);
      fewer = omega (arith, kept.fewer, ap length is);
    }

pub offsets-preserved : goal.offsets-preserved
offsets-preserved c =
    let kept = c.offsets.invariant in
    let is = c.in-Some.ensures.cases.0 in
    record {
      all = entry_left _ _ _ _ _ _ _ _ kept.all is (omega arith) refl c.push.ensures.items;
      known = λ old. known_kept _ _ _ _ _ _ _ (kept.known old) (c.hash_kept-stands.ensures (known_first _ _ _ _ _ is (kept.rest_known old))) (omega arith) c.push.ensures.items;
      rest_known = λ old. known_rest _ _ _ _ _ is (kept.rest_known old);
      few = omega (arith, kept.few, ap length is, c.push.ensures.len);
      fewer = omega (arith, kept.fewer, ap length is, c.push.ensures.len);
    }
