use Rattle.std.proofs.Common.{◌≡◌, ◌+◌, ◌∷◌, length, get_or, take, drop, sym, ap, subst, subst₂, arith, add-one, drop-cons, length-drop}
use Rattle.std.proofs.Math.ListN.{drop_of_length-le}
use Rattle.std.proofs.lemmas.List.Sums.{sum_by-drop_more}
use Rattle.domain_buffer.specs.Builders.{headed_by, IsUsable}
use Rattle.domain_buffer.specs.Rrsets.{pieces, SameMessage}
use Rattle.domain_buffer.proofs.Rrsets.{Pushing, pushing_none, pushing_more, pushing_refused, pushing_all}
use Rattle.domain_buffer.proofs.rrset.push_each.Goals as goal

pub loop-size-init : goal.loop-size-init
loop-size-init c = record {
  so = pushing_none c.args.section c.args.owner.now (headed_by c.args.owner.now c.args.head) c.args.lens.now c.args.data.now c.args.octets.now c.args.builder.now c.requires.usable;
  left = c.requires.lens;
}

pub loop-size-preserved : goal.loop-size-preserved
loop-size-preserved c =
    let lens = c.args.lens.now in
    let i = c.loop-size.size-index in
    let n = get_or lens i 0 in
    let rest = c.loop-size.rest.now in
    let after = c.split_at.result.1.now in
    let head = headed_by c.args.owner.now c.args.head in
    let datas = pieces lens c.args.data.now in
    let cons : drop i lens ≡ n ∷ drop (i + 1) lens = rw add-one (drop-cons lens i 0 c.loop-size-test.true) in
    let so = subst (λ ls. Pushing c.args.section c.args.owner.now head datas ls rest c.args.octets.now c.args.builder.now c.loop-size.octets c.loop-size.builder) cons c.loop-size.invariant.so in
    let front : c.split_at.result.0.now ≡ take n rest = subst (λ k. c.split_at.result.0.now ≡ take k rest) c.from.ensures c.split_at.ensures.front in
    let back : after ≡ drop n rest = subst (λ k. after ≡ drop k rest) c.from.ensures c.split_at.ensures.back in
    record {
      so = pushing_more c.args.section c.args.owner.now head datas n (drop (i + 1) lens) rest c.split_at.result.0.now after c.args.octets.now c.args.builder.now c.loop-size.octets c.loop-size.builder c.push_any.new.octets c.push_any.new.builder so front back c.in_default.ensures.ok;
      left = omega (arith, sum_by-drop_more (λ x. x) lens i 0 c.loop-size-test.true, c.loop-size.invariant.left, ap length back, length-drop n rest);
    }

pub returns-in-Err-clause-err : goal.returns-in-Err-clause-err
returns-in-Err-clause-err c =
    let lens = c.args.lens.now in
    let i = c.loop-size.size-index in
    let n = get_or lens i 0 in
    let rest = c.loop-size.rest.now in
    let head = headed_by c.args.owner.now c.args.head in
    let datas = pieces lens c.args.data.now in
    let cons : drop i lens ≡ n ∷ drop (i + 1) lens = rw add-one (drop-cons lens i 0 c.loop-size-test.true) in
    let so = subst (λ ls. Pushing c.args.section c.args.owner.now head datas ls rest c.args.octets.now c.args.builder.now c.loop-size.octets c.loop-size.builder) cons c.loop-size.invariant.so in
    let front : c.split_at.result.0.now ≡ take n rest = subst (λ k. c.split_at.result.0.now ≡ take k rest) c.from.ensures c.split_at.ensures.front in
    pushing_refused c.args.section c.args.owner.now head datas n (drop (i + 1) lens) rest c.split_at.result.0.now c.args.octets.now c.args.builder.now c.loop-size.octets c.loop-size.builder c.in-Err.fault so front c.in-Err.ensures.err

pub returns-in-Err-clause-usable : goal.returns-in-Err-clause-usable
returns-in-Err-clause-usable c = subst₂ (λ o b. IsUsable o b) (sym c.in-Err.ensures.unchanged.0) (sym c.in-Err.ensures.unchanged.1) c.loop-size.invariant.so.leaves.usable

pub returns-in-Err-clause-same : goal.returns-in-Err-clause-same
returns-in-Err-clause-same c = subst (λ o. SameMessage c.args.octets.now c.args.builder.now o) (sym c.in-Err.ensures.unchanged.0) c.loop-size.invariant.so.leaves.same

pub returns-clause-ok : goal.returns-clause-ok
returns-clause-ok c =
    pushing_all c.args.section c.args.owner.now (headed_by c.args.owner.now c.args.head) (pieces c.args.lens.now c.args.data.now) (drop c.loop-size.size-index c.args.lens.now) c.loop-size.rest.now c.args.octets.now c.args.builder.now c.loop-size.octets c.loop-size.builder c.loop-size.invariant.so (drop_of_length-le _ c.loop-size-test.false)

pub returns-clause-usable : goal.returns-clause-usable
returns-clause-usable c = c.loop-size.invariant.so.leaves.usable

pub returns-clause-same : goal.returns-clause-same
returns-clause-same c = c.loop-size.invariant.so.leaves.same
