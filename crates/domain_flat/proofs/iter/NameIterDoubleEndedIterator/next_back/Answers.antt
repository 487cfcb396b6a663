use Rattle.std.proofs.Common.{◌≡◌, ◌-◌, ◌≤◌, ◌++◌, ◌∷◌, [], length, slice_index_or, sym, ap, ◌∙◌, arith}
use Rattle.std.proofs.lemmas.Grind.{common_steps}
use Rattle.domain_label.specs.Wire.{labels_in}
use Rattle.domain_label.specs.Labels.{label_octets}
use Rattle.domain_flat.specs.FlatLabels.{flat_labels_left}
use Rattle.domain_flat.proofs.Starts.{last_told, fewer}
use Rattle.domain_flat.proofs.iter.NameIterDoubleEndedIterator.next_back.Goals as goal

pub split_around-requires : goal.split_around-requires
split_around-requires c =
    let s = c.fill.new.self in
    let some = c.fill.ensures.filled c.if-not-fill.false in
    let last = last_told s.octets.now s.starts s.count s.wire some (omega (arith, s.few, c.fill.ensures.room)) (s.table some) in
    let here : c.from-start.result ≡ slice_index_or s.starts (s.count - 1) 0 = c.from-start.ensures ∙ ap (λ n. slice_index_or s.starts (n - 1) 0) c.from.ensures in
    rw here last.inside

pub invariant_of-self-2 : goal.invariant_of-self-2
invariant_of-self-2 c =
    let s = c.fill.new.self in
    let some = c.fill.ensures.filled c.if-not-fill.false in
    let last = last_told s.octets.now s.starts s.count s.wire some (omega (arith, s.few, c.fill.ensures.room)) (s.table some) in
    let here : c.from-start.result ≡ slice_index_or s.starts (s.count - 1) 0 = c.from-start.ensures ∙ ap (λ n. slice_index_or s.starts (n - 1) 0) c.from.ensures in
    rw (c.split_around.ensures.before, here) record { few = omega (arith, s.few); table = λ _. last.rest; wire = last.last.rest }

pub unwrap-requires-2 : goal.unwrap-requires-2
unwrap-requires-2 c =
    let s = c.fill.new.self in
    let some = c.fill.ensures.filled c.if-not-fill.false in
    let last = last_told s.octets.now s.starts s.count s.wire some (omega (arith, s.few, c.fill.ensures.room)) (s.table some) in
    let here : c.from-start.result ≡ slice_index_or s.starts (s.count - 1) 0 = c.from-start.ensures ∙ ap (λ n. slice_index_or s.starts (n - 1) 0) c.from.ensures in
    let short : length c.split_around.result.1.now ≤ 63 = rw (c.split_around.ensures.after, here) last.last.label in
    grind (arith, common_steps, short, c.from_slice-2.ensures.long)

pub returns-clause-steps : goal.returns-clause-steps
returns-clause-steps c =
    let s = c.fill.new.self in
    let some = c.fill.ensures.filled c.if-not-fill.false in
    let last = last_told s.octets.now s.starts s.count s.wire some (omega (arith, s.few, c.fill.ensures.room)) (s.table some) in
    let here : c.from-start.result ≡ slice_index_or s.starts (s.count - 1) 0 = c.from-start.ensures ∙ ap (λ n. slice_index_or s.starts (n - 1) 0) c.from.ensures in
    let label = rw c.unwrap-2.ensures at c.from_slice-2.ensures.ok in
    ap (λ octets. labels_in octets.now) (sym c.fill.ensures.same) ∙ rw (label, c.split_around.ensures.before, c.split_around.ensures.after, here) last.last.parts

pub returns-clause-goes : goal.returns-clause-goes
returns-clause-goes c =
    let s = c.fill.new.self in
    let some = c.fill.ensures.filled c.if-not-fill.false in
    let last = last_told s.octets.now s.starts s.count s.wire some (omega (arith, s.few, c.fill.ensures.room)) (s.table some) in
    let here : c.from-start.result ≡ slice_index_or s.starts (s.count - 1) 0 = c.from-start.ensures ∙ ap (λ n. slice_index_or s.starts (n - 1) 0) c.from.ensures in
    let label = rw c.unwrap-2.ensures at c.from_slice-2.ensures.ok in
    let remaining = labels_in c.split_around.result.0.now in
    let l = label_octets c.unwrap-2.result in
    let e : flat_labels_left c.args.self.now ≡ remaining ++ l ∷ [] = ap (λ octets. labels_in octets.now) (sym c.fill.ensures.same) ∙ rw (label, c.split_around.ensures.before, c.split_around.ensures.after, here) last.last.parts in
    record { on = λ _. (tt, tt, fewer (flat_labels_left c.args.self.now) remaining l e); keeps = tt; rests = λ _. tt }
