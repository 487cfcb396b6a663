use Rattle.std.proofs.Common.{◌≡◌, ◌<◌, List, ◌∷◌, length, rules, arith, sym, ap, ◌∙◌, refl}
use Rattle.domain_label.proofs.WalkLemmas.{walk-root, walk-label, walk-pointer, walk-fault}
use Rattle.domain_label.proofs.slice_labels.SliceLabelsIterIterator.next.Goals as goal

pub returns-then-is_root-clause-steps : goal.returns-then-is_root-clause-steps
returns-then-is_root-clause-steps c =
    sym c.loop-self.invariant ∙ walk-root _ _ _ _ _ c.loop-self-test.true c.in-Ok.ensures.ok (search rules)

pub returns-in-Ok-clause-steps : goal.returns-in-Ok-clause-steps
returns-in-Ok-clause-steps c =
    sym c.loop-self.invariant ∙ walk-label _ _ _ _ _ _ c.loop-self-test.true c.in-Ok.ensures.ok (search rules) c.len.ensures

-- one label fewer is left
one-fewer : {A : Type 0} (old new : List A) (x : A) → old ≡ x ∷ new → length new < length old
one-fewer old new x e = omega (arith, ap length e)

pub returns-in-Ok-clause-goes : goal.returns-in-Ok-clause-goes
returns-in-Ok-clause-goes c = record {
  on = λ finite. (search rules, search rules, one-fewer _ _ _ (returns-in-Ok-clause-steps c));
  keeps = search rules;
  rests = search rules;
}

pub loop-self-preserved : goal.loop-self-preserved
loop-self-preserved c =
    sym (walk-pointer _ _ _ _ c.loop-self-test.true (rw c.in-Err-Pointer.field-0-is at c.in-Err-Pointer.ensures.err) (search rules)) ∙ c.loop-self.invariant

pub returns-in-Err-clause-steps : goal.returns-in-Err-clause-steps
returns-in-Err-clause-steps c =
    (sym c.loop-self.invariant ∙ walk-fault _ _ _ _ c.loop-self-test.true c.in-Err.ensures.err (search rules), refl)
