use Rattle.std.proofs.Common.{◌≡◌, List, ℕ, OnOk, sym, subst, arith}
use Rattle.domain_text.specs.BuilderState.{labelled, size}
use Rattle.domain_builder.specs.Inside.{room}
use Rattle.domain_builder.specs.Pushing.{NameAlone}
use Rattle.domain_builder.proofs.Digits.{one_digit, two_digits, three_digits, name_alone}
use Rattle.domain_builder.proofs.labels.LabelsBuilder.append_dec_u8_label.Goals as goal

pub returns-then-value-lt10-clause-made : goal.returns-then-value-lt10-clause-made
returns-then-value-lt10-clause-made g c = subst (λ (s : List ℕ). OnOk c.append_label.result (c.append_label.new.self.built ≡ labelled c.args.self.now.built s)) (sym (one_digit c.args.value c.if-value-lt10.true)) c.append_label.ensures.made

pub returns-then-value-lt10-clause-answer : goal.returns-then-value-lt10-clause-answer
returns-then-value-lt10-clause-answer g c = subst (λ (s : List ℕ). NameAlone (size (labelled c.args.self.now.built s)) (room g.B.Octets.limit c.append_label.new.self) c.append_label.result) (sym (one_digit c.args.value c.if-value-lt10.true)) (name_alone _ _ _ c.append_label.result (omega arith) c.append_label.ensures.answer)

pub returns-then-value-lt100-clause-made : goal.returns-then-value-lt100-clause-made
returns-then-value-lt100-clause-made g c = subst (λ (s : List ℕ). OnOk c.append_label-then-value-lt100.result (c.append_label-then-value-lt100.new.self.built ≡ labelled c.args.self.now.built s)) (sym (two_digits c.args.value c.if-value-lt10.false c.if-value-lt100.true)) c.append_label-then-value-lt100.ensures.made

pub returns-then-value-lt100-clause-answer : goal.returns-then-value-lt100-clause-answer
returns-then-value-lt100-clause-answer g c = subst (λ (s : List ℕ). NameAlone (size (labelled c.args.self.now.built s)) (room g.B.Octets.limit c.append_label-then-value-lt100.new.self) c.append_label-then-value-lt100.result) (sym (two_digits c.args.value c.if-value-lt10.false c.if-value-lt100.true)) (name_alone _ _ _ c.append_label-then-value-lt100.result (omega arith) c.append_label-then-value-lt100.ensures.answer)

pub returns-clause-made : goal.returns-clause-made
returns-clause-made g c = subst (λ (s : List ℕ). OnOk c.append_label-2.result (c.append_label-2.new.self.built ≡ labelled c.args.self.now.built s)) (sym (three_digits c.args.value c.if-value-lt100.false c.ranges.value.fits)) c.append_label-2.ensures.made

pub returns-clause-answer : goal.returns-clause-answer
returns-clause-answer g c = subst (λ (s : List ℕ). NameAlone (size (labelled c.args.self.now.built s)) (room g.B.Octets.limit c.append_label-2.new.self) c.append_label-2.result) (sym (three_digits c.args.value c.if-value-lt100.false c.ranges.value.fits)) (name_alone _ _ _ c.append_label-2.result (omega arith) c.append_label-2.ensures.answer)
