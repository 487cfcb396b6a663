use Rattle.std.proofs.Common.{◌∙◌, ap, subst, sym, arith}
use Rattle.std.proofs.lemmas.List.{length-take-le}
use Rattle.domain_message_builder.proofs.Marking.{mark_stays_there, mark_inside}
use Rattle.domain_message_builder.specs.Views.{state_of, target_of}
use Rattle.domain_message_builder.proofs.marked_builder.MarkedBuilder.rewind.Goals as goal

pub invariant_of-self : goal.invariant_of-self
invariant_of-self g c = record {
  inside = mark_inside c.args.self.now.mark (state_of g.Target.Octets.octets c.args.self.now.builder) (state_of g.Target.Octets.octets c.cut_back.new.self) c.args.self.now.inside c.cut_back.ensures.state;
  ordered = c.args.self.now.ordered;
}

pub returns-clause-memory : goal.returns-clause-memory
returns-clause-memory g c = g.met.Target.Composer.cut_keeps _ _ c.args.self.now.mark.len c.cut_back.ensures.cut

pub returns-clause-marked : goal.returns-clause-marked
returns-clause-marked g c = mark_stays_there c.args.self.now.mark (state_of g.Target.Octets.octets c.args.self.now.builder) (state_of g.Target.Octets.octets c.cut_back.new.self) c.cut_back.ensures.state

pub returns-clause-marked_memory : goal.returns-clause-marked_memory
returns-clause-marked_memory g c =
    let len = c.args.self.now.mark.len in
    ap (g.Target.Composer.kept_within len) (g.met.Target.Composer.cut_keeps _ _ len c.cut_back.ensures.cut) ∙ g.met.Target.Composer.kept_twice len len _ (omega arith)

pub returns-clause-cut : goal.returns-clause-cut
returns-clause-cut g c =
    let builder = c.args.self.now.builder in
    let octets = g.Target.Octets.octets (target_of builder) in
    let len = c.args.self.now.mark.len in
    subst (λ n. g.Target.Truncate.cuts (target_of builder) n (target_of c.cut_back.new.self)) (sym (length-take-le len octets c.args.self.now.inside)) c.cut_back.ensures.cut
