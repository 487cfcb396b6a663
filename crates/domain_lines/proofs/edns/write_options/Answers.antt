use Rattle.std.proofs.Common.{rules, refl}
use Rattle.domain_lines.proofs.Entries.{listed_more, listed_cut, listed_all}
use Rattle.domain_lines.proofs.edns.write_options.Goals as goal

pub returns-in_default-clause-written : goal.returns-in_default-clause-written
returns-in_default-clause-written g c =
    listed_cut g.W.Sink.takes g.met.W.Sink.joined c.args.octets.now c.loop-rest.rest.now c.args.output.now c.loop-rest.output c.put_line.new.self c.is_empty.result c.loop-rest.invariant c.is_empty.ensures (search rules) (c.in_default.ensures.none refl) c.in_ok-put_line.ensures.taken

pub loop-rest-preserved : goal.loop-rest-preserved
loop-rest-preserved g c =
    let option = c.in-Some.option in
    listed_more g.W.Sink.takes g.met.W.Sink.joined c.args.octets.now c.loop-rest.rest.now c.in-Some.after.now option.«data».now option.code c.args.output.now c.loop-rest.output c.put_line-in-loop-rest.new.self c.loop-rest.invariant c.in-Some.ensures.some c.in_ok-put_line-2.ensures.taken

pub returns-clause-written : goal.returns-clause-written
returns-clause-written g c =
    listed_all g.W.Sink.takes g.met.W.Sink.joined c.args.octets.now c.loop-rest.rest.now c.args.output.now c.loop-rest.output c.is_empty.result c.loop-rest.invariant c.is_empty.ensures (search rules)
