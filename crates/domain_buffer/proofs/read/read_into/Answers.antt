use Rattle.std.proofs.Common.{◌≡◌, ◌≤◌, [], length, arith, sym, ap, inl, ◌∙◌, rules}
use Rattle.domain_reading.specs.Faults.Followed.{start}
use Rattle.octseq.specs.Parsing.{message, position}
use Rattle.domain_buffer.proofs.Contiguous.{contiguous_here}
use Rattle.domain_buffer.proofs.read.read_into.Goals as goal

pub returns-then-is_err-clause-fault : goal.returns-then-is_err-clause-fault
returns-then-is_err-clause-fault c =
    let short = c.seek.ensures.short.0 (sym c.is_err.ensures.value ∙ c.if-is_err.true) in
    let past : length c.args.message.now ≤ c.args.offset = omega (arith, short, ap length c.from_ref-parser.ensures.message) in
    record { pointers = 0; passed = []; stopped = c.args.offset; walk = start; at = inl past }

pub returns-in-Ok-clause-compressed : goal.returns-in-Ok-clause-compressed
returns-in-Ok-clause-compressed c =
    let parser = c.seek.new.self in
    let same : message parser ≡ c.args.message.now = search rules in
    let here : position parser ≡ c.args.offset = search rules in
    contiguous_here c.args.message.now (message parser) c.args.offset (position parser) c.is_compressed.result _ same here c.is_compressed.ensures c.in-Ok.ensures.ok.is_compressed
