use Rattle.domain_buffer.proofs.Fronts.{front_of}
use Rattle.domain_buffer.proofs.data.front_len.Goals as goal

pub returns-in-Ok : goal.returns-in-Ok
returns-in-Ok c =
    let found = c.in-Ok.ensures.ok in
    front_of c.args.octets.now c.in-Ok.len found.0 found.1 found.2 found.3 found.4
