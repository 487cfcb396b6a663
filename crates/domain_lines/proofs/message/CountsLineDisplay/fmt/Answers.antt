use Rattle.domain_lines.proofs.message.CountsLineDisplay.fmt.Goals as goal

pub returns-clause-writes : goal.returns-clause-writes
returns-clause-writes g c plain ok = rw (c.qdcount-questions.ensures, c.ancount-answers.ensures, c.nscount-authority.ensures, c.arcount-additional.ensures) at (c.write.ensures.writes plain ok)
