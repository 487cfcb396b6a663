use Rattle.domain_name.proofs.text.NameArrayVecU8FromStr.from_str.Goals as goal

pub returns-in-Ok : goal.returns-in-Ok
returns-in-Ok g c = record {
  ok = rw c.from_wire.ensures c.in-Ok.ensures.text.ok;
  err = tt;
  accepts = λ ls s. rw c.from_wire.ensures (c.in-Ok.ensures.text.accepts ls s);
  exact = c.in-Ok.ensures.text.exact;
}
