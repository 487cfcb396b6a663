use Rattle.domain_make.proofs.remark.with_flags.Goals as goal

pub returns : goal.returns
returns c = record {
  headers = (c.set_qr.new.self, c.set_aa.new.self, c.set_tc.new.self, c.set_rd.new.self, c.set_ra.new.self, c.set_ad.new.self, c.set_cd.new.self);
  qr = c.set_qr.ensures;
  aa = c.set_aa.ensures;
  tc = c.set_tc.ensures;
  rd = c.set_rd.ensures;
  ra = c.set_ra.ensures;
  ad = c.set_ad.ensures;
  cd = c.set_cd.ensures;
  z = c.set_z.ensures;
}
