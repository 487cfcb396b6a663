use Rattle.std.proofs.Common.{◌≡◌, arith, refl}
use Rattle.std.specs.Int.{w16, from_be_bytes, to_be_bytes}
use Rattle.std.proofs.lemmas.Nat.{from_be_bytes-to_be_bytes_2}
use Rattle.domain_fields.specs.ReadBack.{fixed_read_back}
use Rattle.domain_fields.proofs.read_back.U16ReadBackField.reads_back.Goals as goal

pub returns : goal.returns
returns c = fixed_read_back 2 (from_be_bytes w16) (to_be_bytes w16 c.args.self.now) (λ seen. seen ≡ c.args.self.now) refl (from_be_bytes-to_be_bytes_2 c.args.self.now (omega arith))
