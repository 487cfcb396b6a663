use Rattle.std.proofs.Common.{◌≡◌, arith, refl}
use Rattle.std.specs.Int.{w32, from_be_bytes, to_be_bytes}
use Rattle.std.proofs.lemmas.Nat.{from_be_bytes-to_be_bytes_4}
use Rattle.domain_fields.specs.ReadBack.{fixed_read_back}
use Rattle.domain_fields.proofs.read_back.U32ReadBackField.reads_back.Goals as goal

pub returns : goal.returns
returns c = fixed_read_back 4 (from_be_bytes w32) (to_be_bytes w32 c.args.self.now) (λ seen. seen ≡ c.args.self.now) refl (from_be_bytes-to_be_bytes_4 c.args.self.now (omega arith))
