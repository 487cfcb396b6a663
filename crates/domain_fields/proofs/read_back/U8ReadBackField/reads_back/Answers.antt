use Rattle.std.proofs.Common.{◌≡◌, arith, refl}
use Rattle.std.specs.Int.{w8, from_be_bytes, to_be_bytes}
use Rattle.domain_fields.specs.ReadBack.{fixed_read_back}
use Rattle.domain_fields.proofs.read_back.U8ReadBackField.reads_back.Goals as goal

pub returns : goal.returns
returns c = fixed_read_back 1 (from_be_bytes w8) (to_be_bytes w8 c.args.self.now) (λ seen. seen ≡ c.args.self.now) refl (omega arith)
