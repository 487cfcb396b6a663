use Rattle.std.proofs.Common.{◌∙◌, arith}
use Rattle.domain_stream.proofs.Cutting.{field_of_two, field_of_few}
use Rattle.domain_stream.proofs.messages.read_length.Goals as goal

pub returns-then-octets-lt2 : goal.returns-then-octets-lt2
returns-then-octets-lt2 c = field_of_few c.args.octets.now (omega arith)

pub returns : goal.returns
returns c = c.from_be_bytes.ensures ∙ field_of_two c.args.octets.now (omega arith)
