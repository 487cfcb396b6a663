use Rattle.domain_descriptor.proofs.Whole.{contiguous_here}
use Rattle.domain_descriptor.proofs.value.name_at.Goals as goal

pub returns-in-Ok-clause-is_compressed : goal.returns-in-Ok-clause-is_compressed
returns-in-Ok-clause-is_compressed c =
    contiguous_here _ _ _ _ _ c.with_range-parser.ensures.message c.with_range-parser.ensures.offset c.in-Ok.ensures.is_compressed
