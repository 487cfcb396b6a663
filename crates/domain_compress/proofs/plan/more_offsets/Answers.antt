use Rattle.std.proofs.Common.{ap, ◌∙◌}
use Rattle.domain_compress.specs.Planned.{offsets}
use Rattle.domain_compress.specs.Written.{all_remembered}
use Rattle.domain_compress.proofs.Planning.{offsets_more}
use Rattle.domain_compress.proofs.plan.more_offsets.Goals as goal

pub returns : goal.returns
returns c =
    c.offsets_of.ensures ∙ (ap (λ ws. offsets (all_remembered ws)) c.as_slice.ensures.value ∙ (ap offsets c.remember.ensures.offsets ∙ offsets_more _ _ _ c.written_at-written.ensures))
