use Rattle.std.proofs.Common.{rules}
use Rattle.domain_strings.specs.Tags.NoTag.{no_tag}
use Rattle.domain_strings.proofs.tag.TagRefSliceU8ReadFieldParseError.read_field.Goals as goal

pub returns-in_default-clause-err : goal.returns-in_default-clause-err
returns-in_default-clause-err c = no_tag _ _ c.in-Ok.ensures.ok (search rules) c.form_error.ensures
