use Rattle.std.proofs.Common.{List, ℕ, subst}
use Rattle.domain_strings.specs.CharStrings.{counted}
use Rattle.domain_strings.proofs.char_string.CharStringDataField.compose_field.Goals as goal

pub returns-clause-names : goal.returns-clause-names
returns-clause-names g c =
    let Extends : List ℕ → Type 0 = λ s. g.Target.OctetsBuilder.extends c.args.target.now (counted s) c.append_slice-2.new.self in
    subst Extends c.as_slice-octets.ensures.octets (g.met.Target.OctetsBuilder.joined _ _ _ _ _ c.in_default.ensures.extends c.in_default-append_slice.ensures.extends)
