use Rattle.domain_strings.specs.TagLaws.{tag_read_back}
use Rattle.domain_strings.specs.TagViews.{tag_octets}
use Rattle.domain_strings.proofs.tag.TagReadBackField.reads_back.Goals as goal

pub returns : goal.returns
returns g c =
    let it = c.args.self.now in
    tag_read_back (tag_octets {g = g.Octs.Octets} it) it.string.short (it.some, it.letters)
