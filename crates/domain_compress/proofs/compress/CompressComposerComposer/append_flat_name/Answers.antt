use Rattle.std.proofs.Common.{List, ◌∙◌, ap, sym, subst, take, append-nil}
use Rattle.std.proofs.lemmas.List.{take_all}
use Rattle.domain_compress.specs.Beginnings.{PointerWritten}
use Rattle.domain_compress.specs.Forgetting.{few_remembered}
use Rattle.domain_compress.specs.declared.written.Written.{Written}
use Rattle.domain_compress.specs.Written.{all_remembered}
use Rattle.domain_compress.proofs.Composing.{adds_pointer}
use Rattle.domain_compress.proofs.compress.CompressComposerComposer.append_flat_name.Goals as goal

pub returns-in-Ok-clause-appends : goal.returns-in-Ok-clause-appends
returns-in-Ok-clause-appends g c =
    let s = c.args.self.now in
    let ws = all_remembered s.written.items in
    let P : List Written → Type 0 = λ vs. PointerWritten (g.T.Octets.octets s.target) (all_remembered vs) c.args.name.now 0 (g.T.Octets.octets c.append_again.new.target) in
    let written = subst P c.as_slice-in-Some.ensures.value c.in-Ok.ensures.ok in
    adds_pointer _ ws ws c.args.name.now 0 _ written (sym (ap (take 128) (append-nil ws) ∙ take_all 128 ws (few_remembered s.written.items s.few)))
