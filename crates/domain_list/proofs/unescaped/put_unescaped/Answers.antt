use Rattle.std.proofs.Common.{◌≡◌, ◌∙◌, ℕ, List, take, length, ap, subst}
use Rattle.std.specs.Prelude.{◌==◌}
use Rattle.std.specs.List.{AllByRecursion, count_by}
use Rattle.domain_label.specs.Wire.{wire}
use Rattle.domain_list.specs.Dotted.{dotted, IsShown}
use Rattle.domain_list.proofs.DottedText.{text_of}
use Rattle.domain_list.proofs.unescaped.put_unescaped.Goals as goal

pub returns-clause-text : goal.returns-clause-text
returns-clause-text g c =
    let ls : List (List ℕ) = g.N.NameLabels.labels c.args.name.now in
    let o : List ℕ = c.put_dots-labels.new.octets in
    let made : take c.put_name-len.result o ≡ dotted ls = ap (λ (k : ℕ). take k o) c.put_name-len.ensures.size ∙ subst (λ (r : List (List ℕ)). take (length (wire r)) o ≡ dotted r) c.iter_labels.ensures c.put_dots-labels.ensures.dots in
    let shown : AllByRecursion IsShown (dotted ls) = subst (λ (s : List ℕ). AllByRecursion IsShown s) made (c.has_dots.ensures.shown c.if-not-has_dots.false) in
    let count : count_by (λ x. x == 46) (dotted ls) ≡ length ls = subst (λ (s : List ℕ). count_by (λ x. x == 46) s ≡ c.put_dots-labels.result) made (c.has_dots.ensures.count c.if-not-has_dots.false) ∙ c.put_dots-labels.ensures.count ∙ ap length c.iter_labels.ensures in
    made ∙ text_of ls (g.met.N.Absolute.absolute c.args.name.now).0 shown count
