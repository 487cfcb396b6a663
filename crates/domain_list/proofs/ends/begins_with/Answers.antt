use Rattle.std.proofs.Common.{rules, true, false}
use Rattle.std.proofs.lemmas.Bool.Decides.{Decides-at}
use Rattle.domain_list.proofs.Ending.{starts, starts_Decides}
use Rattle.domain_list.proofs.ends.begins_with.Goals as goal

pub returns-in_default : goal.returns-in_default
returns-in_default g c =
    let xs = g.A.LabelIterator.left c.args.a in
    let ys = g.B.LabelIterator.left c.args.b in
    Decides-at true (starts ys xs) (search rules) (starts_Decides ys xs)

pub returns-in_default-next : goal.returns-in_default-next
returns-in_default-next g c =
    let xs = g.A.LabelIterator.left c.args.a in
    let ys = g.B.LabelIterator.left c.args.b in
    Decides-at false (starts ys xs) (search rules) (starts_Decides ys xs)

pub returns-then-ne : goal.returns-then-ne
returns-then-ne g c =
    let xs = g.A.LabelIterator.left c.args.a in
    let ys = g.B.LabelIterator.left c.args.b in
    Decides-at false (starts ys xs) (search rules) (starts_Decides ys xs)
