-- How contracts describe a chain.
use Rattle.domain_list.specs.declared.chain.Chain.{Chain}
use Rattle.domain_list.specs.declared.labels.NameLabels.{Ghosts}

-- the name that comes first, and the one after it
abbrev pub left_part : {L : Type 0} {R : Type 0} {l : Ghosts L} {r : Ghosts R} → Chain L R l r → L
left_part c = c.left

-- the name that comes after it
abbrev pub right_part : {L : Type 0} {R : Type 0} {l : Ghosts L} {r : Ghosts R} → Chain L R l r → R
right_part c = c.right
