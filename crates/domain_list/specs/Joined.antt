-- How contracts describe labels that are shown joined by dots.
use Rattle.domain_list.specs.declared.joined.JoinedLabels.{JoinedLabels}

-- what gives the labels that are shown
abbrev pub joined_labels : {I : Type 0} → JoinedLabels I → I
joined_labels shown = shown.labels
