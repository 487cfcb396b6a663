-- What contracts see of a host, and of the iterator over its labels.
use Rattle.std.specs.Prelude.{ℕ, List, [], ◌∷◌, ◌++◌, Option, None, Some}
use Rattle.domain_label.specs.declared.label.Label.{Label}
use Rattle.domain_label.specs.Labels.{label_octets, owned_octets}
use Rattle.domain_name.specs.Names.{name_labels}
use Rattle.examples.specs.declared.hosts.Host.{Host}
use Rattle.examples.specs.declared.host_labels.HostLabels.{HostLabels}

-- the labels of its name
abbrev pub labels_of_host : Host → List (List ℕ)
labels_of_host host = owned_octets host.label ∷ name_labels host.zone

-- one label, or none
abbrev pub first_label_of : Option Label → List (List ℕ)
first_label_of None = []
first_label_of (Some label) = label_octets label ∷ []

-- the labels that the iterator has left, by what the one inside it has left
abbrev pub labels_left_of : {I : Type 0} → (I → List (List ℕ)) → HostLabels I → List (List ℕ)
labels_left_of left labels = first_label_of labels.first ++ left labels.zone
