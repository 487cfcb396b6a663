-- Service parameters as text (RFC 9460, 2.1).
use Rattle.std.specs.Prelude.{ℕ, List, [], ◌∷◌, ◌++◌}
use Rattle.std.specs.Fmt.{decimal}
use Rattle.std.specs.List.{flat_map}
use Rattle.domain_label.specs.Text.{text_with_final_dot}
use Rattle.domain_svcb.specs.Values.{value_of_key, either_text}

-- a parameter by its mnemonic, where its value is as its key wants it, or by the number of its key
abbrev pub param_text : ℕ × List ℕ → List ℕ
param_text p = either_text p (value_of_key p.0 p.1)

-- a space, and a parameter
abbrev pub spaced_param : ℕ × List ℕ → List ℕ
spaced_param p = 32 ∷ param_text p

-- parameters with a space between two
abbrev pub params_text : List (ℕ × List ℕ) → List ℕ
params_text [] = []
params_text (p ∷ ps) = param_text p ++ flat_map spaced_param ps

-- the priority, the target name, and each parameter after a space
abbrev pub service_text : ℕ → List (List ℕ) → List (ℕ × List ℕ) → List ℕ
service_text priority target ps = decimal priority ++ (32 ∷ (text_with_final_dot target ++ flat_map spaced_param ps))
