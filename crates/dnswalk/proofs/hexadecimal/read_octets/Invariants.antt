use Rattle.std.proofs.Common.{◌≡◌, ℕ, ◌-◌, ◌≤◌, List, ◌++◌, length, take, drop}
use Rattle.dnswalk.specs.Hexadecimal.{IsHexText, IsHexFault, start}
use Rattle.dnswalk.specs.declared.hexadecimal.HexFault.{HexFault}
use Rattle.dnswalk.proofs.hexadecimal.read_octets.Given as goal

abbrev pub invariant-loop-at : goal.invariant-loop-at
invariant-loop-at l = record {
  written : l.count ≤ l.at;
  inside : l.at ≤ length l.text;
  lines : l.line ≤ l.at;
  columns : l.column ≤ l.at;
  rest : drop l.at l.text ≡ drop l.at l.fn.text;
  read : (os : List ℕ) → IsHexText (drop l.at l.fn.text) os → IsHexText l.fn.text (take l.count l.text ++ os);
  fault : (f : HexFault) (line column : ℕ) → IsHexFault (record { line = l.line; column = l.column }) (drop l.at l.fn.text) f line column → IsHexFault start l.fn.text f line column;
}

abbrev pub decreases-loop-at : goal.decreases-loop-at
decreases-loop-at l = length l.text - l.at
