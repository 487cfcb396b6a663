use Rattle.std.proofs.Common.{◌≡◌, ◌-◌, ◌≤◌, length, true}
use Rattle.domain_compress.specs.Hashes.{StayKnown}
use Rattle.domain_compress.specs.Written.{all_remembered}
use Rattle.domain_compress.proofs.Remembering.{Remembered}
use Rattle.domain_compress.proofs.remember.remember_each.Given as goal

abbrev pub invariant-labels : goal.invariant-labels
invariant-labels l = record {
  done : Remembered (all_remembered l.initial.written.items) (all_remembered l.written.items) l.labels l.start l.end l.at;
  known : l.hashed ≡ true → StayKnown l.labels l.start l.end l.initial.written.items l.written.items;
  grown : length l.initial.written.items ≤ length l.written.items;
  few : length (all_remembered l.written.items) ≤ 128;
}

abbrev pub decreases-labels : goal.decreases-labels
decreases-labels l = length l.labels - l.at
