-- What contracts see of the counts of a header.
use Rattle.std.specs.Prelude.{◌≡◌, ℕ, ◌≤◌, List, length}
use Rattle.domain_header.specs.declared.counts.HeaderCounts.{HeaderCounts}
use Rattle.domain_header.specs.Headers.{question_count, answer_count, authority_count, additional_count}
use Rattle.domain_header.specs.Numbers.{number16}

-- The header is there, and these are its four counts (RFC 1035, 4.1.1).
pub record IsCounted (m : List ℕ) (counts : HeaderCounts) : Type 0 where
  pub header : 12 ≤ length m
  pub questions : question_count counts ≡ number16 m 4
  pub answers : answer_count counts ≡ number16 m 6
  pub authority : authority_count counts ≡ number16 m 8
  pub additional : additional_count counts ≡ number16 m 10
