-- Tables of all that a message has: a row of numbers for each question and record, and their names (RFC 1035, 4.1).
-- `m` is the message: the list of its octets.
use Rattle.std.specs.Prelude.{◌≡◌, ℕ, ◌^◌, ◌≤◌, ◌<◌, List, length, Option}
use Rattle.domain_buffer.specs.Rows.{HoldsRows, Stops}
use Rattle.domain_buffer.specs.declared.rows.RowFault.{RowFault}
use Rattle.dnsnames_c.specs.Status.{table_number}

-- The table of the message was written, as far as its entries are there and fit.
pub data Tables (k : ℕ) (m : List ℕ) (status : ℕ) (old_rows rows old_names names : List ℕ)
    (count len : ℕ) : Type 0 where
  no_header : length m < 12 → status ≡ 1 → count ≡ 0 → len ≡ 0 → rows ≡ old_rows → names ≡ old_names
      → Tables k m status old_rows rows old_names names count len
  too_long : 2 ^ 32 ≤ length m → status ≡ 8 → count ≡ 0 → len ≡ 0 → rows ≡ old_rows
      → names ≡ old_names → Tables k m status old_rows rows old_names names count len
  entries : {p : ℕ} {told : Option RowFault} → 12 ≤ length m → length m < 2 ^ 32
      → HoldsRows k m count p len old_rows rows old_names names
      → Stops k m count p (length old_rows) len (length old_names) told
      → status ≡ table_number told
      → Tables k m status old_rows rows old_names names count len
