-- What taking entry after entry puts together.
use Rattle.std.proofs.Common.{◌≡◌, ◌≤◌, ◌<◌, ◌*◌, ◌↔◌, ◌∙◌, ◌++◌, ℕ, suc, Bool, true, false, List, [], length, IsTrue, inl, inr, refl, sym, subst, arith, length-append}
use Rattle.std.proofs.lemmas.Bool.{false≢true}
use Rattle.std.proofs.Math.Nat.{lt_of_not-le}
use Rattle.domain_label.specs.Wire.{wire}
use Rattle.domain_reading.specs.Grammar.{Names, EncodingEnds}
use Rattle.domain_reading.specs.Faults.{Skips}
use Rattle.domain_reading.proofs.OneEncoding.{front_once, names_skips}
use Rattle.domain_buffer.specs.Puts.{PutsAt}
use Rattle.domain_header.specs.Numbers.{number16}
use Rattle.domain_buffer.specs.Entries.{HasParts, LacksParts}
use Rattle.domain_buffer.specs.Rows.{entry_count, row, PartsAt, NoPartsAt, Tabled, AddsRow, HoldsRows}
use Rattle.domain_buffer.specs.Rows.Tabled.{header, entry}
use Rattle.domain_buffer.specs.declared.entry.Parts.{Parts}
use Rattle.domain_buffer.specs.declared.rows.Taken.{Taken}
use Rattle.domain_buffer.proofs.Puts.{puts_both, puts_size}

-- A name that is read is skipped, to where its encoding ends.
pub read_skips : (k : ℕ) (m : List ℕ) (p e : ℕ) (ls : List (List ℕ)) → Names k m p ls → EncodingEnds m p e → Skips m p e
read_skips k m p e ls name ends =
    let s = names_skips name in
    subst (λ e. Skips m p e) (sym (front_once ends.2 s.1.front).2) s.1

-- What a test that failed says.
not_less : (b : Bool) (n q : ℕ) → b ≡ false → (n < q → IsTrue b) → q ≤ n
not_less b n q is so =
    let past : q < suc n = lt_of_not-le (λ less. false≢true (sym is ∙ so less)) in
    omega (arith, past)

-- What follows the name is that of the next entry.
pub parts_here : (m : List ℕ) (n p after : ℕ) (b : Bool) (it : Parts) → Skips m p after → IsTrue b ↔ (n < number16 m 4) → HasParts m b after it → PartsAt m n p it
parts_here m n p after true it s kind h = inl (kind.0 refl, record { after = after; name = s; parts = h })
parts_here m n p after false it s kind h = inr (not_less false n (number16 m 4) refl kind.1, record { after = after; name = s; parts = h })

-- It is missing, so the next entry isn't there.
pub no_parts_here : (m : List ℕ) (n p after : ℕ) (b : Bool) → Skips m p after → IsTrue b ↔ (n < number16 m 4) → LacksParts m b after → NoPartsAt m n p
no_parts_here m n p after true s kind h = inl (kind.0 refl, after, s, h)
no_parts_here m n p after false s kind h = inr (not_less false n (number16 m 4) refl kind.1, after, s, h)

-- A table has eight numbers for each entry.
pub tabled_size : {k : ℕ} {m : List ℕ} {n p : ℕ} {rows names : List ℕ} → Tabled k m n rows names p → length rows ≡ 8 * n
tabled_size (header whole) = refl
tabled_size (entry {rows = rows} {names} {ls} {it} before few name parts) =
    omega (arith, tabled_size before, length-append rows (row (length names) (length (wire ls)) it))

-- Nothing was put yet.
pub holds_none : (k : ℕ) (m r n : List ℕ) → 12 ≤ length m → HoldsRows k m 0 12 0 r r n n
holds_none k m r n whole = record { numbers = []; octets = []; tabled = header whole; size = refl; rows_put = refl; names_put = refl }

-- One more entry was put.
pub holds_one_more : {k : ℕ} {m : List ℕ} {old new : Taken} {r0 r r' n0 n n' : List ℕ} → old.count < entry_count m → length r ≡ length r0 → length n ≡ length n0 → HoldsRows k m old.count old.offset old.names r0 r n0 n → AddsRow k m old r r' n n' new → HoldsRows k m new.count new.offset new.names r0 r' n0 n'
holds_one_more {k} {m} {old} {new} {r0} {r} {r'} {n0} {n} {n'} few same_rows same_names h t =
    let many = tabled_size h.tabled in
    let name = wire t.labels in
    let numbers = row (length h.octets) (length name) t.parts in
    let row_put = subst (λ at. PutsAt (8 * old.count) (row at (length name) t.parts) r r') h.size t.row_put in
    record {
      numbers = h.numbers ++ numbers;
      octets = h.octets ++ name;
      tabled = subst (λ n. Tabled k m n (h.numbers ++ numbers) (h.octets ++ name) new.offset) (omega (arith, t.count))
          (subst (λ e. Tabled k m (suc old.count) (h.numbers ++ numbers) (h.octets ++ name) e) (sym t.offset) (entry h.tabled few t.name t.parts_at));
      size = omega (arith, t.len, h.size, length-append h.octets name);
      rows_put = puts_both 0 (8 * old.count) h.numbers numbers r0 r r' (omega (arith, many)) (omega (arith, many, same_rows, t.row_fits)) h.rows_put row_put;
      names_put = puts_both 0 old.names h.octets name n0 n n' (omega (arith, h.size)) (omega (arith, h.size, same_names, t.name_fits)) h.names_put t.name_put;
    }

-- Rows and names keep their sizes.
pub takes_sizes : {k : ℕ} {m : List ℕ} {old new : Taken} {r r' n n' : List ℕ} → AddsRow k m old r r' n n' new → (length r' ≡ length r) × (length n' ≡ length n)
takes_sizes {k} {m} {old} {new} {r} {r'} {n} {n'} t = (
  puts_size (8 * old.count) (row old.names (length (wire t.labels)) t.parts) r r' t.row_fits t.row_put,
  puts_size old.names (wire t.labels) n n' t.name_fits t.name_put,
)
