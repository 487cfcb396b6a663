-- What is written for a name is read as well after more octets: a pointer leads before them.
use Rattle.std.proofs.Common.{◌≡◌, ℕ, ◌+◌, ◌≤◌, inl, inr, List, [], ◌∷◌, ◌++◌, length, sym, subst, arith, length-append, true}
use Rattle.std.proofs.lemmas.Bool.{cases_lt, true≢false}
use Rattle.domain_label.specs.Wire.{wire, IsAbsolute, IsRelative, IsAbsoluteName}
use Rattle.domain_reading.specs.Grammar.{Encoding}
use Rattle.domain_reading.specs.Grammar.Stop.{pointer as stop_pointer}
use Rattle.domain_reading.proofs.Reading.{reads_more}
use Rattle.domain_rdata.specs.ReadBack.{StandsAt, ReadsBack}
use Rattle.domain_rdata.specs.RecordData.{NameOctets}
use Rattle.domain_rdata.specs.FlatNames.{wire_reads_back}
use Rattle.domain_compress.specs.Compressing.{RememberedLabel, pointer_to, FirstRemembered, LongestSuffix, IsRead, Compresses}
use Rattle.domain_compress.specs.Compressing.Compresses.{pointer, flat, unread}
use Rattle.domain_compress.specs.Pointed.{flat_plain, pointer_after, begins_relative, compressed_reads_back}
use Rattle.domain_compress.specs.Written.{StandsThrough}
use Rattle.domain_compress.proofs.Pointing.{pointed_read, pointed_unread}

-- what stands at the first of the offsets
first_stands : (t : List ℕ) (ws : List RememberedLabel) (b : List (List ℕ)) (p : ℕ) → FirstRemembered t ws b p → StandsAt t p b
first_stands t [] b p first = absurd first
first_stands t (w ∷ ws) b p first = elim first [
  | inl here ↦ subst (λ q. StandsAt t q b) (sym here.1) here.0
  | inr later ↦ first_stands t ws b p later.1
]

-- one pointer more leads along it, here and after more octets
read_later : (t more : List ℕ) (ls a b : List (List ℕ)) (p : ℕ) → IsAbsoluteName ls → ls ≡ a ++ b → IsRelative a → StandsAt t p b → IsRead t ls a p → IsRead (t ++ more) ls a p
read_later t more ls a b p name parts rel s read =
    let here : StandsThrough t p b s.1.pointers = record { labels = s.0; reads = s.1.reads; same = s.2; few = s.1.few_pointers } in
    let there : StandsThrough (t ++ more) p b s.1.pointers = record { labels = s.0; reads = reads_more more s.1.reads; same = s.2; few = s.1.few_pointers } in
    elim (cases_lt s.1.pointers 255) [
      | inl less ↦ pointed_read (t ++ more) ls a b p s.1.pointers name parts rel there less
      | inr all ↦ absurd (pointed_unread t ls a b p s.1.pointers rel here (omega (arith, all, s.1.few_pointers)) read)
    ]

pointed_later : (t more : List ℕ) (ws : List RememberedLabel) (ls a b : List (List ℕ)) (p : ℕ) → IsAbsoluteName ls → LongestSuffix t ws ls a b p → IsRead t ls a p → length (wire a ++ pointer_to p) ≤ length (wire ls) → ReadsBack (t ++ more) ls (wire a ++ pointer_to p)
pointed_later t more ws ls a b p name found read short =
    let rel : IsRelative a = begins_relative a b (subst IsAbsolute found.parts name.0) (omega (arith, found.more)) in
    let u = t ++ more in
    let s = wire a ++ pointer_to p in
    let front : Encoding (u ++ s) (length u) a (stop_pointer p) (length u + length s) = record { stop = length u + length (wire a); run = flat_plain a u (pointer_to p) rel; ends = (pointer_after u a p, omega (arith, length-append (wire a) (pointer_to p))) } in
    record {
      short = short;
      stands = read_later t more ls a b p name found.parts rel (first_stands t ws b p found.offset) read;
      ends = (a, stop_pointer p, front);
    }

reads_back_later : (t more : List ℕ) (ws : List RememberedLabel) (ls w : List (List ℕ)) (s : List ℕ) → IsAbsoluteName ls → Compresses t ws ls w s → ReadsBack (t ++ more) ls s
reads_back_later t more ws ls w s name (pointer {a} {b} {p} found read) =
    pointed_later t more ws ls a b p name found read (compressed_reads_back t ws ls a (wire a ++ pointer_to p) name (pointer found read)).short
reads_back_later t more ws ls w s name (flat none) = wire_reads_back (t ++ more) ls name
reads_back_later t more ws ls w s name (unread found unreadable) = wire_reads_back (t ++ more) ls name

pub name_octets_later : (t more : List ℕ) (ws : List RememberedLabel) (ls w : List (List ℕ)) (s : List ℕ) → IsAbsoluteName ls → Compresses t ws ls w s → NameOctets ls true (t ++ more) s
name_octets_later t more ws ls w s name compresses = record {
  read = reads_back_later t more ws ls w s name compresses;
  flat = λ h. absurd (true≢false h);
}
