-- A wire format is read as its labels.
use Rattle.std.proofs.Common.{◌≡◌, ℕ, ◌+◌, List, [], ◌++◌, length, refl, sym, subst, arith, append-nil}
use Rattle.domain_label.specs.Wire.{wire, IsAbsoluteName}
use Rattle.domain_reading.proofs.UncompressedIsRead.{plain_names, plain_front}
use Rattle.domain_reading.proofs.Reading.{names_within}
use Rattle.domain_reading.specs.Grammar.{Names, Encoding, root}
use Rattle.domain_rdata.specs.ReadBack.{ReadsBack, Appended}

-- The wire format of an absolute name is read as this name.
pub wire_reads_back : (t : List ℕ) (ls : List (List ℕ)) → IsAbsoluteName ls → ReadsBack t ls (wire ls)
wire_reads_back t ls name =
    let names : Names 0 (t ++ wire ls) (length t) ls = rw (← append-nil (t ++ wire ls)) (plain_names t [] ls name) in
    let front : (fs : List (List ℕ)) × Encoding (t ++ wire ls) (length t) fs root (length t + length (wire ls)) = rw (← append-nil (t ++ wire ls)) (plain_front t [] ls name) in
    record {
      short = omega arith;
      stands = (ls, names_within 255 names (omega arith), refl);
      ends = (front.0, root, front.1);
    }

-- The same of octets that equal the wire format.
pub flat_reads_back : (t : List ℕ) (ls : List (List ℕ)) (s : List ℕ) → IsAbsoluteName ls → s ≡ wire ls → ReadsBack t ls s
flat_reads_back t ls s name e = let P : List ℕ → Type 0 = λ x. ReadsBack t ls x in subst P (sym e) (wire_reads_back t ls name)

-- The wire format after octets is what may be appended where nothing else is.
pub flat_appended : (t u : List ℕ) (ls : List (List ℕ)) → u ≡ t ++ wire ls → Appended (λ s. s ≡ wire ls) t u
flat_appended t u ls all = record { octets = wire ls; allowed = refl; all = all }
