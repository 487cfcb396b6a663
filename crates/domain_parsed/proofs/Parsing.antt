-- From a reading of the parser's message to the name and the parser after it.
use Rattle.std.proofs.Common.{◌≡◌, ℕ, ◌+◌, ◌≤◌, ◌↔◌, List, [], ◌∷◌, ◌++◌, length, refl, sym, subst, arith, ◌∙◌, Bool, true, false, unwrap_or, slice_range, drop, Result, Ok, Err, IsOk, IsErr, IsErrAnd, MatchResult}
use Rattle.std.proofs.lemmas.Grind.{common_steps}
use Rattle.std.proofs.lemmas.List.{take-append-drop}
use Rattle.domain_label.specs.Wire.{wire}
use Rattle.octseq.specs.declared.parse.Parser.{Parser}
use Rattle.octseq.specs.Parsing.{message, position}
use Rattle.domain_reading.specs.Grammar.{OctetAt, PointerAt, Names, LabelRun, Encoding, FirstLabelAt, IsContiguous}
use Rattle.domain_reading.specs.Grammar.Stop.{root as stop_root, pointer as stop_pointer}
use Rattle.domain_reading.specs.Grammar.FirstLabelAt.{here}
use Rattle.domain_wire.specs.Refusals.{refusal}
use Rattle.domain_wire.specs.declared.error.ParseError.{ParseError}
use Rattle.domain_reading.specs.Faults.{NameFaultAt, Skips, SkipFault, error_of}
use Rattle.domain_reading.specs.Offsets.{labels_at_entries}
use Rattle.domain_reading.specs.ParseResult.{NameRead, HoldsName, StandsUncompressed, CountsName, CountsFault}
use Rattle.domain_reading.specs.declared.fault.NameFault.{NameFault}
use Rattle.domain_reading.specs.declared.progress.Progress.{Progress}
use Rattle.domain_reading.proofs.Reading.{names_absolute, names_within, reads_once}
use Rattle.domain_reading.proofs.NameOrFault.{names_or_fault}
use Rattle.domain_reading.proofs.OneEncoding.{front_once, not_in_one_piece, skips_not_both}
use Rattle.domain_reading.proofs.LabelsOfTable.{more_stand}
use Rattle.domain_reading.proofs.UncompressedIsRead.{plain_names, plain_front}

pub ok_not_err : {T E : Type 0} (r : Result T E) → IsErr r → IsOk r → ⊥
ok_not_err (Ok x) e o = cc
ok_not_err (Err x) e o = cc

-- what a refused reading of the parser's message and offset says of the parser
pub no_name : {n : ℕ} {m : List ℕ} {p : ℕ} {e : NameFault} (parser : Parser) → m ≡ message parser → p ≡ position parser → NameFaultAt n m p e → (ls : List (List ℕ)) → Names n (message parser) (position parser) ls → ⊥
no_name {n} {m} {p} {e} parser a b f ls x =
    names_or_fault x (subst (λ p. NameFaultAt n (message parser) p e) b (subst (λ m. NameFaultAt n m p e) a f))

pub no_skip : {m : List ℕ} {p : ℕ} {d : NameFault} (parser : Parser) → m ≡ message parser → p ≡ position parser → SkipFault m p d → (e : ℕ) → Skips (message parser) (position parser) e → ⊥
no_skip {m} {p} {d} parser a b f e x =
    skips_not_both x (subst (λ p. SkipFault (message parser) p d) b (subst (λ m. SkipFault m p d) a f))

pub read_here : {n : ℕ} {m : List ℕ} {p : ℕ} {w : Progress} {t : List ℕ} {before now : ℕ} (parser : Parser) → m ≡ message parser → p ≡ position parser → NameRead n m p w t before now → NameRead n (message parser) (position parser) w t before now
read_here {n} {m} {p} {w} {t} {before} {now} parser a b r =
    subst (λ p. NameRead n (message parser) p w t before now) b (subst (λ m. NameRead n m p w t before now) a r)

-- ---- the name, in all octets of the slice

slice_more : (m u : List ℕ) (a b : ℕ) → b ≤ length m → slice_range (m ++ u) a b ≡ slice_range m a b
slice_more m u a b h = grind (arith, common_steps)

-- what was read in the message stands in octets that go on after it
pub record HeldAs (octets : List ℕ) (w : Progress) (table : List ℕ) (labels : List (List ℕ)) : Type 0 where
  pub holds : HoldsName octets w table
  pub same : labels_at_entries octets w.base (slice_range table 0 w.count) ≡ labels

pub held_more : {n : ℕ} {m : List ℕ} {p : ℕ} {w : Progress} {t : List ℕ} {before now : ℕ} (u : List ℕ) → (r : NameRead n m p w t before now) → HeldAs (m ++ u) w t r.labels
held_more {m = m} {w = w} {t} u r =
    let more = more_stand m u w.base (slice_range t 0 w.count) r.stand in
    let e : labels_at_entries (m ++ u) w.base (slice_range t 0 w.count) ≡ r.labels = more.same ∙ r.placed in
    record {
      holds = record {
        some = r.some;
        few = r.few;
        stand = more.stand;
        absolute = rw e (names_absolute r.name);
        sized = rw e r.sized;
        flat = λ h. rw e (slice_more m u w.base (w.base + (w.len + 1)) (r.inside h) ∙ r.octets h);
      };
      same = e;
    }

pub held : {n : ℕ} {p : ℕ} {w : Progress} {t : List ℕ} {before now : ℕ} (parser : Parser) (octets : List ℕ) → octets ≡ parser.octets.now → (r : NameRead n (message parser) p w t before now) → HeldAs octets w t r.labels
held {w = w} {t} parser octets e r =
    subst (λ o. HeldAs o w t r.labels) (take-append-drop parser.end parser.octets.now ∙ sym e) (held_more (drop parser.end parser.octets.now) r)

-- ---- whether it lies in one piece

piece_from : {m : List ℕ} {p b : ℕ} (compressed : Bool) → (compressed ≡ true → (fs : List (List ℕ)) × (q : ℕ) × (e : ℕ) × Encoding m b fs (stop_pointer q) e) → FirstLabelAt m p b → IsContiguous m p → compressed ≡ false
piece_from false scattered base x = refl
piece_from true scattered base x = absurd (not_in_one_piece base (scattered refl).3 x)

pub piece_tells : {n : ℕ} {m : List ℕ} {p : ℕ} {w : Progress} {t : List ℕ} {before now : ℕ} → NameRead n m p w t before now → (w.compressed ≡ false) ↔ IsContiguous m p
piece_tells {w = w} r = (
  λ h. let f = r.contiguous h in (w.base, f.0, f.1, r.base, f.2),
  λ x. piece_from w.compressed r.is_compressed r.base x,
)

-- ---- a name that lies plainly

no_pointer_from : {m : List ℕ} {r : ℕ} (fs : List (List ℕ)) (p : ℕ) → LabelRun m p fs r → OctetAt m r 0 → (q : ℕ) → PointerAt m p q → p ≤ q
no_pointer_from {m} [] p a x q y = let z = subst (λ p. OctetAt m p 0) (sym a) x in absurd (omega (arith, z.octet, y.head))
no_pointer_from (l ∷ fs) p a x q y = absurd (omega (arith, a.0.head, a.0.short, y.head))

-- where a front ends in the root there is no pointer
pub front_base : {m : List ℕ} {p e : ℕ} {fs : List (List ℕ)} → Encoding m p fs stop_root e → FirstLabelAt m p p
front_base {p = p} {fs = fs} x = here (no_pointer_from fs p x.run x.ends.0)

pub plainly_named : {parser : Parser} {ls : List (List ℕ)} (n : ℕ) → StandsUncompressed parser ls → Names n (message parser) (position parser) ls
plainly_named {parser} {ls} n x =
    let a = names_within n (plain_names x.before x.after ls x.name) (omega arith) in
    subst (λ p. Names n (message parser) p ls) (sym x.here) (subst (λ m. Names n m (length x.before) ls) (sym x.octets) a)

pub plainly_front : {parser : Parser} {ls : List (List ℕ)} → StandsUncompressed parser ls → (fs : List (List ℕ)) × Encoding (message parser) (position parser) fs stop_root (position parser + length (wire ls))
plainly_front {parser} {ls} x =
    let a = plain_front x.before x.after ls x.name in
    (a.0, subst (λ p. Encoding (message parser) p a.0 stop_root (p + length (wire ls))) (sym x.here) (subst (λ m. Encoding m (length x.before) a.0 stop_root (length x.before + length (wire ls))) (sym x.octets) a.1))

-- a name that lies plainly is read, lies in one piece, and the parser is moved after it
pub plainly_read : {n : ℕ} {parser : Parser} {ls : List (List ℕ)} {w : Progress} {t : List ℕ} {before now : ℕ} → StandsUncompressed parser ls → (r : NameRead n (message parser) (position parser) w t before now) → (r.labels ≡ ls) × (w.compressed ≡ false) × (unwrap_or w.end (w.at + 1) ≡ position parser + length (wire ls))
plainly_read {n} {parser} {w = w} x r =
    let f = plainly_front x in (
      (reads_once r.name.reads (plainly_named n x).reads).1,
      piece_from w.compressed r.is_compressed r.base (position parser, f.0, position parser + length (wire _), front_base f.1, f.1),
      (front_once r.ends.2 f.1).2,
    )

-- ---- how many heads were counted

pub name_counted : {n : ℕ} {m : List ℕ} {p : ℕ} {w : Progress} {t : List ℕ} {before now : ℕ} {ls : List (List ℕ)} (r : NameRead n m p w t before now) → r.labels ≡ ls → CountsName n m p ls before now
name_counted {n} {m} {p} {before = before} {now} r e = subst (λ ls. CountsName n m p ls before now) e (r.name, r.counted)

pub fault_counted : {T : Type 0} {n : ℕ} {m : List ℕ} {p : ℕ} {d : NameFault} (Q : T → Type 0) (before now : ℕ) (parser : Parser) (r : Result T ParseError) → m ≡ message parser → p ≡ position parser → IsErr r → IsErrAnd r (λ e. refusal e ≡ error_of d)
    → (f : NameFaultAt n m p d) × (now ≡ before + length f.passed + f.pointers + 1) → MatchResult r Q (λ e. CountsFault n (message parser) (position parser) (refusal e) before now)
fault_counted Q before now parser (Ok x) a b err t f = cc
fault_counted {n = n} {m} {p} {d} Q before now parser (Err e) a b err t f =
    subst (λ p. CountsFault n (message parser) p (refusal e) before now) b (subst (λ m. CountsFault n m p (refusal e) before now) a (d, t, f))
