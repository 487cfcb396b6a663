-- The strings that are returned one after another are those of the data (RFC 1035, 3.3.14).
use Rattle.std.specs.Prelude.{◌≡◌, ℕ, ◌+◌, List, [], ◌∷◌, ◌++◌, length, take, drop}
use Rattle.std.proofs.Common.{arith, ap, sym, ◌∙◌, drop-drop, length-drop}
use Rattle.std.proofs.lemmas.Grind.{common_steps}
use Rattle.std.proofs.lemmas.List.{length-take-le}
use Rattle.std.proofs.Math.Seq.{drop-append_seam}
use Rattle.domain_strings.specs.CharStrings.{counted}
use Rattle.dnsnames_c.specs.Strings.{NoStringLeft, HasString}

-- Each string with its length before it, as data of TXT have them: the `string_octets` of `domain_txt`, whose `TextAt`
-- says of what data are read as text that they are this.
abbrev pub counted_all : List (List ℕ) → List ℕ
counted_all [] = []
counted_all (s ∷ ss) = counted s ++ counted_all ss

-- After `passed` octets come the strings ss one after another, and then no more.
abbrev pub ComeStrings : List ℕ → ℕ → ℕ → ℕ → ℕ → List (List ℕ) → Type 0
ComeStrings message p len rtype passed [] = NoStringLeft message p len rtype passed
ComeStrings message p len rtype passed (s ∷ ss) = HasString message p len rtype passed s × ComeStrings message p len rtype (passed + 1 + length s) ss

nothing_left : (o : List ℕ) → length o ≡ 0 → o ≡ []
nothing_left o none = grind (arith, common_steps)

-- they are the remaining octets
pub come_octets : (message : List ℕ) (p len rtype passed : ℕ) (ss : List (List ℕ)) → ComeStrings message p len rtype passed ss → drop (p + passed) (take (p + len) message) ≡ counted_all ss
come_octets message p len rtype passed [] none =
    let size : length (take (p + len) message) ≡ p + len = length-take-le (p + len) message none.inside in
    nothing_left (drop (p + passed) (take (p + len) message)) (omega (arith, size, none.all, length-drop (p + passed) (take (p + len) message)))
come_octets message p len rtype passed (s ∷ ss) come =
    let m = take (p + len) message in
    let here = come.0.string in
    let after = come_octets message p len rtype (passed + 1 + length s) ss come.1 in
    let further : drop (length (counted s)) (drop (p + passed) m) ≡ drop (p + (passed + 1 + length s)) m = drop-drop (length (counted s)) (p + passed) m ∙ ap (λ n. drop n m) (omega arith) in
    let rest : drop (length (counted s)) (drop (p + passed) m) ≡ here.rest = ap (drop (length (counted s))) here.parts ∙ drop-append_seam (counted s) here.rest in
    here.parts ∙ ap (λ o. counted s ++ o) (sym rest ∙ (further ∙ after))
