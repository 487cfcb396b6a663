-- The sections of records begin one after the other.
use Rattle.std.proofs.Common.{◌≡◌, ℕ, ◌≤◌, arith, sym, subst}
use Rattle.domain_message.specs.declared.section.Section.{Section}
use Rattle.domain_message.specs.declared.section.Section.TheVariants.{Answer, Authority, Additional}
use Rattle.domain_message_builder.specs.SectionStarts.{IsInOrder, all_at, start_of, starts_after}
use Rattle.domain_message_builder.specs.declared.section_starts.SectionStarts.{SectionStarts}

-- also where more octets follow
pub ordered_more : (p : SectionStarts) (n m : ℕ) → n ≤ m → IsInOrder p n → IsInOrder p m
ordered_more p n m more o = (o.0, o.1, o.2, omega (arith, more, o.3))

pub ordered_all : (n m : ℕ) → 12 ≤ n → n ≤ m → IsInOrder (all_at n) m
ordered_all n m low more = (low, omega arith, omega arith, more)

-- after a record that ends at n
pub ordered_after : (section : Section) (p : SectionStarts) (n end : ℕ) → n ≤ end → IsInOrder p n → IsInOrder (starts_after section end p) end
ordered_after Answer p n end more o = (o.0, omega (arith, more, o.1, o.2, o.3), omega arith, omega arith)
ordered_after Authority p n end more o = (o.0, o.1, omega (arith, more, o.2, o.3), omega arith)
ordered_after Additional p n end more o = (o.0, o.1, o.2, omega (arith, more, o.3))

-- where the section is empty, and those after it
pub ordered_before : (section : Section) (p : SectionStarts) (n : ℕ) → IsInOrder p n → IsInOrder (starts_after section (start_of section p) p) (start_of section p)
ordered_before Answer p n o = (o.0, omega arith, omega arith, omega arith)
ordered_before Authority p n o = (o.0, o.1, omega arith, omega arith)
ordered_before Additional p n o = (o.0, o.1, o.2, omega arith)

-- the section begins after the header, inside the message
pub start_inside : (section : Section) (p : SectionStarts) (n : ℕ) → IsInOrder p n → (12 ≤ start_of section p) × (start_of section p ≤ n)
start_inside Answer p n o = (o.0, omega (arith, o.1, o.2, o.3))
start_inside Authority p n o = (omega (arith, o.0, o.1), omega (arith, o.2, o.3))
start_inside Additional p n o = (omega (arith, o.0, o.1, o.2), o.3)

-- after a record was pushed
pub ordered_pushed : (section : Section) (p starts : SectionStarts) (n m end : ℕ) → starts ≡ starts_after section end p → end ≡ m → n ≤ m → IsInOrder p n → IsInOrder starts m
ordered_pushed section p starts n m end at ends more o = subst (λ x. IsInOrder x m) (sym at) (subst (λ k. IsInOrder (starts_after section k p) m) (sym ends) (ordered_after section p n m more o))

-- after a question was pushed
pub ordered_asked : (p starts : SectionStarts) (n m end : ℕ) → starts ≡ all_at end → end ≡ m → n ≤ m → IsInOrder p n → IsInOrder starts m
ordered_asked p starts n m end at ends more o =
    let low : 12 ≤ m = omega (arith, more, o.0, o.1, o.2, o.3) in
    let same : m ≤ m = omega arith in
    subst (λ x. IsInOrder x m) (sym at) (subst (λ k. IsInOrder (all_at k) m) (sym ends) (ordered_all m m low same))
