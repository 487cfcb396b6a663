-- What a builder holds of a referral while TC is clear.
use Rattle.std.proofs.Common.{◌≡◌, ℕ, Bool, true, false, List, [], ◌∷◌, ◌++◌, refl, sym, ap, subst, arith, ◌∙◌, append_assoc}
use Rattle.std.proofs.lemmas.List.{append-nil}
use Rattle.std.specs.Prelude.{Some}
use Rattle.domain_header.specs.Bits.{bit}
use Rattle.domain_header.specs.Headers.{header_high}
use Rattle.domain_header.specs.declared.class.Class.{Class}
use Rattle.domain_header.specs.declared.flags.Header.{Header}
use Rattle.domain_header.specs.declared.ttl.Ttl.{Ttl}
use Rattle.domain_message.specs.Entries.{QuestionFields}
use Rattle.domain_message.specs.declared.section.Section.{Section}
use Rattle.domain_message.specs.declared.section.Section.TheVariants.{Authority, Additional}
use Rattle.domain_rdata.specs.Members.{DataMembers}
use Rattle.domain_message_builder.specs.Answers.{StartsAnswer}
use Rattle.domain_message_builder.specs.Answers.StartsAnswer.{repeats, nothing}
use Rattle.domain_message_builder.specs.Builders.{state}
use Rattle.domain_message_builder.specs.Contents.{Content, PushedRecord, no_content, Holds}
use Rattle.domain_message_builder.specs.Cuts.{EndsAnswer, opt_record, with_opt}
use Rattle.domain_message_builder.specs.Cuts.EndsAnswer.{whole, bare}
use Rattle.domain_message_builder.specs.Needs.{PushesRequired, PushesExtra}
use Rattle.domain_message_builder.specs.Opt.{Opt}
use Rattle.domain_message_builder.specs.Pushes.{with_reserved, IsBegun}
use Rattle.domain_message_builder.specs.Reading.{IsMessageOf}
use Rattle.domain_message_builder.specs.Rrsets.{OneForEach, IsOfSet, records_added}
use Rattle.domain_message_builder.specs.State.{State}
use Rattle.domain_message_builder.specs.declared.builder.MessageBuilder.{MessageBuilder}
use Rattle.examples.specs.Referrals.{HasNoTc, RefersWholly}
use Rattle.examples.specs.Served.{RepeatsFirstQuestion, with_sections}

-- TC is clear in what the builder has.
abbrev IsClear : State → Type 0
IsClear s = bit 2 (header_high s.header) ≡ 0

-- The builder holds something, which is so while TC is clear.
pub record HoldsSo (c : Bool) (s : State) (Is : Content → Type 0) : Type 0 where
  pub it : Content
  pub held : Holds c s it
  pub so : IsClear s → Is it

-- More was pushed into the section.
abbrev pub Added : Section → (Content → Type 0) → (List PushedRecord → Type 0) → Content → Type 0
Added section Is Are it = (before : Content) × (rs : List PushedRecord) × Is before × Are rs × (it ≡ records_added section before rs)

-- The first question of the query alone.
abbrev pub Asks : List ℕ → Content → Type 0
Asks query it = (qs : List QuestionFields) × RepeatsFirstQuestion query qs × (it ≡ with_sections qs [] [] [])

pub asked : (c : Bool) (query : List ℕ) (code limit : ℕ) (begun s : State) → IsBegun c limit begun → StartsAnswer c query code begun s → HoldsSo c s (Asks query)
asked c query code limit begun s is (repeats header q first pushed) = record {
  it = with_sections (q ∷ []) [] [] [];
  held = pushed.holds no_content is.holds;
  so = λ clear. (q ∷ [], first, refl);
}
asked c query code limit begun s is (nothing header none stays) = record {
  it = no_content;
  held = subst (λ x. Holds c x no_content) (sym stays) is.holds;
  so = λ clear. ([], none, refl);
}

pub reserved : (c : Bool) (octets : ℕ) (old new : State) (Is : Content → Type 0) → new ≡ with_reserved octets old → HoldsSo c old Is → HoldsSo c new Is
reserved c octets old new Is same had = subst (λ s. HoldsSo c s Is) (sym same) (record { it = had.it; held = had.held; so = had.so })

pub required : {T E D : Type 0} {g : _} {h : _} {i : _} {j : _} {k : _} {l : _} (d : DataMembers D) (section : Section) (owner : List (List ℕ)) (class : Class) (ttl : Ttl) (xs : List D) (old new : MessageBuilder T E g h i j k l) (pushed : Bool) (Is : Content → Type 0)
    → PushesRequired d section owner class ttl xs old new pushed → HoldsSo g.compresses (state old) Is → HoldsSo g.compresses (state new) (Added section Is (OneForEach (IsOfSet d g.compresses owner class ttl) xs))
required d section owner class ttl xs old new true Is done had =
    let more = done.1 had.it had.held in
    record {
      it = records_added section had.it more.0;
      held = more.2;
      so = λ clear. (had.it, more.0, had.so (ap (λ x. bit 2 (header_high x)) (sym done.2.header) ∙ clear), more.1, refl);
    }
required {g = g} d section owner class ttl xs old new false Is done had = record {
  it = had.it;
  held = subst (λ s. Holds g.compresses s had.it) (sym done.others) had.held;
  so = λ clear. absurd (omega (arith, done.header.high.set, clear));
}

-- Whether it was pushed or not.
pub extra : {T E D : Type 0} {g : _} {h : _} {i : _} {j : _} {k : _} {l : _} (d : DataMembers D) (owner : List (List ℕ)) (class : Class) (ttl : Ttl) (xs : List D) (old new : MessageBuilder T E g h i j k l) (pushed : Bool) (Is : Content → Type 0)
    → PushesExtra d Additional owner class ttl xs old new pushed → HoldsSo g.compresses (state old) Is → HoldsSo g.compresses (state new) (Added Additional Is (λ rs. rs ≡ rs))
extra d owner class ttl xs old new true Is done had =
    let more = done.1 had.it had.held in
    record {
      it = records_added Additional had.it more.0;
      held = more.2;
      so = λ clear. (had.it, more.0, had.so (ap (λ x. bit 2 (header_high x)) (sym done.2.header) ∙ clear), refl, refl);
    }
extra {g = g} d owner class ttl xs old new false Is done had = record {
  it = had.it;
  held = subst (λ s. Holds g.compresses s had.it) (sym done) had.held;
  so = λ clear. (had.it, [], had.so (subst IsClear done clear), refl, ap (λ a. record had.it { additional = a }) (sym (append-nil had.it.additional)));
}

-- The message of what is held, where TC is clear.
finished : (c : Bool) (o : Opt) (capacity : ℕ) (s : State) (m : List ℕ) (Is : Content → Type 0) → EndsAnswer c false (Some o) capacity s m → HoldsSo c s Is → HasNoTc m → (it : Content) × Is it × (header : Header) × IsMessageOf header (with_opt (Some o) it) m
finished c o capacity s m Is (whole header same made) had clear =
    let message = made had.it had.held in
    (had.it, had.so (ap (λ x. bit 2 (header_high x)) (sym same) ∙ (ap (bit 2) (sym message.high) ∙ clear)), header, message)
finished c o capacity s m Is (bare p one cannot header set made) had clear =
    let message = made had.it had.held in
    absurd (omega (arith, set.high.set, ap (bit 2) message.high, clear))

pub refers_wholly : (c : Bool) (query : List ℕ) (Servers Glue : List PushedRecord → Type 0) (o : Opt) (capacity : ℕ) (s : State) (m : List ℕ) → EndsAnswer c false (Some o) capacity s m
    → HoldsSo c s (Added Additional (Added Additional (Added Authority (Asks query) Servers) Glue) (λ rs. rs ≡ rs)) → HasNoTc m → RefersWholly query Servers Glue m
refers_wholly c query Servers Glue o capacity s m ends had clear =
    let made = finished c o capacity s m (Added Additional (Added Additional (Added Authority (Asks query) Servers) Glue) (λ rs. rs ≡ rs)) ends had clear in
    let last = made.1 in
    let glued = last.2 in
    let served = glued.2 in
    let first = served.2 in
    let qs = first.0 in
    let all : made.0 ≡ with_sections qs [] served.1 (glued.1 ++ last.1) =
    last.4 ∙ ap (λ b. records_added Additional b last.1) (glued.4 ∙ ap (λ b. records_added Additional b glued.1) (served.4 ∙ ap (λ b. records_added Authority b served.1) first.2)) in
    record {
      header = made.2;
      questions = qs;
      repeats = first.1;
      servers = served.1;
      are_servers = served.3;
      glue = glued.1;
      are_glue = glued.3;
      others = last.1 ++ opt_record o ∷ [];
      message = subst (λ a. IsMessageOf made.2 (with_sections qs [] served.1 a) m) (append_assoc glued.1 last.1 (opt_record o ∷ []))
          (subst (λ i. IsMessageOf made.2 (with_opt (Some o) i) m) all made.3);
    }
