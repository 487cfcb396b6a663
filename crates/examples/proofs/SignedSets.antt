-- RRsets and their signatures.
use Rattle.std.proofs.Common.{◌≡◌, ℕ, inl, inr, true, List, sym, subst}
use Rattle.domain_header.specs.declared.class.Class.{Class}
use Rattle.domain_header.specs.declared.ttl.Ttl.{Ttl}
use Rattle.domain_message.specs.declared.section.Section.{Section}
use Rattle.domain_rdata.specs.Members.{DataMembers}
use Rattle.domain_message_builder.specs.Builders.{state}
use Rattle.domain_message_builder.specs.Ends.{MarksCut}
use Rattle.domain_message_builder.specs.Rrsets.{AddsRrset, RrsetNotAdded}
use Rattle.domain_message_builder.specs.State.{State}
use Rattle.domain_message_builder.specs.declared.builder.MessageBuilder.{MessageBuilder}
use Rattle.domain_message_builder.specs.declared.error.PushError.{PushError}
use Rattle.examples.specs.Signed.{PushesSigned}

pub both : {T E D S : Type 0} {g : _} {h : _} {i : _} {j : _} {k : _} {l : _} (d : DataMembers D) (e : DataMembers S) (section : Section) (owner : List (List ℕ)) (class : Class) (ttl : Ttl) (xs : List D) (ys : List S) (old begun mid last new : MessageBuilder T E g h i j k l) → begun ≡ old → new ≡ last
    → AddsRrset d section owner class ttl xs begun mid → AddsRrset e section owner class ttl ys mid last → PushesSigned d e section owner class ttl xs ys old new
both d e section owner class ttl xs ys old begun mid last new same given first second =
    inl (mid, subst (λ b. AddsRrset d section owner class ttl xs b mid) same first, subst (λ b. AddsRrset e section owner class ttl ys mid b) (sym given) second)

pub second_refused : {T E D S : Type 0} {g : _} {h : _} {i : _} {j : _} {k : _} {l : _} (d : DataMembers D) (e : DataMembers S) (section : Section) (owner : List (List ℕ)) (class : Class) (ttl : Ttl) (xs : List D) (ys : List S) (old begun mid new : MessageBuilder T E g h i j k l) (error : PushError E) (marked : State) → begun ≡ old → marked ≡ state old
    → MarksCut true marked (state new) → AddsRrset d section owner class ttl xs begun mid → RrsetNotAdded e section owner class ttl ys mid error → PushesSigned d e section owner class ttl xs ys old new
second_refused d e section owner class ttl xs ys old begun mid new error marked same at cut first why =
    inr (subst (λ s. MarksCut true s (state new)) at cut, (error, inr (mid, subst (λ b. AddsRrset d section owner class ttl xs b mid) same first, why)))
