-- How an answer is finished, and what it then is.
use Rattle.std.proofs.Common.{◌≡◌, ℕ, List, refl, sym, ap, subst, ◌∙◌}
use Rattle.std.specs.Prelude.{Bool, true, false, Option, None, Some, Result, Ok, Err, OnOk}
use Rattle.domain_header.specs.Headers.{SetsHigh}
use Rattle.domain_header.specs.declared.flags.Header.{Header}
use Rattle.domain_message.specs.declared.section.Section.TheVariants.{Answer, Additional}
use Rattle.domain_message_builder.specs.Contents.{Content, Holds}
use Rattle.domain_message_builder.specs.Cuts.{PushesOpt, Truncates, with_opt, HasNoRoomFor, CannotAddOpt, EndsHeader, EndsAnswer, NotEnded}
use Rattle.domain_message_builder.specs.Cuts.EndsAnswer.{whole, bare}
use Rattle.domain_message_builder.specs.Cuts.NotEnded.{no_room}
use Rattle.domain_message_builder.specs.Ends.{MarksCut, KeepsOpt, KeepsOpts, LosesOpts}
use Rattle.domain_message_builder.specs.Ends.KeepsOpt.{beside, instead}
use Rattle.domain_message_builder.specs.Opt.{Opt, opt_head}
use Rattle.domain_message_builder.specs.SectionStarts.{start_of}
use Rattle.domain_message_builder.specs.Pushes.{record_added, emptied}
use Rattle.domain_message_builder.specs.Reading.{IsMessageOf}
use Rattle.domain_message_builder.specs.State.{State}
use Rattle.domain_message_builder.specs.declared.error.PushError.{PushError}

-- the OPT record was pushed in the place of the records
pub keeps_instead : {A E : Type 0} (r : Result A E) (c : Bool) (o : Opt) (capacity : ℕ) (old same mid new : State) → CannotAddOpt o capacity old → same ≡ old → Truncates c same mid → OnOk r (PushesOpt c o mid new) → OnOk r (KeepsOpt c o capacity old new)
keeps_instead (Ok x) c o capacity old same mid new cannot stays cut pushed = instead cannot mid (subst (λ s. Truncates c s mid) stays cut) pushed
keeps_instead (Err e) c o capacity old same mid new cannot stays cut pushed = pushed

-- ---- and what the message then is

opt_holds : (c : Bool) (o : Opt) (old new : State) (it : Content) → PushesOpt c o old new → Holds c old it → Holds c new (with_opt (Some o) it)
opt_holds c o old new it pushed holds = subst (λ d. Holds c new (record_added Additional it (record { head = opt_head o; rdata = d }))) pushed.octets.allowed.data_allowed (pushed.holds it holds)

marked_holds : (c cut : Bool) (old marked : State) (it : Content) → MarksCut cut old marked → Holds c old it → Holds c marked it
marked_holds c cut old marked it marks holds = subst (λ s. Holds c s it) (sym marks.others) holds

-- TC was set, once or twice
sets_again : (cut : Bool) (a b d : Header) → EndsHeader cut a b → SetsHigh 2 2 1 b d → SetsHigh 2 2 1 a d
sets_again false a b d same sets = subst (λ h. SetsHigh 2 2 1 h d) same sets
sets_again true a b d first sets = record {
  id = sets.id ∙ first.id;
  high = record { set = sets.high.set; below = sets.high.below ∙ first.high.below; above = sets.high.above ∙ first.high.above };
  low = sets.low ∙ first.low;
}

ended_with : (c cut : Bool) (o : Opt) (capacity : ℕ) (old marked kept : State) (m : List ℕ) → MarksCut cut old marked → KeepsOpt c o capacity marked kept → ((it : Content) → Holds c kept it → IsMessageOf kept.header it m) → EndsAnswer c cut (Some o) capacity old m
ended_with c cut o capacity old marked kept m marks (beside pushed) made =
    whole marked.header marks.header (λ it holds. subst (λ h. IsMessageOf h (with_opt (Some o) it) m) pushed.settings.header
    (made (with_opt (Some o) it) (opt_holds c o marked kept it pushed (marked_holds c cut old marked it marks holds))))
ended_with c cut o capacity old marked kept m marks (instead cannot mid cuts pushed) made =
    bare o refl (subst (λ s. CannotAddOpt o capacity s) marks.others cannot) mid.header (sets_again cut old.header marked.header mid.header marks.header cuts.header)
    (λ it holds. subst (λ h. IsMessageOf h (with_opt (Some o) (emptied Answer it)) m) pushed.settings.header
    (made (with_opt (Some o) (emptied Answer it)) (opt_holds c o mid kept (emptied Answer it) pushed (cuts.rewinds.holds it (marked_holds c cut old marked it marks holds)))))

pub ended : (c cut : Bool) (opt : Option Opt) (capacity room : ℕ) (old marked kept : State) (m : List ℕ) → MarksCut cut old marked → room ≡ capacity → KeepsOpts c opt room marked kept → ((it : Content) → Holds c kept it → IsMessageOf kept.header it m) → EndsAnswer c cut opt capacity old m
ended c cut None capacity room old marked kept m marks same stays made =
    whole marked.header marks.header (λ it holds. subst (λ h. IsMessageOf h it m) (ap (λ s. s.header) stays) (made it (subst (λ s. Holds c s it) (sym stays) (marked_holds c cut old marked it marks holds))))
ended c cut (Some o) capacity room old marked kept m marks same kept_so made =
    ended_with c cut o capacity old marked kept m marks (subst (λ n. KeepsOpt c o n marked kept) same kept_so) made

-- why it wasn't finished
pub not_ended : {A E : Type 0} (pushed : Result A (PushError E)) (cut : Bool) (opt : Option Opt) (capacity room : ℕ) (old marked : State) (e : PushError E) → MarksCut cut old marked → room ≡ capacity → LosesOpts opt room marked e → NotEnded pushed opt capacity old e
not_ended pushed cut None capacity room old marked e marks same loses = absurd loses
not_ended pushed cut (Some o) capacity room old marked e marks same loses =
    no_room o refl loses.for_room (subst (λ s. HasNoRoomFor o (start_of Answer s.starts) capacity s.limit) marks.others (subst (λ n. HasNoRoomFor o (start_of Answer marked.starts) n marked.limit) same loses.no_room))
