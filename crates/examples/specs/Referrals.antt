-- Referrals that are whole, or have TC set. `g` is `Target.Composer`, and `d` and `e` are `D.ComposeRecordData`.
use Rattle.std.specs.Prelude.{◌≡◌, ℕ, List, [], ◌++◌, Option, IfSome, slice_index}
use Rattle.octseq.specs.declared.octets.Octets.{Ghosts}
use Rattle.domain_header.specs.Bits.{bit}
use Rattle.domain_header.specs.declared.class.Class.{Class}
use Rattle.domain_header.specs.declared.flags.Header.{Header}
use Rattle.domain_header.specs.declared.ttl.Ttl.{Ttl}
use Rattle.domain_message.specs.Entries.{QuestionFields}
use Rattle.domain_message.specs.Messages.{message_octets}
use Rattle.domain_message.specs.declared.message.Message.{Message}
use Rattle.domain_rdata.specs.Members.{ComposerMembers, DataMembers}
use Rattle.domain_message_builder.specs.Contents.{PushedRecord}
use Rattle.domain_message_builder.specs.Reading.{IsMessageOf}
use Rattle.domain_message_builder.specs.Rrsets.{OneForEach, IsOfSet}
use Rattle.examples.specs.Served.{RepeatsFirstQuestion, with_sections}

-- The bit TC is clear (RFC 1035, 4.1.1).
abbrev pub HasNoTc : List ℕ → Type 0
HasNoTc m = bit 2 (slice_index m 2) ≡ 0

-- The message repeats the question of the query, and has all name servers in its authority section, and all of the
-- glue in its additional section (RFC 9471, 3).
pub record RefersWholly (query : List ℕ) (Servers Glue : List PushedRecord → Type 0) (m : List ℕ) : Type 0 where
  pub header : Header
  pub questions : List QuestionFields
  pub repeats : RepeatsFirstQuestion query questions
  pub servers : List PushedRecord
  pub are_servers : Servers servers
  pub glue : List PushedRecord
  pub are_glue : Glue glue
  pub others : List PushedRecord
  pub message : IsMessageOf header (with_sections questions [] servers (glue ++ others)) m

-- The message, if there is one and its TC is clear, has these name servers of the zone, and this glue of the host.
abbrev pub WholeUnlessTc : {T S G O : Type 0} {m : Ghosts O} → ComposerMembers T → DataMembers S → DataMembers G → Message O m → Class → Ttl → List (List ℕ) → List S → List (List ℕ) → List G → Option T → Type 0
WholeUnlessTc g d e query class ttl zone servers host glue r =
    IfSome r (λ made. HasNoTc (g.octets made) → RefersWholly (message_octets query)
    (OneForEach (IsOfSet d g.compresses zone class ttl) servers)
    (OneForEach (IsOfSet e g.compresses host class ttl) glue) (g.octets made))
