-- What becomes of a target that an answer from the zone itself is built on. `g` is `Target.Composer`, `d` is
-- `D.ComposeRecordData`, `labels` maps an owner's name to its labels, and `host` maps a server's name to its labels.
use Rattle.std.specs.Prelude.{ℕ, List, Option, IfSome}
use Rattle.octseq.specs.declared.octets.Octets.{Ghosts}
use Rattle.domain_data.specs.Views.{fields_of, type_of}
use Rattle.domain_data.specs.declared.fields.FieldsData.{FieldsData}
use Rattle.domain_fields.specs.declared.name_field.NameField.{NameField}
use Rattle.domain_message.specs.Messages.{message_octets}
use Rattle.domain_message.specs.declared.message.Message.{Message}
use Rattle.domain_rdata.specs.Members.{ComposerMembers, DataMembers}
use Rattle.domain_rdata.specs.RecordData.{NameOctets}
use Rattle.domain_message.specs.RecordParts.{data_of}
use Rattle.domain_message.specs.declared.resource_record.Record.{Record}
use Rattle.domain_message_builder.specs.Pushes.{headed}
use Rattle.examples.specs.Served.{IsAuthoritative, LacksRecord}

-- data of the type NS over names of any type (RFC 1035, 3.3.11)
abbrev pub NsData : Type 0 → Type 0
NsData M = FieldsData 2 (NameField M)

-- The message, if there is one, answers the query with this record of the zone, and tells this server of it.
abbrev pub AnswersFromZone : {T N D M O : Type 0} {m : Ghosts O} → ComposerMembers T → (N → List (List ℕ)) → DataMembers D → (M → List (List ℕ)) → Message O m → Record N D → Record N (NsData M) → Option T → Type 0
AnswersFromZone g labels d host query it server r =
    IfSome r (λ made. IsAuthoritative g.compresses (message_octets query)
    (headed labels d.type_number it) (d.composed (data_of it) g.compresses)
    (headed labels type_of server) (NameOctets (host (fields_of (data_of server)).name) g.compresses) (g.octets made))

-- The target can't hold a message that does.
abbrev pub NoZoneAnswerFits : {T N D M O : Type 0} {m : Ghosts O} → ComposerMembers T → (N → List (List ℕ)) → DataMembers D → (M → List (List ℕ)) → Message O m → Record N D → Record N (NsData M) → T → Type 0
NoZoneAnswerFits g labels d host query it server target =
    LacksRecord g.compresses (message_octets query)
    (headed labels d.type_number it) (d.composed (data_of it) g.compresses)
    (headed labels type_of server) (NameOctets (host (fields_of (data_of server)).name) g.compresses)
    (g.octets target) (g.capacity target) 65535
