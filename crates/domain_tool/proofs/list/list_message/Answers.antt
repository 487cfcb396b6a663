use Rattle.std.proofs.Common.{◌≡◌, [], ◌++◌, sym, ap, subst, ◌∙◌, replicate}
use Rattle.std.specs.Prelude.{Err}
use Rattle.std.proofs.lemmas.List.{append_assoc, append-nil}
use Rattle.std.specs.Io.KnownBytes.{append_known}
use Rattle.octseq.specs.Parsing.{message, position}
use Rattle.domain_tool.specs.declared.entry_kind.EntryKind.TheVariants.{Question, Answer, Authority, Additional}
use Rattle.domain_tool.specs.Counted.{IsCounted}
use Rattle.domain_tool.specs.Lines.{counted_entries}
use Rattle.domain_tool.specs.Written.{WritesEntries}
use Rattle.domain_tool.proofs.Entries.{same_message}
use Rattle.domain_tool.proofs.Listing.{writes_none}
use Rattle.domain_tool.proofs.Sections.{counted_by, section_done, section_stopped, all_done}
use Rattle.domain_tool.proofs.list.list_message.Goals as goal

pub returns-in-Err-write_entries-clause-refused : goal.returns-in-Err-write_entries-clause-refused
returns-in-Err-write_entries-clause-refused g c =
    let m = c.args.message.now in
    let counts = c.in-Ok.counts in
    let old = append_known (g.W.Write.contents c.args.output.now) c.args.lines.now.items in
    let moved = c.in-Ok.ensures.moves in
    let same : message c.parse_counts.new.parser ≡ m = same_message _ _ _ moved ∙ c.from_ref-parser.ensures.message in
    let counted : IsCounted m counts = subst (λ o. IsCounted o counts) c.from_ref-parser.ensures.message c.in-Ok.ensures.ok in
    let all = counted_by m counts _ _ _ _ counted c.qdcount-questions.ensures c.ancount-answers.ensures c.nscount-authority.ensures c.arcount-additional.ensures in
    let questions = replicate c.qdcount-questions.result Question in
    let answers = replicate c.ancount-answers.result Answer in
    let authority = replicate c.nscount-authority.result Authority in
    let additional = replicate c.arcount-additional.result Additional in
    let start : WritesEntries m [] 12 (position c.parse_counts.new.parser) old old = subst (λ p. WritesEntries m [] 12 p old old) (sym moved.offset) (writes_none m 12 old) in
    section_stopped m (message c.parse_counts.new.parser) [] (answers ++ (authority ++ additional)) Question c.qdcount-questions.result (position c.parse_counts.new.parser) old old _ (Err c.in-Err-write_entries.e) same all counted.header start c.in-Err-write_entries.ensures.refused

pub returns-in-Err-write_entries-2-clause-refused :
    goal.returns-in-Err-write_entries-2-clause-refused
returns-in-Err-write_entries-2-clause-refused g c =
    let m = c.args.message.now in
    let counts = c.in-Ok.counts in
    let old = append_known (g.W.Write.contents c.args.output.now) c.args.lines.now.items in
    let moved = c.in-Ok.ensures.moves in
    let same : message c.parse_counts.new.parser ≡ m = same_message _ _ _ moved ∙ c.from_ref-parser.ensures.message in
    let counted : IsCounted m counts = subst (λ o. IsCounted o counts) c.from_ref-parser.ensures.message c.in-Ok.ensures.ok in
    let all = counted_by m counts _ _ _ _ counted c.qdcount-questions.ensures c.ancount-answers.ensures c.nscount-authority.ensures c.arcount-additional.ensures in
    let questions = replicate c.qdcount-questions.result Question in
    let answers = replicate c.ancount-answers.result Answer in
    let authority = replicate c.nscount-authority.result Authority in
    let additional = replicate c.arcount-additional.result Additional in
    let start : WritesEntries m [] 12 (position c.parse_counts.new.parser) old old = subst (λ p. WritesEntries m [] 12 p old old) (sym moved.offset) (writes_none m 12 old) in
    let first = section_done m (message c.parse_counts.new.parser) [] Question c.qdcount-questions.result (position c.parse_counts.new.parser) (position c.write_entries.new.parser) old old (append_known (g.W.Write.contents c.write_entries.new.output) c.write_entries.new.lines.items) same start c.in_default.ensures.written in
    let same_one : message c.write_entries.new.parser ≡ m = same_message _ _ _ c.in_default.ensures.moves ∙ same in
    section_stopped m (message c.write_entries.new.parser) questions (authority ++ additional) Answer c.ancount-answers.result (position c.write_entries.new.parser) old (append_known (g.W.Write.contents c.write_entries.new.output) c.write_entries.new.lines.items) _ (Err c.in-Err-write_entries-2.e) same_one all counted.header first c.in-Err-write_entries-2.ensures.refused

pub returns-in-Err-write_entries-3-clause-refused :
    goal.returns-in-Err-write_entries-3-clause-refused
returns-in-Err-write_entries-3-clause-refused g c =
    let m = c.args.message.now in
    let counts = c.in-Ok.counts in
    let old = append_known (g.W.Write.contents c.args.output.now) c.args.lines.now.items in
    let moved = c.in-Ok.ensures.moves in
    let same : message c.parse_counts.new.parser ≡ m = same_message _ _ _ moved ∙ c.from_ref-parser.ensures.message in
    let counted : IsCounted m counts = subst (λ o. IsCounted o counts) c.from_ref-parser.ensures.message c.in-Ok.ensures.ok in
    let all = counted_by m counts _ _ _ _ counted c.qdcount-questions.ensures c.ancount-answers.ensures c.nscount-authority.ensures c.arcount-additional.ensures in
    let questions = replicate c.qdcount-questions.result Question in
    let answers = replicate c.ancount-answers.result Answer in
    let authority = replicate c.nscount-authority.result Authority in
    let additional = replicate c.arcount-additional.result Additional in
    let start : WritesEntries m [] 12 (position c.parse_counts.new.parser) old old = subst (λ p. WritesEntries m [] 12 p old old) (sym moved.offset) (writes_none m 12 old) in
    let first = section_done m (message c.parse_counts.new.parser) [] Question c.qdcount-questions.result (position c.parse_counts.new.parser) (position c.write_entries.new.parser) old old (append_known (g.W.Write.contents c.write_entries.new.output) c.write_entries.new.lines.items) same start c.in_default.ensures.written in
    let same_one : message c.write_entries.new.parser ≡ m = same_message _ _ _ c.in_default.ensures.moves ∙ same in
    let second = section_done m (message c.write_entries.new.parser) questions Answer c.ancount-answers.result (position c.write_entries.new.parser) (position c.write_entries-2.new.parser) old (append_known (g.W.Write.contents c.write_entries.new.output) c.write_entries.new.lines.items) (append_known (g.W.Write.contents c.write_entries-2.new.output) c.write_entries-2.new.lines.items) same_one first c.in_default-write_entries.ensures.written in
    let same_two : message c.write_entries-2.new.parser ≡ m = same_message _ _ _ c.in_default-write_entries.ensures.moves ∙ same_one in
    section_stopped m (message c.write_entries-2.new.parser) (questions ++ answers) additional Authority c.nscount-authority.result (position c.write_entries-2.new.parser) old (append_known (g.W.Write.contents c.write_entries-2.new.output) c.write_entries-2.new.lines.items) _ (Err c.in-Err-write_entries-3.e) same_two (all ∙ sym (append_assoc questions answers (authority ++ additional))) counted.header second c.in-Err-write_entries-3.ensures.refused

pub returns-clause-written : goal.returns-clause-written
returns-clause-written g c =
    let m = c.args.message.now in
    let counts = c.in-Ok.counts in
    let old = append_known (g.W.Write.contents c.args.output.now) c.args.lines.now.items in
    let moved = c.in-Ok.ensures.moves in
    let same : message c.parse_counts.new.parser ≡ m = same_message _ _ _ moved ∙ c.from_ref-parser.ensures.message in
    let counted : IsCounted m counts = subst (λ o. IsCounted o counts) c.from_ref-parser.ensures.message c.in-Ok.ensures.ok in
    let all = counted_by m counts _ _ _ _ counted c.qdcount-questions.ensures c.ancount-answers.ensures c.nscount-authority.ensures c.arcount-additional.ensures in
    let questions = replicate c.qdcount-questions.result Question in
    let answers = replicate c.ancount-answers.result Answer in
    let authority = replicate c.nscount-authority.result Authority in
    let additional = replicate c.arcount-additional.result Additional in
    let start : WritesEntries m [] 12 (position c.parse_counts.new.parser) old old = subst (λ p. WritesEntries m [] 12 p old old) (sym moved.offset) (writes_none m 12 old) in
    let first = section_done m (message c.parse_counts.new.parser) [] Question c.qdcount-questions.result (position c.parse_counts.new.parser) (position c.write_entries.new.parser) old old (append_known (g.W.Write.contents c.write_entries.new.output) c.write_entries.new.lines.items) same start c.in_default.ensures.written in
    let same_one : message c.write_entries.new.parser ≡ m = same_message _ _ _ c.in_default.ensures.moves ∙ same in
    let second = section_done m (message c.write_entries.new.parser) questions Answer c.ancount-answers.result (position c.write_entries.new.parser) (position c.write_entries-2.new.parser) old (append_known (g.W.Write.contents c.write_entries.new.output) c.write_entries.new.lines.items) (append_known (g.W.Write.contents c.write_entries-2.new.output) c.write_entries-2.new.lines.items) same_one first c.in_default-write_entries.ensures.written in
    let same_two : message c.write_entries-2.new.parser ≡ m = same_message _ _ _ c.in_default-write_entries.ensures.moves ∙ same_one in
    let third = section_done m (message c.write_entries-2.new.parser) (questions ++ answers) Authority c.nscount-authority.result (position c.write_entries-2.new.parser) (position c.write_entries-3.new.parser) old (append_known (g.W.Write.contents c.write_entries-2.new.output) c.write_entries-2.new.lines.items) (append_known (g.W.Write.contents c.write_entries-3.new.output) c.write_entries-3.new.lines.items) same_two second c.in_default-write_entries-2.ensures.written in
    let same_three : message c.write_entries-3.new.parser ≡ m = same_message _ _ _ c.in_default-write_entries-2.ensures.moves ∙ same_two in
    let whole : counted_entries m ≡ (questions ++ answers ++ authority) ++ additional = all ∙ (sym (append_assoc questions answers (authority ++ additional)) ∙ sym (append_assoc (questions ++ answers) authority additional)) in
    all_done m (message c.write_entries-3.new.parser) (questions ++ answers ++ authority) Additional c.arcount-additional.result (position c.write_entries-3.new.parser) _ old (append_known (g.W.Write.contents c.write_entries-3.new.output) c.write_entries-3.new.lines.items) _ c.write_entries-4.result same_three whole counted.header third c.write_entries-4.ensures.written

pub returns-clause-refused : goal.returns-clause-refused
returns-clause-refused g c =
    let m = c.args.message.now in
    let counts = c.in-Ok.counts in
    let old = append_known (g.W.Write.contents c.args.output.now) c.args.lines.now.items in
    let moved = c.in-Ok.ensures.moves in
    let same : message c.parse_counts.new.parser ≡ m = same_message _ _ _ moved ∙ c.from_ref-parser.ensures.message in
    let counted : IsCounted m counts = subst (λ o. IsCounted o counts) c.from_ref-parser.ensures.message c.in-Ok.ensures.ok in
    let all = counted_by m counts _ _ _ _ counted c.qdcount-questions.ensures c.ancount-answers.ensures c.nscount-authority.ensures c.arcount-additional.ensures in
    let questions = replicate c.qdcount-questions.result Question in
    let answers = replicate c.ancount-answers.result Answer in
    let authority = replicate c.nscount-authority.result Authority in
    let additional = replicate c.arcount-additional.result Additional in
    let start : WritesEntries m [] 12 (position c.parse_counts.new.parser) old old = subst (λ p. WritesEntries m [] 12 p old old) (sym moved.offset) (writes_none m 12 old) in
    let first = section_done m (message c.parse_counts.new.parser) [] Question c.qdcount-questions.result (position c.parse_counts.new.parser) (position c.write_entries.new.parser) old old (append_known (g.W.Write.contents c.write_entries.new.output) c.write_entries.new.lines.items) same start c.in_default.ensures.written in
    let same_one : message c.write_entries.new.parser ≡ m = same_message _ _ _ c.in_default.ensures.moves ∙ same in
    let second = section_done m (message c.write_entries.new.parser) questions Answer c.ancount-answers.result (position c.write_entries.new.parser) (position c.write_entries-2.new.parser) old (append_known (g.W.Write.contents c.write_entries.new.output) c.write_entries.new.lines.items) (append_known (g.W.Write.contents c.write_entries-2.new.output) c.write_entries-2.new.lines.items) same_one first c.in_default-write_entries.ensures.written in
    let same_two : message c.write_entries-2.new.parser ≡ m = same_message _ _ _ c.in_default-write_entries.ensures.moves ∙ same_one in
    let third = section_done m (message c.write_entries-2.new.parser) (questions ++ answers) Authority c.nscount-authority.result (position c.write_entries-2.new.parser) (position c.write_entries-3.new.parser) old (append_known (g.W.Write.contents c.write_entries-2.new.output) c.write_entries-2.new.lines.items) (append_known (g.W.Write.contents c.write_entries-3.new.output) c.write_entries-3.new.lines.items) same_two second c.in_default-write_entries-2.ensures.written in
    let same_three : message c.write_entries-3.new.parser ≡ m = same_message _ _ _ c.in_default-write_entries-2.ensures.moves ∙ same_two in
    let whole : counted_entries m ≡ (questions ++ answers ++ authority) ++ additional = all ∙ (sym (append_assoc questions answers (authority ++ additional)) ∙ sym (append_assoc (questions ++ answers) authority additional)) in
    section_stopped m (message c.write_entries-3.new.parser) (questions ++ answers ++ authority) [] Additional c.arcount-additional.result (position c.write_entries-3.new.parser) old (append_known (g.W.Write.contents c.write_entries-3.new.output) c.write_entries-3.new.lines.items) _ c.write_entries-4.result same_three (whole ∙ ap (λ ss. (questions ++ answers ++ authority) ++ ss) (sym (append-nil additional))) counted.header third c.write_entries-4.ensures.refused
