-- What the last line shows.
use Rattle.std.specs.Prelude.{ℕ, List, ◌++◌}
use Rattle.domain_wire.specs.Refusals.{refusal, refusal_text}
use Rattle.domain_label.specs.Text.{text_with_final_dot}
use Rattle.domain_parsed.specs.ParsedNames.{parsed_labels}
use Rattle.dnswalk.specs.Lines.{count_text}
use Rattle.dnswalk.specs.declared.engine.NameLine.{NameLine}
use Rattle.dnswalk.specs.declared.engine.RefusedLine.{RefusedLine}

-- the name with its final dot, and how many labels and pointers were read
abbrev pub name_line_text : NameLine → List ℕ
name_line_text it = text_with_final_dot (parsed_labels it.name.now) ++ count_text it.count

-- why there is no name, and how many labels and pointers were read
abbrev pub refused_line_text : RefusedLine → List ℕ
refused_line_text it = refusal_text (refusal it.why) ++ count_text it.count
