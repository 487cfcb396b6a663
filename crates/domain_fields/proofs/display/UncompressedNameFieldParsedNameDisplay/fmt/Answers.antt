use Rattle.std.proofs.Common.{subst}
use Rattle.std.specs.Fmt.{IsPlainFormatter, HasWritten}
use Rattle.std.specs.Result.{IsOk}
use Rattle.domain_label.specs.Text.{text_with_final_dot}
use Rattle.domain_parsed.specs.ParsedNames.{parsed_labels}
use Rattle.domain_fields.proofs.display.UncompressedNameFieldParsedNameDisplay.fmt.Goals as goal

pub returns-clause-writes : goal.returns-clause-writes
returns-clause-writes g c =
    subst (λ name. IsPlainFormatter c.args.f.now → IsOk c.write.result → HasWritten g.W.Write.write_str_gives c.args.f.now (text_with_final_dot (parsed_labels name)) c.write.new.self)
    c.fmt_with_dot-name.ensures
    c.write.ensures.writes
