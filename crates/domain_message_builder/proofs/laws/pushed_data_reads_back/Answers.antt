use Rattle.std.proofs.Common.{◌++◌}
use Rattle.domain_message_builder.specs.Contents.{blank_header}
use Rattle.domain_message_builder.proofs.Blank.{names_move}
use Rattle.domain_message_builder.proofs.laws.pushed_data_reads_back.Goals as goal

pub returns : goal.returns
returns g c = λ compresses header b s twelve done.
    c.reads_back.ensures compresses (header ++ b) s (g.met.D.ReadBackData.moves c.args.rdata.now compresses (blank_header ++ b) (header ++ b) s (names_move compresses header b twelve) done)
