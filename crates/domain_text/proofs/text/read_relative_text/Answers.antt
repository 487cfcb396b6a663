use Rattle.domain_text.specs.NameSymbols.{name_symbols}
use Rattle.domain_text.proofs.Reading.{from_nothing}
use Rattle.domain_text.proofs.text.read_relative_text.Goals as goal

pub returns : goal.returns
returns g c = λ all h. c.refuse_final_dot.ensures (name_symbols all) (from_nothing (name_symbols all) c.args.buffer.now c.push_name_symbols-read.new.self c.push_name_symbols-read.result c.requires.empty (c.push_name_symbols-read.ensures all h))
