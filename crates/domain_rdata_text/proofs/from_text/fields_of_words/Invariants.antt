use Rattle.std.proofs.Common.{◌≡◌, [], Ok, length}
use Rattle.domain_rdata_text.specs.Names.{origin_octets}
use Rattle.domain_rdata_text.specs.Texts.{read_fields, so_far}
use Rattle.domain_rdata_text.specs.Words.{words_of}
use Rattle.domain_rdata_text.proofs.from_text.fields_of_words.Given as goal

abbrev pub invariant-kind : goal.invariant-kind
invariant-kind l =
    read_fields (origin_octets l.fn.origin) l.fn.len (Ok (so_far [] (words_of l.fn.words))) l.fn.kinds
    ≡ read_fields (origin_octets l.fn.origin) l.fn.len (Ok (so_far l.made.items (words_of l.words_left))) l.kinds_left

abbrev pub decreases-kind : goal.decreases-kind
decreases-kind l = length l.kinds_left
