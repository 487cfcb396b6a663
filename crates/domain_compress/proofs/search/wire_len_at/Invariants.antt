use Rattle.domain_compress.proofs.search.wire_len_at.Given as goal

abbrev pub ghosts-wire_len_at_with : goal.ghosts-wire_len_at_with
ghosts-wire_len_at_with a = record { name = a.blank.name; parts = a.blank.parts }
