use Rattle.domain_reading.proofs.uncounted.encoding_end.Given as goal

abbrev pub ghosts-encoding_end_with : goal.ghosts-encoding_end_with
ghosts-encoding_end_with a = record { name = a.blank.name; parts = a.blank.parts }
