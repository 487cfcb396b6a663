use Rattle.domain_reading.proofs.uncounted.label_at_offset.Given as goal

abbrev pub ghosts-label_at_offset_with : goal.ghosts-label_at_offset_with
ghosts-label_at_offset_with a = record { name = a.blank.name; parts = a.blank.parts }
