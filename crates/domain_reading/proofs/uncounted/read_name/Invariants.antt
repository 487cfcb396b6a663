use Rattle.domain_reading.proofs.uncounted.read_name.Given as goal

abbrev pub ghosts-read_name_with : goal.ghosts-read_name_with
ghosts-read_name_with a = record { name = a.blank.name; parts = a.blank.parts }
