use Rattle.names_tests.proofs.counted_names.ends.Given as goal

abbrev pub ghosts-ends_counted : goal.ghosts-ends_counted
ghosts-ends_counted a = record { name = a.blank.name; parts = a.blank.parts }
