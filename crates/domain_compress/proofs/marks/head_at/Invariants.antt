use Rattle.domain_compress.proofs.marks.head_at.Given as goal

abbrev pub ghosts-head_at_with : goal.ghosts-head_at_with
ghosts-head_at_with a = record { name = a.blank.name; parts = a.blank.parts }
