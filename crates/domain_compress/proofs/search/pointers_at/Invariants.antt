use Rattle.domain_compress.proofs.search.pointers_at.Given as goal

abbrev pub ghosts-pointers_at_with : goal.ghosts-pointers_at_with
ghosts-pointers_at_with a = record { name = a.blank.name; parts = a.blank.parts }
