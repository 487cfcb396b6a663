use Rattle.domain_message.proofs.message.Message.canonical_name.Given as goal

abbrev pub ghosts-canonical_name_with : goal.ghosts-canonical_name_with
ghosts-canonical_name_with g a = record { name = a.blank.name; parts = a.blank.parts }
