use Rattle.domain_txt.proofs.txt.Txt.text.Given as goal

abbrev pub ghosts-text_with : goal.ghosts-text_with
ghosts-text_with g a = record { name = a.blank.name; parts = a.blank.parts }
