use Rattle.domain_parsed.proofs.parsed.ParsedName+ref+slice+u8.parse_with_limit.Given as goal

abbrev pub ghosts-parse_with : goal.ghosts-parse_with
ghosts-parse_with a = record { name = a.blank.name; parts = a.blank.parts }
