-- How contracts describe a name that is shown with a final dot.
use Rattle.domain_list.specs.declared.dotted.DisplayWithDot.{DisplayWithDot}

-- the name that is shown
abbrev pub dotted_name : {N : Type 0} → DisplayWithDot N → N
dotted_name shown = shown.name.now
