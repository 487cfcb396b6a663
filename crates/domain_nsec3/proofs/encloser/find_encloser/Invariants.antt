use Rattle.std.proofs.Common.{length}
use Rattle.domain_name.specs.Names.{name_labels}
use Rattle.domain_name.specs.Suffixes.{suffix_lists_left}
use Rattle.domain_nsec3.proofs.Enclosing.{HasNoMatch}
use Rattle.domain_nsec3.proofs.encloser.find_encloser.Given as goal

-- no record matches the next closer name or one before it
abbrev pub invariant-suffix : goal.invariant-suffix
invariant-suffix l =
    HasNoMatch l.records l.iterations l.salt (name_labels l.fn.name) (name_labels l.next_closer) (suffix_lists_left l.suffixes)

abbrev pub decreases-suffix : goal.decreases-suffix
decreases-suffix l = length (suffix_lists_left l.suffixes)
