use Rattle.domain_compress.proofs.Inside.{inside_cut, few_left, known_left}
use Rattle.domain_compress.proofs.compress.CompressComposerTruncate.truncate.Goals as goal

pub invariant_of-self : goal.invariant_of-self
invariant_of-self g c = record {
  known = known_left _ _ _ _ _ _ _ _ c.as_slice.ensures.octets c.truncate.ensures.octets c.args.self.now.known c.forget-left.ensures.known;
  inside = inside_cut _ _ _ _ _ c.truncate.ensures.octets c.args.self.now.inside c.forget-left.ensures.offsets;
  few = few_left _ _ c.forget-left.ensures.few c.args.self.now.few;
}
