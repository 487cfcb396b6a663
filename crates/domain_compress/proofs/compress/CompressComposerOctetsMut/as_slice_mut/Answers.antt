use Rattle.std.proofs.Common.{refl, length, false}
use Rattle.domain_compress.specs.Forgetting.{entries_within}
use Rattle.domain_compress.proofs.Inside.{held_all, entries_stay}
use Rattle.domain_compress.proofs.compress.CompressComposerOctetsMut.as_slice_mut.Goals as goal

pub returns : goal.returns
returns g c = (
  (
    refl,
    λ w.
        let s = c.args.self.now in
        let target = g.T.OctetsMut.with_octets s.target w in
        let t = g.T.Octets.octets target in
        held_all t (λ v k i f. record s { target = target; written = v; hashed = false; known = k; inside = i; few = f }) s.written (entries_within (length t) s.written)
        (entries_stay (g.T.Octets.octets s.target) t s.written (g.met.T.OctetsMut.number_stays s.target w) s.inside) _ _ _ _ _ _,
  ),
  c.as_slice_mut.ensures,
)
