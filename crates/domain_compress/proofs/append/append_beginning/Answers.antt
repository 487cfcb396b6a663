use Rattle.std.proofs.Common.{ℕ, List, refl, sym, subst}
use Rattle.std.specs.List.{All}
use Rattle.domain_compress.specs.Hashes.{IsHashed}
use Rattle.domain_compress.specs.Planned.{WritesPointer, WritesFlat}
use Rattle.domain_compress.specs.Written.{all_remembered}
use Rattle.domain_compress.proofs.Composing.{pointed_so, exceeds_pointed}
use Rattle.domain_compress.proofs.append.append_beginning.Goals as goal

pub find_beginning-requires-clause-known : goal.find_beginning-requires-clause-known
find_beginning-requires-clause-known g c = λ e. subst (λ t. All (IsHashed t) c.args.written.now) (sym c.as_slice.ensures.octets) (c.requires.known e)

pub returns-in_default-clause-ok : goal.returns-in_default-clause-ok
returns-in_default-clause-ok g c =
    let P : List ℕ → Type 0 = λ t. WritesFlat t (all_remembered c.args.written.now) c.args.name.now in
    (refl {a = g.Target.Octets.octets c.args.target.now}, subst P c.as_slice.ensures.octets (c.in_default.ensures.none refl))

pub returns-in-Ok-clause-ok : goal.returns-in-Ok-clause-ok
returns-in-Ok-clause-ok g c =
    let b = c.in-Some.beginning in
    let P : List ℕ → Type 0 = λ t. WritesPointer t (all_remembered c.args.written.now) c.args.name.now b.begin b.offset in
    pointed_so _ _ _ _ _ _ (subst P c.as_slice.ensures.octets c.in-Some.ensures.some) c.in-Ok.ensures.ok

pub returns-in-Err-clause-full : goal.returns-in-Err-clause-full
returns-in-Err-clause-full g c =
    let b = c.in-Some.beginning in
    let P : List ℕ → Type 0 = λ t. WritesPointer t (all_remembered c.args.written.now) c.args.name.now b.begin b.offset in
    exceeds_pointed _ _ _ _ _ _ (subst P c.as_slice.ensures.octets c.in-Some.ensures.some) c.in-Err.ensures.full
