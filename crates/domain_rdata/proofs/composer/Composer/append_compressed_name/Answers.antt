use Rattle.std.proofs.Common.{ℕ, List, subst, OnOk, OnErr}
use Rattle.domain_rdata.specs.ReadBack.{Appended, Exceeds}
use Rattle.domain_rdata.proofs.WireForms.{is_wire, spelled}
use Rattle.domain_rdata.proofs.composer.Composer.append_compressed_name.Goals as goal

pub append_flat_name-requires : goal.append_flat_name-requires
append_flat_name-requires g c =
    is_wire _ _ c.in-Some.ensures.wire (g.met.N.Absolute.absolute c.args.name.now)

pub returns-in-Some-clause-ok : goal.returns-in-Some-clause-ok
returns-in-Some-clause-ok g c =
    let P : List (List ℕ) → Type 0 = λ ls. OnOk c.append_flat_name.result (Appended (g.Self.Composer.may_append c.args.self.now ls) (g.Self.Octets.octets c.args.self.now) (g.Self.Octets.octets c.append_flat_name.new.self)) in
    subst P (spelled _ _ c.in-Some.ensures.wire) c.append_flat_name.ensures.ok

pub returns-in-Some-clause-full : goal.returns-in-Some-clause-full
returns-in-Some-clause-full g c =
    let P : List (List ℕ) → Type 0 = λ ls. OnErr c.append_flat_name.result (Exceeds (g.Self.Composer.may_append c.args.self.now ls) (g.Self.Octets.octets c.args.self.now) (g.Self.Octets.capacity c.args.self.now)) in
    subst P (spelled _ _ c.in-Some.ensures.wire) c.append_flat_name.ensures.full

pub append_flat_name-requires-2 : goal.append_flat_name-requires-2
append_flat_name-requires-2 g c =
    is_wire _ _ c.put_name-len.ensures.wire (g.met.N.Absolute.absolute c.args.name.now)

pub returns-clause-ok : goal.returns-clause-ok
returns-clause-ok g c =
    let P : List (List ℕ) → Type 0 = λ ls. OnOk c.append_flat_name-2.result (Appended (g.Self.Composer.may_append c.args.self.now ls) (g.Self.Octets.octets c.args.self.now) (g.Self.Octets.octets c.append_flat_name-2.new.self)) in
    subst P (spelled _ _ c.put_name-len.ensures.wire) c.append_flat_name-2.ensures.ok

pub returns-clause-full : goal.returns-clause-full
returns-clause-full g c =
    let P : List (List ℕ) → Type 0 = λ ls. OnErr c.append_flat_name-2.result (Exceeds (g.Self.Composer.may_append c.args.self.now ls) (g.Self.Octets.octets c.args.self.now) (g.Self.Octets.capacity c.args.self.now)) in
    subst P (spelled _ _ c.put_name-len.ensures.wire) c.append_flat_name-2.ensures.full

pub returns-in-Some-clause-appends : goal.returns-in-Some-clause-appends
returns-in-Some-clause-appends g c =
    let P : List (List ℕ) → Type 0 = λ ls. OnOk c.append_flat_name.result (g.Self.Composer.appends c.args.self.now ls c.append_flat_name.new.self) in
    subst P (spelled _ _ c.in-Some.ensures.wire) c.append_flat_name.ensures.appends

pub returns-clause-appends : goal.returns-clause-appends
returns-clause-appends g c =
    let P : List (List ℕ) → Type 0 = λ ls. OnOk c.append_flat_name-2.result (g.Self.Composer.appends c.args.self.now ls c.append_flat_name-2.new.self) in
    subst P (spelled _ _ c.put_name-len.ensures.wire) c.append_flat_name-2.ensures.appends
