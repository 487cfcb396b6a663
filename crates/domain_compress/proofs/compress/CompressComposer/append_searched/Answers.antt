use Rattle.std.proofs.Common.{◌∙◌, ap, ◌++◌, length, take}
use Rattle.domain_label.specs.Wire.{labels_in}
use Rattle.domain_label.proofs.WireLaws.{absolute_wire}
use Rattle.domain_compress.proofs.Composing.{stands_begun, stands_flat}
use Rattle.domain_compress.proofs.Inside.{inside_too, few_too}
use Rattle.domain_compress.proofs.LabelHashes.{both_true, known_still}
use Rattle.domain_compress.proofs.compress.CompressComposer.append_searched.Goals as goal

pub remember-requires-2-clause-labels : goal.remember-requires-2-clause-labels
remember-requires-2-clause-labels g c = absolute_wire c.requires

pub invariant_of-self-in-Some : goal.invariant_of-self-in-Some
invariant_of-self-in-Some g c =
    let all = (rw c.in-Some.is at c.in-Ok.ensures.ok).all in
    record {
      known = known_still _ _ _ _ _ _ _ _ _ _ (λ counts. counts) all c.hash_remembered.new.self.known c.remember.ensures.known (stands_begun _ _ _ _ _ _ _ (rw c.in-Some.is at c.in-Ok.ensures.ok) c.as_slice-start.ensures.octets c.as_slice-end.ensures.octets);
      inside = inside_too _ _ _ _ _ _ (length c.as_slice-start.result.now) (labels_in (take c.in-Some.at c.args.name.now)) all c.as_slice-end.ensures.octets c.hash_remembered.new.self.inside c.remember.ensures.offsets;
      few = few_too _ _ c.remember.ensures.offsets;
    }

pub invariant_of-self-2 : goal.invariant_of-self-2
invariant_of-self-2 g c =
    let all = c.in_default-append_slice.ensures.ok ∙ ap (λ t. t ++ c.args.name.now) (rw c.in_default.is at c.in-Ok.ensures.ok).0 in
    record {
      known = known_still _ _ _ _ _ _ _ _ _ _ (λ counts. (both_true _ _ counts).0) all c.hash_remembered.new.self.known c.remember-2.ensures.known (stands_flat _ _ _ _ _ all c.as_slice-start.ensures.octets c.as_slice-end-2.ensures.octets);
      inside = inside_too _ _ _ _ _ _ (length c.as_slice-start.result.now) (labels_in c.args.name.now) all c.as_slice-end-2.ensures.octets c.hash_remembered.new.self.inside c.remember-2.ensures.offsets;
      few = few_too _ _ c.remember-2.ensures.offsets;
    }

pub returns-in-Err-append_slice-clause-memory_unchanged : goal.returns-in-Err-append_slice-clause-memory_unchanged
returns-in-Err-append_slice-clause-memory_unchanged g c = c.hash_remembered.ensures.offsets
