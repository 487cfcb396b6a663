use Rattle.std.proofs.Common.{◌≡◌, ◌+◌, ◌++◌, ◌∷◌, [], rules, subst, arith}
use Rattle.std.specs.Io.KnownBytes.{Appends}
use Rattle.domain_label.specs.Labels.{label_octets}
use Rattle.domain_reading.specs.Faults.{StepFaultAt}
use Rattle.domain_reading.specs.declared.fault.NameFault.TheVariants.{TooManyPointers, LongName}
use Rattle.dnswalk.proofs.Telling.{tells_start, tells_label, tells_pointer, tells_root, tells_fault, tells_broken}
use Rattle.dnswalk.proofs.follow.write_steps.Goals as goal

pub heads-init : goal.heads-init
heads-init g c = tells_start _ _ _ _ c.new-progress.ensures (search rules)

pub returns-in-Err-clause-followed : goal.returns-in-Err-clause-followed
returns-in-Err-clause-followed g c =
    let line = subst (λ line. Appends (g.W.Sink.contents c.heads.output) (g.W.Sink.contents c.put_line.new.self) (line ++ 10 ∷ [])) c.broken.ensures c.in_ok-put_line-in-Err.ensures.written in
    tells_broken c.in-Err.fault _ _ _ _ _ _ c.heads.invariant c.in-Err.ensures.found line c.read_so_far.ensures

pub returns-in-Root-clause-followed : goal.returns-in-Root-clause-followed
returns-in-Root-clause-followed g c =
    let found = rw c.in-Root.is at c.in-Ok.ensures.found in
    tells_root _ _ _ _ _ _ c.heads.invariant found c.in_ok-put_line-in-Root.ensures.written c.read_so_far-in-Root.ensures

pub returns-in-Err-pass_label-clause-followed : goal.returns-in-Err-pass_label-clause-followed
returns-in-Err-pass_label-clause-followed g c =
    let refused = c.in-Err-pass_label.ensures in
    let label = c.label_at-label in
    let count = subst (λ w. c.read_so_far-in-Err-pass_label.result ≡ w.count + w.pointers + 1) refused.moved.0 c.read_so_far-in-Err-pass_label.ensures in
    let fault : StepFaultAt 255 c.args.message.now c.heads.progress.pointers c.heads.invariant.0.0 c.heads.progress.at LongName = (label_octets label.result, label.ensures.label, omega (arith, refused.long.1, c.heads.invariant.0.1.len, label.ensures.size)) in
    tells_fault LongName _ _ _ _ _ _ c.heads.invariant fault c.in_ok-put_line-in-Label.ensures.written count

pub heads-preserved-in-Continue-branch-4 : goal.heads-preserved-in-Continue-branch-4
heads-preserved-in-Continue-branch-4 g c =
    let label = c.label_at-label in
    let passed = c.in_default.ensures in
    tells_label _ _ _ _ _ _ _ c.heads.invariant (label_octets label.result) label.ensures.size label.ensures.label passed.long passed.moved c.read_head.ensures.counted c.in_ok-put_line-in-Label-2.ensures.written

pub returns-in-Err-follow-clause-followed : goal.returns-in-Err-follow-clause-followed
returns-in-Err-follow-clause-followed g c =
    let refused = c.in-Err-follow.ensures in
    let found = rw c.in-Pointer.is at c.in-Ok.ensures.found in
    let count = subst (λ w. c.read_so_far-in-Err-follow.result ≡ w.count + w.pointers + 1) refused.moved c.read_so_far-in-Err-follow.ensures in
    let line = subst (λ line. Appends (g.W.Sink.contents c.heads.output) (g.W.Sink.contents c.put_line-in-Err-follow.new.self) (line ++ 10 ∷ [])) c.refused_pointer.ensures c.in_ok-put_line-in-Pointer.ensures.written in
    tells_fault TooManyPointers _ _ _ _ _ _ c.heads.invariant (c.in-Pointer.target, found.0, refused.err.1) line count

pub heads-preserved : goal.heads-preserved
heads-preserved g c =
    let found = rw c.in-Pointer.is at c.in-Ok.ensures.found in
    let followed = c.in_default-follow.ensures in
    tells_pointer _ _ _ _ _ _ c.heads.invariant found followed.err followed.moved c.read_head.ensures.counted c.in_ok-put_line-in-Pointer-2.ensures.written
