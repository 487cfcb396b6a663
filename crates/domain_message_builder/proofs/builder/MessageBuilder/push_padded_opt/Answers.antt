use Rattle.std.proofs.Common.{◌≡◌, ◌+◌, ℕ, List, length, arith}
use Rattle.domain_message_builder.specs.Opt.{Opt}
use Rattle.domain_message_builder.specs.OptViews.{opt_of}
use Rattle.domain_message_builder.specs.Padding.{padded_opt, padding_of}
use Rattle.domain_message_builder.specs.PaddingViews.{SurpassesPadded}
use Rattle.domain_message_builder.specs.Pushes.{with_reserved}
use Rattle.domain_message_builder.specs.State.{State}
use Rattle.domain_message_builder.specs.Views.{state_of, target_of}
use Rattle.domain_message_builder.proofs.Blocks.{padded_pushed, padded_refused, padded_lacks, padded_whole, padded_size, padding_is}
use Rattle.domain_message_builder.proofs.Cutting.{opt_is}
use Rattle.domain_message_builder.proofs.builder.MessageBuilder.push_padded_opt.Goals as goal

pub returns-in-Err-clause-why : goal.returns-in-Err-clause-why
returns-in-Err-clause-why g c =
    let o : Opt = opt_of c.args.opt.now in
    let s : State = state_of g.Target.Octets.octets c.args.self.now in
    let room : ℕ = g.Target.Octets.capacity (target_of c.args.self.now) in
    let len : ℕ = length s.octets in
    let n : ℕ = padding_of c.args.block len o c.args.following in
    let is : c.octets_to_block-padding.result ≡ n = padding_is c.args.block len c.args.following _ (c.len.result + c.record_len.result + 4 + c.from.result) o c.octets_to_block-padding.ensures (omega (arith, c.len.ensures, c.record_len.ensures, c.from.ensures)) in
    let size = padded_size o.options n in
    padded_lacks (SurpassesPadded c.args.block c.args.following c.args.opt.now c.args.self.now) c.in-Err.e g.Target.Composer.compresses (padded_opt n o) (with_reserved c.args.following s) room
    (omega (arith, size, is, c.len.ensures, c.record_len.ensures, c.from.ensures, c.limit.ensures, c.from-2.ensures, c.from-3.ensures))
    (omega (arith, size, is, c.len.ensures, c.record_len.ensures, c.from.ensures, c.limit.ensures, c.from-2.ensures, c.from-3.ensures))
    (padded_refused c.in-Err.e g.Target.Composer.compresses o _ n c.args.following s (state_of g.Target.Octets.octets c.reserve.new.self) g.Target.Octets.capacity (target_of c.args.self.now) (target_of c.reserve.new.self) _ _ c.padded_record-record.ensures.head c.padded_record-record.ensures.options is c.in-Ok.ensures.ok c.in-Ok.ensures.target c.in-Err.ensures.why)

pub returns-clause-ok : goal.returns-clause-ok
returns-clause-ok g c =
    let o : Opt = opt_of c.args.opt.now in
    let s : State = state_of g.Target.Octets.octets c.args.self.now in
    let len : ℕ = length s.octets in
    padded_pushed g.Target.Composer.compresses o _ (padding_of c.args.block len o c.args.following) c.args.following s (state_of g.Target.Octets.octets c.reserve.new.self) (state_of g.Target.Octets.octets c.push_keeping.new.self) _ _ c.padded_record-record.ensures.head c.padded_record-record.ensures.options
    (padding_is c.args.block len c.args.following _ (c.len.result + c.record_len.result + 4 + c.from.result) o c.octets_to_block-padding.ensures (omega (arith, c.len.ensures, c.record_len.ensures, c.from.ensures)))
    c.in-Ok.ensures.ok c.in_default-push_keeping.ensures.ok

pub returns-clause-octets : goal.returns-clause-octets
returns-clause-octets g c =
    let o : Opt = opt_of c.args.opt.now in
    let s : State = state_of g.Target.Octets.octets c.args.self.now in
    opt_is g.Target.Composer.compresses (padded_opt (padding_of c.args.block (length s.octets) o c.args.following) o) (with_reserved c.args.following s) (state_of g.Target.Octets.octets c.push_keeping.new.self) (returns-clause-ok g c)

pub returns-clause-whole : goal.returns-clause-whole
returns-clause-whole g c =
    let old : List ℕ = g.Target.Octets.octets (target_of c.args.self.now) in
    let new : List ℕ = g.Target.Octets.octets (target_of c.push_keeping.new.self) in
    padded_whole c.args.block c.args.following (opt_of c.args.opt.now) old new c.requires (returns-clause-octets g c)
