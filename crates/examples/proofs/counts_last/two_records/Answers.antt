use Rattle.std.proofs.Common.{◌≡◌, ℕ, ◌≤◌, List, ◌++◌, length, drop, ◌+◌, sym, ap, subst, arith, ◌∙◌, append_assoc, length-append}
use Rattle.domain_rdata.specs.ReadBack.{StandsAt}
use Rattle.domain_compress.specs.Standing.{AllRememberedStand}
use Rattle.domain_compress.specs.Composers.{remembered_labels}
use Rattle.examples.proofs.counts_last.two_records.Given as given
use Rattle.examples.proofs.counts_last.two_records.Goals as goal

-- Octets were appended, then a name's, and octets again; and what follows the header stayed.
after_header : (u t v w o a s b : List ℕ) → t ≡ u ++ a → v ≡ t ++ s → w ≡ v ++ b → drop 12 o ≡ drop 12 w → drop 12 o ≡ drop 12 (u ++ (a ++ (s ++ b)))
after_header u t v w o a s b first name second stays =
    let all : w ≡ (u ++ a) ++ (s ++ b) = second ∙ ap (λ m. m ++ b) (name ∙ ap (λ m. m ++ s) first) ∙ append_assoc (u ++ a) s b in
    stays ∙ ap (drop 12) (all ∙ append_assoc u a (s ++ b))

-- After the header of twelve octets no offset is remembered yet.
begun : (g : given.Over) (c : goal.After-into_target g) → (length c.append_slice.new.self.target.items ≡ 12) × AllRememberedStand 12 c.append_slice.new.self.target.items (remembered_labels c.append_slice.new.self)
begun g c =
    let started = c.in_ok-append_slice.ensures in
    let t = c.append_slice.new.self.target.items in
    let empty : length c.new-message.result.target.items ≡ 0 = ap (λ m. length m.items) c.new-message.ensures.target ∙ ap length c.new.ensures in
    let size : length t ≡ 12 = ap length started.ok ∙ length-append c.new-message.result.target.items _ ∙ ap (λ n. n + 12) empty in
    (size, subst (AllRememberedStand 12 t) (sym (started.offsets ∙ c.new-message.ensures.offsets)) (c.compress_laws.ensures.remembered_none 12 t))

pub returns-clause-first : goal.returns-clause-first
returns-clause-first g c =
    let start = begun g c in
    let size = start.0 in
    let few : 12 ≤ length c.append_slice.new.self.target.items = omega (arith, size) in
    let u = c.append_compressed_name.new.self.target.items in
    let adds = c.in_ok-append_compressed_name.ensures.appends in
    let next = c.in_ok-append_compressed_name-2.ensures.appends in
    let same = after_header u _ _ _ c.into_target.result.items _ _ _ c.in_ok-append_slice-2.ensures.ok next.all c.in_ok-append_slice-3.ensures.ok (ap (λ m. drop 12 m.items) c.into_target.ensures ∙ c.write_count.ensures.rest) in
    let P : ℕ → Type 0 = λ n. StandsAt c.into_target.result.items n (g.N.NameLabels.labels c.args.first.now) in
    subst P size (c.compress_laws.ensures.stays 12 _ u _ _ _ _ _ (g.met.N.Absolute.absolute c.args.first.now) few start.1 adds same)

pub returns-clause-second : goal.returns-clause-second
returns-clause-second g c =
    let laws = c.compress_laws.ensures in
    let start = begun g c in
    let t = c.append_slice.new.self.target.items in
    let u = c.append_compressed_name.new.self.target.items in
    let v = c.append_slice-2.new.self.target.items in
    let size = start.0 in
    let few : 12 ≤ length t = omega (arith, size) in
    let adds = c.in_ok-append_compressed_name.ensures.appends in
    let more = c.in_ok-append_slice-2.ensures in
    let stand = (laws.remembered_added 12 t u _ _ _ (g.met.N.Absolute.absolute c.args.first.now) few start.1 adds).0 in
    let kept : AllRememberedStand 12 v (remembered_labels c.append_slice-2.new.self) = subst (λ m. AllRememberedStand 12 m (remembered_labels c.append_slice-2.new.self)) (sym more.ok) (subst (AllRememberedStand 12 (u ++ _)) (sym more.offsets) (laws.remembered_more 12 u _ _ stand)) in
    let longer = ap length adds.all in
    let longest = ap length more.ok ∙ length-append u _ in
    let enough : 12 ≤ length v = omega (arith, size, longer, longest, length-append t adds.octets) in
    let same = ap (λ m. drop 12 m.items) c.into_target.ensures ∙ c.write_count.ensures.rest ∙ ap (drop 12) c.in_ok-append_slice-3.ensures.ok in
    let P : List ℕ → Type 0 = λ m. StandsAt c.into_target.result.items (length m) (g.M.NameLabels.labels c.args.second.now) in
    subst P (sym c.as_slice-offset.ensures.octets) (laws.stays 12 v _ _ _ _ _ _ (g.met.M.Absolute.absolute c.args.second.now) enough kept c.in_ok-append_compressed_name-2.ensures.appends same)
