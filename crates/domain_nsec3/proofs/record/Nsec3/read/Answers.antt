use Rattle.std.proofs.Common.{◌≡◌, ◌∙◌, ℕ, ◌+◌, get_or, get_or-drop, take, drop, drop-drop, sym, ap, arith}
use Rattle.std.proofs.lemmas.List.{take_rest}
use Rattle.domain_nsec3.proofs.Fields.{nsec3_joined}
use Rattle.domain_nsec3.proofs.record.Nsec3.read.Goals as goal

pub returns-clause-ok : goal.returns-clause-ok
returns-clause-ok c =
    let m = c.args.data.now in
    let k = c.from-salt_end.result in
    let j = c.from.result in
    let is_k : k ≡ get_or m 4 0 = c.from-salt_end.ensures in
    let is_j : j ≡ get_or m (5 + k) 0 = c.from.ensures in
    let same : get_or m (5 + k) 0 ≡ get_or m (5 + get_or m 4 0) 0 = ap (λ (n : ℕ). get_or m (5 + n) 0) is_k in
    nsec3_joined m _ _ _ _ k j (λ i. (c.type_inv.data i).fits) is_k (omega (arith, is_k, c.in_ok-check_nsec3.ensures.salt)) (is_j ∙ sym (get_or-drop 5 m k 0))
    (omega (arith, is_k, is_j, same, c.in_ok-check_nsec3.ensures.next)) c.from_be_bytes.ensures (ap (λ (x : ℕ). take x (drop 5 m)) (omega arith))
    (ap (λ (x : ℕ). take x (drop (5 + k + 1) m)) (omega arith) ∙ ap (take j) (ap (λ (n : ℕ). drop n m) (omega arith) ∙ sym (drop-drop (k + 1) 5 m)))
    (take_rest m (5 + k + 1 + j) ∙ (ap (λ (n : ℕ). drop n m) (omega arith) ∙ sym (drop-drop (k + 1 + j) 5 m)))
