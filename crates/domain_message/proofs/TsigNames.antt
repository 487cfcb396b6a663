-- A name that was read at the front of octets.
use Rattle.std.proofs.Common.{◌≡◌, ℕ, List, ◌++◌, length, drop, sym, ap, arith, ◌∙◌}
use Rattle.std.proofs.Math.Seq.{drop-append_seam}
use Rattle.domain_flat.specs.Flat.{NameAt}
use Rattle.domain_label.specs.Wire.{wire}
use Rattle.domain_message.specs.TsigFields.{BeginsWithName}

-- The octets before `m` was read are `m`, and the rest is what is after the name's end.
pub begins_with : (m octets rest : List ℕ) (p e : ℕ) (ls : List (List ℕ)) → m ≡ octets → p ≡ 0 → NameAt m p ls e → rest ≡ drop e m → BeginsWithName octets ls rest
begins_with m octets rest p e ls same start at rest_is =
    let all : m ≡ wire ls ++ at.after = ap (λ k. drop k m) (sym start) ∙ at.octets in
    let end : e ≡ length (wire ls) = omega (arith, start, at.end) in
    let after : rest ≡ at.after = rest_is ∙ (ap (λ k. drop k m) end ∙ (ap (drop (length (wire ls))) all ∙ drop-append_seam (wire ls) at.after)) in
    (at.name, sym same ∙ (all ∙ ap (λ r. wire ls ++ r) (sym after)))
