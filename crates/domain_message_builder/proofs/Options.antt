-- Options that are pushed are read back.
use Rattle.std.proofs.Common.{◌≡◌, ℕ, ◌+◌, ◌-◌, ◌*◌, ◌/◌, ◌%◌, ◌^◌, ◌<◌, ◌≤◌, List, [], ◌∷◌, ◌++◌, length, take, drop, slice_index, refl, sym, ap, subst, arith, ◌∙◌, length-append, append-nil, suc, eqb-true}
use Rattle.std.proofs.Math.Nat.{mul-mod_left, div-add-mod, mul_comm}
use Rattle.std.proofs.Math.Seq.{take-append_seam, drop-append_seam, drop-append-add, get_or-append_seam}
use Rattle.std.proofs.lemmas.List.{take-append-le, drop-append-le, length-drop, length-take-le, take_more, take_all}
use Rattle.std.proofs.lemmas.Bool.{eqb-false}
use Rattle.std.proofs.lemmas.Nat.{from_be_bytes-to_be_bytes_2}
use Rattle.std.specs.Int.{w16, to_be_bytes, from_be_bytes}
use Rattle.std.specs.Prelude.{Bool, true, false, nat_eq, if◌then◌else◌, slice_range, Option, None, Some}
use Rattle.domain_header.specs.Numbers.{number16}
use Rattle.domain_message.specs.FirstOptions.{PassesOthers, HasNoOption, IsFirstOption}
use Rattle.domain_message.specs.FirstOptions.PassesOthers.{at_once, after_one}
use Rattle.domain_message.specs.KnownOptions.{HaveLengths, IsCookie, IsPrefix, octets_of_prefix, IsAddress, cut_bits, with_last, IsClientSubnet, IsExtendedError}
use Rattle.domain_message.specs.Options.{BeginsWithOption}
use Rattle.domain_message_builder.specs.NamedOptions.{cookies, subnet}
use Rattle.domain_message_builder.specs.Opt.{option_octets}

-- ---- octets that more octets follow

same_range : (octets more : List ℕ) (a b : ℕ) → a ≤ b → b ≤ length octets → slice_range (octets ++ more) a b ≡ slice_range octets a b
same_range octets more a b order inside =
    ap (take (b - a)) (drop-append-le a octets more (omega (arith, order, inside)))
    ∙ take-append-le (b - a) (drop a octets) more (omega (arith, length-drop a octets, order, inside))

same_number : (octets more : List ℕ) (p : ℕ) → p + 2 ≤ length octets → number16 (octets ++ more) p ≡ number16 octets p
same_number octets more p inside = ap (from_be_bytes w16) (same_range octets more p (p + 2) (omega arith) inside)

-- An option stays what it is.
begins_append : (octets more : List ℕ) (code : ℕ) (data_octets rest : List ℕ) → BeginsWithOption octets code data_octets rest → BeginsWithOption (octets ++ more) code data_octets (rest ++ more)
begins_append octets more code data_octets rest begins =
    let n : ℕ = number16 octets 2 in
    let whole = begins.whole in
    let len : number16 (octets ++ more) 2 ≡ n = same_number octets more 2 (omega (arith, whole)) in
    let first : number16 (octets ++ more) 0 ≡ number16 octets 0 = same_number octets more 0 (omega (arith, whole)) in
    record {
      whole = omega (arith, whole, len, length-append octets more);
      code_is = begins.code_is ∙ sym first;
      data_is = begins.data_is ∙ (sym (same_range octets more 4 (4 + n) (omega arith) whole) ∙ ap (λ k. slice_range (octets ++ more) 4 (4 + k)) (sym len));
      rest_is = ap (λ r. r ++ more) begins.rest_is ∙ (sym (drop-append-le (4 + n) octets more whole) ∙ ap (λ k. drop (4 + k) (octets ++ more)) (sym len));
    }

-- So do those before others.
passes_append : (code : ℕ) (octets more rest : List ℕ) → PassesOthers code octets rest → PassesOthers code (octets ++ more) (rest ++ more)
passes_append code octets more rest at_once = at_once
passes_append code octets more rest (after_one {other = other} {before = before} {data_octets = data_octets} passes begins differs) =
    after_one (passes_append code octets more before passes) (begins_append before more other data_octets rest begins) differs

-- ---- an option that is written

option_begins : (code : ℕ) (data_octets rest : List ℕ) → code < 2 ^ 16 → length data_octets < 2 ^ 16 → BeginsWithOption (option_octets code data_octets ++ rest) code data_octets rest
option_begins code data_octets rest small few =
    let o : List ℕ = option_octets code data_octets ++ rest in
    let d : List ℕ = data_octets ++ rest in
    let n : ℕ = length data_octets in
    let len : number16 o 2 ≡ n = from_be_bytes-to_be_bytes_2 n few in
    let size : length o ≡ suc (suc (suc (suc (length d)))) = refl in
    let past : 4 + n - 4 ≡ n = omega arith in
    record {
      whole = omega (arith, len, size, length-append data_octets rest);
      code_is = sym (from_be_bytes-to_be_bytes_2 code small);
      data_is = sym (ap (λ k. take (4 + k - 4) d) len ∙ (ap (λ k. take k d) past ∙ take-append_seam data_octets rest));
      rest_is = sym (ap (λ k. drop (4 + k) o) len ∙ (drop-append-add (to_be_bytes w16 code ++ to_be_bytes w16 n) d n ∙ drop-append_seam data_octets rest));
    }

pub pushed_is_first : (code : ℕ) (options data_octets : List ℕ) → code < 2 ^ 16 → length data_octets < 2 ^ 16 → HasNoOption code options → IsFirstOption code (options ++ option_octets code data_octets) data_octets
pushed_is_first code options data_octets small few none =
    let o : List ℕ = option_octets code data_octets in
    (o, [], passes_append code options o [] none, subst (λ x. BeginsWithOption x code data_octets []) (append-nil o) (option_begins code data_octets [] small few))

pub pushed_leaves_first : (code other : ℕ) (options data_octets others : List ℕ) → IsFirstOption code options data_octets → IsFirstOption code (options ++ option_octets other others) data_octets
pushed_leaves_first code other options data_octets others first =
    let o : List ℕ = option_octets other others in
    (first.0 ++ o, first.1 ++ o, passes_append code options o first.0 first.2, begins_append first.0 o code data_octets first.1 first.3)

-- ---- and what it says

pub cookies_read : {S : Type 0} (octets_of : S → List ℕ) (client : List ℕ) (server : Option S) → HaveLengths octets_of client server → IsCookie octets_of (cookies octets_of client server) client server
cookies_read octets_of client None have = (have, refl)
cookies_read octets_of client (Some server) have = (have.0, have.1, have.2, refl)

cut_is : (source : ℕ) (address : List ℕ) (all : Bool) → nat_eq (source % 8) 0 ≡ all → octets_of_prefix source ≤ length address
    → IsAddress source (with_last (take (source / 8) address) (if all then None else Some (slice_index address (source / 8) / 2 ^ (8 - source % 8) * 2 ^ (8 - source % 8))))
cut_is source address true is enough =
    let zero : source % 8 ≡ 0 = eqb-true (source % 8) 0 is in
    let whole : source / 8 ≤ length address = omega (arith, enough) in
    (omega (arith, zero, length-take-le (source / 8) address whole), λ some. absurd (some zero))
cut_is source address false is enough =
    let some : source % 8 ≡ 0 → ⊥ = eqb-false (source % 8) 0 is in
    let k : ℕ = source / 8 in
    let m : ℕ = 2 ^ (8 - source % 8) in
    let q : ℕ = slice_index address k / m in
    let whole : k ≤ length address = omega (arith, enough) in
    let taken : length (take k address) ≡ k = length-take-le k address whole in
    let last : slice_index (take k address ++ q * m ∷ []) k ≡ q * m = ap (λ n. slice_index (take k address ++ q * m ∷ []) n) (sym taken) ∙ get_or-append_seam (take k address) (q * m) [] 0 in
    (omega (arith, some, taken, length-append (take k address) (q * m ∷ [])), λ nonzero. ap (λ x. x % m) last ∙ mul-mod_left q m)

pub cut_is_address : (source : ℕ) (address : List ℕ) → octets_of_prefix source ≤ length address → IsAddress source (cut_bits address source)
cut_is_address source address enough = cut_is source address (nat_eq (source % 8) 0) refl enough

kept_is : (source : ℕ) (address : List ℕ) (all : Bool) → nat_eq (source % 8) 0 ≡ all → IsAddress source address
    → with_last (take (source / 8) address) (if all then None else Some (slice_index address (source / 8) / 2 ^ (8 - source % 8) * 2 ^ (8 - source % 8))) ≡ address
kept_is source address true is at =
    let zero : source % 8 ≡ 0 = eqb-true (source % 8) 0 is in
    let len = at.0 in
    take_all (source / 8) address (omega (arith, zero, len))
kept_is source address false is at =
    let some : source % 8 ≡ 0 → ⊥ = eqb-false (source % 8) 0 is in
    let k : ℕ = source / 8 in
    let m : ℕ = 2 ^ (8 - source % 8) in
    let s : ℕ = slice_index address k in
    let len = at.0 in
    let zeros : s % m ≡ 0 = at.1 some in
    let same : s / m * m ≡ s = mul_comm (s / m) m ∙ omega (arith, div-add-mod s m, zeros) in
    let size : length address ≡ k + 1 = omega (arith, some, len) in
    ap (λ x. take k address ++ x ∷ []) same ∙ (sym (take_more address k 0 (omega (arith, size))) ∙ take_all (k + 1) address (omega (arith, size)))

pub address_is_kept : (source : ℕ) (address : List ℕ) → IsAddress source address → cut_bits address source ≡ address
address_is_kept source address at = kept_is source address (nat_eq (source % 8) 0) refl at

pub subnet_read : (family source scope : ℕ) (address : List ℕ) → family < 2 ^ 16 → IsPrefix family source → octets_of_prefix source ≤ length address → IsClientSubnet (subnet family source scope address) family source scope (cut_bits address source)
subnet_read family source scope address small prefix enough =
    let cut : List ℕ = cut_bits address source in
    let size : length (subnet family source scope address) ≡ suc (suc (suc (suc (length cut)))) = refl in
    record {
      whole = omega (arith, size);
      family_is = sym (from_be_bytes-to_be_bytes_2 family small);
      source_is = refl;
      scope_is = refl;
      address_is = refl;
      prefix = prefix;
      bits = cut_is_address source address enough;
    }

pub error_read : (info_code : ℕ) (text : List ℕ) → info_code < 2 ^ 16 → IsExtendedError (to_be_bytes w16 info_code ++ text) info_code text
error_read info_code text small =
    let size : length (to_be_bytes w16 info_code ++ text) ≡ suc (suc (length text)) = refl in
    record { whole = omega (arith, size); code_is = sym (from_be_bytes-to_be_bytes_2 info_code small); text_is = refl }
