-- A response is given.
use Rattle.std.proofs.Common.{◌≡◌, ℕ, true, List, Some, sym, ap, subst, ◌∙◌, inl, inr, true≢false}
use Rattle.std.specs.Prelude.{◌↔◌, Option, IfSome, IsNone, is_some}
use Rattle.domain_header.specs.Values.{class_number}
use Rattle.domain_zone.specs.Kept.{zone_view, zone_class}
use Rattle.domain_zone.specs.declared.kept.Zone.{Zone}
use Rattle.domain_zone_response.specs.Queries.{IsNoQuery}
use Rattle.domain_zone_response.specs.Responses.{Responds}
use Rattle.domain_zone_response.specs.declared.edns.Server.{Server}
use Rattle.dnsnames_zone_c.specs.Zones.{AnswersFrom, Gives, GivesResponse}

-- A message was made with room for 65,535 octets, and its octets are given.
pub gives_response : {T : Type 0} (told : Option T) (made : T) (octets_of : T → List ℕ) (z : Zone) (server : Server) (query : List ℕ) (capacity : ℕ) (out : List ℕ) (status : ℕ) (old new : List ℕ) (old_len len : ℕ)
    → told ≡ Some made → IsNone told ↔ IsNoQuery query
    → IfSome told (λ it. Responds true (zone_view z) (class_number (zone_class z)) server capacity query (octets_of it))
    → capacity ≡ 65535 → out ≡ octets_of made → Gives out status old new len → GivesResponse z server query status old new old_len len
gives_response told made octets_of z server query capacity out status old new old_len len is none responds room same gives =
    let here = subst (λ t. IfSome t (λ it. Responds true (zone_view z) (class_number (zone_class z)) server capacity query (octets_of it))) is responds in
    let with_room = subst (λ (n : ℕ). Responds true (zone_view z) (class_number (zone_class z)) server n query (octets_of made)) room here in
    inr (inl (
      (λ h. true≢false (sym (ap is_some is) ∙ none.1 h)),
      out,
      subst (λ (o : List ℕ). Responds true (zone_view z) (class_number (zone_class z)) server 65535 query o) (sym same) with_room,
      gives,
    ))

-- The zone is that of a slot.
pub answers_from : (z z' : Zone) (held : Option Zone) (server server' : Server) (query : List ℕ) (status : ℕ) (old new : List ℕ) (old_len len : ℕ)
    → Some z ≡ held → z' ≡ z → server' ≡ server → GivesResponse z' server' query status old new old_len len → AnswersFrom held server query status old new old_len len
answers_from z z' held server server' query status old new old_len len is same same_server gives =
    let of_zone = subst (λ (x : Zone). GivesResponse x server' query status old new old_len len) same gives in
    subst (λ (x : Option Zone). AnswersFrom x server query status old new old_len len) is (subst (λ (x : Server). GivesResponse z x query status old new old_len len) same_server of_zone)
