use Rattle.std.proofs.Common.{◌≡◌, None, length, map}
use Rattle.domain_zone.specs.Kept.{zone_view}
use Rattle.domain_zone_answer.specs.Addresses.{addresses}
use Rattle.domain_zone_answer.specs.AddressViews.{addresses_left}
use Rattle.domain_zone_answer.proofs.addresses.AddressIterIterator.next.Given as goal

-- the name servers so far have no addresses
abbrev pub invariant-loop-server : goal.invariant-loop-server
invariant-loop-server l = record {
  second : l.self.second ≡ None;
  left : addresses_left l.fn.self ≡ addresses (zone_view l.self.zone.now) (map (λ d. d.items) l.self.servers.now);
}

abbrev pub decreases-loop-server : goal.decreases-loop-server
decreases-loop-server l = length l.self.servers.now
