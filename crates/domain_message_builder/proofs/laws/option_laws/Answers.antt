use Rattle.std.proofs.Common.{refl, sym}
use Rattle.std.proofs.lemmas.Nat.{from_be_bytes-to_be_bytes_2}
use Rattle.domain_message_builder.proofs.Options.{pushed_is_first, pushed_leaves_first, cookies_read, subnet_read, address_is_kept, error_read}
use Rattle.domain_message_builder.proofs.laws.option_laws.Goals as goal

pub returns : goal.returns
returns c = record {
  first = pushed_is_first;
  others = pushed_leaves_first;
  cookies = λ it have. cookies_read (λ server. server.now) it.client.now it.server have;
  subnet = subnet_read;
  address = address_is_kept;
  error = error_read;
  timeout = λ told small. (refl, sym (from_be_bytes-to_be_bytes_2 told small));
}
