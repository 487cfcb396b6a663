use Rattle.std.proofs.Common.{◌∙◌, ◌++◌, ℕ, List, sym, ap}
use Rattle.domain_rdata_text.specs.Values.{val_octets}
use Rattle.domain_rdata_text.proofs.Holding.{held_in}
use Rattle.domain_rdata_text.proofs.Octets.{octets_each}
use Rattle.domain_rdata_text.proofs.value.plain_field.Goals as goal

pub keep_octets-requires : goal.keep_octets-requires
keep_octets-requires c = octets_each c.octets-of_field.result.now (λ k. (c.type_inv.of_field k).fits)

pub returns-in_ok-append_all-in-None-clause-octets : goal.returns-in_ok-append_all-in-None-clause-octets
returns-in_ok-append_all-in-None-clause-octets c =
    let os = c.octets-of_field.result.now in
    let held = (held_in c.text_form.result os c.keep_octets.ensures).octets in
    c.in_ok-append_all-in-None.ensures.ok ∙ ap (λ (x : List ℕ). c.args.octets.now.items ++ x) (sym (ap val_octets c.in_ok-value-in-None.ensures ∙ held))
