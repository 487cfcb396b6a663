use Rattle.std.proofs.Common.{◌≡◌, ◌∙◌, ◌++◌, ◌∷◌, [], ℕ, List, sym, ap}
use Rattle.domain_descriptor.specs.Rdatas.{rdata_kinds, rdata_message, rdata_begin}
use Rattle.domain_rdata_text.specs.Values.{Val, val_of, vals_of, val_octets, vals_octets}
use Rattle.domain_rdata_text.specs.declared.value.Value.{Value}
use Rattle.domain_rdata_text.proofs.Gathering.{field_taken, vals_more, octets_more}
use Rattle.domain_rdata_text.proofs.value.plain_data.Goals as goal

pub field-preserved : goal.field-preserved
field-preserved c =
    let s = c.in-Some.ensures.steps in
    let it = c.args.rdata.now in
    let vs = vals_of c.field.values.items in
    let v = val_of c.in_ok-value.value in
    let is : vals_of c.push.new.self.items ≡ vs ++ v ∷ [] = ap (λ (x : List Value). vals_of x) c.in_ok-push.ensures.items ∙ vals_more c.field.values.items c.in_ok-value.value in
    record {
      message = s.same_octets ∙ c.field.invariant.message;
      passed = field_taken (rdata_kinds it) (rdata_message it) (rdata_begin it) vs c.field.fields c.in-Some.field c.next.new.self v (vals_of c.push.new.self.items)
          c.field.invariant.message c.field.invariant.passed s c.in_ok-value.ensures.value is;
      octets = c.in_ok-value.ensures.octets ∙ ap (λ (x : List ℕ). x ++ val_octets v) c.field.invariant.octets ∙ sym (octets_more vs v) ∙ ap (λ (x : List Val). vals_octets x) (sym is);
    }
