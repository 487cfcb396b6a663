-- One string, block or parameter more, and one field.
use Rattle.std.proofs.Common.{◌≡◌, ℕ, zero, suc, ◌<◌, ◌≤◌, ◌+◌, List, [], ◌∷◌, ◌++◌, length, take, get_or, refl, subst, inl, inr, arith}
use Rattle.std.specs.Prelude.{slice_index}
use Rattle.domain_header.specs.Numbers.{number16}
use Rattle.domain_descriptor.specs.declared.fault.DataFault.{DataFault}
use Rattle.domain_descriptor.specs.declared.fault.DataFault.TheVariants.{TrailingData}
use Rattle.domain_descriptor.specs.declared.form.FieldForm.{FieldForm}
use Rattle.domain_descriptor.specs.declared.kind.FieldKind.{FieldKind}
use Rattle.domain_descriptor.specs.declared.kind.FieldKind.TheVariants.{Number8}
use Rattle.domain_descriptor.specs.Fields.{CountedAt, CountedCut, StringsAt, StringsCut, BlockAt, BlocksAt, BlocksFault, BlockFault, ParamAt, ParamsAt, ParamsFault, ParamFault}
use Rattle.domain_descriptor.specs.Fields.{FormAt, FormFault, FieldAt, FieldFault, FieldsAt, FieldsFault, AreData, AreNoData}
use Rattle.domain_descriptor.specs.Fields.StringsAt.{last, more}
use Rattle.domain_descriptor.specs.Fields.StringsCut.{here as cut_here, later as cut_later}
use Rattle.domain_descriptor.specs.Fields.BlocksAt.{none as no_blocks, block}
use Rattle.domain_descriptor.specs.Fields.BlocksFault.{here as block_here, later as block_later}
use Rattle.domain_descriptor.specs.Fields.ParamsAt.{none as no_params, param}
use Rattle.domain_descriptor.specs.Fields.ParamsFault.{here as param_here, later as param_later}

-- Strings were passed from p to q.
pub record StringsLeft (m : List ℕ) (p q : ℕ) : Type 0 where
  pub on : StringsAt m q → StringsAt m p
  pub off : StringsCut m q → StringsCut m p

pub no_string : (m : List ℕ) (p : ℕ) → StringsLeft m p p
no_string m p = record { on = λ it. it; off = λ it. it }

pub one_string : (m : List ℕ) (p q e : ℕ) → StringsLeft m p q → CountedAt m q e → e < length m → StringsLeft m p e
one_string m p q e before at inside = record { on = λ it. before.on (more at it); off = λ it. before.off (cut_later at inside it) }

pub whole_strings : (m : List ℕ) (p q e : ℕ) → StringsLeft m p q → CountedAt m q e → length m ≤ e → StringsAt m p
whole_strings m p q e before at end =
    let same : e ≡ length m = omega (arith, at.2, end) in
    before.on (last (subst (λ x. CountedAt m q x) same at))

pub cut_strings : (m : List ℕ) (p q : ℕ) → StringsLeft m p q → CountedCut m q → StringsCut m p
cut_strings m p q before cut = before.off (cut_here cut)

-- Blocks were passed from p to q.
pub record BlocksLeft (m : List ℕ) (p q next : ℕ) : Type 0 where
  pub on : BlocksAt m q next → BlocksAt m p 0
  pub off : (why : DataFault) → BlocksFault m q next why → BlocksFault m p 0 why

pub no_block : (m : List ℕ) (p : ℕ) → BlocksLeft m p p 0
no_block m p = record { on = λ it. it; off = λ why it. it }

pub one_block : (m : List ℕ) (p q next e after : ℕ) → BlocksLeft m p q next → BlockAt m q next e → after ≡ slice_index m q + 1 → BlocksLeft m p e after
one_block m p q next e after before at is = record {
  on = λ it. before.on (block at (subst (λ n. BlocksAt m e n) is it));
  off = λ why it. before.off why (block_later at (subst (λ n. BlocksFault m e n why) is it));
}

pub whole_blocks : (m : List ℕ) (p q next : ℕ) → BlocksLeft m p q next → length m ≤ q → BlocksAt m p 0
whole_blocks m p q next before end = before.on (no_blocks end)

pub faulty_blocks : (m : List ℕ) (p q next : ℕ) (why : DataFault) → BlocksLeft m p q next → q < length m → BlockFault m q next why → BlocksFault m p 0 why
faulty_blocks m p q next why before inside fault = before.off why (block_here inside fault)

-- Parameters were passed from p to q.
pub record ParamsLeft (m : List ℕ) (p q next : ℕ) : Type 0 where
  pub on : ParamsAt m q next → ParamsAt m p 0
  pub off : (why : DataFault) → ParamsFault m q next why → ParamsFault m p 0 why

pub no_param : (m : List ℕ) (p : ℕ) → ParamsLeft m p p 0
no_param m p = record { on = λ it. it; off = λ why it. it }

pub one_param : (m : List ℕ) (p q next e after : ℕ) → ParamsLeft m p q next → ParamAt m q next e → after ≡ number16 m q + 1 → ParamsLeft m p e after
one_param m p q next e after before at is = record {
  on = λ it. before.on (param at (subst (λ n. ParamsAt m e n) is it));
  off = λ why it. before.off why (param_later at (subst (λ n. ParamsFault m e n why) is it));
}

pub whole_params : (m : List ℕ) (p q next : ℕ) → ParamsLeft m p q next → length m ≤ q → ParamsAt m p 0
whole_params m p q next before end = before.on (no_params end)

pub faulty_params : (m : List ℕ) (p q next : ℕ) (why : DataFault) → ParamsLeft m p q next → q < length m → ParamFault m q next why → ParamsFault m p 0 why
faulty_params m p q next why before inside fault = before.off why (param_here inside fault)

-- after fields a further one
pub one_field_more : (m : List ℕ) (p : ℕ) (kinds : List FieldKind) (q : ℕ) (kind : FieldKind) (e : ℕ) → FieldsAt kinds m p q → FieldAt kind m q e → FieldsAt (kinds ++ kind ∷ []) m p e
one_field_more m p [] q kind e here at = (e, subst (λ x. FieldAt kind m x e) here at, refl)
one_field_more m p (k ∷ kinds) q kind e (r, first, rest) at = (r, first, one_field_more m r kinds q kind e rest at)

-- after the first fields one isn't there
pub fault_after : (m : List ℕ) (p : ℕ) (kinds : List FieldKind) (i q : ℕ) (why : DataFault) → i < length kinds → FieldsAt (take i kinds) m p q → FieldFault (get_or kinds i Number8) m q why → FieldsFault kinds m p why
fault_after m p [] i q why inside before fault = absurd (omega (arith, inside))
fault_after m p (k ∷ kinds) zero q why inside before fault = inl (subst (λ x. FieldFault k m x why) before fault)
fault_after m p (k ∷ kinds) (suc i) q why inside (r, first, rest) fault = inr (r, first, fault_after m r kinds i q why (omega (arith, inside)) rest fault)

-- what is said of a form is said of its equal
pub form_at : (it other : FieldForm) (m : List ℕ) (p e : ℕ) → it ≡ other → FormAt it m p e → FormAt other m p e
form_at it other m p e same at = subst (λ x. FormAt x m p e) same at

pub form_fault : (it other : FieldForm) (m : List ℕ) (p : ℕ) (why : DataFault) → it ≡ other → FormFault it m p why → FormFault other m p why
form_fault it other m p why same fault = subst (λ x. FormFault x m p why) same fault

-- fields that end where the message does are data
pub whole_data : (kinds known : List FieldKind) (m : List ℕ) (p e : ℕ) → kinds ≡ known → FieldsAt kinds m p e → e ≤ length m → length m ≤ e → AreData known m p
whole_data kinds known m p e same at inside all =
    let end : e ≡ length m = omega (arith, inside, all) in
    subst (λ ks. FieldsAt ks m p (length m)) same (subst (λ x. FieldsAt kinds m p x) end at)

-- and others are none
pub too_much : (kinds known : List FieldKind) (m : List ℕ) (p e : ℕ) → kinds ≡ known → FieldsAt kinds m p e → e < length m → AreNoData known m p TrailingData
too_much kinds known m p e same at left = inr (refl, (e, subst (λ ks. FieldsAt ks m p e) same at, left))

pub lacks_field : (kinds known : List FieldKind) (m : List ℕ) (p : ℕ) (why : DataFault) → kinds ≡ known → FieldsFault kinds m p why → AreNoData known m p why
lacks_field kinds known m p why same fault = inl (subst (λ ks. FieldsFault ks m p why) same fault)
