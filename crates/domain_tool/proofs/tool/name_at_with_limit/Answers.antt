use Rattle.std.proofs.Common.{◌≡◌, ℕ, List, ◌∷◌, [], ◌++◌, Option, Some, None, IfSome, refl, ◌∙◌, subst, rules}
use Rattle.std.specs.Io.KnownBytes.{Appends, Keeps}
use Rattle.domain_label.specs.Text.{text_with_final_dot}
use Rattle.domain_reading.specs.Grammar.{Names}
use Rattle.domain_wire.specs.declared.error.ParseError.{ParseError}
use Rattle.domain_tool.specs.Engines.{NoNameWithin, WritesNameWithin}
use Rattle.domain_tool.proofs.tool.name_at_with_limit.Goals as goal

keeps_itself : (known : Option (List ℕ)) → Keeps known known
keeps_itself None = tt
keeps_itself (Some octets) = refl

-- what is found of the octets that were read holds of what there was to read
of_input : (known : Option (List ℕ)) (read seen : List ℕ) (n p : ℕ) (e : ParseError) → IfSome known (λ m. read ≡ m) → seen ≡ read → NoNameWithin n seen p e → IfSome known (λ m. NoNameWithin n m p e)
of_input None read seen n p e all same none = tt
of_input (Some m) read seen n p e all same none = subst (λ o. NoNameWithin n o p e) (same ∙ all) none

written_of_input : (known old new : Option (List ℕ)) (read seen : List ℕ) (n p : ℕ) (ls : List (List ℕ)) → IfSome known (λ m. read ≡ m) → seen ≡ read → Names n seen p ls → Appends old new (text_with_final_dot ls ++ 10 ∷ []) → IfSome known (λ m. WritesNameWithin n m p old new)
written_of_input None old new read seen n p ls all same name written = tt
written_of_input (Some m) old new read seen n p ls all same name written = (ls, subst (λ o. Names n o p ls) (same ∙ all) name, written)

pub returns-in-Err-clause-err : goal.returns-in-Err-clause-err
returns-in-Err-clause-err g c =
    of_input (g.R.Read.remaining c.args.input.now) _ c.as_slice.result.now c.args.limit c.args.offset c.in-Err.e c.in_ok-octets.ensures.octets c.as_slice.ensures.value c.in-Err.ensures.err

pub returns-in-Err-clause-nothing_written : goal.returns-in-Err-clause-nothing_written
returns-in-Err-clause-nothing_written g c = keeps_itself _

pub returns-clause-written : goal.returns-clause-written
returns-clause-written g c =
    written_of_input (g.R.Read.remaining c.args.input.now) _ _ _ c.as_slice.result.now c.args.limit c.args.offset _ c.in_ok-octets.ensures.octets c.as_slice.ensures.value c.in-Ok.ensures.ok (search rules)
