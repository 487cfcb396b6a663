-- For callers: parsers over the same octets.
use Rattle.std.proofs.Common.{◌≡◌, ℕ, take, ap, ◌∙◌}
use Rattle.octseq.specs.declared.parse.Parser.{Parser}
use Rattle.octseq.specs.Parsing.{message, MovesTo}

-- a parser that was moved is over the same octets
pub same_message : (old new : Parser) (n : ℕ) → MovesTo old new n → message new ≡ message old
same_message old new n moved =
    ap (λ o. take new.end o.now) moved.octets ∙ ap (λ e. take e old.octets.now) moved.end
