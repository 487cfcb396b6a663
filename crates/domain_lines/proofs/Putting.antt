-- A text that is put into a room in several calls.
use Rattle.std.proofs.Common.{List, ℕ, [], ◌∷◌, ◌++◌, subst, Option, Some, None, IfSome}
use Rattle.std.specs.List.{concat, FoldsTo}
use Rattle.std.specs.Fmt.{WritesText, with_newline}
use Rattle.domain_lines.specs.Rooms.{takes}
use Rattle.domain_lines.specs.RoomLaws.{takes_nothing, takes_both}
use Rattle.domain_lines.specs.declared.room.Room.{Room}

took_calls : (a b : Room) (parts : List (List ℕ)) → FoldsTo (λ s xs t. takes s t xs) a parts b → takes a b (concat parts)
took_calls a b [] same = subst (λ r. takes a r []) same (takes_nothing a)
took_calls a b (x ∷ xs) p = takes_both a p.0 b x (concat xs) p.1 (took_calls p.0 b xs p.2)

-- The room took the text, and a newline.
pub took_line : (a b : Room) (output : Option (List ℕ)) → WritesText (λ s xs t. takes s t xs) a (with_newline output) b → IfSome output (λ shown. takes a b (shown ++ 10 ∷ []))
took_line a b None x = tt
took_line a b (Some shown) x = subst (λ l. takes a b l) x.whole (took_calls a b x.parts x.calls)
