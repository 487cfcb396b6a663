-- Texts that are put into a room one after another.
use Rattle.std.proofs.Common.{◌≡◌, ◌∙◌, ℕ, List, [], ◌++◌, refl, sym, subst, append_assoc}
use Rattle.std.proofs.lemmas.List.{append-nil}
use Rattle.domain_lines.specs.Rooms.{HoldsText, takes}
use Rattle.domain_lines.specs.declared.room.Room.{Room}

holds_said : (old text other buffer : List ℕ) (len : ℕ) → text ≡ other → HoldsText old text buffer len → HoldsText old other buffer len
holds_said old text other buffer len same x = subst (λ t. HoldsText old t buffer len) same x

pub takes_nothing : (a : Room) → takes a a []
takes_nothing a = record { same = refl; behind = λ old before x. holds_said old before (before ++ []) a.buffer.now a.len (sym (append-nil before)) x }

pub takes_both : (a b c : Room) (first second : List ℕ) → takes a b first → takes b c second → takes a c (first ++ second)
takes_both a b c first second x y = record {
  same = y.same ∙ x.same;
  behind = λ old before it. holds_said old ((before ++ first) ++ second) (before ++ (first ++ second)) c.buffer.now c.len (append_assoc before first second) (y.behind old (before ++ first) (x.behind old before it));
}
