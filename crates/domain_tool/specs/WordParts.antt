-- The words after a program's name, and those that ask for the name at an offset.
use Rattle.std.specs.Prelude.{◌≡◌, ℕ, List, [], ◌∷◌, codes, map}
use denote.Bor.{Bor}
use Rattle.domain_tool.specs.Numerals.{IsOffsetWord, IsLimitWord}

-- the texts of the words
abbrev pub texts : List (Bor (List ℕ)) → List (List ℕ)
texts words = map (λ word. word.now) words

-- The words are `at` and an offset, for a name through at most 255 pointers.
pub record AsksAt (words : List (List ℕ)) (offset pointers : ℕ) : Type 0 where
  pub word : List ℕ
  pub two : words ≡ codes "at" ∷ word ∷ []
  pub tells : IsOffsetWord word offset
  pub most : pointers ≡ 255

-- The words are `at` and an offset, and `--pointers` and how many pointers the name may have at most.
pub record AsksWithin (words : List (List ℕ)) (offset pointers : ℕ) : Type 0 where
  pub word : List ℕ
  pub limit : List ℕ
  pub four : words ≡ codes "at" ∷ word ∷ codes "--pointers" ∷ limit ∷ []
  pub tells : IsOffsetWord word offset
  pub limits : IsLimitWord limit pointers

-- They aren't.
abbrev pub LimitsNoPointers : List (List ℕ) → Type 0
LimitsNoPointers words = (offset : ℕ) → (pointers : ℕ) → AsksWithin words offset pointers → ⊥
