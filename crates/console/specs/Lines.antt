-- Input as lines. A newline (byte 10) ends a line and is not part of it; the last line may lack it, and after a final newline no further line begins.
use Rattle.std.specs.Prelude.{◌≡◌, ℕ, ◌<◌, cond, ◌⊎◌, List, [], ◌∷◌, ◌++◌, length, ◌==◌, ◌≢◌, slice_index, slice_index_or}
use Rattle.std.specs.List.{flat_map}

-- a byte in front of the first line
abbrev pub begun : ℕ → List (List ℕ) → List (List ℕ)
begun byte [] = (byte ∷ []) ∷ []
begun byte (line ∷ lines) = (byte ∷ line) ∷ lines

abbrev pub lines_of : List ℕ → List (List ℕ)
lines_of [] = []
lines_of (byte ∷ bytes) = cond (byte == 10) ([] ∷ lines_of bytes) (begun byte (lines_of bytes))

-- What this means: the lines, each with its newline, are the input, but for a newline that the last line lacks; and no line holds a newline.

abbrev pub ended : List ℕ → List ℕ
ended line = line ++ (10 ∷ [])

-- the last byte, which is there, is no newline
abbrev pub NewlineLacks : List ℕ → Type 0
NewlineLacks bytes = (front : List ℕ) × (last : ℕ) × (bytes ≡ front ++ (last ∷ [])) × (last ≢ 10)

abbrev pub NoNewline : List ℕ → Type 0
NoNewline line = (i : ℕ) → i < length line → slice_index line i ≢ 10

pub record SplitInto (bytes : List ℕ) (lines : List (List ℕ)) : Type 0 where
  pub whole : (flat_map ended lines ≡ bytes) ⊎ (NewlineLacks bytes × (flat_map ended lines ≡ ended bytes))
  pub clean : (i : ℕ) → i < length lines → NoNewline (slice_index_or lines i [])

-- The statement that every input is split so.
abbrev pub Splits : Type 0
Splits = (bytes : List ℕ) → SplitInto bytes (lines_of bytes)
