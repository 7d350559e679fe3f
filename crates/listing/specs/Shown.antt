-- What the text has to show, said apart from how it is put together: where a line stands, and how many lines there are.
-- Assumes nothing.
use Rattle.std.specs.Prelude.{◌≡◌, List, [], ◌∷◌, ◌++◌, ℕ, ◌+◌, eqb}
use Rattle.lists.specs.Words.{pick}

-- the text begins with these bytes, and then this line
abbrev pub Follows : List ℕ → List ℕ → List ℕ → Type 0
Follows before line text = (rest : List ℕ) × (text ≡ before ++ (line ++ rest))

-- the number of lines: "each line ends in one newline", the byte 10
unfoldable pub line_count : List ℕ → ℕ
line_count [] = 0
line_count (b ∷ bs) = pick (eqb b 10) 1 0 + line_count bs
