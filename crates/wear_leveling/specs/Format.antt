-- Formatting (01, "Working on an open image"): block zero of a formatted image; "data blocks aren't stored to". Assumes
-- nothing.
use Rattle.std.specs.Prelude.{List, ℕ, length}
use Rattle.chip.specs.Figures.{layout_of, from_len, by_chip}
use Rattle.answers.specs.declared.Answer.{Answer}
use Rattle.answers.specs.declared.Answer.TheVariants.{Accepted, WrongLength}
use Rattle.block_zero.specs.Put.{formatted}

-- 1, "length (open, format)", or 0
unfoldable pub format_answer : ℕ → Answer
format_answer n = by_chip (from_len n) (λ k. Accepted) WrongLength

-- the image after it, refused or not
unfoldable pub after_format : List ℕ → List ℕ
after_format image = by_chip (from_len (length image)) (λ k. formatted (layout_of k) image) image
