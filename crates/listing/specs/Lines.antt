-- What the lister prints (01, "The lister"), byte for byte: the length that it counts to, the answer of steps 1 to 6, a line
-- for each in-use block and their number. Assumes nothing.
use Rattle.std.specs.Prelude.{◌≡◌, List, [], ◌∷◌, ◌++◌, ℕ, zero, suc, ◌+◌, ◌*◌, ◌/◌, ◌%◌, ◌≤◌, eqb, leb, ltb, length}
use Prim.Native.Char.{code}
use Prim.Native.String.{String, [] as []ˢ, ◌∷◌ as ◌∷ˢ◌}
use Rattle.io.specs.Digits.{hex_digit_ascii}
use Rattle.lists.specs.Words.{pick, splice}
use Rattle.chip.specs.declared.Chip.TheVariants.{Mib1}
use Rattle.chip.specs.Figures.{layout_of, block_len, virtuals, image_len, from_len, by_chip, records}
use Rattle.answers.specs.declared.Answer.{Answer}
use Rattle.answers.specs.declared.Answer.TheVariants.{WrongLength}
use Rattle.answers.specs.Answers.{number_of, answer_place}
use Rattle.mapping.specs.declared.Block.{Block}
use Rattle.mapping.specs.declared.Mapping.{Mapping}
use Rattle.mapping.specs.declared.Outcome.{Outcome}
use Rattle.mapping.specs.Blocks.{block_at, is_free, in_use_of}
use Rattle.mapping.specs.Outcomes.{refused}
use Rattle.journal.specs.Steps.{steps1to6}
use Rattle.listing.specs.declared.Writer.{Writer}

-- "counts the bytes (stopping at 1,048,577)", one past the largest chip
abbrev pub limit : ℕ
limit = image_len (layout_of Mib1) + 1

-- the count after some more bytes
abbrev pub counted_of : ℕ → ℕ → ℕ
counted_of total more = pick (leb (total + more) limit) (total + more) limit

-- "does steps 1 to 6": for a block zero that is one
unfoldable pub report_of : List ℕ → ℕ → Outcome
report_of first n = pick (eqb (length first) block_len) (steps1to6 first n) (refused WrongLength)

-- the bytes of a word
abbrev pub bytes_of : String → List ℕ
bytes_of []ˢ = []
bytes_of (c ∷ˢ s) = code c ∷ bytes_of s

-- "decimal": the digits of a number, no more than it needs, if k are enough
unfoldable pub decimal_in : ℕ → ℕ → List ℕ
decimal_in zero n = []
decimal_in (suc k) n = pick (ltb n 10) (hex_digit_ascii n ∷ []) (decimal_in k (n / 10) ++ (hex_digit_ascii (n % 10) ∷ []))

-- as many are enough for 64 bits
abbrev pub most_digits : ℕ
most_digits = 20

abbrev pub decimal : ℕ → List ℕ
decimal n = decimal_in most_digits n

-- a word and a number
abbrev pub field : String → ℕ → List ℕ
field name n = bytes_of name ++ decimal n

-- "each line ends in one newline"
abbrev pub newline : List ℕ
newline = bytes_of "\n"

-- "length 131072", "answer 0 place 0"
unfoldable pub first_lines : ℕ → Answer → List ℕ
first_lines n a = field "length " n ++ (field "\nanswer " (number_of a) ++ (field " place " (answer_place a) ++ newline))

-- "block 0 physical 31 count 1", for a block that is in use
unfoldable pub block_line : ℕ → Block → List ℕ
block_line v b =
    pick (is_free b.condition) []
    (field "block " v ++ (field " physical " b.physical.0 ++ (field " count " b.count ++ newline)))

-- "one block line for each in-use block going up": the lines of the first n blocks
unfoldable pub block_lines : Mapping → ℕ → List ℕ
block_lines m zero = []
block_lines m (suc n) = block_lines m n ++ block_line n (block_at m n)

-- how many blocks may have a line
unfoldable pub lines_of : Mapping → ℕ
lines_of m = by_chip (from_len m.len) (λ k. virtuals (layout_of k)) 0

-- the lines of an accepted image, and "in use 1"
unfoldable pub list_of : Mapping → List ℕ
list_of m = block_lines m (lines_of m) ++ (field "in use " (in_use_of m) ++ newline)

-- the whole text; "after a refusal it prints the first two lines only"
unfoldable pub text_of : ℕ → Outcome → List ℕ
text_of n o = first_lines n o.answer ++ pick (eqb (number_of o.answer) 0) (list_of o.mapping) []

-- room for the words and the numbers of a line
abbrev pub line_room : ℕ
line_room = 24 + 3 * most_digits

-- room for the whole text: the first lines, those of the blocks, and their number
abbrev pub room : ℕ
room = line_room + (records * line_room + line_room)

-- a text was put into a buffer from `at` on: what the buffer holds, and where the text ends
pub record Written (old : List ℕ) (at : ℕ) (text new : List ℕ) (end : ℕ) : Type 0 where
  pub fits : at + length text ≤ length old
  pub stored : new ≡ splice old at text
  pub next : end ≡ at + length text

-- the writer's buffer is the one that was lent, as long as before, with this text behind what it held
pub record Grew (old : Writer) (text : List ℕ) (new : Writer) : Type 0 where
  pub same : new.out.ghost_name ≡ old.out.ghost_name
  pub size : length new.out.now ≡ length old.out.now
  pub written : Written old.out.now old.at text new.out.now new.at
