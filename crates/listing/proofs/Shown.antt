-- The text drops no block and makes none up: after an accepted image each in-use block of the chip has its line, right behind
-- the lines of those below it, and the lines are two, one for each in-use block, and one; after a refusal they are two. A
-- number's digits hold no newline, so that newlines are counted piece by piece. Assumes nothing.
use Rattle.std.specs.Prelude.{Option, Some, None}
use mathlib.Core.Path.{◌≡◌, refl, sym, ap, ◌∙◌, subst}
use mathlib.Core.Bool.{Bool, true, false, not, cond}
use mathlib.Core.List.{List, [], ◌∷◌, ◌++◌, append_assoc, append-nil}
use Prim.Native.Nat.{ℕ, zero, suc, ◌+◌, ◌/◌, ◌%◌, ◌≤◌, ◌<◌}
use native.Mathlib.Omega.{arith}
use borrow.Author.Tests.{eq-eqb, ne_eqb}
use lib.Dec.{eqb, ltb}
use Rattle.io.specs.Digits.{hex_digit_ascii}
use Rattle.lists.specs.Words.{pick, how_many}
use Rattle.lists.proofs.Orders.{split, by_test}
use Rattle.chip.specs.declared.Chip.{Chip}
use Rattle.chip.specs.declared.Chip.TheVariants.{Kib128}
use Rattle.chip.specs.Figures.{layout_of, virtuals, reserved, image_len, from_len, by_chip}
use Rattle.answers.specs.declared.Answer.{Answer}
use Rattle.answers.specs.Answers.{number_of, answer_place}
use Rattle.answers.specs.declared.Answer.TheVariants.{Accepted}
use Rattle.mapping.specs.declared.Block.{Block}
use Rattle.mapping.specs.declared.Condition.TheVariants.{Clean}
use Rattle.mapping.specs.declared.Mapping.{Mapping}
use Rattle.mapping.specs.declared.Outcome.{Outcome}
use Rattle.mapping.specs.Outcomes.{outcome}
use Rattle.mapping.specs.Blocks.{block_of, block_at, number_at, count_at, free_at, is_free, in_use_of}
use Rattle.listing.specs.Lines.{bytes_of, decimal_in, decimal, most_digits, field, newline, first_lines, block_line, block_lines, lines_of, list_of, text_of}
use Rattle.listing.specs.Shown.{Follows, line_count}

-- each block's line stands behind those of the blocks below it
line_follows : (m : Mapping) (n v : ℕ) → v < n → Follows (block_lines m v) (block_line v (block_at m v)) (block_lines m n)
unfolding block_lines
line_follows m zero v h = absurd (omega arith)
line_follows m (suc n) v h =
    split n v
    (λ g. let e : n ≡ v = omega arith in
    ([], ap (λ (k : ℕ). block_lines m k ++ block_line k (block_at m k)) e ∙ ap (λ (l : List ℕ). block_lines m v ++ l) (sym (append-nil _))))
    (λ g. let f = line_follows m n v g in
    (f.0 ++ block_line n (block_at m n), rw f.1 (simp append_assoc)))

-- what follows in the blocks' lines follows in the whole text
text_follows
    : (n : ℕ) (o : Outcome) (before line : List ℕ)
    → number_of o.answer ≡ 0 → Follows before line (block_lines o.mapping (lines_of o.mapping))
    → Follows (first_lines n o.answer ++ before) line (text_of n o)
unfolding text_of list_of
text_follows n o before line a f =
    let end : List ℕ = field "in use " (in_use_of o.mapping) ++ newline in
    let t : text_of n o ≡ first_lines n o.answer ++ list_of o.mapping = simp (eq-eqb (number_of o.answer) 0 a) in
    (f.0 ++ end, t ∙ joined (first_lines n o.answer) (block_lines o.mapping (lines_of o.mapping)) before line f.0 end f.1)
  where
    joined : (a l b c d e : List ℕ) → l ≡ b ++ (c ++ d) → a ++ (l ++ e) ≡ (a ++ b) ++ (c ++ (d ++ e))
    joined a l b c d e h = rw h (simp append_assoc)

-- the line of a block that is in use
line_of
    : (v : ℕ) (b : Block)
    → is_free b.condition ≡ false
    → block_line v b ≡ field "block " v ++ (field " physical " b.physical.0 ++ (field " count " b.count ++ newline))
unfolding block_line
line_of v b u = rw u

-- "one block line for each in-use block going up": its line, behind the first lines and those of the blocks below it
pub in_use_shown
    : (n : ℕ) (o : Outcome) (k : Chip) (v : ℕ)
    → number_of o.answer ≡ 0 → from_len o.mapping.len ≡ Some k → v < virtuals (layout_of k) → free_at o.mapping v ≡ false
    → Follows (first_lines n o.answer ++ block_lines o.mapping v)
    (field "block " v ++ (field " physical " (number_at o.mapping v) ++ (field " count " (count_at o.mapping v) ++ newline)))
    (text_of n o)
unfolding lines_of
in_use_shown n o k v a e h u =
    let m = o.mapping in
    let all : lines_of m ≡ virtuals (layout_of k) = rw e in
    let f = line_follows m (lines_of m) v (omega arith) in
    subst (λ (l : List ℕ). Follows (first_lines n o.answer ++ block_lines m v) l (text_of n o)) (line_of v (block_at m v) u)
    (text_follows n o (block_lines m v) (block_line v (block_at m v)) a f)

-- lines are counted piece by piece
count_append : (a b : List ℕ) → line_count (a ++ b) ≡ line_count a + line_count b
unfolding line_count
count_append [] b = omega arith
count_append (x ∷ a) b = rw (count_append a b) (omega arith)

-- in four pieces
count_four : (a b c d : List ℕ) → line_count (a ++ (b ++ (c ++ d))) ≡ line_count a + line_count b + line_count c + line_count d
count_four a b c d = omega (arith, count_append a (b ++ (c ++ d)), count_append b (c ++ d), count_append c d)

-- a digit is no newline
glyph_line : (d : ℕ) → line_count (hex_digit_ascii d ∷ []) ≡ 0
unfolding line_count
glyph_line d = by_size (ltb d 10)
  where
    by_size : (t : Bool) → pick (eqb (cond t (48 + d) (87 + d)) 10) 1 0 + 0 ≡ 0
    by_size true = rw (ne_eqb (48 + d) 10 (λ e. omega arith))
    by_size false = rw (ne_eqb (87 + d) 10 (λ e. omega arith))

-- a number has no newline
decimal_line : (k n : ℕ) → line_count (decimal_in k n) ≡ 0
unfolding decimal_in line_count
decimal_line zero n = refl
decimal_line (suc k) n =
    by_test (ltb n 10)
    (λ t. rw t (rw t at (glyph_line n)))
    (λ t. rw t (omega (arith, count_append (decimal_in k (n / 10)) (hex_digit_ascii (n % 10) ∷ []), decimal_line k (n / 10), glyph_line (n % 10))))

-- a word and a number have the word's newlines
field_line : (name : List ℕ) (n : ℕ) → line_count (name ++ decimal n) ≡ line_count name
field_line name n = omega (arith, count_append name (decimal n), decimal_line most_digits n)

-- the newlines of the words
word_line : (line_count (bytes_of "length ") ≡ 0) × (line_count (bytes_of "\nanswer ") ≡ 1) × (line_count (bytes_of " place ") ≡ 0)
    × (line_count (bytes_of "block ") ≡ 0) × (line_count (bytes_of " physical ") ≡ 0) × (line_count (bytes_of " count ") ≡ 0)
    × (line_count (bytes_of "in use ") ≡ 0) × (line_count newline ≡ 1) × (line_count [] ≡ 0)
unfolding line_count
word_line = (refl, refl, refl, refl, refl, refl, refl, refl, refl)

-- the first lines are two
first_two : (n : ℕ) (a : Answer) → line_count (first_lines n a) ≡ 2
unfolding first_lines
first_two n a =
    count_four (field "length " n) (field "\nanswer " (number_of a)) (field " place " (answer_place a)) newline
    ∙ rw (field_line (bytes_of "length ") n, field_line (bytes_of "\nanswer ") (number_of a), field_line (bytes_of " place ") (answer_place a))
    (omega (arith, word_line))

-- a block has one line if it is in use, else none
block_line_lem : (v : ℕ) (b : Block) → line_count (block_line v b) ≡ pick (not (is_free b.condition)) 1 0
unfolding block_line
block_line_lem v b =
    by_test (is_free b.condition)
    (λ t. rw t word_line.8)
    (λ t. rw t
    (count_four (field "block " v) (field " physical " b.physical.0) (field " count " b.count) newline
    ∙ rw (field_line (bytes_of "block ") v, field_line (bytes_of " physical ") b.physical.0, field_line (bytes_of " count ") b.count)
    (omega (arith, word_line))))

-- and some blocks as many as are in use
block_lines_lem : (m : Mapping) (n : ℕ) → line_count (block_lines m n) ≡ how_many (λ v. not (free_at m v)) n
unfolding block_lines how_many
block_lines_lem m zero = word_line.8
block_lines_lem m (suc n) =
    omega (arith, count_append (block_lines m n) (block_line n (block_at m n)), block_lines_lem m n, block_line_lem n (block_at m n))

-- the blocks that may have a line are those that may be in use
in_use_lines : (m : Mapping) → line_count (block_lines m (lines_of m)) ≡ in_use_of m
unfolding lines_of in_use_of how_many
in_use_lines m = by_chip_lem (from_len m.len)
  where
    by_chip_lem
        : (c : Option Chip)
        → line_count (block_lines m (by_chip c (λ k. virtuals (layout_of k)) 0)) ≡ by_chip c (λ k. how_many (λ v. not (free_at m v)) (virtuals (layout_of k))) 0
    by_chip_lem (Some k) = block_lines_lem m (virtuals (layout_of k))
    by_chip_lem None = block_lines_lem m 0

-- after a refusal two lines
pub refused_lines : (n : ℕ) (o : Outcome) → (number_of o.answer ≡ 0 → ⊥) → line_count (text_of n o) ≡ 2
unfolding text_of
refused_lines n o h =
    rw (ne_eqb (number_of o.answer) 0 h)
    (omega (arith, count_append (first_lines n o.answer) [], first_two n o.answer, word_line))

-- after an accepted image two, one for each in-use block, and one
pub accepted_lines : (n : ℕ) (o : Outcome) → number_of o.answer ≡ 0 → line_count (text_of n o) ≡ 2 + in_use_of o.mapping + 1
unfolding text_of list_of
accepted_lines n o h =
    let m = o.mapping in
    rw (eq-eqb (number_of o.answer) 0 h)
    (omega (
      arith,
      count_append (first_lines n o.answer) (list_of m),
      first_two n o.answer,
      count_append (block_lines m (lines_of m)) (field "in use " (in_use_of m) ++ newline),
      in_use_lines m,
      count_append (field "in use " (in_use_of m)) newline,
      field_line (bytes_of "in use ") (in_use_of m),
      word_line,
    ))

-- a free block has no line
free_line : (v : ℕ) (b : Block) → is_free b.condition ≡ true → block_line v b ≡ []
unfolding block_line
free_line v b f = rw f

-- where only block 0 may be in use, its line is all there is
only_first : (m : Mapping) → ((v : ℕ) → 1 ≤ v → free_at m v ≡ true) → (n : ℕ) → block_lines m (suc n) ≡ block_line 0 (block_at m 0)
unfolding block_lines
only_first m f zero = refl
only_first m f (suc n) = rw (free_line (suc n) (block_at m (suc n)) (f (suc n) (omega arith))) (append-nil _ ∙ only_first m f n)

-- the paper's example, byte for byte: of a 128 KiB image block 0 alone is in use, at physical 31 with count 1
pub example_text
    : (m : Mapping)
    → m.len ≡ image_len (layout_of Kib128) → block_at m 0 ≡ block_of 31 1 Clean → ((v : ℕ) → 1 ≤ v → free_at m v ≡ true)
    → text_of m.len (outcome Accepted m)
    ≡ bytes_of "length 131072\nanswer 0 place 0\nblock 0 physical 31 count 1\nin use 1\n"
unfolding text_of list_of first_lines block_line decimal_in lines_of from_len
example_text m e b f =
    let l : lines_of m ≡ virtuals (layout_of Kib128) = rw e in
    let t : block_lines m (lines_of m) ≡ block_line 0 (block_of 31 1 Clean)
    = ap (block_lines m) l ∙ only_first m f (reserved (layout_of Kib128)) ∙ ap (block_line 0) b in
    let u : in_use_of m ≡ 1 = sym (in_use_lines m) ∙ ap line_count t ∙ block_line_lem 0 (block_of 31 1 Clean) in
    ap (λ (n : ℕ). text_of n (outcome Accepted m)) e
    ∙ ap (λ (x : List ℕ). pieces x (in_use_of m)) t
    ∙ ap (pieces (block_line 0 (block_of 31 1 Clean))) u
  where
    pieces : List ℕ → ℕ → List ℕ
    pieces x k = first_lines (image_len (layout_of Kib128)) Accepted ++ (x ++ (field "in use " k ++ newline))
