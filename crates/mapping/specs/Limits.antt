-- The tests behind answers 9 and 10 (01, "Numbers handed back"); the one behind 8 is in Fits. Assumes nothing.
use Rattle.std.specs.Prelude.{Bool, ◌&&◌, ℕ, ◌-◌, leb, Option, None}
use Rattle.lists.specs.Words.{pick}
use Rattle.chip.specs.Figures.{Layout, layout_of, virtuals, in_use_bit, from_len, by_chip}
use Rattle.answers.specs.Search.{first_of}
use Rattle.mapping.specs.declared.Mapping.{Mapping}
use Rattle.mapping.specs.Blocks.{count_at}

-- 9: "place ≤ save bytes and length ≤ save bytes − place"
abbrev pub in_save : ℕ → ℕ → ℕ → Bool
in_save save place length = leb place save && leb length (save - place)

-- 10: "large chip, a count above 0x7F", that is, one that reaches into the in-use bit; "first such block"
unfoldable pub high_count_on : Layout → Mapping → Option ℕ
high_count_on l m = pick l.large (first_of (λ v. leb in_use_bit (count_at m v)) (virtuals l)) None

unfoldable pub high_count : Mapping → Option ℕ
high_count m = by_chip (from_len m.len) (λ k. high_count_on (layout_of k) m) None
