-- What crosses to C, and how: each call's mapping, answer and outcome with numbers in place of Rattle's variants. Assumes
-- nothing.
use Rattle.std.specs.Prelude.{Bool, List, map, ℕ, eqb, leb, get_or}
use Rattle.lists.specs.Words.{pick, all}
use Rattle.chip.specs.Figures.{layout_of, save_len, from_len, by_chip, records}
use Rattle.answers.specs.declared.Answer.{Answer}
use Rattle.mapping.specs.declared.Block.{Block}
use Rattle.mapping.specs.declared.Condition.{Condition}
use Rattle.mapping.specs.declared.Condition.TheVariants.{Free, Clean, Changed}
use Rattle.mapping.specs.declared.Mapping.{Mapping}
use Rattle.mapping.specs.declared.Outcome.{Outcome}
use Rattle.mapping.specs.Blocks.{block_of, mapping_of, blank}
use Rattle.answers.specs.Answers.{number_of, answer_place}
use Rattle.crossing.specs.declared.CBlock.{CBlock}
use Rattle.crossing.specs.declared.CMapping.{CMapping}
use Rattle.crossing.specs.declared.CAnswer.{CAnswer}
use Rattle.crossing.specs.declared.COutcome.{COutcome}

-- "condition: 0 free, 1 clean, 2 changed"
abbrev pub condition_no : Condition → ℕ
condition_no Free = 0
condition_no Clean = 1
condition_no Changed = 2

-- back again, for a byte that is one of these
abbrev pub condition_of : ℕ → Condition
condition_of n = pick (leb (condition_no Changed) n) Changed (pick (eqb n (condition_no Clean)) Clean Free)

-- a block's record on its way out, and in
abbrev pub block_c : Block → CBlock
block_c b = record { physical = b.physical.0; count = b.count; condition = condition_no b.condition }

abbrev pub block_from_c : CBlock → Block
block_from_c b = block_of b.physical b.count (condition_of b.condition)

-- the record that is read past the 256, as the checker has it
abbrev pub no_block_c : CBlock
no_block_c = record { physical = 0; count = 0; condition = 0 }

-- record v's condition byte is a condition
abbrev pub known_at : List CBlock → ℕ → Bool
known_at bs v = leb (get_or bs v no_block_c).condition (condition_no Changed)

-- each condition byte is a condition
unfoldable pub known : List CBlock → Bool
known bs = all (known_at bs) records

-- a mapping on its way out
unfoldable pub to_c : Mapping → CMapping
to_c m = record { len = m.len; blocks = map block_c m.blocks; tickets = m.tickets }

-- a mapping on its way in; "a condition byte above 2 in any of the 256 entries is a mapping that does not fit", as the blank
-- one is, which fits no image
unfoldable pub from_c : CMapping → Mapping
from_c c = pick (known c.blocks) (mapping_of c.len (map block_from_c c.blocks) c.tickets) blank

-- number and place of an answer
abbrev pub answer_c : Answer → CAnswer
answer_c a = record { number = number_of a; place = answer_place a }

-- an answer with a mapping
abbrev pub answered : Answer → CMapping → COutcome
answered a c = record { answer = answer_c a; mapping = c }

-- an outcome on its way out: a refusal hands the struct back "as it came"
abbrev pub outcome_c : Outcome → CMapping → COutcome
outcome_c o c = answered o.answer (pick (eqb (number_of o.answer) 0) (to_c o.mapping) c)

-- the bytes of the save, by the length alone
unfoldable pub len_c : CMapping → ℕ
len_c c = by_chip (from_len c.len) (λ k. save_len (layout_of k)) 0
