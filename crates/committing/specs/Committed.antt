-- The mapping after a commit (01, "Working on an open image"): new tickets for changed blocks, and no block changed any
-- more. Assumes nothing.
use Rattle.std.specs.Prelude.{Bool, true, false, not, ◌&&◌, List, ℕ, ◌*◌, ◌/◌, ◌%◌, ltb, get_or}
use Rattle.lists.specs.Words.{pick, tabulate}
use Rattle.chip.specs.Figures.{Layout, virtuals, sectors, records}
use Rattle.mapping.specs.declared.Block.{Block}
use Rattle.mapping.specs.declared.Condition.{Condition}
use Rattle.mapping.specs.declared.Condition.TheVariants.{Free, Clean, Changed}
use Rattle.mapping.specs.declared.Mapping.{Mapping}
use Rattle.mapping.specs.Blocks.{block_of, mapping_of, block_at, number_at}
use Rattle.tickets.specs.Tickets.{ticket_in}

abbrev pub is_changed : Condition → Bool
is_changed Free = false
is_changed Clean = false
is_changed Changed = true

-- "no block is changed any more"
abbrev pub clean_condition : Condition → Condition
clean_condition Free = Free
clean_condition Clean = Clean
clean_condition Changed = Clean

abbrev pub cleaned : Block → Block
cleaned b = block_of b.physical.0 b.count (clean_condition b.condition)

-- sector s, which is 8 × block + sector, gets a new ticket: "on small chips, new tickets for each changed block"
unfoldable pub summed : Layout → Mapping → ℕ → Bool
summed l m s = not l.large && (ltb s (virtuals l * sectors) && is_changed (block_at m (s / sectors)).condition)

-- the mapping after a commit; "entries past V are ignored and kept"
unfoldable pub settled_record : Layout → Mapping → ℕ → Block
settled_record l m v = pick (ltb v (virtuals l)) (cleaned (block_at m v)) (block_at m v)

unfoldable pub new_ticket : Layout → List ℕ → Mapping → ℕ → ℕ
new_ticket l image m s = pick (summed l m s) (ticket_in image (number_at m (s / sectors)) (s % sectors)) (get_or m.tickets s 0)

unfoldable pub committed : Layout → List ℕ → Mapping → Mapping
committed l image m =
    mapping_of m.len (tabulate (settled_record l m) records) (tabulate (new_ticket l image m) (records * sectors))
