-- Every promise is tight: of each `pub` function of crates crc16, chip, answers, mapping, wear_leveling and ffi, and of each of an
-- inner crate that asks nothing of its caller, two outcomes at the same arguments that both meet its contract are one, in the
-- result and in the bytes behind its `&mut` at the exit. A contract is what the checker reads of it, `Learnt`, with all its
-- clauses; tests/tight compares the functions below with the code's. Assumes nothing.
use mathlib.Core.Path.{◌≡◌, sym, ap, ◌∙◌}
use mathlib.Core.Bool.{Bool, true, false, true≢false}
use mathlib.Core.List.{List}
use Prim.Native.Nat.{ℕ}
use Rattle.std.specs.Prelude.{eqb, Result, Ok, Err, IfErr}
use Rattle.answers.specs.declared.Answer.{Answer}
use Rattle.answers.specs.Answers.{number_of}
use Rattle.mapping.specs.declared.Mapping.{Mapping}
use Rattle.mapping.specs.Outcomes.{outcome_of, IsRefusal}
use Rattle.crc16.proofs.crc16_ninty.Reads as crc16_ninty_reads
use Rattle.crc16.proofs.ticket.Reads as ticket_reads
use Rattle.chip.proofs.Chip.physical_blocks.Reads as chip_physical_blocks_reads
use Rattle.chip.proofs.Chip.is_large.Reads as chip_is_large_reads
use Rattle.chip.proofs.Chip.virtual_blocks.Reads as chip_virtual_blocks_reads
use Rattle.chip.proofs.Chip.image_len.Reads as chip_image_len_reads
use Rattle.chip.proofs.Chip.from_len.Reads as chip_from_len_reads
use Rattle.chip.proofs.Chip.item_len.Reads as chip_item_len_reads
use Rattle.chip.proofs.Chip.map_len.Reads as chip_map_len_reads
use Rattle.chip.proofs.Chip.journal_start.Reads as chip_journal_start_reads
use Rattle.chip.proofs.Chip.slots.Reads as chip_slots_reads
use Rattle.chip.proofs.Chip.save_len.Reads as chip_save_len_reads
use Rattle.mapping.proofs.Virtual.at.Reads as virtual_at_reads
use Rattle.mapping.proofs.Condition.is_free.Reads as condition_is_free_reads
use Rattle.mapping.proofs.Mapping.blank.Reads as mapping_blank_reads
use Rattle.mapping.proofs.Mapping.new.Reads as mapping_new_reads
use Rattle.mapping.proofs.Mapping.image_len.Reads as mapping_image_len_reads
use Rattle.mapping.proofs.Mapping.with_tickets.Reads as mapping_with_tickets_reads
use Rattle.mapping.proofs.Mapping.len.Reads as mapping_len_reads
use Rattle.mapping.proofs.Mapping.in_use.Reads as mapping_in_use_reads
use Rattle.mapping.proofs.Mapping.reserved_free.Reads as mapping_reserved_free_reads
use Rattle.mapping.proofs.Mapping.fits.Reads as mapping_fits_reads
use Rattle.mapping.proofs.Mapping.high_count.Reads as mapping_high_count_reads
use Rattle.mapping.proofs.in_save.Reads as in_save_reads
use Rattle.answers.proofs.Answer.number.Reads as answer_number_reads
use Rattle.answers.proofs.Answer.place.Reads as answer_place_reads
use Rattle.mapping.proofs.Outcome.accepted.Reads as outcome_accepted_reads
use Rattle.mapping.proofs.Outcome.refused.Reads as outcome_refused_reads
use Rattle.mapping.proofs.OutcomeFromResultMappingAnswer.from.Reads as outcome_from_reads
use Rattle.block_map.proofs.item_at.Reads as item_at_reads
use Rattle.block_map.proofs.bad_number.Reads as bad_number_reads
use Rattle.block_map.proofs.load_map.Reads as load_map_reads
use Rattle.block_map.proofs.sum_holds.Reads as sum_holds_reads
use Rattle.journal.proofs.open_zero.Reads as open_zero_reads
use Rattle.journal.proofs.open_map.Reads as open_map_reads
use Rattle.crossing.proofs.CBlockFromBlock.from.Reads as block_to_c_reads
use Rattle.crossing.proofs.BlockFromCBlock.from.Reads as block_from_c_reads
use Rattle.crossing.proofs.MappingFromCMapping.from.Reads as from_c_reads
use Rattle.crossing.proofs.CMappingFromMapping.from.Reads as to_c_reads
use Rattle.crossing.proofs.CAnswerFromAnswer.from.Reads as answer_to_c_reads
use Rattle.crossing.proofs.answered.Reads as answered_reads
use Rattle.crossing.proofs.outcome_to_c.Reads as outcome_to_c_reads
use Rattle.listing.proofs.limit.Reads as listing_limit_reads
use Rattle.listing.proofs.counted.Reads as listing_counted_reads
use Rattle.wear_leveling.proofs.open.Reads as open_reads
use Rattle.wear_leveling.proofs.len.Reads as save_len_reads
use Rattle.wear_leveling.proofs.read.Reads as read_reads
use Rattle.wear_leveling.proofs.write.Reads as write_reads
use Rattle.wear_leveling.proofs.commit.Reads as commit_reads
use Rattle.wear_leveling.proofs.format.Reads as format_reads
use Rattle.ffi.proofs.lw_crc16.Reads as lw_crc16_reads
use Rattle.ffi.proofs.lw_format.Reads as lw_format_reads
use Rattle.ffi.proofs.lw_open.Reads as lw_open_reads
use Rattle.ffi.proofs.lw_len.Reads as lw_len_reads
use Rattle.ffi.proofs.lw_read.Reads as lw_read_reads
use Rattle.ffi.proofs.lw_write.Reads as lw_write_reads
use Rattle.ffi.proofs.lw_commit.Reads as lw_commit_reads

module _ {L : Type 0} {A R S : L → Type 0} (P : (κs : L) → A κs → R κs → S κs → Type 0) where
  -- lifetimes and arguments leave one result
  abbrev pub Determines : Type 0
  Determines = (κs : L) (a : A κs) (r r2 : R κs) (s s2 : S κs) → P κs a r s → P κs a r2 s2 → r ≡ r2

  -- and one list of bytes that `shown` takes from the exit
  abbrev pub DeterminesBoth : ((κs : L) → S κs → List ℕ) → Type 0
  DeterminesBoth shown =
      (κs : L) (a : A κs) (r r2 : R κs) (s s2 : S κs) →
      P κs a r s →
      P κs a r2 s2 →
      (r ≡ r2) × (shown κs s ≡ shown κs s2)

pub crc16_ninty_tight : Determines crc16_ninty_reads.Learnt
crc16_ninty_tight κs a r r2 s s2 p q = p ∙ sym q

pub ticket_tight : Determines ticket_reads.Learnt
ticket_tight κs a r r2 s s2 p q = p ∙ sym q

pub chip_physical_blocks_tight : Determines chip_physical_blocks_reads.Learnt
chip_physical_blocks_tight κs a r r2 s s2 p q = p.0 ∙ sym q.0

pub chip_is_large_tight : Determines chip_is_large_reads.Learnt
chip_is_large_tight κs a r r2 s s2 p q = p ∙ sym q

pub chip_virtual_blocks_tight : Determines chip_virtual_blocks_reads.Learnt
chip_virtual_blocks_tight κs a r r2 s s2 p q = p.0 ∙ sym q.0

pub chip_image_len_tight : Determines chip_image_len_reads.Learnt
chip_image_len_tight κs a r r2 s s2 p q = p ∙ sym q

pub chip_from_len_tight : Determines chip_from_len_reads.Learnt
chip_from_len_tight κs a r r2 s s2 p q = p ∙ sym q

pub chip_item_len_tight : Determines chip_item_len_reads.Learnt
chip_item_len_tight κs a r r2 s s2 p q = p ∙ sym q

pub chip_map_len_tight : Determines chip_map_len_reads.Learnt
chip_map_len_tight κs a r r2 s s2 p q = p.0 ∙ sym q.0

pub chip_journal_start_tight : Determines chip_journal_start_reads.Learnt
chip_journal_start_tight κs a r r2 s s2 p q = p.0 ∙ sym q.0

pub chip_slots_tight : Determines chip_slots_reads.Learnt
chip_slots_tight κs a r r2 s s2 p q = p ∙ sym q

pub chip_save_len_tight : Determines chip_save_len_reads.Learnt
chip_save_len_tight κs a r r2 s s2 p q = p ∙ sym q

pub virtual_at_tight : Determines virtual_at_reads.Learnt
virtual_at_tight κs a r r2 s s2 p q = p.0 ∙ sym q.0

pub condition_is_free_tight : Determines condition_is_free_reads.Learnt
condition_is_free_tight κs a r r2 s s2 p q = p ∙ sym q

pub mapping_blank_tight : Determines mapping_blank_reads.Learnt
mapping_blank_tight κs a r r2 s s2 p q = p ∙ sym q

pub mapping_new_tight : Determines mapping_new_reads.Learnt
mapping_new_tight κs a r r2 s s2 p q = p ∙ sym q

pub mapping_image_len_tight : Determines mapping_image_len_reads.Learnt
mapping_image_len_tight κs a r r2 s s2 p q = p ∙ sym q

pub mapping_with_tickets_tight : Determines mapping_with_tickets_reads.Learnt
mapping_with_tickets_tight κs a r r2 s s2 p q = p ∙ sym q

pub mapping_len_tight : Determines mapping_len_reads.Learnt
mapping_len_tight κs a r r2 s s2 p q = p ∙ sym q

pub mapping_in_use_tight : Determines mapping_in_use_reads.Learnt
mapping_in_use_tight κs a r r2 s s2 p q = p ∙ sym q

pub mapping_reserved_free_tight : Determines mapping_reserved_free_reads.Learnt
mapping_reserved_free_tight κs a r r2 s s2 p q = p ∙ sym q

pub mapping_fits_tight : Determines mapping_fits_reads.Learnt
mapping_fits_tight κs a r r2 s s2 p q = p ∙ sym q

pub mapping_high_count_tight : Determines mapping_high_count_reads.Learnt
mapping_high_count_tight κs a r r2 s s2 p q = p ∙ sym q

pub in_save_tight : Determines in_save_reads.Learnt
in_save_tight κs a r r2 s s2 p q = p ∙ sym q

pub answer_number_tight : Determines answer_number_reads.Learnt
answer_number_tight κs a r r2 s s2 p q = p ∙ sym q

pub answer_place_tight : Determines answer_place_reads.Learnt
answer_place_tight κs a r r2 s s2 p q = p ∙ sym q

pub outcome_accepted_tight : Determines outcome_accepted_reads.Learnt
outcome_accepted_tight κs a r r2 s s2 p q = p ∙ sym q

pub outcome_refused_tight : Determines outcome_refused_reads.Learnt
outcome_refused_tight κs a r r2 s s2 p q = p ∙ sym q

pub outcome_from_tight : Determines outcome_from_reads.Learnt
outcome_from_tight κs a r r2 s s2 p q = p ∙ sym q

pub item_at_tight : Determines item_at_reads.Learnt
item_at_tight κs a r r2 s s2 p q = p.0 ∙ sym q.0

pub bad_number_tight : Determines bad_number_reads.Learnt
bad_number_tight κs a r r2 s s2 p q = p ∙ sym q

pub load_map_tight : Determines load_map_reads.Learnt
load_map_tight κs a r r2 s s2 p q = p ∙ sym q

pub sum_holds_tight : Determines sum_holds_reads.Learnt
sum_holds_tight κs a r r2 s s2 p q = p ∙ sym q

-- two results of steps that are the same outcome are one, since an error is no 0
steps_apart
    : (r r2 : Result Mapping Answer) → IfErr r IsRefusal → IfErr r2 IsRefusal → outcome_of r ≡ outcome_of r2 → r ≡ r2
steps_apart (Ok m) (Ok n) p q e = ap Ok (ap (λ o. o.mapping) e)
steps_apart (Ok m) (Err b) p q e = let z : ◌≡◌ {A = Bool} true false = ap (λ o. eqb (number_of o.answer) 0) e ∙ q in absurd (true≢false z)
steps_apart (Err a) (Ok n) p q e = let z : ◌≡◌ {A = Bool} true false = ap (λ o. eqb (number_of o.answer) 0) (sym e) ∙ p in absurd (true≢false z)
steps_apart (Err a) (Err b) p q e = ap Err (ap (λ o. o.answer) e)

pub open_zero_tight : Determines open_zero_reads.Learnt
open_zero_tight κs a r r2 s s2 p q = steps_apart r r2 p.1 q.1 (p.0 ∙ sym q.0)

pub open_map_tight : Determines open_map_reads.Learnt
open_map_tight κs a r r2 s s2 p q = steps_apart r r2 p.1 q.1 (p.0 ∙ sym q.0)

pub block_to_c_tight : Determines block_to_c_reads.Learnt
block_to_c_tight κs a r r2 s s2 p q = p ∙ sym q

pub block_from_c_tight : Determines block_from_c_reads.Learnt
block_from_c_tight κs a r r2 s s2 p q = p ∙ sym q

pub from_c_tight : Determines from_c_reads.Learnt
from_c_tight κs a r r2 s s2 p q = p ∙ sym q

pub to_c_tight : Determines to_c_reads.Learnt
to_c_tight κs a r r2 s s2 p q = p ∙ sym q

pub answer_to_c_tight : Determines answer_to_c_reads.Learnt
answer_to_c_tight κs a r r2 s s2 p q = p ∙ sym q

pub answered_tight : Determines answered_reads.Learnt
answered_tight κs a r r2 s s2 p q = p ∙ sym q

pub outcome_to_c_tight : Determines outcome_to_c_reads.Learnt
outcome_to_c_tight κs a r r2 s s2 p q = p ∙ sym q

pub listing_limit_tight : Determines listing_limit_reads.Learnt
listing_limit_tight κs a r r2 s s2 p q = p ∙ sym q

pub listing_counted_tight : Determines listing_counted_reads.Learnt
listing_counted_tight κs a r r2 s s2 p q = p ∙ sym q

pub open_tight : Determines open_reads.Learnt
open_tight κs a r r2 s s2 p q = p ∙ sym q

pub save_len_tight : Determines save_len_reads.Learnt
save_len_tight κs a r r2 s s2 p q = p ∙ sym q

-- the buffer, the fourth parameter
pub read_tight : DeterminesBoth read_reads.Learnt (λ κs s. s.1.1.1.0.now)
read_tight κs a r r2 s s2 p q = (p.0 ∙ sym q.0, p.1 ∙ sym q.1)

-- the image, the first parameter, here and below
pub write_tight : DeterminesBoth write_reads.Learnt (λ κs s. s.0.now)
write_tight κs a r r2 s s2 p q = (p.0 ∙ sym q.0, p.1 ∙ sym q.1)

pub commit_tight : DeterminesBoth commit_reads.Learnt (λ κs s. s.0.now)
commit_tight κs a r r2 s s2 p q = (p.0 ∙ sym q.0, p.1 ∙ sym q.1)

pub format_tight : DeterminesBoth format_reads.Learnt (λ κs s. s.0.now)
format_tight κs a r r2 s s2 p q = (p.0 ∙ sym q.0, p.1 ∙ sym q.1)

pub lw_crc16_tight : Determines lw_crc16_reads.Learnt
lw_crc16_tight κs a r r2 s s2 p q = p ∙ sym q

pub lw_open_tight : Determines lw_open_reads.Learnt
lw_open_tight κs a r r2 s s2 p q = p ∙ sym q

pub lw_len_tight : Determines lw_len_reads.Learnt
lw_len_tight κs a r r2 s s2 p q = p ∙ sym q

pub lw_read_tight : DeterminesBoth lw_read_reads.Learnt (λ κs s. s.1.1.1.0.now)
lw_read_tight κs a r r2 s s2 p q = (p.0 ∙ sym q.0, p.1 ∙ sym q.1)

pub lw_write_tight : DeterminesBoth lw_write_reads.Learnt (λ κs s. s.0.now)
lw_write_tight κs a r r2 s s2 p q = (p.0 ∙ sym q.0, p.1 ∙ sym q.1)

pub lw_commit_tight : DeterminesBoth lw_commit_reads.Learnt (λ κs s. s.0.now)
lw_commit_tight κs a r r2 s s2 p q = (p.0 ∙ sym q.0, p.1 ∙ sym q.1)

pub lw_format_tight : DeterminesBoth lw_format_reads.Learnt (λ κs s. s.0.now)
lw_format_tight κs a r r2 s s2 p q = (p.0 ∙ sym q.0, p.1 ∙ sym q.1)
