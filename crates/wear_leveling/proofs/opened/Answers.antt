-- What steps 1 to 6 accept lies in the image, so that its tickets can be looked at; that an image of less than a block is
-- refused by step 1 is the law that `opened` names.
use Rattle.std.proofs.Common.{◌≡◌, ◌≤◌, length, take, rules}
use Rattle.chip.specs.Figures.{block_len}
use Rattle.wear_leveling.proofs.Lying.{found_lies}
use Rattle.wear_leveling.proofs.opened.Goals as goal

pub check_tickets-requires : goal.check_tickets-requires
check_tickets-requires c =
    let image = c.args.image.now in
    let h : block_len ≤ length image = search rules in
    let z : c.in_ok-zero.zero.now ≡ take block_len image = search rules in
    found_lies image c.in_ok-m.m h (rw z at c.in_ok-m.ensures.0)
