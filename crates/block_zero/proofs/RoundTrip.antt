-- Block zero as it is put: what stays as it was, that its sum holds, that its journal is erased, and that reading it back
-- gives the mapping again, but for what a map does not keep. Assumes nothing.
use mathlib.Core.Path.{◌≡◌, sym, ap, ◌∙◌}
use mathlib.Core.Bool.{Bool, true, false, not}
use mathlib.Core.List.{List}
use Prim.Native.Nat.{ℕ, suc, ◌+◌, ◌*◌, ◌/◌, ◌%◌, ◌<◌, ◌≤◌}
use native.Mathlib.Nat.{suc-mul, mul-le-mul_right}
use native.Mathlib.Omega.{arith}
use borrow.Author.Tests.{eq-eqb}
use lib.Dec.{leb}
use lib.ListN.{length, take, drop, get_or}
use Rattle.lists.specs.Words.{pick, up_to}
use Rattle.lists.proofs.Orders.{by_test}
use Rattle.lists.proofs.Tabulate.{tabulate_ext, up_to_ext}
use Rattle.lists.proofs.Windows.{take_ext, drop_ext}
use Rattle.crc16.specs.Crc.{crc16}
use Rattle.chip.specs.Figures.{Layout, virtuals, block_len, sectors, header_len, in_use_bit, erased, large_item, small_item, item_len, map_len, journal_at, records}
use Rattle.chip.proofs.Layouts.{Sound, map_fits}
use Rattle.mapping.specs.declared.Mapping.{Mapping}
use Rattle.mapping.specs.Blocks.{no_block, block_at, number_at, count_at, free_at}
use Rattle.block_map.specs.Items.{item_at, item_block, item_ticket, block_entry, ticket_entry, loaded, sum_holds}
use Rattle.block_zero.specs.Put.{item_pair, item_bytes, with_items, with_sum, put_map, settled_block, settled_ticket, settled}
use Rattle.block_zero.proofs.Puts.{items_fit}
use Rattle.block_zero.proofs.Frames.{length_sum, sum_apart, sum_low, sum_high, sum_map, length_journal, journal_apart, journal_in, journal_map, length-with_items, items_apart, items_in}
use Rattle.block_zero.proofs.Pairs.{pair_used, pair_back, item_pair_lem, item_ticket_lem}

module _
    (l : Layout) (s : Sound l) (m : Mapping) (tickets : length m.tickets ≡ records * sectors)
    (z : List ℕ) (long : block_len ≤ length z)
  where
    long_items : block_len ≤ length (with_items l m z)
    long_items = omega (arith, length-with_items l m tickets s z long)

    long_sum : block_len ≤ length (with_sum l (with_items l m z))
    long_sum = omega (arith, long_items, length_sum l s (with_items l m z) long_items)

    items_end : header_len + virtuals l * item_len l ≤ map_len l
    items_end = items_fit l s (virtuals l) (omega arith)

    pub put_length : length (put_map l m z) ≡ length z
    unfolding put_map
    put_length =
        length_journal l s (with_sum l (with_items l m z)) long_sum
        ∙ length_sum l s (with_items l m z) long_items
        ∙ length-with_items l m tickets s z long

    -- apart from the sum and the journal a byte is as the items leave it
    put_items_only
        : (i : ℕ)
        → (map_len l ≤ i → i < block_len → ⊥) → get_or (put_map l m z) i 0 ≡ get_or (with_items l m z) i 0
    unfolding put_map
    put_items_only i out =
        journal_apart l s (with_sum l (with_items l m z)) long_sum i (λ p q. out (omega arith) q)
        ∙ sum_apart l s (with_items l m z) long_items i (λ p q. out p (omega (arith, map_fits l s)))

    -- all behind block zero stays, and so do the header and the padding
    pub put_behind : drop block_len (put_map l m z) ≡ drop block_len z
    put_behind =
        drop_ext 0 block_len (put_map l m z) z put_length
        (λ i h.
        put_items_only i (λ p q. omega arith)
        ∙ items_apart l m tickets s z long i (λ p q. omega (arith, items_end, map_fits l s)))

    pub put_header : take header_len (put_map l m z) ≡ take header_len z
    put_header =
        take_ext 0 header_len (put_map l m z) z put_length
        (λ i h.
        put_items_only i (λ p q. omega (arith, items_end))
        ∙ items_apart l m tickets s z long i (λ p q. omega arith))

    pub put_padding
        : l.large ≡ true
        → (i : ℕ) → header_len + virtuals l * 2 ≤ i → i < 0x3FE → get_or (put_map l m z) i 0 ≡ get_or z i 0
    put_padding e i p q =
        let w : item_len l ≡ 2 = ap (λ (x : Bool). pick x large_item small_item) e in
        let n : map_len l ≡ 0x3FE = ap (λ (x : Bool). pick x 0x3FE (header_len + virtuals l * small_item)) e in
        let h : header_len + virtuals l * item_len l ≤ i = rw w p in
        put_items_only i (λ a b. omega arith) ∙ items_apart l m tickets s z long i (λ a b. omega arith)

    pub put_journal : (i : ℕ) → journal_at l ≤ i → i < block_len → get_or (put_map l m z) i 0 ≡ erased
    unfolding put_map
    put_journal i p q = journal_in l s (with_sum l (with_items l m z)) long_sum i p q

    pub put_sum : sum_holds l (put_map l m z) ≡ true
    unfolding sum_holds put_map
    put_sum =
        let x : List ℕ = with_items l m z in
        let y : List ℕ = with_sum l x in
        let a : take (map_len l) (put_map l m z) ≡ take (map_len l) x = journal_map l s y long_sum ∙ sum_map l s x long_items in
        let low : get_or (put_map l m z) (map_len l) 0 ≡ crc16 (take (map_len l) x) % 256 =
        journal_apart l s y long_sum (map_len l) (λ p q. omega arith) ∙ sum_low l s x long_items in
        let high : get_or (put_map l m z) (map_len l + 1) 0 ≡ crc16 (take (map_len l) x) / 256 =
        journal_apart l s y long_sum (map_len l + 1) (λ p q. omega arith) ∙ sum_high l s x long_items in
        let n : crc16 (take (map_len l) (put_map l m z)) ≡ crc16 (take (map_len l) x) = ap crc16 a in
        eq-eqb (crc16 (take (map_len l) (put_map l m z))) (get_or (put_map l m z) (map_len l) 0 + 256 * get_or (put_map l m z) (map_len l + 1) 0) (omega arith)

    -- byte k of item v
    put_item : (v k : ℕ) → v < virtuals l → k < item_len l → get_or (put_map l m z) (item_at l v + k) 0 ≡ get_or (item_bytes l m v) k 0
    put_item v k p q =
        let t : suc v * item_len l ≤ virtuals l * item_len l = mul-le-mul_right (item_len l) p in
        let b : item_at l v + k < map_len l = omega (arith, suc-mul v (item_len l), items_end) in
        put_items_only (item_at l v + k) (λ c d. omega arith) ∙ items_in l m tickets s z long v k p q

    wide : 2 ≤ item_len l
    wide = by_test l.large (λ e. rw e (omega arith)) (λ e. rw e (omega arith))

    pub put_first : (v : ℕ) → v < virtuals l → get_or (put_map l m z) (item_at l v) 0 ≡ get_or (item_pair l (block_at m v)) 0 0
    put_first v h =
        let e : item_at l v + 0 ≡ item_at l v = omega arith in
        ap (λ (i : ℕ). get_or (put_map l m z) i 0) (sym e)
        ∙ put_item v 0 h (omega (arith, wide))
        ∙ item_pair_lem l (block_at m v) m.tickets v 0 (omega arith)

    pub put_second : (v : ℕ) → v < virtuals l → get_or (put_map l m z) (item_at l v + 1) 0 ≡ get_or (item_pair l (block_at m v)) 1 0
    put_second v h = put_item v 1 h (omega (arith, wide)) ∙ item_pair_lem l (block_at m v) m.tickets v 1 (omega arith)

    -- ticket j, which stands in the item of block j / 8
    put_ticket
        : l.large ≡ false
        → (j : ℕ) → j < virtuals l * sectors → get_or (put_map l m z) (item_at l (j / sectors) + 2 + j % sectors) 0 ≡ get_or m.tickets j 0
    put_ticket e j h =
        let v : ℕ = j / sectors in
        let k : ℕ = j % sectors in
        let w : item_len l ≡ 10 = ap (λ (x : Bool). pick x large_item small_item) e in
        let a : item_at l v + 2 + k ≡ item_at l v + (2 + k) = omega arith in
        let b : v * sectors + k ≡ j = omega arith in
        ap (λ (i : ℕ). get_or (put_map l m z) i 0) a
        ∙ put_item v (2 + k) (omega arith) (omega arith)
        ∙ item_ticket_lem l (block_at m v) m.tickets v e k (omega arith)
        ∙ ap (λ (i : ℕ). get_or m.tickets i 0) b

    put_settled_ticket : (j : ℕ) → j < virtuals l * sectors → item_ticket l (put_map l m z) j ≡ settled_ticket l m j
    unfolding item_ticket
    put_settled_ticket j h =
        by_test l.large
        (λ e. rw e)
        (λ e.
        let u : leb in_use_bit (get_or (put_map l m z) (item_at l (j / sectors)) 0) ≡ not (free_at m (j / sectors)) =
        ap (leb in_use_bit) (put_first (j / sectors) (omega arith)) ∙ pair_used l (block_at m (j / sectors)) in
        rw (u, put_ticket e j h))

    -- what goes into seven bits fits
    module _
        (small : (v : ℕ) → v < virtuals l → l.large ≡ false → number_at m v < in_use_bit)
        (large : (v : ℕ) → v < virtuals l → l.large ≡ true → count_at m v < in_use_bit)
      where
        put_settled_block : (v : ℕ) → v < virtuals l → item_block l (put_map l m z) v ≡ settled_block m v
        unfolding item_block
        put_settled_block v h = rw (put_first v h, put_second v h) (pair_back l (block_at m v) (small v h) (large v h))

        pub put_loaded : loaded l (put_map l m z) ≡ settled l m
        unfolding loaded settled
        put_loaded =
            rw (
              tabulate_ext (block_entry l (put_map l m z)) (up_to (virtuals l) (settled_block m) no_block) records
                  (λ i h. up_to_ext (item_block l (put_map l m z)) (settled_block m) (virtuals l) no_block put_settled_block i),
              tabulate_ext {A = ℕ} (ticket_entry l (put_map l m z)) (up_to (virtuals l * sectors) (settled_ticket l m) 0) (records * sectors)
                  (λ i h. up_to_ext {A = ℕ} (item_ticket l (put_map l m z)) (settled_ticket l m) (virtuals l * sectors) 0 put_settled_ticket i),
            )
