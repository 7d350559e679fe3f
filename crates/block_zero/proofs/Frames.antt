-- What each part of a store leaves and what it puts: the sum, the journal and the items, byte by byte. Assumes nothing.
use mathlib.Core.Path.{◌≡◌, refl, sym, ap, ◌∙◌}
use mathlib.Core.List.{List}
use Prim.Native.Nat.{ℕ, zero, suc, ◌+◌, ◌-◌, ◌*◌, ◌/◌, ◌%◌, ◌<◌, ◌≤◌}
use native.Mathlib.Nat.{suc-mul, mul-le-mul_right}
use native.Mathlib.Decide.{ℕ_discrete}
use native.Mathlib.Omega.{arith}
use lib.ListN.{length, take, get_or, length-replicate, get_or-replicate, get_or-append}
use lib.Seq.{take-take, get_or-append-add}
use Rattle.lists.specs.Words.{rep}
use Rattle.lists.proofs.Splice.{length-splice, get_or-splice_at, get_or-splice_out, take-splice}
use Rattle.crc16.specs.Crc.{crc16}
use Rattle.chip.specs.Figures.{Layout, virtuals, block_len, sectors, header_len, erased, item_len, map_len, journal_at, records}
use Rattle.chip.proofs.Layouts.{Sound, map_fits}
use Rattle.mapping.specs.declared.Mapping.{Mapping}
use Rattle.block_map.specs.Items.{item_at}
use Rattle.block_zero.specs.Put.{item_bytes, items, with_items, low_first, with_sum, with_journal}
use Rattle.block_zero.proofs.Puts.{items_fit, length_items}

-- the erased journal
abbrev area : Layout → List ℕ
area l = rep (block_len - journal_at l) erased

module _ (l : Layout) (s : Sound l) (z : List ℕ) (long : block_len ≤ length z) where
  fits : map_len l + 2 ≤ length z
  fits = omega (arith, map_fits l s)

  pub length_sum : length (with_sum l z) ≡ length z
  unfolding with_sum
  length_sum = length-splice z (map_len l) (low_first (crc16 (take (map_len l) z))) fits

  pub sum_apart : (i : ℕ) → (map_len l ≤ i → i < map_len l + 2 → ⊥) → get_or (with_sum l z) i 0 ≡ get_or z i 0
  unfolding with_sum
  sum_apart i out = get_or-splice_out z (map_len l) (low_first (crc16 (take (map_len l) z))) i 0 fits out

  pub sum_low : get_or (with_sum l z) (map_len l) 0 ≡ crc16 (take (map_len l) z) % 256
  unfolding with_sum
  sum_low = get_or-splice_at z (map_len l) (low_first (crc16 (take (map_len l) z))) (map_len l) 0 0 fits (omega arith) (omega arith)

  pub sum_high : get_or (with_sum l z) (map_len l + 1) 0 ≡ crc16 (take (map_len l) z) / 256
  unfolding with_sum
  sum_high = get_or-splice_at z (map_len l) (low_first (crc16 (take (map_len l) z))) (map_len l + 1) 1 0 fits (omega arith) refl

  pub sum_map : take (map_len l) (with_sum l z) ≡ take (map_len l) z
  unfolding with_sum
  sum_map = take-splice z (map_len l) (low_first (crc16 (take (map_len l) z))) (omega (arith, fits))

  area_end : journal_at l + length (area l) ≡ block_len
  area_end = omega (arith, length-replicate (block_len - journal_at l) erased, map_fits l s)

  pub length_journal : length (with_journal l z) ≡ length z
  unfolding with_journal
  length_journal = length-splice z (journal_at l) (area l) (omega (arith, area_end))

  pub journal_apart : (i : ℕ) → (journal_at l ≤ i → i < block_len → ⊥) → get_or (with_journal l z) i 0 ≡ get_or z i 0
  unfolding with_journal
  journal_apart i out =
      get_or-splice_out z (journal_at l) (area l) i 0 (omega (arith, area_end)) (λ p q. out p (omega (arith, area_end)))

  pub journal_in : (i : ℕ) → journal_at l ≤ i → i < block_len → get_or (with_journal l z) i 0 ≡ erased
  unfolding with_journal
  journal_in i p q =
      let j : ℕ = i - journal_at l in
      get_or-splice_at z (journal_at l) (area l) i j 0 (omega (arith, area_end)) (omega (arith, area_end)) (omega arith)
      ∙ get_or-replicate (block_len - journal_at l) j erased 0 (omega arith)

  pub journal_map : take (map_len l) (with_journal l z) ≡ take (map_len l) z
  unfolding with_journal
  journal_map =
      sym (take-take (map_len l) (journal_at l) (with_journal l z) (omega arith))
      ∙ ap (take (map_len l)) (take-splice z (journal_at l) (area l) (omega (arith, fits)))
      ∙ take-take (map_len l) (journal_at l) z (omega arith)

module _ (l : Layout) (m : Mapping) (tickets : length m.tickets ≡ records * sectors) where
  -- byte k of item v among n items
  pub get_or-items
      : (n v k : ℕ)
      → n ≤ records → v < n → k < item_len l → get_or (items l m n) (v * item_len l + k) 0 ≡ get_or (item_bytes l m v) k 0
  unfolding items
  get_or-items zero v k h p q = absurd (omega arith)
  get_or-items (suc n) v k h p q = go (ℕ_discrete v n) (λ b. get_or-items n v k (omega arith) b q)
    where
      size : length (items l m n) ≡ n * item_len l
      size = length_items l m tickets n (omega arith)

      go
          : Dec (v ≡ n) → (v < n → get_or (items l m n) (v * item_len l + k) 0 ≡ get_or (item_bytes l m v) k 0)
          → get_or (items l m (suc n)) (v * item_len l + k) 0 ≡ get_or (item_bytes l m v) k 0
      go (yes d) r = rw (d, ← size) (get_or-append-add (items l m n) (item_bytes l m n) k 0)
      go (no d) r =
          let b : v < n = omega (arith, d) in
          let t : suc v * item_len l ≤ n * item_len l = mul-le-mul_right (item_len l) b in
          get_or-append (items l m n) (item_bytes l m n) 0 (v * item_len l + k) (omega (arith, size, suc-mul v (item_len l))) ∙ r b

  module _ (s : Sound l) (z : List ℕ) (long : block_len ≤ length z) where
    all : length (items l m (virtuals l)) ≡ virtuals l * item_len l
    all = length_items l m tickets (virtuals l) (omega (arith, s.few))

    inside : header_len + length (items l m (virtuals l)) ≤ map_len l
    inside = rw all (items_fit l s (virtuals l) (omega arith))

    pub length-with_items : length (with_items l m z) ≡ length z
    unfolding with_items
    length-with_items = length-splice z header_len (items l m (virtuals l)) (omega (arith, inside, map_fits l s))

    pub items_apart
        : (i : ℕ)
        → (header_len ≤ i → i < header_len + virtuals l * item_len l → ⊥) → get_or (with_items l m z) i 0 ≡ get_or z i 0
    unfolding with_items
    items_apart i out =
        get_or-splice_out z header_len (items l m (virtuals l)) i 0 (omega (arith, inside, map_fits l s))
        (λ p q. out p (rw all at q))

    pub items_in : (v k : ℕ) → v < virtuals l → k < item_len l → get_or (with_items l m z) (item_at l v + k) 0 ≡ get_or (item_bytes l m v) k 0
    unfolding with_items
    items_in v k p q =
        let t : suc v * item_len l ≤ virtuals l * item_len l = mul-le-mul_right (item_len l) p in
        let b : v * item_len l + k < virtuals l * item_len l = omega (arith, suc-mul v (item_len l)) in
        get_or-splice_at z header_len (items l m (virtuals l)) (item_at l v + k) (v * item_len l + k) 0 (omega (arith, inside, map_fits l s))
        (rw all b) (omega arith)
        ∙ get_or-items (virtuals l) v k (omega (arith, s.few)) p q
