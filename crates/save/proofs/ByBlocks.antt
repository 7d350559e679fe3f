-- Reading by blocks: bytes of one block are the save's, byte by byte, and a buffer whose first bytes are the save's gets the
-- next ones. Assumes nothing.
use native.Mathlib.Nat.{add-sub_cancel_left}
use mathlib.Core.Path.{◌≡◌, sym, ap, ◌∙◌}
use mathlib.Core.Bool.{true, false}
use mathlib.Core.List.{List, ◌++◌}
use Prim.Native.Nat.{ℕ, ◌+◌, ◌-◌, ◌*◌, ◌/◌, ◌%◌, ◌<◌, ◌≤◌, min, max}
use native.Mathlib.Omega.{arith}
use borrow.Rule.Slice.PartMut.{put_mid, mid_of, mid_len}
use lib.ListN.{length, take, drop, get_or, length-replicate, get_or-replicate}
use lib.Seq.{slice, take-add, drop-drop}
use Rattle.lists.specs.Words.{splice, rep}
use Rattle.lists.proofs.Orders.{by_test}
use Rattle.lists.proofs.Tabulate.{length-tabulate, get_or-tabulate}
use Rattle.lists.proofs.Splice.{splice-splice, splice_whole, part_back}
use Rattle.lists.proofs.Windows.{length-window, get_or-window, window_ext, take-drop}
use Rattle.chip.specs.Figures.{block_len, erased}
use Rattle.mapping.specs.declared.Block.{Block}
use Rattle.mapping.specs.declared.Mapping.{Mapping}
use Rattle.mapping.specs.Blocks.{is_free, block_at, number_at, free_at, len_of}
use Rattle.save.specs.Save.{byte_at, save_bytes}
use Rattle.save.specs.Readable.{block_part, Readable, PartIn}

-- how many of n bytes from `place` on lie before block v
abbrev pub read_before : ℕ → ℕ → ℕ → ℕ
read_before place n v = min (place + n) (max place (v * block_len)) - place

-- bytes of s that were copied over all of l
pub copied_whole : (l s : List ℕ) (f : ℕ) → f + length l ≤ length s → splice l 0 (slice f (f + length l) s) ≡ take (length l) (drop f s)
copied_whole l s f h =
    rw (← take-drop f (length l) s) (splice_whole l (take (length l) (drop f s)) (length-window f (length l) s h))

-- what is read of a free block, and of another
module _ (image : List ℕ) (b : Block) (off n : ℕ) where
  pub free_part : is_free b.condition ≡ true → block_part image b off n ≡ rep n erased
  unfolding block_part
  free_part t = rw t

  pub held_part : is_free b.condition ≡ false → block_part image b off n ≡ take n (drop (b.physical.0 * block_len + off) image)
  unfolding block_part
  held_part t = rw t

module _ (image : List ℕ) (m : Mapping) where
  pub length_save : length (save_bytes image m) ≡ len_of m
  unfolding save_bytes
  length_save = length-tabulate (byte_at image m) (len_of m)

  pub save_at : (i : ℕ) → i < len_of m → get_or (save_bytes image m) i 0 ≡ byte_at image m i
  unfolding save_bytes
  save_at i h = get_or-tabulate (byte_at image m) (len_of m) i 0 h

  -- byte i from p on, which is in p's block
  module _ (p k : ℕ) (within : p % block_len + k ≤ block_len) where
    free_at_lem : (i : ℕ) → i < k → free_at m (p / block_len) ≡ true → byte_at image m (p + i) ≡ erased
    unfolding byte_at
    free_at_lem i h t =
        let d : (p + i) / block_len ≡ p / block_len = omega arith in
        rw (d, t)

    held_at : (i : ℕ) → i < k → free_at m (p / block_len) ≡ false
        → byte_at image m (p + i) ≡ get_or image (number_at m (p / block_len) * block_len + p % block_len + i) 0
    unfolding byte_at
    held_at i h t =
        let d : (p + i) / block_len ≡ p / block_len = omega arith in
        let r : (p + i) % block_len ≡ p % block_len + i = omega arith in
        rw (d, t, r) (ap (λ (j : ℕ). get_or image j 0) (omega arith))

    -- k bytes of the block from p's place in it on are those of the save from p on
    pub block_part_lem
        : number_at m (p / block_len) * block_len + block_len ≤ length image
        → p + k ≤ len_of m
        → block_part image (block_at m (p / block_len)) (p % block_len) k ≡ take k (drop p (save_bytes image m))
    block_part_lem lies h =
        by_test (free_at m (p / block_len))
        (λ t.
        free_part image (block_at m (p / block_len)) (p % block_len) k t
        ∙ window_ext 0 p k (save_bytes image m) (rep k erased) (omega (arith, length_save)) (length-replicate k erased)
        (λ i b. get_or-replicate k i erased 0 b ∙ sym (free_at_lem i b t) ∙ sym (save_at (p + i) (omega arith))))
        (λ t.
        held_part image (block_at m (p / block_len)) (p % block_len) k t
        ∙ window_ext 0 p k (save_bytes image m) (take k (drop at image)) (omega (arith, length_save)) (length-window at k image (omega arith))
        (λ i b. get_or-window at k image i 0 b ∙ sym (held_at i b t) ∙ sym (save_at (p + i) (omega arith))))
      where
        at : ℕ
        at = number_at m (p / block_len) * block_len + p % block_len

  -- a buffer l whose first d bytes are the save's, of which the next k were lent and came back as the save's next
  read_more
      : (place d k : ℕ) (l ys : List ℕ)
      → d + k ≤ length l
      → place + length l ≤ len_of m
      → ys ≡ take k (drop (place + d) (save_bytes image m))
      → put_mid d (d + k - d) (splice l 0 (take d (drop place (save_bytes image m)))) ys
      ≡ splice l 0 (take (d + k) (drop place (save_bytes image m)))
  read_more place d k l ys h r e =
      let s : List ℕ = save_bytes image m in
      let n : length s ≡ len_of m = length_save in
      let a : length (take d (drop place s)) ≡ d = length-window place d s (omega arith) in
      let z : d ≡ 0 + length (take d (drop place s)) = omega arith in
      let b : length ys ≡ k = ap length e ∙ length-window (place + d) k s (omega arith) in
      part_back (splice l 0 (take d (drop place s))) d k ys b
      ∙ ap (λ (i : ℕ). splice (splice l 0 (take d (drop place s))) i ys) z
      ∙ splice-splice 0 l 0 (take d (drop place s)) ys (omega arith)
      ∙ ap (splice l 0)
      (ap (λ (x : List ℕ). take d (drop place s) ++ x) (e ∙ ap (take k) (sym (drop-drop d place s)))
      ∙ sym (take-add d k (drop place s)))

  -- a turn of the loop: the buffer is b by now, and its next k bytes are those of the block that place + d lies in
  read_part
      : (place d k : ℕ) (l b ys : List ℕ)
      → place + length l ≤ len_of m → d + k ≤ length l → (place + d) % block_len + k ≤ block_len
      → number_at m ((place + d) / block_len) * block_len + block_len ≤ length image
      → b ≡ splice l 0 (take d (drop place (save_bytes image m)))
      → ys ≡ block_part image (block_at m ((place + d) / block_len)) ((place + d) % block_len) k
      → put_mid d (d + k - d) b ys ≡ splice l 0 (take (d + k) (drop place (save_bytes image m)))
  read_part place d k l b ys n q c i f g =
      rw f (read_more place d k l ys q n (g ∙ block_part_lem (place + d) k c i (omega arith)))

  module _ (place d k : ℕ) (l b : List ℕ) (r : Readable image m place (length l)) (h : d < length l) (q : d + k ≤ length l) where
    -- the next k bytes of the buffer, lent for the block that place + d lies in
    module _ (c : (place + d) % block_len + k ≤ block_len) (e : length b ≡ length l) where
      lent : length (mid_of d (d + k - d) b) ≡ k
      lent = mid_len d (d + k) b (omega arith) ∙ add-sub_cancel_left d k

      pub part_in : PartIn image (block_at m ((place + d) / block_len)) ((place + d) % block_len) (length (mid_of d (d + k - d) b))
      part_in = record { in_block = rw lent c; in_image = r.lies ((place + d) / block_len) (omega (arith, r.lies_in_save)) }

      -- where they came from it, they are the save's next
      pub read_turn
          : (ys : List ℕ)
          → b ≡ splice l 0 (take d (drop place (save_bytes image m)))
          → ys ≡ block_part image (block_at m ((place + d) / block_len)) ((place + d) % block_len) (length (mid_of d (d + k - d) b))
          → put_mid d (d + k - d) b ys ≡ splice l 0 (take (d + k) (drop place (save_bytes image m)))
      read_turn ys f g =
          read_part place d k l b ys r.lies_in_save q c (r.lies ((place + d) / block_len) (omega (arith, r.lies_in_save))) f (rw lent at g)

  -- the same by blocks: the bytes from `from` to `to` of the save are those of the block v
  module _ (place v : ℕ) (l b : List ℕ) (r : Readable image m place (length l)) (lo : place < v * block_len + block_len)
      (hi : v * block_len < place + length l) (from to : ℕ) (f : from ≡ max place (v * block_len))
      (t : to ≡ min (place + length l) (v * block_len + block_len)) (e : length b ≡ length l) where
    lent_of_block : length (mid_of (from - place) (to - place - (from - place)) b) ≡ to - from
    lent_of_block = mid_len (from - place) (to - place) b (omega arith) ∙ omega arith

    begun : read_before place (length l) v ≡ from - place
    begun = omega arith

    ended : read_before place (length l) (v + 1) ≡ (from - place) + (to - from)
    ended = omega arith

    pub read_turn_of_block
        : (ys : List ℕ)
        → b ≡ splice l 0 (take (read_before place (length l) v) (drop place (save_bytes image m)))
        → ys ≡ block_part image (block_at m v) (from - v * block_len) (length (mid_of (from - place) (to - place - (from - place)) b))
        → put_mid (from - place) (to - place - (from - place)) b ys
        ≡ splice l 0 (take (read_before place (length l) (v + 1)) (drop place (save_bytes image m)))
    read_turn_of_block ys h g =
        let n : place + length l ≤ len_of m = r.lies_in_save in
        let w : to - place - (from - place) ≡ (from - place) + (to - from) - (from - place) = omega arith in
        let x : from / block_len ≡ v = omega arith in
        let y : from % block_len ≡ from - v * block_len = omega arith in
        let z : place + (from - place) ≡ from = omega arith in
        rw (ended, w)
        (read_part place (from - place) (to - from) l b ys n (omega arith) (omega arith) (rw (z, x) (r.lies v (omega arith)))
        (rw begun at h) (rw (z, x, y) (rw lent_of_block at g)))

  -- all turns done
  pub read_all
      : (place d : ℕ) (l : List ℕ)
      → d ≡ length l
      → place + length l ≤ len_of m
      → splice l 0 (take d (drop place (save_bytes image m))) ≡ take (length l) (drop place (save_bytes image m))
  read_all place d l e h =
      rw e
      (splice_whole l (take (length l) (drop place (save_bytes image m)))
      (length-window place (length l) (save_bytes image m) (omega (arith, length_save))))
