-- A write goes block by block, and what it stores in a block is what the visits of its sectors store: the parts are neighbours,
-- so that their splices join to one, and after the first visit the block is in use and changed, so that later ones leave its
-- record as it is. Assumes nothing.
use mathlib.Core.Path.{◌≡◌, refl, ap, sym, ◌∙◌, subst, subst⁻¹}
use mathlib.Core.List.{List, [], ◌∷◌}
use Prim.Native.Nat.{ℕ, zero, suc, ◌+◌, ◌-◌, ◌*◌, ◌/◌, ◌%◌, ◌≤◌, ◌<◌, min, max}
use native.Mathlib.Omega.{arith}
use lib.ListN.{length, get_or}
use lib.Seq.{slice, length-slice, set-set, get_or-set_same}
use Rattle.lists.specs.Words.{splice}
use Rattle.lists.proofs.Splice.{splice-splice}
use Rattle.lists.proofs.Windows.{slice-append}
use Rattle.chip.specs.Figures.{block_len, sector_len, sectors}
use Rattle.mapping.specs.declared.Block.{Block}
use Rattle.mapping.specs.declared.Mapping.{Mapping}
use Rattle.mapping.specs.Blocks.{no_block, mapping_of, block_at, number_at, with_block}
use Rattle.tickets.specs.Tickets.{sector_place}
use Rattle.tickets.proofs.Fitting.{fitting}
use Rattle.save.specs.Visits.{State, state, first_sector, end_sector, visited_block, opened_image, stored_part, part_from, part_end, CanWrite}
use Rattle.save.specs.Parts.{stored_parts, parts_end, CanStore}
use Rattle.save.proofs.Visits.{length_opened, visits_kept, Going, going_can, going_more}

-- the bytes that were copied are the parts that fall into the sectors
pub parts_stored
    : (image d : List ℕ) (n place s stop from end at : ℕ)
    → from ≡ max place (s * sector_len)
    → end ≡ min (place + length d) (stop * sector_len)
    → at ≡ sector_place n (s % sectors)
    → place ≤ from
    → from ≤ end
    → splice image (at + (from - s * sector_len)) (slice (from - place) (from - place + (end - from)) d) ≡ stored_parts n place d s stop image
unfolding stored_parts part_from parts_end
parts_stored image d n place s stop from end at f t a h k =
    let e : from - place + (end - from) ≡ end - place = omega arith in
    rw (e, f, t, a)

-- a visited block is visited again without a change
visited_again : (b : Block) → visited_block (visited_block b) ≡ visited_block b
unfolding visited_block
visited_again b = refl

opened_again : (b : Block) (image : List ℕ) → opened_image (visited_block b) image ≡ image
unfolding visited_block opened_image
opened_again b image = refl

-- where the parts of sectors s up to t end, and that of t begins and ends
record Ends (place k s t from mid begin end : ℕ) : Type 0 where
  low : place ≤ from
  start : s * sector_len ≤ from
  some : from ≤ mid
  mid_is : mid ≡ t * sector_len
  begin_is : begin ≡ t * sector_len
  rise : mid ≤ end
  high : end ≤ place + k
  stop : end ≤ t * sector_len + sector_len

ends_of
    : (place k s t : ℕ)
    → first_sector place ≤ s → s < t → t < end_sector place k
    → Ends place k s t (part_from place s) (parts_end place k t) (part_from place t) (part_end place k t)
unfolding part_from parts_end part_end
ends_of place k s t h l e =
    record {
      low = omega arith;
      start = omega arith;
      some = omega arith;
      mid_is = omega arith;
      begin_is = omega arith;
      rise = omega arith;
      high = omega arith;
      stop = omega arith;
    }

next_end : (place k t : ℕ) → parts_end place k (t + 1) ≡ part_end place k t
unfolding parts_end part_end
next_end place k t = let e : (t + 1) * sector_len ≡ t * sector_len + sector_len = omega arith in rw e

-- the part of sector t stands right behind those of sectors s up to t
behind
    : (n s t from mid k : ℕ)
    → s < t → t < (s / sectors + 1) * sectors → s * sector_len ≤ from → from ≤ mid → mid ≡ t * sector_len → k + from ≡ mid
    → sector_place n (t % sectors) + (mid - t * sector_len) ≡ sector_place n (s % sectors) + (from - s * sector_len) + k
behind n s t from mid k l one start some e h = omega arith

-- and all of them lie in the block
room
    : (n s t from mid end k j long : ℕ)
    → s < t → t < (s / sectors + 1) * sectors → s * sector_len ≤ from → from ≤ mid → mid ≡ t * sector_len
    → mid ≤ end → end ≤ t * sector_len + sector_len → k + from ≡ mid → j + mid ≡ end → n * block_len + block_len ≤ long
    → sector_place n (s % sectors) + (from - s * sector_len) + k + j ≤ long
room n s t from mid end k j long l one start some e rise stop h i within = omega arith

module _ (place : ℕ) (d image : List ℕ) (n s : ℕ) where
  -- the parts up to the next sector are one sector's
  first_part : stored_parts n place d s (s + 1) image ≡ stored_part n place d s image
  unfolding stored_parts stored_part
  first_part = rw (next_end place (length d) s)

  -- one sector more of the same block
  next_part
      : (t : ℕ) → CanStore image n place (length d) s (t + 1) → s < t
      → stored_parts n place d s (t + 1) image ≡ stored_part n place d t (stored_parts n place d s t image)
  unfolding stored_parts stored_part
  next_part t can l =
      let from : ℕ = part_from place s in
      let mid : ℕ = parts_end place (length d) t in
      let begin : ℕ = part_from place t in
      let end : ℕ = part_end place (length d) t in
      let e = ends_of place (length d) s t can.from l (omega (arith, can.to)) in
      let at : ℕ = sector_place n (s % sectors) + (from - s * sector_len) in
      let x : List ℕ = slice (from - place) (mid - place) d in
      let y : List ℕ = slice (mid - place) (end - place) d in
      let lx : length x + from ≡ mid = omega (arith, e.low, e.some, length-slice (from - place) (mid - place) d (omega (arith, e.rise, e.high))) in
      let ly : length y + mid ≡ end = omega (arith, e.low, e.some, e.rise, length-slice (mid - place) (end - place) d (omega (arith, e.high))) in
      let next : begin ≡ mid = e.begin_is ∙ sym e.mid_is in
      let here : sector_place n (t % sectors) + (mid - t * sector_len) ≡ at + length x
      = behind n s t from mid (length x) l (omega (arith, can.one)) e.start e.some e.mid_is lx in
      rw (next_end place (length d) t, next, here)
      (ap (splice image at) (sym (slice-append (from - place) (mid - place) (end - place) d (omega (arith, e.some)) (omega (arith, e.rise)) (omega (arith, e.high))))
      ∙ sym (splice-splice 0 image at x y (room n s t from mid end (length x) (length y) (length image) l (omega (arith, can.one)) e.start e.some e.mid_is e.rise e.stop lx ly can.within)))

-- a list that has an element with a number at v is longer than v
numbered : (l : List Block) (v : ℕ) → 1 ≤ (get_or l v no_block).physical.0 → v < length l
numbered [] v h = absurd (omega arith)
numbered (b ∷ bs) zero h = omega arith
numbered (b ∷ bs) (suc v) h = let r : v < length bs = numbered bs v h in omega arith

-- filling a block leaves room for what is stored in it
pub opened_can
    : (b : Block) (image : List ℕ) (place k s stop : ℕ)
    → CanStore image b.physical.0 place k s stop → CanStore (opened_image b image) b.physical.0 place k s stop
opened_can b image place k s stop can =
    let long : length (opened_image b image) ≡ length image = length_opened b image can.within in
    record {
      within = omega (arith, long, can.within);
      from = can.from;
      some = can.some;
      to = can.to;
      one = can.one;
      short = omega (arith, long, can.short);
    }

module _ (place : ℕ) (d : List ℕ) (st : State) (image : List ℕ) (m : Mapping) (s : ℕ) where
  abbrev v : ℕ
  v = s / sectors

  -- block v as it is after a visit, and the image with it in use
  abbrev b : Block
  b = visited_block (block_at m v)

  abbrev opened : List ℕ
  opened = opened_image (block_at m v) image

  number_same : b.physical.0 ≡ number_at m v
  unfolding visited_block
  number_same = refl

  block_again : v < length m.blocks → block_at (with_block m v b) v ≡ b
  unfolding with_block
  block_again h = get_or-set_same m.blocks v b no_block h

  mapping_again : with_block (with_block m v b) v b ≡ with_block m v b
  unfolding with_block
  mapping_again = ap (λ (l : List Block). mapping_of m.len l m.tickets) (set-set m.blocks v b b)

  -- the visits of k sectors more, one by one
  visits_more
      : (k : ℕ)
      → Going place d st (state image m) s
      → v < length m.blocks
      → CanStore opened (number_at m v) place (length d) s (s + suc k)
      → Going place d st (state (stored_parts (number_at m v) place d s (s + suc k) opened) (with_block m v b)) (s + suc k)
  visits_more zero g h can =
      let e : s + suc zero ≡ s + 1 = omega arith in
      rw e
      (going_more place d st image m s (stored_parts (number_at m v) place d s (s + 1) opened) b g (omega (arith, can.to)) refl
      (first_part place d opened (number_at m v) s))
  visits_more (suc k) g h can =
      let t : ℕ = s + suc k in
      let before : List ℕ = stored_parts (number_at m v) place d s t opened in
      let after : List ℕ = stored_parts (number_at m v) place d s (t + 1) opened in
      let e : s + suc (suc k) ≡ t + 1 = omega arith in
      let can2 : CanStore opened (number_at m v) place (length d) s (t + 1) = rw e at can in
      let r =
      visits_more k g h
      (record {
        within = can.within;
        from = can.from;
        some = omega arith;
        to = omega (arith, can.to);
        one = omega (arith, can.one);
        short = can.short;
      }) in
      let same : t / sectors ≡ v = omega (arith, can.one) in
      let here : block_at (with_block m v b) (t / sectors) ≡ b = ap (λ (u : ℕ). block_at (with_block m v b) u) same ∙ block_again h in
      let p : visited_block (block_at (with_block m v b) (t / sectors)) ≡ b = ap visited_block here ∙ visited_again (block_at m v) in
      let q : stored_part (number_at (with_block m v b) (t / sectors)) place d t (opened_image (block_at (with_block m v b) (t / sectors)) before) ≡ stored_part (number_at m v) place d t before
      = ap (λ (x : Block). stored_part x.physical.0 place d t (opened_image x before)) here
      ∙ (λ i. stored_part (number_same i) place d t (opened_again (block_at m v) before i)) in
      rw e
      (subst (λ (n : Mapping). Going place d st (state after n) (t + 1))
      (ap (λ (u : ℕ). with_block (with_block m v b) u b) same ∙ mapping_again)
      (going_more place d st before (with_block m v b) t after b r (omega (arith, can.to)) (sym p)
      (next_part place d opened (number_at m v) s t can2 (omega arith) ∙ sym q)))

  -- what the loop does in a turn: sectors s up to stop, all of block v
  pub going_parts
      : (stop : ℕ) (after : List ℕ) (c : Block)
      → Going place d st (state image m) s
      → 1 ≤ number_at m v
      → CanStore image (number_at m v) place (length d) s stop
      → c ≡ b
      → after ≡ stored_parts (number_at m v) place d s stop opened
      → Going place d st (state after (with_block m v c)) stop
  going_parts stop after c g number can p q =
      let e : stop ≡ s + suc (stop - s - 1) = omega (arith, can.some) in
      rw (p, q)
      (subst⁻¹ (λ (x : ℕ). Going place d st (state (stored_parts (number_at m v) place d s x opened) (with_block m v b)) x) e
      (visits_more (stop - s - 1) g (numbered m.blocks v number) (rw e at (opened_can (block_at m v) image place (length d) s stop can))))

module _ (place : ℕ) (d : List ℕ) (st st2 : State) (s : ℕ) (can : CanWrite st.image st.mapping place (length d)) where
  -- a turn can be made: its sectors are those up to the end of the block, or of the write
  pub going_store
      : (stop : ℕ)
      → Going place d st st2 s
      → s < end_sector place (length d)
      → stop ≡ min ((s / sectors + 1) * sectors) (end_sector place (length d))
      → CanStore st2.image (number_at st2.mapping (s / sectors)) place (length d) s stop
  going_store stop g h e =
      let c = going_can place d st st2 s can g h in
      record {
        within = c.within;
        from = c.from;
        some = omega (arith, e);
        to = omega (arith, e);
        one = omega (arith, e);
        short = c.short;
      }

  -- and its block has a number
  pub going_number : Going place d st st2 s → s < end_sector place (length d) → 1 ≤ number_at st2.mapping (s / sectors)
  going_number g h =
      let f = fitting (length st.image) st.mapping can.fitting in
      let low : 1 ≤ number_at st.mapping (s / sectors) = f.numbers.low (s / sectors) (omega (arith, can.inside, f.save)) in
      let k = visits_kept place d st can (s - first_sector place) (omega (arith, g.to)) in
      rw g.done (omega (arith, low, k.number_kept (s / sectors)))
