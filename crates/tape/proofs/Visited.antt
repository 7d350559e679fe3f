-- One visit of a write: its block is changed, the other blocks are as they were, and so are their bytes, as no two blocks
-- have one number. So the save changes by the visit's part alone: a free block was read as 0xFF before, and holds it now.
-- Assumes nothing.
use mathlib.Core.Path.{◌≡◌, refl, sym, ap, ◌∙◌}
use mathlib.Core.Bool.{Bool, false}
use mathlib.Core.List.{List}
use Prim.Native.Nat.{ℕ, ◌+◌, ◌-◌, ◌*◌, ◌/◌, ◌%◌, ◌≤◌, ◌<◌}
use native.Mathlib.Decide.{ℕ_discrete}
use native.Mathlib.Omega.{arith}
use borrow.Author.Tests.{ne_eqb}
use lib.Dec.{eqb}
use lib.ListN.{length, get_or, length-set, get_or-eq_default}
use lib.Seq.{get_or-set_same, get_or-set_other}
use Rattle.lists.specs.Words.{pick, splice}
use Rattle.lists.proofs.Orders.{split, by_test}
use Rattle.lists.proofs.Splice.{splice_intro}
use Rattle.chip.specs.Figures.{block_len, sectors, erased}
use Rattle.mapping.specs.declared.Block.{Block}
use Rattle.mapping.specs.declared.Condition.TheVariants.{Changed}
use Rattle.mapping.specs.declared.Mapping.{Mapping}
use Rattle.mapping.specs.Blocks.{is_free, no_block, block_at, number_at, count_at, free_at, with_block, len_of}
use Rattle.mapping.specs.Fits.{Apart}
use Rattle.save.specs.Save.{byte_at, save_bytes}
use Rattle.save.specs.Visits.{State, first_sector, end_sector, first_count, visited_block, part_from, part_end, visit}
use Rattle.save.proofs.ByBlocks.{length_save, save_at}
use Rattle.save.proofs.Visits.{part_of_lem, visit_number}
use Rattle.tape.proofs.Stored.{part_of, Stored, length_part, visit_stored}

-- ---- the mapping

-- a block that has a number is one of the list's
there : (l : List Block) (v : ℕ) → 1 ≤ (get_or l v no_block).physical.0 → v < length l
there l v h =
    split (length l) v
    (λ p.
    let e : (get_or l v no_block).physical.0 ≡ 0 = ap (λ (b : Block). b.physical.0) (get_or-eq_default l no_block p) in
    absurd (omega arith))
    (λ p. p)

-- a count is raised from 0 to 1 at most
visited_count : (b : Block) (n : ℕ) → 1 ≤ n → b.count ≤ n → (visited_block b).count ≤ n
unfolding visited_block first_count
visited_count b n low h =
    by_test (is_free b.condition)
    (λ e. rw e (by_test (eqb b.count 0) (λ f. rw f low) (λ f. rw f h)))
    (λ e. rw e h)

-- and no other count changes
visited_stays : (b : Block) → 1 ≤ b.count → (visited_block b).count ≡ b.count
unfolding visited_block first_count
visited_stays b h = by_test (is_free b.condition) (λ e. rw (e, ne_eqb b.count 0 (λ z. omega arith))) (λ e. rw e)

module _ (place : ℕ) (d : List ℕ) (s : ℕ) (st : State) where
  visit_block
      : 1 ≤ number_at st.mapping (s / sectors)
      → block_at (visit place d s st).mapping (s / sectors) ≡ visited_block (block_at st.mapping (s / sectors))
  unfolding visit with_block
  visit_block h =
      get_or-set_same st.mapping.blocks (s / sectors) (visited_block (block_at st.mapping (s / sectors))) no_block
      (there st.mapping.blocks (s / sectors) h)

  -- the visited block is changed, and the others are as they were
  pub visit_changed
      : 1 ≤ number_at st.mapping (s / sectors) → (block_at (visit place d s st).mapping (s / sectors)).condition ≡ Changed
  unfolding visited_block
  visit_changed h = ap (λ (b : Block). b.condition) (visit_block h)

  pub visit_other : (u : ℕ) → (u ≡ s / sectors → ⊥) → block_at (visit place d s st).mapping u ≡ block_at st.mapping u
  unfolding visit with_block
  visit_other u h =
      get_or-set_other st.mapping.blocks (s / sectors) u (visited_block (block_at st.mapping (s / sectors))) no_block h

  pub visit_stays
      : 1 ≤ number_at st.mapping (s / sectors) → (v : ℕ) → 1 ≤ count_at st.mapping v
      → count_at (visit place d s st).mapping v ≡ count_at st.mapping v
  visit_stays h v c = go (ℕ_discrete v (s / sectors))
    where
      go : Dec (v ≡ s / sectors) → count_at (visit place d s st).mapping v ≡ count_at st.mapping v
      go (yes e) =
          ap (count_at (visit place d s st).mapping) e
          ∙ ap (λ (b : Block). b.count) (visit_block h)
          ∙ visited_stays (block_at st.mapping (s / sectors)) (rw e at c)
          ∙ ap (count_at st.mapping) (sym e)
      go (no e) = ap (λ (b : Block). b.count) (visit_other v e)

  pub visit_count_lem
      : 1 ≤ number_at st.mapping (s / sectors) → (v n : ℕ) → 1 ≤ n → count_at st.mapping v ≤ n
      → count_at (visit place d s st).mapping v ≤ n
  visit_count_lem h v n low c = go (ℕ_discrete v (s / sectors))
    where
      go : Dec (v ≡ s / sectors) → count_at (visit place d s st).mapping v ≤ n
      go (yes e) =
          let x : count_at (visit place d s st).mapping v ≡ (visited_block (block_at st.mapping (s / sectors))).count =
          ap (count_at (visit place d s st).mapping) e ∙ ap (λ (b : Block). b.count) (visit_block h) in
          omega (arith, visited_count (block_at st.mapping (s / sectors)) n low (rw e at c))
      go (no e) =
          let x : count_at (visit place d s st).mapping v ≡ count_at st.mapping v = ap (λ (b : Block). b.count) (visit_other v e) in
          omega arith

  pub visit_blocks : length (visit place d s st).mapping.blocks ≡ length st.mapping.blocks
  unfolding visit with_block
  visit_blocks = length-set st.mapping.blocks (s / sectors) (visited_block (block_at st.mapping (s / sectors)))

  pub len_of-visit : len_of (visit place d s st).mapping ≡ len_of st.mapping
  unfolding visit with_block len_of
  len_of-visit = refl

-- ---- the save

-- the parts of a byte of the save, where they are known
byte_by
    : (image : List ℕ) (m : Mapping) (i v n : ℕ) (t : Bool) → i / block_len ≡ v → free_at m v ≡ t → number_at m v ≡ n
    → byte_at image m i ≡ pick t erased (get_or image (n * block_len + i % block_len) 0)
unfolding byte_at
byte_by image m i v n t e f g = rw (e, f, g)

-- n blocks with numbers of their own, that lie in the image; the save is all of them but the last
pub record Laid (n : ℕ) (st : State) : Type 0 where
  pub numbers : Apart st.mapping n
  pub image : length st.image ≡ (n + 1) * block_len
  pub save : len_of st.mapping ≡ (n - 1) * block_len

module _ (place : ℕ) (d : List ℕ) (s : ℕ) (from : first_sector place ≤ s) (to : s < end_sector place (length d))
    (n : ℕ) (st : State) (laid : Laid n st) (lies_in_save : place + length d ≤ len_of st.mapping) where
  pub visit_below : s / sectors < n - 1
  visit_below = omega (arith, laid.save)

  pub visit_numbered : 1 ≤ number_at st.mapping (s / sectors)
  visit_numbered = laid.numbers.low (s / sectors) (omega (arith, visit_below))

  pub visit_store : Stored place d s (block_at st.mapping (s / sectors)) st.image (visit place d s st).image
  visit_store =
      visit_stored place d s from to st
      (omega (arith, laid.image, laid.numbers.high (s / sectors) (omega (arith, visit_below))))

  -- the bytes of other blocks are as they were
  pub visit_apart
      : (v o : ℕ) → v < n → o < block_len → (v ≡ s / sectors → ⊥)
      → get_or (visit place d s st).image (number_at st.mapping v * block_len + o) 0
      ≡ get_or st.image (number_at st.mapping v * block_len + o) 0
  visit_apart v o h k ne =
      visit_store.outside (number_at st.mapping v * block_len + o)
      (λ e. ne (laid.numbers.apart v (s / sectors) h (omega (arith, visit_below)) (omega arith)))

  visit_free : free_at (visit place d s st).mapping (s / sectors) ≡ false
  visit_free = ap is_free (visit_changed place d s st visit_numbered)

  -- a byte that is not of the part
  visit_same
      : (i : ℕ) → i < len_of st.mapping → (part_from place s ≤ i → i < part_from place s + length (part_of place d s) → ⊥)
      → byte_at (visit place d s st).image (visit place d s st).mapping i ≡ byte_at st.image st.mapping i
  visit_same i h out = go (ℕ_discrete (i / block_len) (s / sectors))
    where
      m : Mapping
      m = st.mapping

      st2 : State
      st2 = visit place d s st

      u : ℕ
      u = i / block_len

      v : ℕ
      v = s / sectors

      go : Dec (i / block_len ≡ s / sectors) → byte_at st2.image st2.mapping i ≡ byte_at st.image m i
      go (yes e) =
          byte_by st2.image st2.mapping i v (number_at m v) false e visit_free (visit_number place d s st v)
          ∙ visit_store.rest (i % block_len) (omega arith) (λ x y. out (omega arith) (omega arith))
          ∙ sym (byte_by st.image m i v (number_at m v) (free_at m v) e refl refl)
      go (no ne) =
          byte_by st2.image st2.mapping i u (number_at m u) (free_at m u) refl
          (ap (λ (b : Block). is_free b.condition) (visit_other place d s st u ne)) (visit_number place d s st u)
          ∙ ap (pick (free_at m u) erased) (visit_apart u (i % block_len) (omega (arith, laid.save)) (omega arith) ne)
          ∙ sym (byte_by st.image m i u (number_at m u) (free_at m u) refl refl refl)

  -- a byte of the part
  visit_new
      : (j : ℕ) → j < length (part_of place d s)
      → byte_at (visit place d s st).image (visit place d s st).mapping (part_from place s + j) ≡ get_or (part_of place d s) j 0
  visit_new j h =
      let p = part_of_lem place (length d) s from to in
      let k : length (part_of place d s) ≡ part_end place (length d) s - part_from place s = length_part place d s from to in
      let i : ℕ = part_from place s + j in
      let v : ℕ = s / sectors in
      byte_by (visit place d s st).image (visit place d s st).mapping i v (number_at st.mapping v) false
      (omega arith) visit_free (visit_number place d s st v)
      ∙ visit_store.part (i % block_len) j h (omega arith)

  -- a visit puts its part into the save
  pub visit_save
      : save_bytes (visit place d s st).image (visit place d s st).mapping
      ≡ splice (save_bytes st.image st.mapping) (part_from place s) (part_of place d s)
  visit_save =
      let p = part_of_lem place (length d) s from to in
      let k : length (part_of place d s) ≡ part_end place (length d) s - part_from place s = length_part place d s from to in
      let st2 : State = visit place d s st in
      let old : List ℕ = save_bytes st.image st.mapping in
      let new : List ℕ = save_bytes st2.image st2.mapping in
      let a : length old ≡ len_of st.mapping = length_save st.image st.mapping in
      let c : len_of st2.mapping ≡ len_of st.mapping = len_of-visit place d s st in
      let b : length new ≡ len_of st2.mapping = length_save st2.image st2.mapping in
      let same : (i : ℕ) → i < len_of st.mapping → (part_from place s ≤ i → i < part_from place s + length (part_of place d s) → ⊥)
      → get_or new i 0 ≡ get_or old i 0 =
      λ i h out.
      save_at st2.image st2.mapping i (omega arith) ∙ visit_same i h out ∙ sym (save_at st.image st.mapping i h) in
      splice_intro 0 new old (part_from place s) (part_of place d s) (omega arith) (omega arith)
      (λ i h. same i (omega arith) (λ x y. omega arith))
      (λ j h. save_at st2.image st2.mapping (part_from place s + j) (omega arith) ∙ visit_new j h)
      (λ i h q. same i (omega arith) (λ x y. omega arith))

-- ---- what visits leave as it was

pub record Since (n : ℕ) (st st2 : State) : Type 0 where
  pub blocks : length st2.mapping.blocks ≡ length st.mapping.blocks
  -- a block that is not changed, with its bytes; and all from the reserved one on
  pub unvisited : (v : ℕ) → ((block_at st2.mapping v).condition ≡ Changed → ⊥) → block_at st2.mapping v ≡ block_at st.mapping v
  pub bytes
      : (v o : ℕ) → v < n → o < block_len → ((block_at st2.mapping v).condition ≡ Changed → ⊥)
      → get_or st2.image (number_at st.mapping v * block_len + o) 0 ≡ get_or st.image (number_at st.mapping v * block_len + o) 0
  pub beyond : (v : ℕ) → n - 1 ≤ v → block_at st2.mapping v ≡ block_at st.mapping v
  -- block zero
  pub zeroth : (q : ℕ) → q < block_len → get_or st2.image q 0 ≡ get_or st.image q 0

module _ (place : ℕ) (d : List ℕ) (s : ℕ) (from : first_sector place ≤ s) (to : s < end_sector place (length d))
    (n : ℕ) (st st2 : State) (laid : Laid n st2) (lies_in_save : place + length d ≤ len_of st2.mapping) where
  pub since_more : Since n st st2 → ((v : ℕ) → number_at st2.mapping v ≡ number_at st.mapping v) → Since n st (visit place d s st2)
  since_more r same =
      record {
        blocks = visit_blocks place d s st2 ∙ r.blocks;
        unvisited = λ v ne. other v ne ∙ r.unvisited v (still v ne);
        bytes = λ v o h k ne.
            ap (λ (x : ℕ). get_or (visit place d s st2).image (x * block_len + o) 0) (sym (same v))
            ∙ visit_apart place d s from to n st2 laid lies_in_save v o h k (away v ne)
            ∙ ap (λ (x : ℕ). get_or st2.image (x * block_len + o) 0) (same v)
            ∙ r.bytes v o h k (still v ne);
        beyond = λ v h. visit_other place d s st2 v (λ e. omega (arith, visit_below place d s from to n st2 laid lies_in_save)) ∙ r.beyond v h;
        zeroth = λ q h.
            (visit_store place d s from to n st2 laid lies_in_save).outside q
            (λ e. omega (arith, visit_numbered place d s from to n st2 laid lies_in_save))
            ∙ r.zeroth q h;
      }
    where
      Unchanged : State → ℕ → Type 0
      Unchanged x v = (block_at x.mapping v).condition ≡ Changed → ⊥

      away : (v : ℕ) → Unchanged (visit place d s st2) v → v ≡ s / sectors → ⊥
      away v ne e = ne (rw e (visit_changed place d s st2 (visit_numbered place d s from to n st2 laid lies_in_save)))

      other : (v : ℕ) → Unchanged (visit place d s st2) v → block_at (visit place d s st2).mapping v ≡ block_at st2.mapping v
      other v ne = visit_other place d s st2 v (away v ne)

      still : (v : ℕ) → Unchanged (visit place d s st2) v → Unchanged st2 v
      still v ne c = ne (ap (λ (b : Block). b.condition) (other v ne) ∙ c)
