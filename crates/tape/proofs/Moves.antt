-- One journal entry on a block zero in good order, which moves block v onto the physical block of a free block w: it is
-- allowed, and steps 1 to 6 accept it unless v is the reserved block. Assumes nothing.
use mathlib.Core.Path.{◌≡◌, sym, ap, ◌∙◌}
use mathlib.Core.Bool.{true}
use mathlib.Core.List.{List, ◌∷◌, ◌++◌}
use Prim.Native.Nat.{ℕ, ◌+◌, ◌-◌, ◌<◌, ◌≤◌}
use native.Mathlib.Decide.{ℕ_discrete}
use native.Mathlib.Omega.{arith}
use borrow.Author.Tests.{lt-ltb, le-leb, eq-eqb}
use lib.Dec.{eqb}
use lib.ListN.{length, take}
use lib.Seq.{take_at, take_all}
use Rattle.lists.specs.Words.{rep}
use Rattle.lists.proofs.Tests.{and_both}
use Rattle.chip.specs.declared.Chip.{Chip}
use Rattle.chip.specs.Figures.{Layout, layout_of, virtuals, reserved, block_len, sectors, image_len, in_use_bit, erased, slot_len, journal_at}
use Rattle.chip.proofs.Layouts.{Sound, sound, slot_fits, from_own}
use Rattle.answers.specs.declared.Answer.TheVariants.{Accepted}
use Rattle.mapping.specs.declared.Block.{Block}
use Rattle.mapping.specs.declared.Mapping.{Mapping}
use Rattle.mapping.specs.Blocks.{is_free, number_at, count_at, free_at}
use Rattle.mapping.specs.Fits.{inside, reserved_free}
use Rattle.mapping.specs.Outcomes.{outcome}
use Rattle.block_zero.specs.Put.{put_map}
use Rattle.journal.specs.declared.Entry.{Entry}
use Rattle.journal.specs.Entries.{entry_len, entry_of, allowed, entry_ok, applied}
use Rattle.journal.specs.Moved.{Moved}
use Rattle.journal.specs.Opened.{Opened}
use Rattle.journal.specs.Steps.{step6, steps2to6, steps1to6}
use Rattle.journal.proofs.Relational.{applied_moved}
use Rattle.tape.specs.Cases.{slot_of, with_slots, steps_on}
use Rattle.tape.proofs.Journaled.{slot_length, length_image, journal_decides, one_entry}

abbrev pub entry : ℕ → ℕ → ℕ → ℕ → ℕ → ℕ → List ℕ → Entry
entry v w p q c d t =
    record {
      v = record { 0 = v };
      w = record { 0 = w };
      p = record { 0 = p };
      q = record { 0 = q };
      c = c;
      d = d;
      tickets = t;
    }

abbrev pub bytes : ℕ → ℕ → ℕ → ℕ → ℕ → ℕ → List ℕ → List ℕ
bytes v w p q c d t = v ∷ w ∷ p ∷ q ∷ c ∷ d ∷ t

pub entry_is
    : (v w p q c d : ℕ) (t : List ℕ) → length t ≡ sectors
    → entry v w p q c d t ≡ entry_of (slot_of (bytes v w p q c d t))
unfolding entry_of
entry_is v w p q c d t e =
    let n : take sectors (t ++ (bytes v w p q c d t ++ rep 4 erased)) ≡ t = take_at t (bytes v w p q c d t ++ rep 4 erased) sectors e in
    λ i.
    record {
      v = record { 0 = v };
      w = record { 0 = w };
      p = record { 0 = p };
      q = record { 0 = q };
      c = c;
      d = d;
      tickets = sym n i;
    }

-- one entry, on a mapping in good order
module _
    (l : Layout) (s : Sound l) (m : Mapping) (o : Opened l m)
    (v w p q c d : ℕ) (t : List ℕ)
    (hv : v < virtuals l) (hw : w < virtuals l) (free : free_at m w ≡ true)
    (ep : number_at m w ≡ p) (eq : number_at m v ≡ q) (ec : count_at m w + 1 ≡ c) (ed : count_at m v ≡ d)
    (eight : length t ≡ sectors)
  where
    abbrev pub x : Entry
    x = entry v w p q c d t

    number_inside : (u n : ℕ) → u < virtuals l → number_at m u ≡ n → inside l.p n ≡ true
    number_inside u n h e =
        and_both _ _ (le-leb 1 n (omega (arith, o.numbers.low u h)))
        (lt-ltb n l.p (omega (arith, o.numbers.high u h)))

    pub moves_ok : entry_ok l m x ≡ true
    unfolding entry_ok allowed
    moves_ok =
        let k : eqb (count_at m w) (c - 1) ≡ true = eq-eqb (count_at m w) (c - 1) (omega arith) in
        rw (
          lt-ltb v (virtuals l) hv,
          lt-ltb w (virtuals l) hw,
          number_inside w p hw ep,
          number_inside v q hv eq,
          eq-eqb _ _ eq,
          eq-eqb _ _ ep,
          free,
          eq-eqb _ _ ed,
          le-leb 1 c (omega arith),
          k,
        )

    pub moves : Moved l m x (applied l m x)
    moves =
        applied_moved l m x o.blocks_length o.tickets_length (omega (arith, s.few)) (omega (arith, s.few)) eight

    -- the reserved block stays free
    pub moves_reserved : (v ≡ reserved l → ⊥) → reserved_free l m ≡ true → reserved_free l (applied l m x) ≡ true
    moves_reserved n r = go (ℕ_discrete (reserved l) w)
      where
        go : Dec (reserved l ≡ w) → reserved_free l (applied l m x) ≡ true
        go (yes e) =
            rw e (ap (λ (b : Block). is_free b.condition) (moves.w_block (λ f. n (sym f ∙ sym e))))
        go (no e) =
            ap (λ (b : Block). is_free b.condition)
            (moves.other_blocks (reserved l) (record { below = omega (arith, s.few); not_v = λ f. n (sym f); not_w = e }))
            ∙ r

-- the same in an image
module _
    (k : Chip) (m : Mapping) (o : Opened (layout_of k) m)
    (counts : (v : ℕ) → v < virtuals (layout_of k) → (layout_of k).large ≡ true → count_at m v < in_use_bit)
    (r : reserved_free (layout_of k) m ≡ true)
    (z : List ℕ) (long : length z ≡ image_len (layout_of k))
    (v w p q c d : ℕ) (t : List ℕ)
    (hv : v < virtuals (layout_of k)) (hw : w < virtuals (layout_of k)) (free : free_at m w ≡ true)
    (ep : number_at m w ≡ p) (eq : number_at m v ≡ q) (ec : count_at m w + 1 ≡ c) (ed : count_at m v ≡ d)
    (eight : length t ≡ sectors) (n : v ≡ reserved (layout_of k) → ⊥)
  where
    fourteen : length (bytes v w p q c d t) ≡ entry_len
    fourteen = omega arith

    pub one_room : journal_at (layout_of k) + length (slot_of (bytes v w p q c d t)) ≤ block_len
    one_room = omega (arith, slot_length (bytes v w p q c d t) fourteen, slot_fits (layout_of k) (sound k))

    pub moves_steps2
        : steps2to6 (layout_of k) (take block_len (with_slots (layout_of k) (put_map (layout_of k) m z) (slot_of (bytes v w p q c d t))))
        ≡ outcome Accepted (applied (layout_of k) m (entry v w p q c d t))
    unfolding step6
    moves_steps2 =
        let l : Layout = layout_of k in
        let e : List ℕ = bytes v w p q c d t in
        let sl : length (slot_of e) ≡ slot_len = slot_length e fourteen in
        rw (
          journal_decides l (sound k) m o counts z long (slot_of e) one_room,
          one_entry l (sound k) m o counts z long (slot_of e) one_room e fourteen (omega arith)
              (take_all slot_len (slot_of e) (omega arith)) (entry v w p q c d t) (entry_is v w p q c d t eight) (λ f. omega (arith, (sound k).few))
              (moves_ok l (sound k) m o v w p q c d t hv hw free ep eq ec ed eight) (omega arith),
          moves_reserved l (sound k) m o v w p q c d t hv hw free ep eq ec ed eight n r,
        )

    pub moves_steps
        : steps_on (with_slots (layout_of k) (put_map (layout_of k) m z) (slot_of (bytes v w p q c d t)))
        ≡ outcome Accepted (applied (layout_of k) m (entry v w p q c d t))
    unfolding steps1to6
    moves_steps =
        rw (length_image (layout_of k) (sound k) m o counts z long (slot_of (bytes v w p q c d t)) one_room, from_own k) moves_steps2
