-- The chunks that a list has from place a on are windows of it, one behind the other; so the chunks of block zero from the
-- journal's start on are its slots. Assumes nothing.
use mathlib.Core.Path.{◌≡◌, refl, ap, ◌∙◌}
use mathlib.Core.List.{List}
use Prim.Native.Nat.{ℕ, zero, suc, ◌+◌, ◌*◌, ◌-◌, ◌/◌}
use native.Mathlib.Omega.{arith}
use lib.ListN.{length, take, drop, length-drop}
use lib.Seq.{drop-drop}
use Rattle.std.proofs.lemmas.List.{take_all}
use Rattle.std.specs.Simd.{first_chunks}
use Rattle.lists.specs.Words.{tabulate}
use Rattle.lists.proofs.Tabulate.{tabulate_ext}
use Rattle.chip.specs.Figures.{Layout, block_len, slot_len, slot_count, journal_at}
use Rattle.journal.specs.Entries.{slot_at}

module _ {A : Type 0} (n : ℕ) (l : List A) where
  abbrev chunk : ℕ → ℕ → List A
  chunk a i = take n (drop (a + i * n) l)

  chunked : (a k : ℕ) → first_chunks n k (drop a l) ≡ tabulate (chunk a) k
  unfolding tabulate
  chunked a zero = refl
  chunked a (suc k) =
      let d : a ≡ a + 0 * n = omega arith in
      let first : take n (drop a l) ≡ chunk a 0 = ap (λ (i : ℕ). take n (drop i l)) d in
      let rest : first_chunks n k (drop n (drop a l)) ≡ tabulate (λ i. chunk a (suc i)) k =
      ap (first_chunks n k) (drop-drop n a l)
      ∙ chunked (a + n) k
      ∙ tabulate_ext (chunk (a + n)) (λ i. chunk a (suc i)) k
      (λ i h. let e : a + n + i * n ≡ a + suc i * n = omega arith in ap (λ (j : ℕ). take n (drop j l)) e) in
      cc (first, rest)

-- the bytes of block zero from place a on, up to its end
abbrev behind : ℕ → List ℕ → List ℕ
behind a z = take (block_len - a) (drop a z)

pub slots_chunked
    : (t : Layout) (z : List ℕ) (a : ℕ) → length z ≡ block_len → a ≡ journal_at t
    → first_chunks slot_len (length (behind a z) / slot_len) (behind a z) ≡ tabulate (slot_at t z) (slot_count t)
slots_chunked t z a size e =
    let n : length (drop a z) ≡ block_len - a = length-drop a z ∙ ap (λ (k : ℕ). k - a) size in
    let d : behind a z ≡ drop a z = take_all (block_len - a) (drop a z) (omega arith) in
    rw (d, n, e) (chunked slot_len z (journal_at t) (slot_count t))
