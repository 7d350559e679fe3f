-- A test of each index, and of some index, turned into facts about the indices and back. Assumes nothing.
use mathlib.Core.Path.{◌≡◌, refl}
use mathlib.Core.Bool.{Bool, true, false, ◌&&◌, ◌||◌}
use Prim.Native.Nat.{ℕ, zero, suc, ◌+◌, ◌<◌}
use native.Mathlib.Numerals.{add-one}
use native.Mathlib.Decide.{ℕ_discrete}
use native.Mathlib.Omega.{arith}
use Rattle.lists.specs.Words.{pick, all, any, how_many}
use Rattle.lists.proofs.Orders.{not_both}

-- both parts of a test hold
pub and_left : (a b : Bool) → (a && b) ≡ true → a ≡ true
and_left true b e = refl
and_left false b e = e

pub and_right : (a b : Bool) → (a && b) ≡ true → b ≡ true
and_right true b e = e
and_right false b e = absurd (not_both e refl)

pub and_both : (a b : Bool) → a ≡ true → b ≡ true → (a && b) ≡ true
and_both a b p q = rw (p, q)

module _ (f : ℕ → Bool) where
  pub all_at : (n i : ℕ) → all f n ≡ true → i < n → f i ≡ true
  unfolding all
  all_at zero i e h = absurd (omega arith)
  all_at (suc n) i e h = go (ℕ_discrete i n) (λ l. all_at n i (and_left (all f n) (f n) e) l)
    where
      go : Dec (i ≡ n) → (i < n → f i ≡ true) → f i ≡ true
      go (yes d) r = rw d (and_right (all f n) (f n) e)
      go (no d) r = r (omega (arith, d))

  pub all_by : (n : ℕ) → ((i : ℕ) → i < n → f i ≡ true) → all f n ≡ true
  unfolding all
  all_by zero h = refl
  all_by (suc n) h = and_both (all f n) (f n) (all_by n (λ i l. h i (omega arith))) (h n (omega arith))

  -- a turn of a loop that tests each index
  pub all_more : (n : ℕ) (t : Bool) → t ≡ all f n → (t && f n) ≡ all f (n + 1)
  unfolding all
  all_more n t e = rw (e, add-one n)

  -- a turn of a loop that counts
  pub many_more : (n k a : ℕ) → k ≡ how_many f n → a ≡ pick (f n) 1 0 → k + a ≡ how_many f (n + 1)
  unfolding how_many
  many_more n k a e d = rw (e, d, add-one n)

  -- the last index below n of which f holds
  pub last : ℕ → ℕ
  last zero = 0
  last (suc n) = pick (f n) n (last n)

  -- i is below n, and f holds of it
  pub record Hit (n i : ℕ) : Type 0 where
    pub below : i < n
    pub holds : f i ≡ true

  pub any_hit : (n : ℕ) → any f n ≡ true → Hit n (last n)
  unfolding any last
  any_hit zero e = absurd (not_both e refl)
  any_hit (suc n) e = go (f n) refl (any f n) refl e (λ p. any_hit n p)
    where
      go
          : (t : Bool) → f n ≡ t → (u : Bool) → any f n ≡ u → (u || t) ≡ true
          → (any f n ≡ true → Hit n (last n)) → Hit (suc n) (pick t n (last n))
      go true p u q z r = record { below = omega arith; holds = p }
      go false p true q z r = let s = r q in record { below = omega (arith, s.below); holds = s.holds }
      go false p false q z r = absurd (not_both z refl)

  pub hit_any : (n i : ℕ) → i < n → f i ≡ true → any f n ≡ true
  unfolding any
  hit_any zero i h e = absurd (omega arith)
  hit_any (suc n) i h e = go (ℕ_discrete i n) (λ l. hit_any n i l e)
    where
      or_right : (a b : Bool) → b ≡ true → (a || b) ≡ true
      or_right true b p = refl
      or_right false b p = p

      or_left : (a b : Bool) → a ≡ true → (a || b) ≡ true
      or_left a b p = rw p

      go : Dec (i ≡ n) → (i < n → any f n ≡ true) → (any f n || f n) ≡ true
      go (yes d) r = or_right (any f n) (f n) (rw d at e)
      go (no d) r = or_left (any f n) (f n) (r (omega (arith, d)))
