-- A turn of a search that goes up: it stops at a hit, goes on at a miss, and finds nothing where none are left; and the
-- same for a loop that has come to some place. Assumes nothing.
use Rattle.std.specs.Prelude.{Some, None}
use mathlib.Core.Path.{◌≡◌, refl, sym, ◌∙◌}
use mathlib.Core.Bool.{Bool, true, false}
use Prim.Native.Nat.{ℕ, zero, suc, ◌+◌, ◌-◌, ◌<◌, ◌≤◌}
use native.Mathlib.Decide.{ℕ_discrete}
use native.Mathlib.Omega.{arith}
use Rattle.lists.specs.Words.{pick}
use Rattle.answers.specs.Search.{first_from, first_of}

module _ (f : ℕ → Bool) (i n : ℕ) where
  turn : i < n → first_from f i (n - i) ≡ first_from f i (suc (n - (i + 1)))
  turn h = let e : n - i ≡ suc (n - (i + 1)) = omega arith in rw e

  pub first_stops : i < n → f i ≡ true → first_from f i (n - i) ≡ Some i
  unfolding first_from
  first_stops h t = turn h ∙ simp t

  pub first_goes : i < n → f i ≡ false → first_from f i (n - i) ≡ first_from f (i + 1) (n - (i + 1))
  unfolding first_from
  first_goes h t = turn h ∙ simp t

  pub first_ends : n ≤ i → first_from f i (n - i) ≡ None
  unfolding first_from
  first_ends h = let e : n - i ≡ 0 = omega arith in rw e

-- A search of 0, .., n - 1 that has come to p: what it finds is what it finds from there on.
module _ (f : ℕ → Bool) (n : ℕ) where
  abbrev pub Sought : ℕ → Type 0
  Sought p = first_of f n ≡ first_from f p (n - p)

  pub sought_none : Sought 0
  sought_none = let e : n - 0 ≡ n = omega arith in rw e

  pub sought_at : (p q : ℕ) → Sought p → p ≡ q → Sought q
  sought_at p q s e = rw e at s

  pub sought_more : (p q : ℕ) → Sought p → p < n → f p ≡ false → q ≡ p + 1 → Sought q
  sought_more p q s h t e = rw e (s ∙ first_goes f p n h t)

  pub sought_hit : (p : ℕ) → Sought p → p < n → f p ≡ true → Some p ≡ first_of f n
  sought_hit p s h t = sym (s ∙ first_stops f p n h t)

  pub sought_end : (p : ℕ) → Sought p → n ≤ p → None ≡ first_of f n
  sought_end p s h = sym (s ∙ first_ends f p n h)

-- a search that misses everywhere finds nothing
pub first_misses : (f : ℕ → Bool) (v n : ℕ) → ((i : ℕ) → v ≤ i → i < v + n → f i ≡ false) → first_from f v n ≡ None
unfolding first_from
first_misses f v zero h = refl
first_misses f v (suc n) h = rw (h v (omega arith) (omega arith)) (first_misses f (v + 1) n (λ i a b. h i (omega arith) (omega arith)))

-- two searches by tests that agree
pub first_ext : (f g : ℕ → Bool) (v n : ℕ) → ((i : ℕ) → v ≤ i → i < v + n → f i ≡ g i) → first_from f v n ≡ first_from g v n
unfolding first_from
first_ext f g v zero h = refl
first_ext f g v (suc n) h =
    rw (h v (omega arith) (omega arith), first_ext f g (v + 1) n (λ i a b. h i (omega arith) (omega arith)))

-- a search that finds nothing has missed at each place
pub first_none : (f : ℕ → Bool) (v n : ℕ) → first_from f v n ≡ None → (i : ℕ) → v ≤ i → i < v + n → f i ≡ false
unfolding first_from
first_none f v zero e i a b = absurd (omega arith)
first_none f v (suc n) e i a b = go (f v) refl e (λ d. first_none f (v + 1) n d i) (ℕ_discrete i v)
  where
    go
        : (t : Bool) → f v ≡ t → pick t (Some v) (first_from f (v + 1) n) ≡ None
        → (first_from f (v + 1) n ≡ None → v + 1 ≤ i → i < v + 1 + n → f i ≡ false) → Dec (i ≡ v) → f i ≡ false
    go true p d r c = let x : ◌≡◌ {A = ℕ} 0 1 = cc in absurd (omega arith)
    go false p d r (yes c) = rw c p
    go false p d r (no c) = r d (omega (arith, c)) (omega arith)

-- a search that misses up to v and hits there
pub first_finds
    : (f : ℕ → Bool) (u n v : ℕ) → u ≤ v → v < u + n → ((i : ℕ) → u ≤ i → i < v → f i ≡ false) → f v ≡ true
    → first_from f u n ≡ Some v
unfolding first_from
first_finds f u zero v h b miss hit = absurd (omega arith)
first_finds f u (suc n) v h b miss hit = go (ℕ_discrete u v) (first_finds f (u + 1) n v)
  where
    go
        : Dec (u ≡ v)
        → (u + 1 ≤ v → v < u + 1 + n → ((i : ℕ) → u + 1 ≤ i → i < v → f i ≡ false) → f v ≡ true → first_from f (u + 1) n ≡ Some v)
        → pick (f u) (Some u) (first_from f (u + 1) n) ≡ Some v
    go (yes e) r = rw (e, hit)
    go (no e) r =
        rw (miss u (omega arith) (omega (arith, e)))
        (r (omega (arith, e)) (omega arith) (λ i p q. miss i (omega arith) q) hit)
