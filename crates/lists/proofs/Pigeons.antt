-- n different numbers below n are all the numbers below n. By induction: where the last of them is q, put q for n among the
-- others, which are then n - 1 different numbers below n - 1. Assumes nothing.
use mathlib.Core.Path.{◌≡◌, sym, ◌∙◌}
use Prim.Native.Nat.{ℕ, zero, suc, ◌<◌}
use native.Mathlib.Decide.{ℕ_discrete}
use native.Mathlib.Omega.{arith}

-- y, with q for n
swapped : (y n q : ℕ) → Dec (y ≡ n) → ℕ
swapped y n q (yes e) = q
swapped y n q (no ne) = y

pub onto : (n : ℕ) (f : ℕ → ℕ) → ((v : ℕ) → v < n → f v < n) → ((u v : ℕ) → u < n → v < n → f u ≡ f v → u ≡ v)
    → (p : ℕ) → p < n → (v : ℕ) × (v < n) × (f v ≡ p)
unfolding swapped
onto zero f below apart p h = absurd (omega arith)
onto (suc n) f below apart p h = find (λ r b. onto n g g_below g_apart r b) (ℕ_discrete p n)
  where
    q : ℕ
    q = f n

    g : ℕ → ℕ
    g v = swapped (f v) n q (ℕ_discrete (f v) n)

    g_below : (v : ℕ) → v < n → g v < n
    g_below v b = go (ℕ_discrete (f v) n)
      where
        go : (d : Dec (f v ≡ n)) → swapped (f v) n q d < n
        go (yes e) =
            let k : q < suc n = below n (omega arith) in
            let ne : q ≡ n → ⊥ = λ z. let w : v ≡ n = apart v n (omega arith) (omega arith) (e ∙ sym z) in omega arith in
            omega (arith, k, ne)
        go (no ne) = omega (arith, below v (omega arith), ne)

    g_apart : (u v : ℕ) → u < n → v < n → g u ≡ g v → u ≡ v
    g_apart u v bu bv = go (ℕ_discrete (f u) n) (ℕ_discrete (f v) n)
      where
        go : (d : Dec (f u ≡ n)) (e : Dec (f v ≡ n)) → swapped (f u) n q d ≡ swapped (f v) n q e → u ≡ v
        go (yes d) (yes e) z = apart u v (omega arith) (omega arith) (d ∙ sym e)
        go (yes d) (no e) z = let w : n ≡ v = apart n v (omega arith) (omega arith) z in absurd (omega arith)
        go (no d) (yes e) z = let w : u ≡ n = apart u n (omega arith) (omega arith) z in absurd (omega arith)
        go (no d) (no e) z = apart u v (omega arith) (omega arith) z

    -- what g takes to r, f takes to r or to n, and then f n is r
    of : (v r : ℕ) → v < n → (d : Dec (f v ≡ n)) → swapped (f v) n q d ≡ r → (v : ℕ) × (v < suc n) × (f v ≡ r)
    of v r b (yes e) z = (n, omega arith, z)
    of v r b (no ne) z = (v, omega arith, z)

    -- what g takes to q, f takes to n
    top : (v : ℕ) → v < n → (d : Dec (f v ≡ n)) → swapped (f v) n q d ≡ q → f v ≡ n
    top v b (yes e) z = e
    top v b (no ne) z = let w : v ≡ n = apart v n (omega arith) (omega arith) z in absurd (omega arith)

    find : ((r : ℕ) → r < n → (v : ℕ) × (v < n) × (g v ≡ r)) → Dec (p ≡ n) → (v : ℕ) × (v < suc n) × (f v ≡ p)
    find back (yes e) = last (ℕ_discrete q n)
      where
        last : Dec (q ≡ n) → (v : ℕ) × (v < suc n) × (f v ≡ p)
        last (yes z) = (n, omega arith, z ∙ sym e)
        last (no nz) =
            let b : q < n = omega (arith, below n (omega arith), nz) in
            let r = back q b in
            (r.0, omega (arith, r.1), top r.0 r.1 (ℕ_discrete (f r.0) n) r.2 ∙ sym e)
    find back (no ne) =
        let r = back p (omega arith) in
        of r.0 p r.1 (ℕ_discrete (f r.0) n) r.2
