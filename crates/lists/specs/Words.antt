-- The few list words that every layer's definitions use: a choice, a table, bytes put in a list's place, and a test of
-- each or of some index. Cited by all other crates. Assumes nothing.
use Rattle.std.specs.Prelude.{Bool, true, false, ◌&&◌, ◌||◌, List, [], ◌∷◌, ◌++◌, ℕ, zero, suc, ◌+◌, ltb, length, take, drop, replicate}

-- one of two values, by a test
abbrev pub pick {ℓ} : {X : Type ℓ} → Bool → X → X → X
pick true x y = x
pick false x y = y

-- f 0, f 1, .., f (n - 1)
unfoldable pub tabulate {ℓ} : {A : Type ℓ} → (ℕ → A) → ℕ → List A
tabulate f zero = []
tabulate f (suc n) = f zero ∷ tabulate (λ i. f (suc i)) n

-- f below n, and d from there on
abbrev pub up_to {ℓ} : {A : Type ℓ} → ℕ → (ℕ → A) → A → ℕ → A
up_to n f d i = pick (ltb i n) (f i) d

-- the list with d in place of what stood from `at` on
unfoldable pub splice {ℓ} : {A : Type ℓ} → List A → ℕ → List A → List A
splice l at d = take at l ++ (d ++ drop (at + length d) l)

-- n times the number a
abbrev pub rep : ℕ → ℕ → List ℕ
rep n a = replicate n a

-- f holds of each of 0 to n - 1
unfoldable pub all : (ℕ → Bool) → ℕ → Bool
all f zero = true
all f (suc n) = all f n && f n

-- f holds of some of 0 to n - 1
unfoldable pub any : (ℕ → Bool) → ℕ → Bool
any f zero = false
any f (suc n) = any f n || f n

-- of how many of 0 to n - 1 f holds
unfoldable pub how_many : (ℕ → Bool) → ℕ → ℕ
how_many f zero = 0
how_many f (suc n) = how_many f n + pick (f n) 1 0
