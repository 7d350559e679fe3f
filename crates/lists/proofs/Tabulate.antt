-- Laws of a table of a function's values: its length, its elements, and two tables that agree. Assumes nothing.
use mathlib.Core.Path.{◌≡◌, refl, sym, ap, ◌∙◌}
use mathlib.Core.List.{List}
use Prim.Native.Nat.{ℕ, zero, suc, ◌+◌, ◌<◌}
use native.Mathlib.Decide.{ℕ_discrete}
use native.Mathlib.Nat.{le_of_suc-le-suc, not-suc-le-zero}
use native.Mathlib.Omega.{arith}
use borrow.Author.Tests.{lt-ltb, le-ltb}
use lib.Dec.{ltb}
use lib.ListN.{length, get_or, set, replicate, length-set, length-replicate, get_or-replicate}
use lib.Seq.{ext_get_or, get_or-set_same, get_or-set_other}
use Rattle.lists.specs.Words.{pick, tabulate, up_to}
use Rattle.lists.proofs.Orders.{split}

module _ {ℓ} {A : Type ℓ} where
  pub length-tabulate : (f : ℕ → A) (n : ℕ) → length (tabulate f n) ≡ n
  unfolding tabulate
  length-tabulate f zero = refl
  length-tabulate f (suc n) = ap suc (length-tabulate (λ i. f (suc i)) n)

  pub get_or-tabulate : (f : ℕ → A) (n i : ℕ) (d : A) → i < n → get_or (tabulate f n) i d ≡ f i
  unfolding tabulate
  get_or-tabulate f zero i d h = absurd (not-suc-le-zero h)
  get_or-tabulate f (suc n) zero d h = refl
  get_or-tabulate f (suc n) (suc i) d h = get_or-tabulate (λ j. f (suc j)) n i d (le_of_suc-le-suc h)

  pub tabulate_ext : (f g : ℕ → A) (n : ℕ) → ((i : ℕ) → i < n → f i ≡ g i) → tabulate f n ≡ tabulate g n
  tabulate_ext f g n h =
      ext_get_or (f 0) (tabulate f n) (tabulate g n) (length-tabulate f n ∙ sym (length-tabulate g n))
      (λ i b. let k : i < n = rw length-tabulate at b in
      get_or-tabulate f n i (f 0) k ∙ h i k ∙ sym (get_or-tabulate g n i (f 0) k))

  -- the same value everywhere
  pub tabulate_same : (f : ℕ → A) (n : ℕ) (a : A) → ((i : ℕ) → i < n → f i ≡ a) → replicate n a ≡ tabulate f n
  tabulate_same f n a h =
      ext_get_or a (replicate n a) (tabulate f n) (length-replicate n a ∙ sym (length-tabulate f n))
      (λ i b.
      let k : i < n = rw length-replicate at b in
      get_or-replicate n i a a k ∙ sym (h i k) ∙ sym (get_or-tabulate f n i a k))

  -- a store into a table, where the other values stay
  pub tabulate-set
      : (f g : ℕ → A) (n x : ℕ) (a : A)
      → x < n → g x ≡ a → ((i : ℕ) → i < n → (i ≡ x → ⊥) → f i ≡ g i) → set (tabulate f n) x a ≡ tabulate g n
  tabulate-set f g n x a hx e h =
      ext_get_or a (set (tabulate f n) x a) (tabulate g n) (size ∙ sym (length-tabulate g n))
      (λ i b. let k : i < n = rw size at b in go i k (ℕ_discrete i x) ∙ sym (get_or-tabulate g n i a k))
    where
      size : length (set (tabulate f n) x a) ≡ n
      size = length-set (tabulate f n) x a ∙ length-tabulate f n

      go : (i : ℕ) → i < n → Dec (i ≡ x) → get_or (set (tabulate f n) x a) i a ≡ g i
      go i k (yes d) = rw d (get_or-set_same (tabulate f n) x a a (rw length-tabulate hx) ∙ sym e)
      go i k (no d) = get_or-set_other (tabulate f n) x i a a d ∙ get_or-tabulate f n i a k ∙ h i k d

  -- a table that a loop fills from the front: none yet, one more, and all
  pub fill_none : (f : ℕ → A) (n : ℕ) (d : A) → replicate n d ≡ tabulate (up_to 0 f d) n
  fill_none f n d = tabulate_same (up_to 0 f d) n d (λ i h. rw (le-ltb i 0 (omega arith)))

  pub fill_more
      : (f : ℕ → A) (n : ℕ) (d a : A) (i : ℕ)
      → i < n → a ≡ f i → set (tabulate (up_to i f d) n) i a ≡ tabulate (up_to (i + 1) f d) n
  fill_more f n d a i h e =
      tabulate-set (up_to i f d) (up_to (i + 1) f d) n i a h (rw (lt-ltb i (i + 1) (omega arith)) (sym e))
      (λ j k ne.
      split i j
      (λ p. rw (le-ltb j i p, le-ltb j (i + 1) (omega (arith, ne))))
      (λ p. rw (lt-ltb j i p, lt-ltb j (i + 1) (omega arith))))

  pub up_to_ext : (f g : ℕ → A) (n : ℕ) (d : A) → ((i : ℕ) → i < n → f i ≡ g i) → (i : ℕ) → up_to n f d i ≡ up_to n g d i
  up_to_ext f g n d h i = split n i (λ p. rw (le-ltb i n p)) (λ p. rw (lt-ltb i n p) (h i p))

  -- a list that has a table's values is the table
  pub tabulate_list : (f : ℕ → A) (n : ℕ) (l : List A) (d : A) → length l ≡ n → ((i : ℕ) → i < n → f i ≡ get_or l i d) → tabulate f n ≡ l
  tabulate_list f n l d e h =
      ext_get_or d (tabulate f n) l (length-tabulate f n ∙ sym e)
      (λ i b. let k : i < n = rw length-tabulate at b in get_or-tabulate f n i d k ∙ h i k)

  -- f below n, and g from there on
  abbrev pub front : ℕ → (ℕ → A) → (ℕ → A) → ℕ → A
  front n f g i = pick (ltb i n) (f i) (g i)

  -- a list that a loop replaces from the front: none yet, the next as it still stands, and one more
  pub front_none : (f : ℕ → A) (n : ℕ) (l : List A) (d : A) → length l ≡ n → l ≡ tabulate (front 0 f (λ i. get_or l i d)) n
  front_none f n l d e =
      sym (tabulate_list (front 0 f (λ i. get_or l i d)) n l d e (λ i h. rw (le-ltb i 0 (omega arith))))

  pub front_next : (f g : ℕ → A) (n : ℕ) (d : A) (i : ℕ) → i < n → get_or (tabulate (front i f g) n) i d ≡ g i
  front_next f g n d i h = get_or-tabulate (front i f g) n i d h ∙ rw (le-ltb i i (omega arith))

  pub front_more
      : (f g : ℕ → A) (n : ℕ) (a : A) (i : ℕ)
      → i < n → a ≡ f i → set (tabulate (front i f g) n) i a ≡ tabulate (front (i + 1) f g) n
  front_more f g n a i h e =
      tabulate-set (front i f g) (front (i + 1) f g) n i a h (rw (lt-ltb i (i + 1) (omega arith)) (sym e))
      (λ j k ne.
      split i j
      (λ p. rw (le-ltb j i p, le-ltb j (i + 1) (omega (arith, ne))))
      (λ p. rw (lt-ltb j i p, lt-ltb j (i + 1) (omega arith))))
