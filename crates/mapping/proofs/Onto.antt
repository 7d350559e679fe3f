-- The physical numbers of a mapping as a permutation. V numbers, each in 1..V and none twice, are all of 1..V, and V
-- numbers among which all of 1..V appear lie in 1..V and differ: both by the pigeonholes. So the flags' test, that each of
-- 1..V was seen, is the definition's. Assumes nothing.
use mathlib.Core.Path.{◌≡◌, refl, sym, ap, ◌∙◌}
use mathlib.Core.Bool.{Bool, true, false, not, or-true, or-false}
use Prim.Native.Nat.{ℕ, suc, ◌+◌, ◌-◌, ◌<◌, ◌≤◌}
use native.Mathlib.Numerals.{add-one}
use native.Mathlib.Omega.{arith}
use borrow.Author.Tests.{eq-eqb, ne_eqb, eqb-true, le-leb, leb-true, lt-ltb, ltb-true, not-true}
use lib.Dec.{eqb, leb, ltb}
use lib.ListN.{get_or, set, replicate, take, drop}
use Rattle.lists.specs.Words.{tabulate, all, any}
use Rattle.lists.proofs.Orders.{split, by_test, not_both, bool_ext}
use Rattle.lists.proofs.Tests.{and_left, and_right, and_both, all_at, all_by, last, Hit, any_hit, hit_any}
use Rattle.lists.proofs.Tabulate.{get_or-tabulate, tabulate_same, tabulate-set}
use Rattle.lists.proofs.Windows.{get_or-window}
use Rattle.lists.proofs.Pigeons.{onto}
use Rattle.chip.specs.Figures.{Layout, virtuals, records}
use Rattle.mapping.specs.declared.Mapping.{Mapping}
use Rattle.mapping.specs.Blocks.{number_at}
use Rattle.mapping.specs.Fits.{inside, appeared, placed, each_once, Apart}

module _ (m : Mapping) where
  appeared_hit : (v n : ℕ) → appeared m v n ≡ true → Hit (λ u. eqb (number_at m u) n) v (last (λ u. eqb (number_at m u) n) v)
  unfolding appeared
  appeared_hit v n e = any_hit (λ u. eqb (number_at m u) n) v e

  hit_appeared : (v n u : ℕ) → u < v → number_at m u ≡ n → appeared m v n ≡ true
  unfolding appeared
  hit_appeared v n u h e = hit_any (λ w. eqb (number_at m w) n) v u h (eq-eqb (number_at m u) n e)

  -- ---- flags, one store a block

  pub seen_none : replicate records false ≡ tabulate (appeared m 0) records
  unfolding appeared any
  seen_none = tabulate_same (appeared m 0) records false (λ i h. refl)

  pub seen_more
      : (v : ℕ)
      → number_at m v < records
      → set (tabulate (appeared m v) records) (number_at m v) true ≡ tabulate (appeared m (v + 1)) records
  unfolding appeared any
  seen_more v h =
      tabulate-set (appeared m v) (appeared m (v + 1)) records (number_at m v) true h
      (rw (add-one v, eq-eqb (number_at m v) (number_at m v) refl) (or-true (appeared m v (number_at m v))))
      (λ i k d.
      rw (add-one v, ne_eqb (number_at m v) i (λ e. d (sym e)))
      (sym (or-false (appeared m v i))))

  module _ (n : ℕ) where
    -- all of 1..n appear among the first n
    module _ (seen : (k : ℕ) → k < n → appeared m n (suc k) ≡ true) where
      at : ℕ → ℕ
      at k = last (λ u. eqb (number_at m u) (suc k)) n

      at_below : (k : ℕ) → k < n → at k < n
      unfolding at
      at_below k h = (appeared_hit n (suc k) (seen k h)).below

      at_number : (k : ℕ) → k < n → number_at m (at k) ≡ suc k
      unfolding at
      at_number k h = eqb-true _ _ (appeared_hit n (suc k) (seen k h)).holds

      at_apart : (j k : ℕ) → j < n → k < n → at j ≡ at k → j ≡ k
      at_apart j k hj hk e =
          let d : suc j ≡ suc k = sym (at_number j hj) ∙ ap (number_at m) e ∙ at_number k hk in
          omega arith

      back : (v : ℕ) → v < n → (k : ℕ) × (k < n) × (at k ≡ v)
      back v h = onto n at at_below at_apart v h

      number : (v : ℕ) (h : v < n) → number_at m v ≡ suc (back v h).0
      number v h = ap (number_at m) (sym (back v h).2) ∙ at_number (back v h).0 (back v h).1

      seen_apart : Apart m n
      seen_apart =
          record {
            low = λ v h. omega (arith, number v h);
            high = λ v h. omega (arith, number v h, (back v h).1);
            apart = λ u v hu hv e.
                let d : suc (back u hu).0 ≡ suc (back v hv).0 = sym (number u hu) ∙ e ∙ number v hv in
                let c : (back u hu).0 ≡ (back v hv).0 = omega arith in
                sym (back u hu).2 ∙ ap at c ∙ (back v hv).2;
          }

    -- the other way
    apart_seen : Apart m n → (k : ℕ) → k < n → appeared m n (suc k) ≡ true
    apart_seen a k h =
        let r = onto n (λ v. number_at m v - 1) (λ v b. omega (arith, a.low v b, a.high v b))
        (λ u v bu bv e. a.apart u v bu bv (omega (arith, a.low u bu, a.low v bv, e))) k h in
        hit_appeared n (suc k) r.0 r.1 (omega (arith, r.2, a.low r.0 r.1))

  -- ---- what the definition says of a layout with V = P − 1

  module _ (l : Layout) (some : 1 ≤ l.p) where
    pub placed_inside : (v : ℕ) → placed l.p m v ≡ true → (1 ≤ number_at m v) × (number_at m v < l.p)
    unfolding placed
    placed_inside v e =
        let i = and_left (inside l.p (number_at m v)) _ e in
        (leb-true _ _ (and_left _ _ i), ltb-true _ _ (and_right (leb 1 (number_at m v)) _ i))

    pub placed_new : (v u : ℕ) → placed l.p m v ≡ true → u < v → number_at m u ≡ number_at m v → ⊥
    unfolding placed
    placed_new v u e h d =
        not_both (hit_appeared v (number_at m v) u h d)
        (not-true _ (and_right (inside l.p (number_at m v)) _ e))

    pub once_apart : each_once l m ≡ true → Apart m (virtuals l)
    once_apart e =
        record {
          low = λ v h. (placed_inside v (at v h)).0;
          high = λ v h. let b = (placed_inside v (at v h)).1 in omega arith;
          apart = λ u v hu hv d.
              split u v
              (λ p. split v u (λ q. omega arith) (λ q. absurd (placed_new v u (at v hv) q d)))
              (λ p. absurd (placed_new u v (at u hu) p (sym d)));
        }
      where
        at : (v : ℕ) → v < virtuals l → placed l.p m v ≡ true
        at v h = all_at (placed l.p m) (virtuals l) v e h

    pub placed_by
        : (v : ℕ) → 1 ≤ number_at m v → number_at m v < l.p → ((u : ℕ) → u < v → number_at m u ≡ number_at m v → ⊥)
        → placed l.p m v ≡ true
    unfolding placed
    placed_by v low high new =
        and_both (inside l.p (number_at m v)) (not (appeared m v (number_at m v)))
        (and_both (leb 1 (number_at m v)) (ltb (number_at m v) l.p) (le-leb 1 (number_at m v) low) (lt-ltb (number_at m v) l.p high))
        (by_test (appeared m v (number_at m v))
        (λ t.
        let u : ℕ = last (λ w. eqb (number_at m w) (number_at m v)) v in
        let r : Hit (λ w. eqb (number_at m w) (number_at m v)) v u = appeared_hit v (number_at m v) t in
        absurd (new u r.below (eqb-true (number_at m u) (number_at m v) r.holds)))
        (λ t. rw t))

    pub apart_once : Apart m (virtuals l) → each_once l m ≡ true
    apart_once a =
        all_by (placed l.p m) (virtuals l)
        (λ v h.
        placed_by v (a.low v h) (omega (arith, a.high v h))
        (λ u b e. let d : u ≡ v = a.apart u v (omega arith) h e in omega arith))

    -- a test that says of each of 1..V whether it appears is the definition
    once_by
        : (raised : ℕ → Bool)
        → ((k : ℕ) → k < virtuals l → raised k ≡ appeared m (virtuals l) (suc k))
        → all raised (virtuals l) ≡ each_once l m
    once_by raised flag =
        bool_ext (all raised (virtuals l)) (each_once l m)
        (λ e. apart_once (seen_apart (virtuals l) (λ k h. sym (flag k h) ∙ all_at raised (virtuals l) k e h)))
        (λ e. all_by raised (virtuals l) (λ k h. flag k h ∙ apart_seen (virtuals l) (once_apart e) k h))

    -- the test on the flags is such a one
    pub flags_once
        : virtuals l < records
        → all (λ k. get_or (tabulate (appeared m (virtuals l)) records) (k + 1) false) (virtuals l) ≡ each_once l m
    flags_once few =
        once_by (λ k. get_or (tabulate (appeared m (virtuals l)) records) (k + 1) false)
        (λ k h. get_or-tabulate (appeared m (virtuals l)) records (k + 1) false (omega arith) ∙ rw (add-one k))

    -- and so is that on the flags from number 1 on
    pub flags_from_one
        : virtuals l < records
        → all (λ k. get_or (take (virtuals l) (drop 1 (tabulate (appeared m (virtuals l)) records))) k false) (virtuals l) ≡ each_once l m
    flags_from_one few =
        once_by (λ k. get_or (take (virtuals l) (drop 1 (tabulate (appeared m (virtuals l)) records))) k false)
        (λ k h.
        get_or-window 1 (virtuals l) _ k false h
        ∙ get_or-tabulate (appeared m (virtuals l)) records (1 + k) false (omega arith)
        ∙ ap (appeared m (virtuals l)) (omega arith))
