-- A walk over the first n elements of a list, as iterators say it, is the count or the search of the numbers below n: both by
-- induction on n. Assumes nothing.
use Rattle.std.proofs.Common.{◌≡◌, refl, ◌∙◌, ap, ℕ, zero, suc, ◌+◌, ◌<◌, ◌≤◌, Bool, not, List, length, get_or, take, drop, count_by, add-one, add-zero, arith, drop-cons}
use Rattle.std.specs.List.{position, position_from}
use Rattle.std.proofs.lemmas.Iterator.Adapters.{position_from-zero}
use Rattle.std.proofs.lemmas.List.Sums.{count_by_more_yes, count_by_more_no}
use Rattle.lists.specs.Words.{how_many}
use Rattle.lists.proofs.Orders.{by_test}
use Rattle.answers.specs.Search.{first_from, first_of}
use Rattle.mapping.specs.declared.Mapping.{Mapping}
use Rattle.mapping.specs.Blocks.{is_free, no_block, free_at}

module _ {A : Type 0} (f : A → Bool) (l : List A) (d : A) where
  pub count_taken : (n : ℕ) → n ≤ length l → count_by f (take n l) ≡ how_many (λ v. f (get_or l v d)) n
  unfolding how_many
  count_taken zero h = refl
  count_taken (suc n) h =
      by_test (f (get_or l n d))
      (λ t.
      let e : count_by f (take (suc n) l) ≡ count_by f (take n l) + 1 = rw (← add-one n) (count_by_more_yes f l n d (omega arith) t) in
      rw t (e ∙ ap (λ k. k + 1) (count_taken n (omega arith))))
      (λ t.
      let e : count_by f (take (suc n) l) ≡ count_by f (take n l) = rw (← add-one n) (count_by_more_no f l n d (omega arith) t) in
      rw (t, add-zero) (e ∙ count_taken n (omega arith)))

  find_from : (i n : ℕ) → i + n ≤ length l → position_from f i (take n (drop i l)) ≡ first_from (λ v. f (get_or l v d)) i n
  unfolding first_from
  find_from i zero h = refl
  find_from i (suc n) h =
      let lt : i < length l = omega arith in
      rw (drop-cons l i d, add-one i) (by_test (f (get_or l i d))
      (λ t. rw t refl)
      (λ t. rw t (rw (← add-one i) (find_from (i + 1) n (omega arith)))))

  pub find_taken : (n : ℕ) → n ≤ length l → position f (take n l) ≡ first_of (λ v. f (get_or l v d)) n
  find_taken n h = position_from-zero f (take n l) ∙ find_from 0 n (omega arith)

-- the first v blocks that are in use
pub many_used
    : (m : Mapping) (v : ℕ) (r : ℕ) → v ≤ length m.blocks → r ≡ count_by (λ b. not (is_free b.condition)) (take v m.blocks)
    → r ≡ how_many (λ u. not (free_at m u)) v
many_used m v r h p = p ∙ count_taken _ m.blocks no_block v h
