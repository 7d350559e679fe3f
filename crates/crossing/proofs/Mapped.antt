-- An array that `from_fn` makes, whose closure gives at each index k of the element there and stays as it is, is `map k` of the
-- elements. Assumes nothing.
use mathlib.Core.Path.{◌≡◌, sym, subst, ◌∙◌}
use mathlib.Core.List.{List, map}
use Prim.Native.Nat.{ℕ, zero, suc, ◌+◌, ◌<◌, ◌≤◌}
use native.Mathlib.Decide.{ℕ_discrete}
use native.Mathlib.Omega.{arith}
use lib.ListN.{length, get_or, length-map, get_or-map}
use denote.Param.Members.{Mut, Called}
use Rattle.std.specs.Array.{IsFromFnResult, IsFromFnResultFrom}
use Rattle.std.proofs.lemmas.List.{ext_get_or}
use Rattle.mapping.specs.declared.Block.{Block}
use Rattle.mapping.specs.declared.Mapping.{Mapping}
use Rattle.mapping.specs.Blocks.{no_block}
use Rattle.crossing.specs.declared.CBlock.{CBlock}
use Rattle.crossing.specs.declared.CMapping.{CMapping}
use Rattle.crossing.specs.Crossing.{block_c, block_from_c, no_block_c}

module _ {F B : Type 0} (g : Mut F (ℕ × Unit {0}) B) (f : F) (h : ℕ → B) (ys : List B)
    (one : (i : ℕ) (y : B) (q : F) → Called g f (i, tt) y q → (y ≡ h i) × (q ≡ f)) where
  given : (i n : ℕ) → IsFromFnResultFrom g f ys i n → (j : ℕ) (e : B) → i ≤ j → j < i + n → get_or ys j e ≡ h j
  given i zero r j e a b = absurd (omega arith)
  given i (suc n) r j e a b =
      go (ℕ_discrete i j) (λ l. given (i + 1) n (subst (λ (p : F). IsFromFnResultFrom g p ys (i + 1) n) now.1 r.4) j e (omega arith) (omega arith))
    where
      now : (r.1 ≡ h i) × (r.0 ≡ f)
      now = one i r.1 r.0 r.3

      go : Dec (i ≡ j) → (i < j → get_or ys j e ≡ h j) → get_or ys j e ≡ h j
      go (yes d) later = rw (← d) (r.2.1 e ∙ now.0)
      go (no d) later = later (omega (arith, d))

mapped
    : {F A B : Type 0} {g : Mut F (ℕ × Unit {0}) B} {f : F} {ys : List B} {n : ℕ} (k : A → B) (d : A) (xs : List A)
    → IsFromFnResult g f ys n → length xs ≡ n
    → ((i : ℕ) (y : B) (q : F) → Called g f (i, tt) y q → (y ≡ k (get_or xs i d)) × (q ≡ f))
    → ys ≡ map k xs
mapped {g = g} {f = f} {ys = ys} {n = n} k d xs made long one =
    ext_get_or (k d) ys (map k xs) (made.long ∙ sym long ∙ sym (length-map xs k))
    (λ i l. given g f (λ j. k (get_or xs j d)) ys one 0 n made.each i (k d) (omega arith) (omega (arith, made.long))
    ∙ sym (get_or-map k xs i d))

-- the records of a mapping on their way out, and in
pub out
    : {F : Type 0} {g : Mut F (ℕ × Unit {0}) CBlock} {f : F} {ys : List CBlock} {n : ℕ} (m : Mapping)
    → IsFromFnResult g f ys n → length m.blocks ≡ n
    → ((i : ℕ) (y : CBlock) (q : F) → Called g f (i, tt) y q → (y ≡ block_c (get_or m.blocks i no_block)) × (q ≡ f))
    → ys ≡ map block_c m.blocks
out m = mapped block_c no_block m.blocks

pub into
    : {F : Type 0} {g : Mut F (ℕ × Unit {0}) Block} {f : F} {ys : List Block} {n : ℕ} (c : CMapping)
    → IsFromFnResult g f ys n → length c.blocks ≡ n
    → ((i : ℕ) (y : Block) (q : F) → Called g f (i, tt) y q → (y ≡ block_from_c (get_or c.blocks i no_block_c)) × (q ≡ f))
    → ys ≡ map block_from_c c.blocks
into c = mapped block_from_c no_block_c c.blocks
