-- What one visit of a write stores, byte by byte: the bytes of its part stand in the visited block, the other bytes of that
-- block are what was read of it, so 0xFF where it was free, and all bytes outside it are as they were. The parts of
-- neighbouring sectors stand side by side, so that splices of them are one. Assumes nothing.
use mathlib.Core.Path.{◌≡◌, refl, ap, ◌∙◌, subst⁻¹}
use mathlib.Core.Bool.{Bool, true, false}
use mathlib.Core.List.{List}
use Prim.Native.Nat.{ℕ, ◌+◌, ◌-◌, ◌*◌, ◌/◌, ◌%◌, ◌≤◌, ◌<◌, min}
use native.Mathlib.Omega.{arith}
use lib.ListN.{length, get_or, length-replicate, get_or-replicate, take}
use lib.Seq.{slice, length-slice, length-take-le}
use Rattle.lists.specs.Words.{pick, splice, rep}
use Rattle.lists.proofs.Splice.{length-splice, get_or-splice_at, get_or-splice_out, splice-splice}
use Rattle.lists.proofs.Windows.{take-slice}
use Rattle.chip.specs.Figures.{block_len, sector_len, sectors, erased}
use Rattle.mapping.specs.declared.Block.{Block}
use Rattle.mapping.specs.Blocks.{is_free, block_at, number_at}
use Rattle.tickets.specs.Tickets.{sector_place}
use Rattle.save.proofs.Visits.{part_of_lem}
use Rattle.save.specs.Visits.{State, first_sector, end_sector, opened_image, stored_part, part_from, part_end, visit, visit_count}

-- the bytes of d that fall into sector s
abbrev pub part_of : ℕ → List ℕ → ℕ → List ℕ
part_of place d s = slice (part_from place s - place) (part_end place (length d) s - place) d

-- ---- the image

-- what putting block b in use does to the image: it holds what was read of it
record Filled (b : Block) (image after : List ℕ) : Type 0 where
  size : length after ≡ length image
  inside
      : (o : ℕ) → o < block_len
      → get_or after (b.physical.0 * block_len + o) 0 ≡ pick (is_free b.condition) erased (get_or image (b.physical.0 * block_len + o) 0)
  outside : (q : ℕ) → (q / block_len ≡ b.physical.0 → ⊥) → get_or after q 0 ≡ get_or image q 0

filled : (b : Block) (image : List ℕ) → b.physical.0 * block_len + block_len ≤ length image → Filled b image (opened_image b image)
unfolding opened_image
filled b image h = go (is_free b.condition) refl
  where
    at : ℕ
    at = b.physical.0 * block_len

    blank : List ℕ
    blank = rep block_len erased

    wide : length blank ≡ block_len
    wide = length-replicate block_len erased

    go : (t : Bool) → is_free b.condition ≡ t → Filled b image (pick t (splice image at blank) image)
    go true e =
        record {
          size = length-splice image at blank (omega (arith, wide));
          inside = λ o k.
              rw e
              (get_or-splice_at image at blank (at + o) o 0 (omega (arith, wide)) (omega (arith, wide)) refl
              ∙ get_or-replicate block_len o erased 0 k);
          outside = λ q out. get_or-splice_out image at blank q 0 (omega (arith, wide)) (λ x y. out (omega (arith, wide)));
        }
    go false e = record { size = refl; inside = λ o k. rw e; outside = λ q out. refl }

-- what a visit of sector s, of block b, does to the image
pub record Stored (place : ℕ) (d : List ℕ) (s : ℕ) (b : Block) (image after : List ℕ) : Type 0 where
  pub size : length after ≡ length image
  pub part
      : (o j : ℕ) → j < length (part_of place d s) → s / sectors * block_len + o ≡ part_from place s + j
      → get_or after (b.physical.0 * block_len + o) 0 ≡ get_or (part_of place d s) j 0
  pub rest
      : (o : ℕ) → o < block_len
      → (part_from place s ≤ s / sectors * block_len + o → s / sectors * block_len + o < part_from place s + length (part_of place d s) → ⊥)
      → get_or after (b.physical.0 * block_len + o) 0 ≡ pick (is_free b.condition) erased (get_or image (b.physical.0 * block_len + o) 0)
  pub outside : (q : ℕ) → (q / block_len ≡ b.physical.0 → ⊥) → get_or after q 0 ≡ get_or image q 0

module _ (place : ℕ) (d : List ℕ) (s : ℕ) (from : first_sector place ≤ s) (to : s < end_sector place (length d)) where
  pub length_part : length (part_of place d s) ≡ part_end place (length d) s - part_from place s
  length_part =
      let p = part_of_lem place (length d) s from to in
      length-slice (part_from place s - place) (part_end place (length d) s - place) d (omega arith) ∙ omega arith

  stored
      : (b : Block) (image : List ℕ) → b.physical.0 * block_len + block_len ≤ length image
      → Stored place d s b image (stored_part b.physical.0 place d s (opened_image b image))
  unfolding stored_part
  stored b image h =
      let p = part_of_lem place (length d) s from to in
      let n : length (part_of place d s) ≡ part_end place (length d) s - part_from place s = length_part in
      let mid : List ℕ = opened_image b image in
      let f : Filled b image mid = filled b image h in
      let at : ℕ = sector_place b.physical.0 (s % sectors) + (part_from place s - s * sector_len) in
      let room : at + length (part_of place d s) ≤ length mid = omega (arith, f.size) in
      record {
        size = length-splice mid at (part_of place d s) room ∙ f.size;
        part = λ o j k e. get_or-splice_at mid at (part_of place d s) (b.physical.0 * block_len + o) j 0 room k (omega arith);
        rest = λ o k out.
            get_or-splice_out mid at (part_of place d s) (b.physical.0 * block_len + o) 0 room (λ x y. out (omega arith) (omega arith))
            ∙ f.inside o k;
        outside = λ q out. get_or-splice_out mid at (part_of place d s) q 0 room (λ x y. out (omega arith)) ∙ f.outside q out;
      }

  pub visit_stored
      : (st : State) → number_at st.mapping (s / sectors) * block_len + block_len ≤ length st.image
      → Stored place d s (block_at st.mapping (s / sectors)) st.image (visit place d s st).image
  unfolding visit
  visit_stored st h = stored (block_at st.mapping (s / sectors)) st.image h

-- ---- the bytes for the sectors before s

-- how many of n bytes, which are to stand from place on, these are
pub done : ℕ → ℕ → ℕ → ℕ
done place n s = min n (s * sector_len - place)

pub done_none : (place n : ℕ) → done place n (first_sector place + 0) ≡ 0
unfolding done
done_none place n = omega arith

pub done_all : (place n : ℕ) → done place n (first_sector place + visit_count place n) ≡ n
unfolding done
done_all place n = omega arith

done_from : (place n s : ℕ) → first_sector place ≤ s → s < end_sector place n → done place n s ≡ part_from place s - place
unfolding done part_from
done_from place n s h k = omega arith

done_next : (place n s : ℕ) → done place n (s + 1) ≡ part_end place n s - place
unfolding done part_end
done_next place n s = omega arith

-- one sector more
pub grown
    : (t : List ℕ) (place : ℕ) (d : List ℕ) (s : ℕ)
    → place + length d ≤ length t
    → first_sector place ≤ s
    → s < end_sector place (length d)
    → splice (splice t place (take (done place (length d) s) d)) (part_from place s) (part_of place d s)
    ≡ splice t place (take (done place (length d) (s + 1)) d)
grown t place d s h from to =
    let p = part_of_lem place (length d) s from to in
    let a : ℕ = part_from place s - place in
    let b : ℕ = part_end place (length d) s - place in
    let la : length (take a d) ≡ a = length-take-le a d (omega arith) in
    let lb : length (part_of place d s) ≡ part_end place (length d) s - part_from place s = length_part place d s from to in
    let at : part_from place s ≡ place + length (take a d) = omega arith in
    rw (done_from place (length d) s from to, done_next place (length d) s)
    (subst⁻¹ (λ (n : ℕ). splice (splice t place (take a d)) n (slice a b d) ≡ splice t place (take b d)) at
    (splice-splice 0 t place (take a d) (slice a b d) (omega arith)
    ∙ ap (λ (r : List ℕ). splice t place r) (take-slice a b d (omega arith))))
