-- How a text grows in a buffer, and in the writer that holds it: nothing put in, a word put in, one piece behind another, and a
-- number as the kit spells it. Assumes nothing.
use Rattle.lists.proofs.Windows.{length-window}
use lib.Seq.{take_all}
use mathlib.Core.Path.{◌≡◌, refl, sym, ap, ◌∙◌, subst}
use mathlib.Core.Bool.{false, Bool, true}
use mathlib.Core.List.{List, [], ◌++◌, ◌∷◌, append-nil}
use Prim.Native.Nat.{ℕ, zero, suc, ◌+◌, ◌-◌, ◌/◌, ◌%◌, ◌^◌, ◌≤◌, ◌<◌}
use native.Mathlib.Nat.{pow-le-pow_right}
use native.Mathlib.Omega.{arith}
use borrow.Rule.Slice.PartMut.{put_mid, mid_of}
use borrow.Author.Tests.{lt-ltb, le-ltb}
use lib.Dec.{ltb}
use lib.ListN.{length, take, length-append, drop, drop_of_length-le}
use Rattle.io.specs.Digits.{last_digits, IsDigitCount, hex_digit_ascii}
use Rattle.lists.specs.Words.{splice, pick}
use Rattle.lists.proofs.Orders.{split}
use Rattle.lists.proofs.Splice.{length-splice, splice-nil, splice-splice, part_back}
use Rattle.listing.specs.declared.Writer.{Writer}
use Rattle.listing.specs.Lines.{decimal_in, decimal, most_digits, Written, Grew}

-- nothing was put in
pub written_nothing : (old : List ℕ) (at : ℕ) → at ≤ length old → Written old at [] old at
written_nothing old at h = record { fits = omega arith; stored = sym (splice-nil old at h); next = omega arith }

-- a word was put in, as a copy byte by byte leaves it in a part that was lent
pub written_word
    : (old word ys : List ℕ) (at : ℕ)
    → at + length word ≤ length old
    → ys ≡ take (length word) word ++ drop (length word) (mid_of at (at + length word - at) old)
    → Written old at word (put_mid at (at + length word - at) old ys) (at + length word)
written_word old word ys at h q =
    let z : at + length word - at ≡ length word = omega arith in
    let l : length (mid_of at (at + length word - at) old) ≡ length word = rw z (length-window at (length word) old h) in
    let d : ys ≡ word
    = q
    ∙ ap (λ (r : List ℕ). r ++ drop (length word) (mid_of at (at + length word - at) old)) (take_all (length word) word (omega arith))
    ∙ ap (λ (r : List ℕ). word ++ r) (drop_of_length-le (mid_of at (at + length word - at) old) {i = length word} (omega (arith, l)))
    ∙ append-nil word in
    record {
      fits = h;
      stored = part_back old at (length word) ys (ap length d) ∙ ap (splice old at) d;
      next = refl;
    }

-- a word was put in, as std's `copy_from_slice` stores it in a part that was lent
pub written_copied
    : (old word ys : List ℕ) (at : ℕ)
    → at + length word ≤ length old
    → ys ≡ word
    → Written old at word (put_mid at (at + length word - at) old ys) (at + length word)
written_copied old word ys at h d =
    record {
      fits = h;
      stored = part_back old at (length word) ys (ap length d) ∙ ap (splice old at) d;
      next = refl;
    }

-- the buffer keeps its length
pub written_length : {old text new : List ℕ} {at end : ℕ} → Written old at text new end → length new ≡ length old
written_length {old} {text} {new} {at} w = ap length w.stored ∙ length-splice old at text w.fits

-- two pieces, the second where the first ended, are one
pub written_then : {a b c d e : List ℕ} {i j k : ℕ} → Written a i d b j → Written b j e c k → Written a i (d ++ e) c k
written_then {a} {b} {c} {d} {e} {i} {j} {k} p q =
    let n : length (d ++ e) ≡ length d + length e = length-append d e in
    let l : length b ≡ length a = written_length p in
    let f = p.fits in
    let g = q.fits in
    let u = p.next in
    let w = q.next in
    record {
      fits = omega arith;
      stored = q.stored
          ∙ ap (λ (x : List ℕ). splice x j e) p.stored
          ∙ ap (λ (m : ℕ). splice (splice a i d) m e) p.next
          ∙ splice-splice 0 a i d e (omega arith);
      next = omega arith;
    }

-- a writer whose buffer is the one that was lent, with this text put in
pub grew
    : {old new : Writer} {text : List ℕ}
    → new.out.ghost_name ≡ old.out.ghost_name → Written old.out.now old.at text new.out.now new.at
    → Grew old text new
grew e w = record { same = e; size = written_length w; written = w }

-- a writer that puts nothing in
pub grew_nothing : (w : Writer) → w.at ≤ length w.out.now → Grew w [] w
grew_nothing w h = grew refl (written_nothing w.out.now w.at h)

-- two pieces, one after the other, are one
pub grew_then : {a b c : Writer} {d e : List ℕ} → Grew a d b → Grew b e c → Grew a (d ++ e) c
grew_then p q = grew (q.same ∙ p.same) (written_then p.written q.written)

pow_pos : (r : ℕ) → 1 ≤ 10 ^ r
pow_pos r = pow-le-pow_right {n = 10} (omega arith) {i = 0} {j = r} (omega arith)

-- the digits that the kit gives, the fewest that hold n, are the number's
pub spelled : (k r n : ℕ) → r ≤ k → IsDigitCount 10 1 n r → last_digits 10 r n ≡ decimal_in k n
unfolding decimal_in
spelled k zero n h f = absurd (omega arith)
spelled zero (suc r) n h f = absurd (omega arith)
spelled (suc k) (suc zero) n h f =
    let s : n < 10 = omega arith in
    let e : n % 10 ≡ n = omega arith in
    simp (lt-ltb n 10 s, e)
spelled (suc k) (suc (suc r)) n h f =
    let e : suc (suc r) - 1 ≡ suc r = omega arith in
    let b : 10 ^ suc r ≤ n = subst (λ (i : ℕ). 10 ^ i ≤ n) e (f.2 (omega arith)) in
    let g : 10 ≤ n = omega (arith, pow_pos r) in
    let e2 : suc r - 1 ≡ r = omega arith in
    let low : 10 ^ r ≤ n / 10 = omega arith in
    let next : IsDigitCount 10 1 (n / 10) (suc r) = (omega arith, omega arith, λ _. subst (λ (i : ℕ). 10 ^ i ≤ n / 10) (sym e2) low) in
    let t : ltb n 10 ≡ false = le-ltb n 10 g in
    rw (t, spelled k (suc r) (n / 10) (omega arith) next)

-- the text of a number below the largest that it has room for, at the start of the kit's digits
pub number_text
    : (d : List ℕ) (k n : ℕ) → n < 10 ^ most_digits → IsDigitCount 10 1 n k → take k d ≡ last_digits 10 k n → take (k - 0) d ≡ decimal n
number_text d k n h f t =
    let z : k - 0 ≡ k = omega arith in
    let small : k ≤ most_digits
    = split k most_digits (λ g. g)
    (λ g.
    let a : 10 ^ most_digits ≤ 10 ^ (k - 1) = pow-le-pow_right {n = 10} (omega arith) {i = most_digits} {j = k - 1} (omega arith) in
    let b : 10 ^ (k - 1) ≤ n = f.2 (omega arith) in
    absurd (omega arith)) in
    rw z (t ∙ spelled most_digits k n small f)

-- a number has no more digits than there are steps
pub decimal_short : (k n : ℕ) → length (decimal_in k n) ≤ k
unfolding decimal_in
decimal_short zero n = omega arith
decimal_short (suc k) n = by_size (decimal_short k (n / 10)) (ltb n 10)
  where
    by_size
        : length (decimal_in k (n / 10)) ≤ k
        → (t : Bool) → length (pick t (hex_digit_ascii n ∷ []) (decimal_in k (n / 10) ++ (hex_digit_ascii (n % 10) ∷ []))) ≤ suc k
    by_size h true = omega arith
    by_size h false = simp length-append (omega arith)

-- another way to name the text
pub written_as : {old text text2 new : List ℕ} {at end : ℕ} → text ≡ text2 → Written old at text new end → Written old at text2 new end
written_as {old} {text} {text2} {new} {at} {end} e w = subst (λ (t : List ℕ). Written old at t new end) e w

pub grew_as : {old new : Writer} {text text2 : List ℕ} → text ≡ text2 → Grew old text new → Grew old text2 new
grew_as {old} {new} e g = subst (λ (t : List ℕ). Grew old t new) e g
