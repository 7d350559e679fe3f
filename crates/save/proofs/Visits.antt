-- The steps of a write as laws over plain lists and mappings: what an accepted one may visit, a block that is filled sector by
-- sector, the part that falls into a sector, one visit more, and what visits keep. Assumes nothing.
use mathlib.Core.Path.{◌≡◌, refl, ap, ◌∙◌, subst}
use mathlib.Core.Bool.{Bool, true, false}
use mathlib.Core.List.{List, [], ◌∷◌}
use Prim.Native.Nat.{ℕ, zero, suc, ◌+◌, ◌-◌, ◌*◌, ◌/◌, ◌%◌, ◌≤◌, ◌<◌}
use native.Mathlib.Omega.{arith}
use lib.ListN.{length, get_or, set, length-replicate, replicate-append-replicate}
use lib.Seq.{slice, take_all, length-slice}
use Rattle.lists.specs.Words.{pick, splice, rep}
use Rattle.lists.proofs.Splice.{splice-nil, splice-splice, length-splice}
use Rattle.chip.specs.Figures.{layout_of, reserved, block_len, sector_len, sectors, erased, records}
use Rattle.chip.proofs.Layouts.{sound}
use Rattle.mapping.specs.declared.Block.{Block}
use Rattle.mapping.specs.declared.Mapping.{Mapping}
use Rattle.mapping.specs.Blocks.{is_free, no_block, block_at, number_at, with_block}
use Rattle.tickets.specs.Tickets.{sector_place}
use Rattle.tickets.proofs.Fitting.{fitting, fits_lies}
use Rattle.save.specs.Visits.{State, state, first_sector, end_sector, visit_count, visited_block, opened_image, stored_part, part_from, part_end, visit, visits, written, CanWrite}

-- what a visit asks for: its block, of physical number n, lies in the image, sector s is one that a write of k bytes from
-- place on visits, and the save is at least a sector shorter than the image
pub record CanVisit (image : List ℕ) (n place k s : ℕ) : Type 0 where
  pub within : n * block_len + block_len ≤ length image
  pub from : first_sector place ≤ s
  pub to : s < end_sector place k
  pub short : place + k + sector_len ≤ length image

-- an accepted write ends at least a sector before the image does, which has 256 blocks at most
pub record Short (image : List ℕ) (place k : ℕ) : Type 0 where
  pub short : place + k + sector_len ≤ length image
  pub few : length image ≤ records * block_len

module _ (image : List ℕ) (m : Mapping) (place k : ℕ) (can : CanWrite image m place k) where
  pub can_short : Short image place k
  can_short =
      let f = fitting (length image) m can.fitting in
      let s = sound f.chip in
      record { short = omega (arith, can.inside, f.image, f.save); few = omega (arith, f.image) }

  -- it can visit each of its sectors, which lie before the reserved block
  can_visit : (s : ℕ) → first_sector place ≤ s → s < end_sector place k → CanVisit image (number_at m (s / sectors)) place k s
  can_visit s from to =
      let f = fitting (length image) m can.fitting in
      let h : s < reserved (layout_of f.chip) * sectors = omega (arith, can.inside, f.save) in
      record {
        within = (fits_lies image m can.fitting f.chip f.known).within (s / sectors) (omega arith);
        from = from;
        to = to;
        short = can_short.short;
      }

-- one sheet of k bytes more, after j of them
pub filled_sheet
    : (image : List ℕ) (at j k x : ℕ)
    → at + (j * k + k) ≤ length image
    → splice (splice image at (rep (j * k) x)) (at + j * k) (slice 0 (0 + k) (rep k x)) ≡ splice image at (rep (j * k + k) x)
filled_sheet image at j k x h =
    let n : length (rep (j * k) x) ≡ j * k = length-replicate (j * k) x in
    let s : length (rep k x) ≡ k = length-replicate k x in
    let z : 0 + k ≡ k = omega arith in
    let w : slice 0 (0 + k) (rep k x) ≡ rep k x = rw z (take_all k (rep k x) (omega arith)) in
    rw w
    (subst (λ (i : ℕ). splice (splice image at (rep (j * k) x)) (at + i) (rep k x) ≡ splice image at (rep (j * k + k) x)) n
    (splice-splice 0 image at (rep (j * k) x) (rep k x) (omega arith)
    ∙ ap (splice image at) (replicate-append-replicate (j * k) k x)))

-- what filling a block sheet by sheet cites
pub ruleset filling = (splice-nil, filled_sheet)

-- ---- what a visit keeps

-- an element that f does not tell from the one in its place
get_or-set_like
    : {A : Type 0} (f : A → ℕ) (l : List A) (i : ℕ) (a z : A) (j : ℕ)
    → f a ≡ f (get_or l i z) → f (get_or (set l i a) j z) ≡ f (get_or l j z)
get_or-set_like f [] i a z j e = refl
get_or-set_like f (x ∷ xs) zero a z zero e = e
get_or-set_like f (x ∷ xs) zero a z (suc j) e = refl
get_or-set_like f (x ∷ xs) (suc i) a z zero e = refl
get_or-set_like f (x ∷ xs) (suc i) a z (suc j) e = get_or-set_like f xs i a z j e

pub length_opened
    : (b : Block) (image : List ℕ)
    → b.physical.0 * block_len + block_len ≤ length image → length (opened_image b image) ≡ length image
unfolding opened_image
length_opened b image h = go (is_free b.condition)
  where
    at : ℕ
    at = b.physical.0 * block_len

    go : (t : Bool) → length (pick t (splice image at (rep block_len erased)) image) ≡ length image
    go true = length-splice image at (rep block_len erased) h
    go false = refl

-- both ends of the part of d that falls into a sector
pub record Part (place k s from end : ℕ) : Type 0 where
  pub low : place ≤ from
  pub start : s * sector_len ≤ from
  pub some : from ≤ end
  pub high : end ≤ place + k
  pub stop : end ≤ s * sector_len + sector_len

pub part_of_lem : (place k s : ℕ) → first_sector place ≤ s → s < end_sector place k → Part place k s (part_from place s) (part_end place k s)
unfolding part_from part_end
part_of_lem place k s h t =
    record {
      low = omega arith;
      start = omega arith;
      some = omega arith;
      high = omega arith;
      stop = omega arith;
    }

length_stored
    : (image d : List ℕ) (n place s : ℕ)
    → CanVisit image n place (length d) s → length (stored_part n place d s image) ≡ length image
unfolding stored_part
length_stored image d n place s can =
    let p = part_of_lem place (length d) s can.from can.to in
    let f : ℕ = part_from place s in
    let t : ℕ = part_end place (length d) s in
    let e : length (slice (f - place) (t - place) d) ≡ t - place - (f - place) = length-slice (f - place) (t - place) d (omega arith) in
    length-splice image (sector_place n (s % sectors) + (f - s * sector_len)) (slice (f - place) (t - place) d) (omega arith)

-- what all visits keep of the state that they started from
pub record Carried (st st2 : State) : Type 0 where
  pub length_kept : length st2.image ≡ length st.image
  pub len_kept : st2.mapping.len ≡ st.mapping.len
  pub tickets_kept : st2.mapping.tickets ≡ st.mapping.tickets
  pub number_kept : (v : ℕ) → number_at st2.mapping v ≡ number_at st.mapping v

module _ (place : ℕ) (d : List ℕ) where
  -- a visit keeps the length of the mapping, its tickets and its physical numbers
  pub visit_len : (s : ℕ) (st : State) → (visit place d s st).mapping.len ≡ st.mapping.len
  unfolding visit with_block
  visit_len s st = refl

  pub visit_tickets : (s : ℕ) (st : State) → (visit place d s st).mapping.tickets ≡ st.mapping.tickets
  unfolding visit with_block
  visit_tickets s st = refl

  pub visit_number : (s : ℕ) (st : State) (v : ℕ) → number_at (visit place d s st).mapping v ≡ number_at st.mapping v
  unfolding visit with_block visited_block
  visit_number s st v =
      get_or-set_like (λ b. b.physical.0) st.mapping.blocks (s / sectors) (visited_block (block_at st.mapping (s / sectors))) no_block v refl

  -- and that of the image
  pub visit_length
      : (s : ℕ) (st : State)
      → CanVisit st.image (number_at st.mapping (s / sectors)) place (length d) s
      → length (visit place d s st).image ≡ length st.image
  unfolding visit
  visit_length s st can =
      let b : Block = block_at st.mapping (s / sectors) in
      let e : length (opened_image b st.image) ≡ length st.image = length_opened b st.image can.within in
      length_stored (opened_image b st.image) d b.physical.0 place s
      (record { within = omega (arith, can.within); from = can.from; to = can.to; short = omega (arith, can.short) })
      ∙ e

  module _ (st : State) (can : CanWrite st.image st.mapping place (length d)) where
    -- what has been kept lets the next visit be made
    pub kept_can
        : (st2 : State) (s : ℕ) → Carried st st2 → first_sector place ≤ s → s < end_sector place (length d)
        → CanVisit st2.image (number_at st2.mapping (s / sectors)) place (length d) s
    kept_can st2 s k from to =
        let c = can_visit st.image st.mapping place (length d) can s from to in
        record {
          within = omega (arith, c.within, k.length_kept, k.number_kept (s / sectors));
          from = from;
          to = to;
          short = omega (arith, c.short, k.length_kept);
        }

    pub visits_kept : (k : ℕ) → k ≤ visit_count place (length d) → Carried st (visits place d k st)
    unfolding visits
    visits_kept zero h = record { length_kept = refl; len_kept = refl; tickets_kept = refl; number_kept = λ v. refl }
    visits_kept (suc k) h =
        let r = visits_kept k (omega arith) in
        let s : ℕ = first_sector place + k in
        let st2 : State = visits place d k st in
        record {
          length_kept = visit_length s st2 (kept_can st2 s r (omega arith) (omega arith)) ∙ r.length_kept;
          len_kept = visit_len s st2 ∙ r.len_kept;
          tickets_kept = visit_tickets s st2 ∙ r.tickets_kept;
          number_kept = λ v. visit_number s st2 v ∙ r.number_kept v;
        }

  -- the loop has come to sector s: the visits before it have been made
  pub record Going (st st2 : State) (s : ℕ) : Type 0 where
    pub from : first_sector place ≤ s
    pub to : s ≤ end_sector place (length d)
    pub done : st2 ≡ visits place d (s - first_sector place) st

  pub going_none : (st : State) → Going st st (first_sector place)
  unfolding visits
  going_none st =
      let e : first_sector place - first_sector place ≡ 0 = omega arith in
      record { from = omega arith; to = omega arith; done = rw e }

  pub going_can
      : (st st2 : State) (s : ℕ)
      → CanWrite st.image st.mapping place (length d)
      → Going st st2 s
      → s < end_sector place (length d)
      → CanVisit st2.image (number_at st2.mapping (s / sectors)) place (length d) s
  going_can st st2 s can g h =
      rw g.done
      (kept_can st can (visits place d (s - first_sector place) st) s
      (visits_kept st can (s - first_sector place) (omega (arith, g.to))) g.from h)

  pub going_more
      : (st : State) (image : List ℕ) (m : Mapping) (s : ℕ) (after : List ℕ) (b : Block)
      → Going st (state image m) s
      → s < end_sector place (length d)
      → b ≡ visited_block (block_at m (s / sectors))
      → after ≡ stored_part (number_at m (s / sectors)) place d s (opened_image (block_at m (s / sectors)) image)
      → Going st (state after (with_block m (s / sectors) b)) (s + 1)
  unfolding visit visits
  going_more st image m s after b g h p q =
      let e : s + 1 - first_sector place ≡ suc (s - first_sector place) = omega (arith, g.from) in
      let f : first_sector place + (s - first_sector place) ≡ s = omega (arith, g.from) in
      record {
        from = omega (arith, g.from);
        to = omega arith;
        done = (λ i. state (q i) (with_block m (s / sectors) (p i))) ∙ rw (e, f) (ap (visit place d s) g.done);
      }

  pub going_all : (st st2 : State) (s : ℕ) → Going st st2 s → end_sector place (length d) ≤ s → st2 ≡ written place d st
  unfolding written
  going_all st st2 s g h =
      let e : s ≡ end_sector place (length d) = omega (arith, g.to) in
      g.done ∙ rw e
