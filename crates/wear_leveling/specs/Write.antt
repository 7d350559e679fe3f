-- Writing (01, "Working on an open image"): image and mapping afterwards. What a write does, visit by visit, is in
-- save/Visits. Assumes nothing.
use Rattle.std.specs.Prelude.{List, ℕ, length}
use Rattle.mapping.specs.declared.Mapping.{Mapping}
use Rattle.save.specs.Visits.{State, state, written}
use Rattle.wear_leveling.specs.Read.{admission, if_accepted}

-- image and mapping after a write, refused or not
unfoldable pub after_write : List ℕ → Mapping → ℕ → List ℕ → State
after_write image m place d =
    if_accepted (admission (length image) m place (length d)) (written place d (state image m)) (state image m)
