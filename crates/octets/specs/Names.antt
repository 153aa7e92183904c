-- Names: names in one byte string, and the place of a name among them; what a table has there.
use Rattle.std.specs.Prelude.{cond, List, [], ◌∷◌, ◌++◌, ℕ, zero, suc, ◌+◌, leb, length, take, drop}
use Rattle.std.specs.Prelude.{Option, None, Some}
use Rattle.model.specs.Bytes.{Bytes, byte, same_bytes}

-- The first place of a name, counted from i, where each size is that of the next of the names, with a byte after it. The search ends where the names do.
abbrev pub place_from : ℕ → Bytes → Bytes → Bytes → Option ℕ
place_from i name names [] = None
place_from i name names (n ∷ sizes) =
    cond (leb (length names) n) None (cond (same_bytes name (take n names)) (Some i) (place_from (i + 1) name (drop (n + 1) names) sizes))

-- ---- the same of a list of names (Laws/Names.antt: place_among)
-- Each name with a space after it, and the length of each.
abbrev pub spaced : List Bytes → Bytes
spaced [] = []
spaced (n ∷ l) = n ++ (byte " " ∷ spaced l)

abbrev pub lengths : List Bytes → List ℕ
lengths [] = []
lengths (n ∷ l) = length n ∷ lengths l

-- The first place of a name among others, counted from i.
abbrev pub position_from : ℕ → Bytes → List Bytes → Option ℕ
position_from i name [] = None
position_from i name (n ∷ l) = cond (same_bytes name n) (Some i) (position_from (i + 1) name l)

-- ---- tables
-- The names of a table of pairs,
abbrev pub names_of : {A : Type 0} → List (Bytes × A) → List Bytes
names_of [] = []
names_of (e ∷ l) = e.0 ∷ names_of l

-- and what it has at a place.
abbrev pub entry_at : {A : Type 0} → List (Bytes × A) → ℕ → Option A
entry_at [] i = None
entry_at (e ∷ l) zero = Some e.1
entry_at (e ∷ l) (suc i) = entry_at l i

abbrev pub entry_of : {A : Type 0} → List (Bytes × A) → Option ℕ → Option A
entry_of l None = None
entry_of l (Some i) = entry_at l i
