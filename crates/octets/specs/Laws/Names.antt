-- Names: the place of a name among others that have spaces after them; the one law over tables.
use Rattle.std.specs.Prelude.{◌≡◌, refl, Bool, true, false, cond, List, [], ◌∷◌, ◌++◌, ℕ, zero, suc, ◌+◌, ◌≤◌, ◌<◌, length, drop}
use Rattle.std.proofs.Common.{sym, ap, ◌∙◌, arith, length-append, drop-drop}
use Rattle.std.specs.Prelude.{Option, None, Some}
use Rattle.std.proofs.lemmas.Bool.{lt-leb}
use types.Run.{OneOf}
use Rattle.std.proofs.Math.Seq.{take-append_seam, drop-append_seam}
use Rattle.model.specs.Bytes.{Bytes, byte, same_bytes}
use Rattle.model.specs.Lists.{find}
use Rattle.octets.specs.Names.{place_from, spaced, lengths, position_from, names_of, entry_at, entry_of}

-- The place is that among the names.
pub place_among : (i : ℕ) (name : Bytes) (l : List Bytes) → place_from i name (spaced l) (lengths l) ≡ position_from i name l
place_among i name [] = refl
place_among i name (n ∷ l) =
    let rest = byte " " ∷ spaced l in
    let long : length n < length (n ++ rest) = omega (arith, length-append n rest) in
    let next : drop (length n + 1) (n ++ rest) ≡ spaced l = sym (drop-drop 1 (length n) (n ++ rest)) ∙ ap (drop 1) (drop-append_seam n rest) in
    rw (lt-leb (length (n ++ rest)) (length n) long, take-append_seam n rest, next, place_among (i + 1) name l)

module _ {A : Type 0} (name : Bytes) where
  -- What g has at a position.
  abbrev given : (ℕ → Option A) → Option ℕ → Option A
  given g None = None
  given g (Some i) = g i

  found_from : (l : List (Bytes × A)) (i : ℕ) (g : ℕ → Option A) → ((k : ℕ) → g (i + k) ≡ entry_at l k) → find (same_bytes name) l ≡ given g (position_from i name (names_of l))
  found_from [] i g h = refl
  found_from (e ∷ l) i g h = go (same_bytes name e.0) (found_from l (i + 1) g (λ k. ap g (omega arith) ∙ h (suc k)))
    where
      go : (b : Bool) → find (same_bytes name) l ≡ given g (position_from (i + 1) name (names_of l))
          → cond b (Some e.1) (find (same_bytes name) l) ≡ given g (cond b (Some i) (position_from (i + 1) name (names_of l)))
      go true k = sym (ap g (omega arith) ∙ h 0)
      go false k = k

-- A table has for a name what stands at the name's place.
pub found_at : {A : Type 0} (l : List (Bytes × A)) (name : Bytes) {names sizes : Bytes} {r : Option ℕ}
    → names ≡ spaced (names_of l) → sizes ≡ lengths (names_of l) → r ≡ place_from 0 name names sizes → find (same_bytes name) l ≡ entry_of l r
found_at l name {r = r} e f p = found_from name l 0 (entry_at l) (λ k. ap (entry_at l) (omega arith)) ∙ go r (rw (e, f, place_among 0 name (names_of l)) at p)
  where
    go : (r : Option ℕ) {q : Option ℕ} → r ≡ q → given name (entry_at l) q ≡ entry_of l r
    go None h = ap (given name (entry_at l)) (sym h)
    go (Some i) h = ap (given name (entry_at l)) (sym h)

-- So what a function of code answers at that place is what the table has for the name.
pub answered_at : {A : Type 0} (l : List (Bytes × A)) (name : Bytes) {names sizes : Bytes} {r q : Option ℕ} {o : Option A}
    → names ≡ spaced (names_of l) → sizes ≡ lengths (names_of l) → r ≡ place_from 0 name names sizes → r ≡ q → o ≡ entry_of l q → o ≡ find (same_bytes name) l
answered_at l name e f p h k = k ∙ sym (found_at l name e f p ∙ ap (entry_of l) h)

-- The number i is none of the first n, as the last arm of a `match` on a number is told.
abbrev pub NoneOf : ℕ → ℕ → Type 0
NoneOf zero i = Unit {0}
NoneOf (suc n) i = NoneOf n i × (OneOf (n ∷ []) i → ⊥)

none_of : (n i : ℕ) → NoneOf n i → n ≤ i
none_of zero i h = omega arith
none_of (suc n) i h = omega (arith, none_of n i h.0, h.1)

-- A table has nothing behind its end.
past_end : {A : Type 0} (l : List (Bytes × A)) (i : ℕ) → length l ≤ i → None ≡ entry_at l i
past_end [] i h = refl
past_end (e ∷ l) zero h = absurd (omega arith)
past_end (e ∷ l) (suc i) h = past_end l i (omega arith)

pub no_entry : {A : Type 0} (l : List (Bytes × A)) (i : ℕ) → NoneOf (length l) i → None ≡ entry_at l i
no_entry l i h = past_end l i (none_of (length l) i h)
