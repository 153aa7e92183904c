-- Keyed: a name need be sought only among the names of a table that have its key, as its length or its first byte.
use Rattle.std.specs.Prelude.{◌≡◌, refl, Bool, true, false, ◌||◌, cond, List, [], ◌∷◌, ℕ, T, eqb, get_or, length}
use Rattle.std.proofs.Common.{sym, ap, ◌∙◌, arith, eqb-true}
use Rattle.std.specs.Prelude.{None, Some}
use Rattle.std.proofs.lemmas.Bool.{eqb-false}
use types.Run.{OneOf}
use Rattle.model.specs.Bytes.{Bytes, same_bytes}
use Rattle.model.proofs.Laws.Logic.{bytes→≡, and_l, and_r}
use Rattle.model.specs.Lists.{find, any, all}
use Rattle.model.specs.Shape.{keywords, keyword_named}

-- A name's first byte, and its second.
abbrev pub first : Bytes → ℕ
first s = get_or s 0 0

abbrev pub second : Bytes → ℕ
second s = get_or s 1 0

pub one_byte : (s : Bytes) → length s ≡ 1 → s ≡ first s ∷ []
one_byte [] h = absurd (omega arith)
one_byte (x ∷ []) h = refl
one_byte (x ∷ y ∷ s) h = absurd (omega arith)

pub two_bytes : (s : Bytes) → length s ≡ 2 → s ≡ first s ∷ second s ∷ []
two_bytes [] h = absurd (omega arith)
two_bytes (x ∷ s) h = ap (λ t. x ∷ t) (one_byte s (omega arith))

-- The entries of a table whose names have this key.
abbrev pub keyed : {A : Type 0} → (Bytes → ℕ) → ℕ → List (Bytes × A) → List (Bytes × A)
keyed key k [] = []
keyed key k (e ∷ l) = cond (eqb (key e.0) k) (e ∷ keyed key k l) (keyed key k l)

-- Names with different keys are not equal.
unlike : (key : Bytes → ℕ) (s t : Bytes) → (key s ≡ key t → ⊥) → same_bytes s t ≡ false
unlike key s t f = go (same_bytes s t) refl
  where
    go : (b : Bool) → same_bytes s t ≡ b → b ≡ false
    go true e = absurd (f (ap key (bytes→≡ s t (rw e tt))))
    go false e = refl

-- A name is found exactly where it is found among those of its key.
pub found_keyed : {A : Type 0} (key : Bytes → ℕ) (k : ℕ) (s : Bytes) (l : List (Bytes × A)) → key s ≡ k → find (same_bytes s) (keyed key k l) ≡ find (same_bytes s) l
found_keyed key k s [] h = refl
found_keyed key k s (e ∷ l) h = go (eqb (key e.0) k) refl (found_keyed key k s l h)
  where
    go : (b : Bool) → eqb (key e.0) k ≡ b → find (same_bytes s) (keyed key k l) ≡ find (same_bytes s) l
        → find (same_bytes s) (cond b (e ∷ keyed key k l) (keyed key k l)) ≡ cond (same_bytes s e.0) (Some e.1) (find (same_bytes s) l)
    go true t f = rw f
    go false t f = rw (unlike key s e.0 (λ g. eqb-false (key e.0) k t (sym g ∙ h))) f

-- ---- keywords
-- By length; by length and first byte.
pub by_length : (n : ℕ) (s : Bytes) → length s ≡ n → find (same_bytes s) (keyed length n keywords) ≡ keyword_named s
by_length n s h = found_keyed length n s keywords h

pub by_first : (n k : ℕ) (s : Bytes) → length s ≡ n → first s ≡ k → find (same_bytes s) (keyed first k (keyed length n keywords)) ≡ keyword_named s
by_first n k s h e = found_keyed first k s (keyed length n keywords) e ∙ by_length n s h

-- ---- keys that no name of the table has
-- The number k is none of these, the last first, as the last arm of a `match` on a number is told.
abbrev pub NoneIn : List ℕ → ℕ → Type 0
NoneIn [] k = Unit {0}
NoneIn (j ∷ js) k = NoneIn js k × (OneOf (j ∷ []) k → ⊥)

not_in : (js : List ℕ) {k : ℕ} (i : ℕ) → NoneIn js k → T (any (eqb i) js) → k ≡ i → ⊥
not_in [] i h t e = absurd t
not_in (j ∷ js) {k} i h t e = go (eqb i j) refl t (λ u. not_in js i h.0 u e)
  where
    go : (b : Bool) → eqb i j ≡ b → T (b || any (eqb i) js) → (T (any (eqb i) js) → ⊥) → ⊥
    go true q u f = h.1 (e ∙ eqb-true i j q)
    go false q u f = f u

pub not_keyed : {A : Type 0} (key : Bytes → ℕ) (js : List ℕ) (s : Bytes) (l : List (Bytes × A)) → T (all (λ (e : Bytes × A). any (eqb (key e.0)) js) l) → NoneIn js (key s) → None ≡ find (same_bytes s) l
not_keyed key js s [] t h = refl
not_keyed key js s (e ∷ l) t h =
    let here = any (eqb (key e.0)) js in
    rw (unlike key s e.0 (not_in js (key e.0) h (and_l here _ t))) (not_keyed key js s l (and_r here _ t) h)
