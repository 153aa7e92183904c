-- Paths: the text of a path, fragment by fragment.
use mathlib.Core.Path.{◌≡◌, refl, sym, ap, ◌∙◌}
use mathlib.Core.Bool.{Bool, true, false, ◌&&◌, not, cond}
use mathlib.Core.List.{List, [], ◌∷◌}
use Rattle.std.specs.Prelude.{Some}
use Prim.Native.Nat.{ℕ, ◌≤◌}
use native.Mathlib.Omega.{arith}
use lib.Dec.{eqb}
use lib.ListN.{length}
use Rattle.model.specs.Bytes.{Bytes, byte, cons_head, split_on}
use Rattle.model.specs.Lists.{all}
use Rattle.model.specs.Option.{is_some, when}
use Rattle.model.specs.Path.{path_of}
use Rattle.octets.specs.Inner.{fragments}

-- ---- paths
-- The fragments from the first or from the second on, by whether the first one may be empty.
abbrev from : Bool → List Bytes → List Bytes
from true l = l
from false [] = []
from false (f ∷ l) = l

module _ (full : Bytes → Bool) (none-full : full [] ≡ false) (some-full : (x : ℕ) (s : Bytes) → full (x ∷ s) ≡ true) where
  abbrev dots : Bytes → List Bytes
  dots s = split_on (eqb (byte ".")) s

  cons_all : (x : ℕ) (l : List Bytes) → all full (cons_head x l) ≡ all full (from false l)
  cons_all x [] = rw (some-full x [])
  cons_all x (f ∷ l) = rw (some-full x f)

  cons_from : (x : ℕ) (l : List Bytes) → from false (cons_head x l) ≡ from false l
  cons_from x [] = refl
  cons_from x (f ∷ l) = refl

  fragments_are : (s : Bytes) (empty : Bool) → fragments empty s ≡ all full (from empty (dots s))
  fragments_are [] true = rw none-full
  fragments_are [] false = refl
  fragments_are (x ∷ s) empty = go (fragments_are s) (eqb (byte ".") x) empty
    where
      go : ((e : Bool) → fragments e s ≡ all full (from e (dots s))) → (b empty : Bool) → cond b (not empty && fragments true s) (fragments false s) ≡ all full (from empty (cond b ([] ∷ dots s) (cons_head x (dots s))))
      go k true true = rw none-full
      go k true false = k true
      go k false true = k false ∙ sym (cons_all x (dots s))
      go k false false = k false ∙ ap (all full) (sym (cons_from x (dots s)))

when_some : {A : Type 0} (b : Bool) (a : A) → is_some (when b (Some a)) ≡ b
when_some true a = refl
when_some false a = refl

pub path_fragments : (s : Bytes) → 1 ≤ length s → is_some (path_of s) ≡ fragments true s
path_fragments [] n = absurd (omega arith)
path_fragments (x ∷ s) n = when_some _ _ ∙ sym (fragments_are _ refl (λ y t. refl) (x ∷ s) true)

pub no_path : (s : Bytes) → length s ≡ 0 → is_some (path_of s) ≡ true
no_path [] e = refl
no_path (x ∷ s) e = absurd (omega arith)
