-- Lists: tables of pairs, and tests of every element or of some.
use Rattle.std.specs.Prelude.{Bool, true, false, ◌&&◌, ◌||◌, cond, List, [], ◌∷◌}
use Rattle.std.specs.Prelude.{Option, None, Some}

-- What a table of pairs has for a key, the first that fits.
abbrev pub find : {K A : Type 0} → (K → Bool) → List (K × A) → Option A
find f [] = None
find f (e ∷ l) =
    let later = find f l in
    cond (f e.0) (Some e.1) later

-- A test holds of some element, of every element.
abbrev pub any : {A : Type 0} → (A → Bool) → List A → Bool
any f [] = false
any f (a ∷ l) = f a || any f l

abbrev pub all : {A : Type 0} → (A → Bool) → List A → Bool
all f [] = true
all f (a ∷ l) = f a && all f l
