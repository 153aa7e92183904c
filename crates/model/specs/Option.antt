-- Option: a value or none, chained by `do`.
use Rattle.std.specs.Prelude.{Bool, true, false}
use Rattle.std.specs.Prelude.{Option, None, Some}

infixl 10 ◌>>=◌
abbrev pub ◌>>=◌ : {A B : Type 0} → Option A → (A → Option B) → Option B
None >>= f = None
Some a >>= f = f a

-- The value if a test holds, else none.
abbrev pub when : {A : Type 0} → Bool → Option A → Option A
when true o = o
when false o = None

abbrev pub is_some : {A : Type 0} → Option A → Bool
is_some None = false
is_some (Some a) = true

-- The value, or another one where there is none.
abbrev pub or_else : {A : Type 0} → Option A → A → A
or_else None b = b
or_else (Some a) b = a

-- There is a value, and a test holds of it.
abbrev pub holds : {A : Type 0} → (A → Bool) → Option A → Bool
holds f None = false
holds f (Some a) = f a
