-- Result: what holds of the value that a result gives, or of its fault.
use Rattle.std.specs.Prelude.{◌≡◌, refl, Bool, true, false, cond, T}
use Rattle.model.specs.declared.refusal.Fault.{Fault}
use Rattle.model.specs.Result.{Result, ok, refuse, ◌>>=◌, provided}

-- Nothing is asked.
abbrev pub Any : {A : Type 0} → A → Type 0
Any a = Unit {0}

-- F holds of the faults met.
module _ (F : Fault → Type 0) where
  -- A value of which P holds, or a fault of which F does.
  abbrev pub Yields : {A : Type 0} → (A → Type 0) → Result A → Type 0
  Yields P (ok a) = P a
  Yields P (refuse e) = F e

  -- From what holds of a result that is known to be a value, or a fault.
  pub yields_intro : {A : Type 0} (P : A → Type 0) (r : Result A) → ((a : A) → r ≡ ok a → P a) → ((e : Fault) → r ≡ refuse e → F e) → Yields P r
  yields_intro P (ok a) h k = h a refl
  yields_intro P (refuse e) h k = k e refl

  pub yields_bind : {A B : Type 0} (P : A → Type 0) (Q : B → Type 0) (r : Result A) (f : A → Result B) → Yields P r → ((a : A) → P a → Yields Q (f a)) → Yields Q (r >>= f)
  yields_bind P Q (ok a) f h k = k a h
  yields_bind P Q (refuse e) f h k = h

  pub yields_provided : {A : Type 0} (P : A → Type 0) (b : Bool) (e : Fault) (r : Result A) → F e → (T b → Yields P r) → Yields P (provided b e r)
  yields_provided P true e r h k = k tt
  yields_provided P false e r h k = h

  pub yields_cond : {A : Type 0} (P : A → Type 0) (b : Bool) (r q : Result A) → (T b → Yields P r) → Yields P q → Yields P (cond b r q)
  yields_cond P true r q h k = h tt
  yields_cond P false r q h k = k
