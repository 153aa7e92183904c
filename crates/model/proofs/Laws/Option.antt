-- Option: the values of the parts of an option chain that gives a value; what holds of the value there is.
use Rattle.std.specs.Prelude.{◌≡◌, refl, Bool, true, false, cond}
use Rattle.std.proofs.Common.{subst}
use Rattle.std.specs.Prelude.{Option, None, Some}
use Rattle.std.proofs.lemmas.Option.{none-some}
use Rattle.model.specs.Option.{◌>>=◌, when}

pub none_some : {A X : Type 0} {a : A} → None ≡ Some a → X
none_some {a} e = absurd (none-some a e)

-- What follows from the values of the two links follows from that of the chain.
pub bind_some : {A B X : Type 0} (o : Option A) (f : A → Option B) {b : B} → o >>= f ≡ Some b → ((a : A) → o ≡ Some a → f a ≡ Some b → X) → X
bind_some None f e k = none_some e
bind_some (Some a) f e k = k a refl e

pub when_some : {A : Type 0} (b : Bool) (o : Option A) {a : A} → when b o ≡ Some a → (b ≡ true) × (o ≡ Some a)
when_some true o e = (refl, e)
when_some false o e = none_some e

-- ---- P holds of the value there is, if any
abbrev pub All : {A : Type 0} → (A → Type 0) → Option A → Type 0
All P None = Unit {0}
All P (Some a) = P a

pub all_some : {A : Type 0} (P : A → Type 0) {o : Option A} {a : A} → All P o → o ≡ Some a → P a
all_some P h e = subst (All P) e h

pub all_bind : {A B : Type 0} (P : A → Type 0) (Q : B → Type 0) (o : Option A) (f : A → Option B) → All P o → ((a : A) → P a → All Q (f a)) → All Q (o >>= f)
all_bind P Q None f h k = tt
all_bind P Q (Some a) f h k = k a h

-- Whatever the value of the first link.
pub all_then : {A B : Type 0} (Q : B → Type 0) (o : Option A) (f : A → Option B) → ((a : A) → All Q (f a)) → All Q (o >>= f)
all_then Q None f h = tt
all_then Q (Some a) f h = h a

pub all_when : {A : Type 0} (P : A → Type 0) (b : Bool) (o : Option A) → All P o → All P (when b o)
all_when P true o h = h
all_when P false o h = tt

pub all_cond : {A : Type 0} (P : A → Type 0) (b : Bool) (o p : Option A) → All P o → All P p → All P (cond b o p)
all_cond P true o p h k = h
all_cond P false o p h k = k
