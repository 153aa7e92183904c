-- Trace: each name in a trace is the place of a rule in the text, and the first is the root's.
use Rattle.std.specs.Prelude.{◌≡◌, refl, ℕ, zero, suc}
use Rattle.std.proofs.Common.{sym, subst, ⊎_elim}
use mathlib.Core.List.Memᴰ
use mathlib.Core.List.{List, [], ◌∷◌, ◌++◌, reverse, Memᴰ}
use Rattle.std.specs.Prelude.{Some}
use Rattle.model.specs.Eval.{run, body}
use Rattle.model.proofs.Laws.Induction.{Closed, holds_of_eval}
use Rattle.model.specs.Place.{subrule}
use Rattle.model.specs.Rule.{Rule}
use Rattle.model.specs.Run.{Name, Place, Ended, got, failed, Run, trace, log, begin, continue}
use Rattle.model.specs.Value.{Value}

-- N holds of each of these names.
abbrev pub All : (Name → Type 0) → List Name → Type 0
All N t = (x : Name) → Memᴰ x t → N x

module _ (N : Name → Type 0) where
  all_nil : All N []
  all_nil x m = absurd (Memᴰ.not-nil m)

  all_one : (p : Name) → N p → All N (p ∷ [])
  all_one p h x m = subst N (sym (Memᴰ.eq_of_singleton m)) h

  all_append : {t u : List Name} → All N t → All N u → All N (t ++ u)
  all_append {t} h k x m = ⊎_elim (h x) (k x) (Memᴰ.append_cases t m)

  all_log : {A : Type 0} {t : List Name} (r : Ended A) → All N t → All N (trace r) → All N (trace (log t r))
  all_log (got a n u) h k = all_append h k
  all_log (failed e u) h k = all_append h k

  all_begin : {A : Type 0} (p : Name) (m : Run A) → N p → ((n : ℕ) → All N (trace (m n))) → (n : ℕ) → All N (trace (begin p m n))
  all_begin p m h k zero = all_nil
  all_begin p m h k (suc n) = all_log (m n) (all_one p h) (k n)

  all_continue : {A B : Type 0} (r : Ended A) (f : A → Run B) → All N (trace r) → ((a : A) (n : ℕ) → All N (trace (f a n))) → All N (trace (continue r f))
  all_continue (got a n t) f h k = all_log (f a n) h (k a n)
  all_continue (failed e t) f h k = h

  pub all_closed : Closed (λ A m l. (n : ℕ) → All N (trace (m n))) N
  all_closed = record {
    returns = λ a n. all_nil;
    refuses = λ e n. all_nil;
    begins = λ p {m} {l} h k. all_begin p m h k;
    chains = λ {A} {B} {m} {l} {f} h k n. all_continue (m n) f (h n) k;
  }

-- The name is the place of a rule in r.
abbrev pub Stands : Rule → Name → Type 0
Stands r x = (q : Place) × (s : Rule) × (x ≡ reverse q) × (subrule q r ≡ Some s)

-- 01: "A rule is named by its place"
pub names_are_places : (r : Rule) (c : Value) (n : ℕ) (x : Name) → Memᴰ x (trace (run r c n)) → Stands r x
names_are_places r c = holds_of_eval (all_closed (Stands r)) r [] c (λ q s e. (q, s, refl, e))

-- Where there is a step to take, the first one begins the root.
pub root_first : (r : Rule) (c : Value) (n : ℕ) → (t : List Name) × (trace (run r c (suc n)) ≡ [] ∷ t)
root_first r c n = go (body r [] c n)
  where
    go : (e : Ended Value) → (t : List Name) × (trace (log ([] ∷ []) e) ≡ [] ∷ t)
    go (got v k t) = (t, refl)
    go (failed e t) = (t, refl)

-- So the first name, where there is one, is the root's.
pub first_is_root : (r : Rule) (c : Value) (n : ℕ) (x : Name) (t : List Name) → trace (run r c n) ≡ x ∷ t → x ≡ []
first_is_root r c zero x t e = cc
first_is_root r c (suc n) x t e = cc ((root_first r c n).1, e)
