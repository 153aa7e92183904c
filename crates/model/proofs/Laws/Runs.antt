-- Runs: what holds of every value that a run gives, and of every refusal that it meets.
use Rattle.std.specs.Prelude.{◌≡◌, false, List, [], ◌∷◌, ℕ, zero, suc, T}
use Rattle.std.proofs.Common.{subst}
use Rattle.model.specs.Eval.{branch, go_on, fold, value, outcome}
use Rattle.model.specs.declared.refusal.Fault.{Fault}
use Rattle.model.specs.declared.refusal.Fault.TheVariants.{WrongKind}
use Rattle.model.specs.declared.refusal.EvalFault.{EvalFault}
use Rattle.model.specs.declared.refusal.EvalFault.TheVariants.{Operation, OutOfSteps}
use Rattle.model.specs.Result.{Result, ok, refuse}
use Rattle.model.specs.Run.{Name, Ended, got, failed, Run, log, return, refused, lift, begin, continue, ◌>>=◌}
use Rattle.model.specs.Truth.{Truth, truthy, falsy, neither}
use Rattle.model.specs.Value.{Value, Values, no_items, item}
use Rattle.model.proofs.Laws.Logic.{true→t}
use Rattle.model.proofs.Laws.Result.{Yields}
use Rattle.model.proofs.Laws.Types.{decided}

-- R holds of the refusals met.
module _ (R : EvalFault → Type 0) where
  -- A value of which P holds, or a refusal of which R does.
  abbrev pub EndsIn : {A : Type 0} → (A → Type 0) → Ended A → Type 0
  EndsIn P (got a n t) = P a
  EndsIn P (failed e t) = R e

  -- From every number of steps.
  abbrev pub Always : {A : Type 0} → (A → Type 0) → Run A → Type 0
  Always P m = (n : ℕ) → EndsIn P (m n)

  ends_log : {A : Type 0} (P : A → Type 0) (t : List Name) (r : Ended A) → EndsIn P r → EndsIn P (log t r)
  ends_log P t (got a n u) h = h
  ends_log P t (failed e u) h = h

  ends_continue : {A B : Type 0} (P : A → Type 0) (Q : B → Type 0) (r : Ended A) (f : A → Run B) → EndsIn P r → ((a : A) → P a → Always Q (f a)) → EndsIn Q (continue r f)
  ends_continue P Q (got a n t) f h k = ends_log Q t (f a n) (k a h n)
  ends_continue P Q (failed e t) f h k = h

  pub always_return : {A : Type 0} (P : A → Type 0) (a : A) → P a → Always P (return a)
  always_return P a h n = h

  pub always_refused : {A : Type 0} (P : A → Type 0) (e : EvalFault) → R e → Always P (refused e)
  always_refused P e h n = h

  pub always_lift : {A : Type 0} (F : Fault → Type 0) (P : A → Type 0) (r : Result A) → ((e : Fault) → F e → R (Operation e)) → Yields F P r → Always P (lift r)
  always_lift F P (ok a) k h = always_return P a h
  always_lift F P (refuse e) k h = always_refused P (Operation e) (k e h)

  pub always_begin : {A : Type 0} (P : A → Type 0) (p : Name) (m : Run A) → R OutOfSteps → Always P m → Always P (begin p m)
  always_begin P p m k h zero = k
  always_begin P p m k h (suc n) = ends_log P (p ∷ []) (m n) (h n)

  pub always_bind : {A B : Type 0} (P : A → Type 0) (Q : B → Type 0) (m : Run A) (f : A → Run B) → Always P m → ((a : A) → P a → Always Q (f a)) → Always Q (m >>= f)
  always_bind P Q m f h k n = ends_continue P Q (m n) f (h n) k

  pub always_map : {A : Type 0} (P Q : A → Type 0) (m : Run A) → ((a : A) → P a → Q a) → Always P m → Always Q m
  always_map {A} P Q m k h n = go (m n) (h n)
    where
      go : (r : Ended A) → EndsIn P r → EndsIn Q r
      go (got a j t) h = k a h
      go (failed e t) h = h

  pub always_branch : (P : Value → Type 0) (t : Truth) (m l : Run Value) → Always P m → Always P l → Always P (branch t m l)
  always_branch P truthy m l h k = h
  always_branch P falsy m l h k = k
  always_branch P neither m l h k = k

  pub always_go_on : (P : Value → Type 0) (t : Truth) (v : Value) (m : Run Value) → (¬ T (decided t) → R (Operation WrongKind)) → P v → Always P m → Always P (go_on t v m)
  always_go_on P truthy v m d h k = k
  always_go_on P falsy v m d h k = always_return P v h
  always_go_on P neither v m d h k = always_refused P (Operation WrongKind) (d (λ x. x))

  -- A lambda that keeps P of the accumulator, for each item of which Q holds; R of the items is Q of the first and R of the others.
  pub always_fold : (P Q : Value → Type 0) (R : Values → Type 0) → ((v : Value) (vs : Values) → R (item v vs) → Q v × R vs) → (f : Value → Value → Run Value) → ((v w : Value) → Q v → P w → Always P (f v w)) → (vs : Values) → R vs → (w : Value) → P w → Always P (fold f vs w)
  always_fold P Q R each f m no_items h w k = always_return P w k
  always_fold P Q R each f m (item v vs) h w k =
      let (first, others) = each v vs h in
      always_bind P P (f v w) (fold f vs) (m v w first k) (λ a x. always_fold P Q R each f m vs others a x)

  -- So of the value that a run ends in.
  pub always_value : (P : Value → Type 0) (m : Run Value) → Always P m → (n : ℕ) (v : Value) → outcome (m n) ≡ value v → P v
  always_value P m h n v = go (m n) (h n)
    where
      go : (r : Ended Value) → EndsIn P r → outcome r ≡ value v → P v
      go (got w j t) h e = subst P (cc) h
      go (failed x t) h e = absurd (true→t false (cc))
