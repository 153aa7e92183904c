-- Induction: what is closed under the makings of a run holds of every evaluation, beside its partner without names.
use Rattle.std.specs.Prelude.{◌≡◌, refl, ℕ, suc, ◌+◌}
use Rattle.std.proofs.Common.{subst, arith}
use mathlib.Core.List.{[], ◌∷◌, reverse_aux}
use Rattle.std.specs.Prelude.{Some}
use Rattle.model.specs.Eval.{branch, go_on, fold, context, body, body_all, body_and, eval}
use Rattle.model.specs.EvalPlain as Plain
use Rattle.model.specs.EvalPlain.{Plain, gives, denies, PlainRun, step, plain_body, plain_all, plain_and, eval_plain}
use Rattle.model.specs.Operations.{operate}
use Rattle.model.specs.Option.{◌>>=◌}
use Rattle.model.specs.Path.{value_at}
use Rattle.model.specs.Place.{rule_at, subrule}
use Rattle.model.specs.declared.refusal.Fault.{Fault}
use Rattle.model.specs.declared.refusal.Fault.TheVariants.{WrongKind}
use Rattle.model.specs.declared.refusal.EvalFault.TheVariants.{Operation}
use Rattle.model.specs.Result.{Result, ok, refuse, required}
use Rattle.model.specs.Rule.{Rule, literal, var, if, and, reduce, apply, Rules, no_rules, rule, literal_value}
use Rattle.model.specs.Run
use Rattle.model.specs.Run.{Place, Name, Run, return, refused, lift, begin}
use Rattle.model.specs.Truth.{Truth, truthy, falsy, neither, truth}
use Rattle.model.specs.Value.{Value, Values, no_items, item, as_array}

-- A relation between a run and its plain partner that is closed under what the two are made of. A name begins a rule only if N holds of it.
-- A property of runs alone is a relation that does not look at the partner.
pub record Closed (R : (A : Type 0) → Run A → PlainRun A → Type 0) (N : Name → Type 0) : Type 1 where
  pub returns : {A : Type 0} (a : A) → R A (return a) (gives a)
  pub refuses : {A : Type 0} (e : Fault) → R A (refused (Operation e)) (denies (Operation e))
  pub begins : {A : Type 0} (p : Name) {m : Run A} {l : PlainRun A} → N p → R A m l → R A (begin p m) (step l)
  pub chains : {A B : Type 0} {m : Run A} {l : PlainRun A} {f : A → Run B} {g : A → PlainRun B} → R A m l → ((a : A) → R B (f a) (g a)) → R B (Run.◌>>=◌ m f) (Plain.◌>>=◌ l g)

-- N holds of the name of each rule in a rule of this name.
abbrev pub Named : (Name → Type 0) → Rule → Name → Type 0
Named N r p = (q : Place) (s : Rule) → subrule q r ≡ Some s → N (reverse_aux q p)

-- N holds of the name of each rule in these operands, the first of which stands at position k.
abbrev NamedAll : (Name → Type 0) → Rules → ℕ → Name → Type 0
NamedAll N rs k p = (j : ℕ) (q : Place) (s : Rule) → (rule_at rs j >>= subrule q) ≡ Some s → N (reverse_aux q ((j + k) ∷ p))

module _ {R : (A : Type 0) → Run A → PlainRun A → Type 0} {N : Name → Type 0} (closed : Closed R N) where
  lifts : {A : Type 0} (r : Result A) → R A (lift r) (Plain.lift r)
  lifts (ok a) = closed.returns a
  lifts (refuse e) = closed.refuses e

  branches : (t : Truth) {m n : Run Value} {m' n' : PlainRun Value} → R Value m m' → R Value n n' → R Value (branch t m n) (Plain.branch t m' n')
  branches truthy h k = h
  branches falsy h k = k
  branches neither h k = k

  goes_on : (t : Truth) (v : Value) {m : Run Value} {m' : PlainRun Value} → R Value m m' → R Value (go_on t v m) (Plain.go_on t v m')
  goes_on truthy v h = h
  goes_on falsy v h = closed.returns v
  goes_on neither v h = closed.refuses WrongKind

  folds : {f : Value → Value → Run Value} {g : Value → Value → PlainRun Value} → ((a b : Value) → R Value (f a b) (g a b)) → (vs : Values) (acc : Value) → R Value (fold f vs acc) (Plain.fold g vs acc)
  folds h no_items acc = closed.returns acc
  folds h (item v vs) acc = closed.chains (h v acc) (λ a. folds h vs a)

  -- A position may be written in two ways.
  moved : (i j : ℕ) (q : Place) (p : Name) → i ≡ j → N (reverse_aux q (i ∷ p)) → N (reverse_aux q (j ∷ p))
  moved i j q p e = subst (λ (k : ℕ). N (reverse_aux q (k ∷ p))) e

  first : (r : Rule) (rs : Rules) (k : ℕ) (p : Name) → NamedAll N (rule r rs) k p → Named N r (k ∷ p)
  first r rs k p h q s e = moved (0 + k) k q p (omega arith) (h 0 q s e)

  others : (r : Rule) (rs : Rules) (k : ℕ) (p : Name) → NamedAll N (rule r rs) k p → NamedAll N rs (suc k) p
  others r rs k p h j q s e = moved (suc j + k) (j + suc k) q p (omega arith) (h (suc j) q s e)

  mutual
    unfolding body plain_body

    pub holds_of_eval : (r : Rule) (p : Name) (c : Value) → Named N r p → R Value (eval r p c) (eval_plain r c)
    holds_of_eval (literal l) p c h = closed.begins p (h [] _ refl) (closed.returns (literal_value l))
    holds_of_eval (var q) p c h = closed.begins p (h [] _ refl) (closed.returns (value_at q c))
    holds_of_eval (if guard second third) p c h =
        closed.begins p (h [] _ refl)
        (closed.chains (holds_of_eval guard (0 ∷ p) c (λ q. h (0 ∷ q))) (λ v. branches (truth v) (holds_of_eval second (1 ∷ p) c (λ q. h (1 ∷ q))) (holds_of_eval third (2 ∷ p) c (λ q. h (2 ∷ q)))))
    holds_of_eval (and r rs) p c h =
        closed.begins p (h [] _ refl)
        (closed.chains (holds_of_eval r (0 ∷ p) c (λ q. h (0 ∷ q))) (λ v. holds_of_and rs 1 p c v (λ j q s e. moved (suc j) (j + 1) q p (omega arith) (h (suc j ∷ q) s e))))
    holds_of_eval (reduce r lambda initial) p c h =
        closed.begins p (h [] _ refl)
        (closed.chains (holds_of_eval r (0 ∷ p) c (λ q. h (0 ∷ q)))
        (λ v. closed.chains (holds_of_eval initial (2 ∷ p) c (λ q. h (2 ∷ q)))
        (λ i. closed.chains (lifts (required WrongKind (as_array v)))
        (λ vs. folds (λ cur acc. holds_of_eval lambda (1 ∷ p) (context cur acc) (λ q. h (1 ∷ q))) vs i))))
    holds_of_eval (apply o rs) p c h =
        closed.begins p (h [] _ refl)
        (closed.chains (holds_of_all rs 0 p c (λ j q s e. moved j (j + 0) q p (omega arith) (h (j ∷ q) s e))) (λ vs. lifts (operate o vs)))

    holds_of_all : (rs : Rules) (k : ℕ) (p : Name) (c : Value) → NamedAll N rs k p → R Values (body_all rs k p c) (plain_all rs c)
    holds_of_all no_rules k p c h = closed.returns no_items
    holds_of_all (rule r rs) k p c h =
        closed.chains (holds_of_eval r (k ∷ p) c (first r rs k p h))
        (λ v. closed.chains (holds_of_all rs (suc k) p c (others r rs k p h)) (λ vs. closed.returns (item v vs)))

    holds_of_and : (rs : Rules) (k : ℕ) (p : Name) (c v : Value) → NamedAll N rs k p → R Value (body_and rs k p c v) (plain_and rs c v)
    holds_of_and no_rules k p c v h = goes_on (truth v) v (closed.returns v)
    holds_of_and (rule r rs) k p c v h = goes_on (truth v) v (closed.chains (holds_of_eval r (k ∷ p) c (first r rs k p h)) (λ w. holds_of_and rs (suc k) p c w (others r rs k p h)))
