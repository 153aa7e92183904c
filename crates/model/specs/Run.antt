-- Run: a computation that begins rules under a step limit and names each rule that it begins; chained by `do`.
use mathlib.Core.List.{List, [], ◌∷◌, ◌++◌, Memᴰ, reverse}
use Rattle.std.specs.Prelude.{ℕ, zero, suc, length}
use Rattle.model.specs.declared.refusal.EvalFault.{EvalFault}
use Rattle.model.specs.declared.refusal.EvalFault.TheVariants.{Operation, OutOfSteps}
use Rattle.model.specs.Result.{Result, ok, refuse}

-- 01, Evaluation: "A rule is named by its place": the path of operand positions, from 0, that leads to it from the root.
abbrev pub Place : Type 0
Place = List ℕ

-- A name is the place read from its inner end: `reverse` of the place.
abbrev pub Name : Type 0
Name = List ℕ

-- How a run ends: with a value and the steps that are left, or with a refusal; and its trace, "in order, the rule in the text that each step begins".
pub data Ended (A : Type 0) : Type 0 where
  got : A → ℕ → List Name → Ended A
  failed : EvalFault → List Name → Ended A

-- From the number of steps left.
abbrev pub Run : Type 0 → Type 0
Run A = ℕ → Ended A

abbrev pub trace : {A : Type 0} → Ended A → List Name
trace (got a n t) = t
trace (failed e t) = t

-- "as many names as steps"
abbrev pub steps : {A : Type 0} → Ended A → ℕ
steps r = length (trace r)

-- "a rule that none of them names is one the run never begins": the rule at a place.
abbrev pub NeverBegins : {A : Type 0} → Place → Ended A → Type 0
NeverBegins place r = ¬ Memᴰ (reverse place) (trace r)

-- The trace with what was begun before.
abbrev pub log : {A : Type 0} → List Name → Ended A → Ended A
log t (got a n u) = got a n (t ++ u)
log t (failed e u) = failed e (t ++ u)

abbrev pub return : {A : Type 0} → A → Run A
return a n = got a n []

abbrev pub refused : {A : Type 0} → EvalFault → Run A
refused e n = failed e []

-- What an operation gives takes no step.
abbrev pub lift : {A : Type 0} → Result A → Run A
lift (ok a) = return a
lift (refuse e) = refused (Operation e)

-- One step begins the rule of this name; refusal 10 where none is left: "one step more than the limit would be needed".
abbrev pub begin : {A : Type 0} → Name → Run A → Run A
begin p m zero = failed OutOfSteps []
begin p m (suc n) = log (p ∷ []) (m n)

-- One run and then another, with the steps that the first left.
abbrev pub continue : {A B : Type 0} → Ended A → (A → Run B) → Ended B
continue (got a n t) f = log t (f a n)
continue (failed e t) f = failed e t

infixl 10 ◌>>=◌
abbrev pub ◌>>=◌ : {A B : Type 0} → Run A → (A → Run B) → Run B
m >>= f = λ n. continue (m n) f
