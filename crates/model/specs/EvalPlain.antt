-- EvalPlain: evaluation without names: a value or a refusal, and the steps left. Nothing here need be believed: Laws.Plain proves that it has
-- the outcome and the steps of Eval. Code is to be proved against it.
use Rattle.std.specs.Prelude.{ℕ, zero, suc}
use Rattle.model.specs.Eval.{Outcome, value, refusal, context}
use Rattle.model.specs.Operations.{operate}
use Rattle.model.specs.Path.{value_at}
use Rattle.model.specs.declared.refusal.Fault.TheVariants.{WrongKind}
use Rattle.model.specs.declared.refusal.EvalFault.{EvalFault}
use Rattle.model.specs.declared.refusal.EvalFault.TheVariants.{Operation, OutOfSteps}
use Rattle.model.specs.Result.{Result, ok, refuse, required}
use Rattle.model.specs.Rule.{Rule, literal, var, if, and, reduce, apply, Rules, no_rules, rule, literal_value}
use Rattle.model.specs.Truth.{Truth, truthy, falsy, neither, truth}
use Rattle.model.specs.Value.{Value, Values, no_items, item, as_array}

-- How a run ends, and the steps that are left.
pub data Plain (A : Type 0) : Type 0 where
  gives : A → ℕ → Plain A
  denies : EvalFault → ℕ → Plain A

-- From the number of steps left.
abbrev pub PlainRun : Type 0 → Type 0
PlainRun A = ℕ → Plain A

-- What an operation gives takes no step.
abbrev pub lift : {A : Type 0} → Result A → PlainRun A
lift (ok a) = gives a
lift (refuse e) = denies (Operation e)

-- One step and then the run; refusal 10 where none is left.
abbrev pub step : {A : Type 0} → PlainRun A → PlainRun A
step m zero = denies OutOfSteps zero
step m (suc n) = m n

-- One run and then another, with the steps that the first left.
abbrev pub continue : {A B : Type 0} → Plain A → (A → PlainRun B) → Plain B
continue (gives a n) f = f a n
continue (denies e n) f = denies e n

infixl 10 ◌>>=◌
abbrev pub ◌>>=◌ : {A B : Type 0} → PlainRun A → (A → PlainRun B) → PlainRun B
m >>= f = λ n. continue (m n) f

-- `if`, `and` and `reduce` as in Eval.
abbrev pub branch : Truth → PlainRun Value → PlainRun Value → PlainRun Value
branch truthy second third = second
branch falsy second third = third
branch neither second third = third

abbrev pub go_on : Truth → Value → PlainRun Value → PlainRun Value
go_on truthy v next = next
go_on falsy v next = gives v
go_on neither v next = denies (Operation WrongKind)

abbrev pub fold : (Value → Value → PlainRun Value) → Values → Value → PlainRun Value
fold f no_items acc = gives acc
fold f (item v vs) acc = do
  a ← f v acc
  fold f vs a

-- What a rule does in a context after its own step.
unfoldable mutual
  pub plain_body : Rule → Value → PlainRun Value
  plain_body (literal l) c = gives (literal_value l)
  plain_body (var q) c = gives (value_at q c)
  plain_body (if guard second third) c = do
    v ← step (plain_body guard c)
    branch (truth v) (step (plain_body second c)) (step (plain_body third c))
  plain_body (and r rs) c = do
    v ← step (plain_body r c)
    plain_and rs c v
  plain_body (reduce r lambda initial) c = do
    v ← step (plain_body r c)
    i ← step (plain_body initial c)
    vs ← lift (required WrongKind (as_array v))
    fold (λ cur acc. step (plain_body lambda (context cur acc))) vs i
  plain_body (apply o rs) c = do
    vs ← plain_all rs c
    lift (operate o vs)

  -- The values of all operands.
  pub plain_all : Rules → Value → PlainRun Values
  plain_all no_rules c = gives no_items
  plain_all (rule r rs) c = do
    v ← step (plain_body r c)
    vs ← plain_all rs c
    gives (item v vs)

  -- `and` that has met the value v, with these operands left.
  pub plain_and : Rules → Value → Value → PlainRun Value
  plain_and no_rules c v = go_on (truth v) v (gives v)
  plain_and (rule r rs) c v =
      go_on (truth v) v (do
        w ← step (plain_body r c)
        plain_and rs c w)

-- A rule evaluated in a context: a whole rule on a record, from its limit.
abbrev pub eval_plain : Rule → Value → PlainRun Value
eval_plain r c = step (plain_body r c)

abbrev pub plain_outcome : Plain Value → Outcome
plain_outcome (gives v n) = value v
plain_outcome (denies e n) = refusal e

abbrev pub left : {A : Type 0} → Plain A → ℕ
left (gives a n) = n
left (denies e n) = n
