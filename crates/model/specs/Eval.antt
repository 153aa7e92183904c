-- Eval: evaluation (01, Evaluation). "Operands go left to right, and all are evaluated before kinds are tested, unless said otherwise."
use Rattle.std.specs.Prelude.{[], ◌∷◌, ℕ, suc}
use Rattle.model.specs.Bytes.{Bytes, ascii}
use Rattle.model.specs.Operations.{operate}
use Rattle.model.specs.Path.{value_at}
use Rattle.model.specs.declared.refusal.Fault.TheVariants.{WrongKind}
use Rattle.model.specs.declared.refusal.EvalFault.{EvalFault}
use Rattle.model.specs.declared.refusal.EvalFault.TheVariants.{Operation}
use Rattle.model.specs.Result.{required}
use Rattle.model.specs.Rule.{Rule, literal, var, if, and, reduce, apply, Rules, no_rules, rule, literal_value}
use Rattle.model.specs.Run.{Name, Ended, got, failed, Run, return, refused, lift, begin, ◌>>=◌}
use Rattle.model.specs.Truth.{Truth, truthy, falsy, neither, truth}
use Rattle.model.specs.Value.{Value, object, Values, no_items, item, no_members, member, as_array}

-- "`if`: a truthy guard evaluates the second operand only; otherwise the third only." An instant is not truthy.
abbrev pub branch : Truth → Run Value → Run Value → Run Value
branch truthy second third = second
branch falsy second third = third
branch neither second third = third

-- "`and`: operands one by one; the first falsy value, or the last value. An instant is 7 when met."
abbrev pub go_on : Truth → Value → Run Value → Run Value
go_on truthy v next = next
go_on falsy v next = return v
go_on neither v next = refused (Operation WrongKind)

-- "over an object with `current` and `accumulator` in that order"
abbrev pub current : Bytes
current = ascii "current"

abbrev pub accumulator : Bytes
accumulator = ascii "accumulator"

abbrev pub context : Value → Value → Value
context cur acc = object (member current cur (member accumulator acc no_members))

-- "then the lambda for each item, in order"
abbrev pub fold : (Value → Value → Run Value) → Values → Value → Run Value
fold f no_items acc = return acc
fold f (item v vs) acc = do
  a ← f v acc
  fold f vs a

-- What a rule of this name does, in a context, after its own step. The operand at position k is named k ∷ p.
-- "Beginning to evaluate a rule, literals included, is one step": `begin`.
unfoldable mutual
  pub body : Rule → Name → Value → Run Value
  body (literal l) p c = return (literal_value l)
  body (var q) p c = return (value_at q c)
  body (if guard second third) p c = do
    v ← begin (0 ∷ p) (body guard (0 ∷ p) c)
    branch (truth v) (begin (1 ∷ p) (body second (1 ∷ p) c)) (begin (2 ∷ p) (body third (2 ∷ p) c))
  body (and r rs) p c = do
    v ← begin (0 ∷ p) (body r (0 ∷ p) c)
    body_and rs 1 p c v
  body (reduce r lambda initial) p c = do
    v ← begin (0 ∷ p) (body r (0 ∷ p) c)
    i ← begin (2 ∷ p) (body initial (2 ∷ p) c)
    vs ← lift (required WrongKind (as_array v))
    fold (λ cur acc. begin (1 ∷ p) (body lambda (1 ∷ p) (context cur acc))) vs i
  body (apply o rs) p c = do
    vs ← body_all rs 0 p c
    lift (operate o vs)

  -- The values of all operands, the first of which stands at position k.
  pub body_all : Rules → ℕ → Name → Value → Run Values
  body_all no_rules k p c = return no_items
  body_all (rule r rs) k p c = do
    v ← begin (k ∷ p) (body r (k ∷ p) c)
    vs ← body_all rs (suc k) p c
    return (item v vs)

  -- `and` that has met the value v, with these operands left.
  pub body_and : Rules → ℕ → Name → Value → Value → Run Value
  body_and no_rules k p c v = go_on (truth v) v (return v)
  body_and (rule r rs) k p c v =
      go_on (truth v) v (do
        w ← begin (k ∷ p) (body r (k ∷ p) c)
        body_and rs (suc k) p c w)

-- A rule of this name, evaluated in a context.
abbrev pub eval : Rule → Name → Value → Run Value
eval r p c = begin p (body r p c)

-- ---- a whole rule on a record, under a limit
abbrev pub run : Rule → Value → Run Value
run r record' = eval r [] record'

pub data Outcome : Type 0 where
  value : Value → Outcome
  refusal : EvalFault → Outcome

abbrev pub outcome : Ended Value → Outcome
outcome (got v n t) = value v
outcome (failed e t) = refusal e
