-- Contract: what an operation's answer on handles says in the terms of the model.
use Rattle.std.specs.Prelude.{◌≡◌, ℕ, Result, Ok, Err}
use Rattle.model.specs.declared.refusal.Fault.{Fault}
use Rattle.model.specs.Result as models
use Rattle.model.specs.Result.{ok, refuse}
use Rattle.model.specs.Value.{Value}
use Rattle.heap.specs.declared.handle.Handle.{Handle}
use Rattle.heap.specs.Means.{Means}
use Rattle.heap.specs.Unfold.{Areas}

-- What an operation answers, as the code's alias `Operated`.
abbrev pub Answered : Type 0
Answered = Result Handle Fault

-- The answer is the handle of the value that the operation gives, in the areas a and with cells below `top` only; or it is the operation's fault.
pub data Gives (a : Areas) (top : ℕ) : models.Result Value → Answered → Type 0 where
  gives_value : {v : Value} {h : Handle} {r : Answered} → r ≡ Ok h → Means a top v h → Gives a top (ok v) r
  gives_fault : {e : Fault} {r : Answered} → r ≡ Err e → Gives a top (refuse e) r
