-- Inner: what the functions of the program do.
use Rattle.std.specs.Prelude.{◌≡◌, ℕ, ◌+◌, ◌^◌, ◌≤◌, ◌<◌, length, take}
use Rattle.model.specs.Bytes.{Bytes}
use Rattle.jehvrukam.specs.Contract.{numbers_of}
use Rattle.jehvrukam.specs.Evaluate.{Evaluated}
use Rattle.test_vectors.specs.declared.Case.{Case}
use Rattle.test_vectors.specs.declared.Outcome.{Outcome}
use Rattle.test_vectors.specs.Cases.{past_byte, case_at}
use Rattle.test_vectors.specs.declared.Tally.{Tally}

-- A place past such a byte.
pub record Past (s : Bytes) (b at r : ℕ) : Type 0 where
  pub is : r ≡ past_byte s b at
  pub on : at ≤ r
  pub inside : r ≤ length s

-- A case, and a place further on.
pub record Ran (s : Bytes) (at : ℕ) (r : Case) : Type 0 where
  pub is : r ≡ case_at s at
  pub on : at < r.end
  pub inside : r.end ≤ length s

-- What the entry told, and the output.
pub record Gives (e : Evaluated) (o : Outcome) (O : Bytes) : Type 0 where
  pub refusal : o.refusal ≡ e.refusal
  pub numbers : numbers_of o.which o.place o.steps o.size ≡ e.numbers
  pub output : O ≡ e.areas.work.output

-- One case more can be counted.
pub record Few (t : Tally) : Type 0 where
  pub cases : t.cases + 1 < 2 ^ 64
  pub differ : t.differ + 1 < 2 ^ 64
