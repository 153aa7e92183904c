-- Words: the types that a number of words names, a bit for each (include/jehvrukam.h), and what belongs to one of them.
use Rattle.std.specs.Prelude.{◌≡◌, ℕ, ◌/◌, ◌%◌, ◌^◌, T}
use Rattle.model.specs.Types.{ty_number, belongs}
use Rattle.model.specs.Value.{Value}
use Rattle.model.specs.declared.Ty.{Ty}

-- The bit of a type.
abbrev pub bit_of : ℕ → Ty → ℕ
bit_of words k = words / (2 ^ ty_number k) % 2

-- A value belongs to a type whose bit is set.
pub record BelongsTo (words : ℕ) (v : Value) : Type 0 where
  pub type : Ty
  pub named : bit_of words type ≡ 1
  pub belonging : T (belongs v type)
