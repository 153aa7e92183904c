-- Sets: what the code writes out field by field is what its contracts say.
use native.Mathlib.Omega.{arith}
use mir.Val.{bool_byte}
use mathlib.Core.Bool.{Bool, true, false, cond, ◌&&◌, ◌||◌, not, and-true, and-false, or-false, and_assoc, or_assoc}
use mathlib.Core.Path.{◌≡◌, sym, ap, ◌∙◌}
use Prim.Native.Nat.{ℕ, ◌*◌}
use Rattle.model.specs.TypeCheck.{items_types}
use Rattle.model.specs.Types.{is_in, passes}
use Rattle.model.specs.declared.Ty.{Ty}
use Rattle.type_set.specs.declared.set.TypeSet.{TypeSet}
use Rattle.type_set.specs.Contract.{set_of, types_in}
use Rattle.type_set.specs.Laws.Fields.{field, is_in_types_in, items_fields, passes_fields}

-- What a type's field weighs.
pub weighed : (k : ℕ) (b : Bool) → k * bool_byte b ≡ cond b k 0
weighed k true = omega arith
weighed k false = omega arith

-- A type's field tells whether it is in the set.
pub field_is_in : (s : TypeSet) (j : Ty) {k : Ty} → k ≡ j → field s j ≡ is_in (types_in s) k
field_is_in s j e = sym (is_in_types_in s j) ∙ ap (is_in (types_in s)) (sym e)

-- The items' types, field by field.
abbrev pub items_in : TypeSet → TypeSet
items_in s = record {
  null = s.array;
  boolean = s.array;
  integer = s.integers || s.array;
  string = s.strings || s.array;
  date = false;
  day = false;
  integers = false;
  strings = false;
  array = s.array;
  object = s.array;
  instant = s.array;
}

pub items_written : (s : TypeSet) → items_in s ≡ set_of (items_types (types_in s))
items_written s = rw (items_fields s) (simp (and-true, and-false, or-false))

-- What passes, field by field.
abbrev pub passes_in : TypeSet → TypeSet → Bool
passes_in a b =
    (not a.null || b.null)
    && (not a.boolean || b.boolean)
    && (not a.integer || b.integer)
    && (not a.string || b.string)
    && (not a.date || (b.date || b.string))
    && (not a.day || (b.day || (b.date || b.string)))
    && (not a.integers || b.integers || b.array)
    && (not a.strings || b.strings || b.array)
    && (not a.array || b.array)
    && (not a.object || b.object)
    && (not a.instant || b.instant)

pub passes_written : (a b : TypeSet) → passes_in a b ≡ passes (types_in a) (types_in b)
passes_written a b = rw (passes_fields a b) (simp (and_assoc, or_assoc, and-true, or-false))
