-- Contract: a set of types by value (`TypeSet`), and the model's lists of types, which may list one twice.
use Rattle.std.specs.Prelude.{Bool, true, false, [], ◌∷◌}
use Rattle.model.specs.Types.{Types, is_in}
use Rattle.model.specs.declared.Ty.{Ty}
use Rattle.type_set.specs.declared.set.TypeSet.{TypeSet}

-- The set of a list's types.
abbrev pub set_of : Types → TypeSet
set_of ts = record {
  null = is_in ts Ty.Null;
  boolean = is_in ts Ty.Boolean;
  integer = is_in ts Ty.Integer;
  string = is_in ts Ty.String;
  date = is_in ts Ty.Date;
  day = is_in ts Ty.Day;
  integers = is_in ts Ty.Integers;
  strings = is_in ts Ty.Strings;
  array = is_in ts Ty.Array;
  object = is_in ts Ty.Object;
  instant = is_in ts Ty.Instant;
}

-- One type more, if it is there.
abbrev pub listed : Bool → Ty → Types → Types
listed true k ts = k ∷ ts
listed false k ts = ts

-- The types of a set, in the paper's order.
abbrev pub types_in : TypeSet → Types
types_in s =
    listed s.null Ty.Null
    (listed s.boolean Ty.Boolean
    (listed s.integer Ty.Integer
    (listed s.string Ty.String
    (listed s.date Ty.Date
    (listed s.day Ty.Day
    (listed s.integers Ty.Integers
    (listed s.strings Ty.Strings
    (listed s.array Ty.Array
    (listed s.object Ty.Object
    (listed s.instant Ty.Instant []))))))))))
