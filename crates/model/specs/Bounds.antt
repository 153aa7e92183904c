-- Bounds: values whose integers and instants are within the bounds of document 01, at any depth.
use Rattle.std.specs.Prelude.{Bool, true, ◌&&◌}
use Rattle.model.specs.Instant.{in_range}
use Rattle.model.specs.Value.{Value, scalar, instant, array, object, Scalar, null, boolean, integer, string, Values, no_items, item, Members, no_members, member, within_limits}

-- 01, refusal 4: an integer not "beyond 9007199254740991 either way".
abbrev pub bounded_scalar : Scalar → Bool
bounded_scalar null = true
bounded_scalar (boolean b) = true
bounded_scalar (integer z) = within_limits z
bounded_scalar (string s) = true

-- Every integer so, and every instant between the earliest and the latest (01, Dates).
-- What a text reads as is so: refusal 4 keeps its integers within the limits, and no text reads as an instant (`read-well-formed` of the crate syntax).
unfoldable mutual
  pub bounded : Value → Bool
  bounded (scalar x) = bounded_scalar x
  bounded (instant t) = in_range t
  bounded (array vs) = bounded_items vs
  bounded (object ms) = bounded_members ms

  pub bounded_items : Values → Bool
  bounded_items no_items = true
  bounded_items (item v vs) = bounded v && bounded_items vs

  pub bounded_members : Members → Bool
  bounded_members no_members = true
  bounded_members (member name v ms) = bounded v && bounded_members ms
