-- Path: what `var` and the names of a sheet say, and where it leads in a value.
use Rattle.std.specs.Prelude.{Bool, true, false, ◌&&◌, not, cond, List, [], ◌∷◌, ℕ, zero, suc, ◌+◌, ◌*◌, eqb}
use Rattle.std.specs.Prelude.{Option, None, Some}
use Rattle.model.specs.Bytes.{Bytes, byte, same_bytes, is_digit, digit_value, split_on}
use Rattle.model.specs.Lists.{all}
use Rattle.model.specs.Option.{◌>>=◌, when, or_else}
use Rattle.model.specs.Value.{Value, scalar, instant, array, object, null, Values, no_items, item, Members, no_members, member}

-- The fragments, outermost first.
abbrev pub Path : Type 0
Path = List Bytes

abbrev is_non_empty : Bytes → Bool
is_non_empty [] = false
is_non_empty (x ∷ s) = true

-- 01, Shape: "empty, or non-empty fragments parted by dots".
abbrev pub path_of : Bytes → Option Path
path_of [] = Some []
path_of (x ∷ s) =
    let fragments = split_on (eqb (byte ".")) (x ∷ s) in
    when (all is_non_empty fragments) (Some fragments)

abbrev pub same_path : Path → Path → Bool
same_path [] [] = true
same_path [] (g ∷ r) = false
same_path (f ∷ q) [] = false
same_path (f ∷ q) (g ∷ r) = same_bytes f g && same_path q r

-- ---- one fragment
-- 01, `var`: "on an object a fragment names a member".
abbrev pub member_named : Bytes → Members → Option Value
member_named f no_members = None
member_named f (member name v ms) =
    let later = member_named f ms in
    cond (same_bytes f name) (Some v) later

-- "on an array, 0 or digits without a leading zero are an index"
abbrev pub decimal_from : ℕ → Bytes → Option ℕ
decimal_from n [] = Some n
decimal_from n (x ∷ s) = when (is_digit x) (decimal_from (n * 10 + digit_value x) s)

abbrev pub index_of : Bytes → Option ℕ
index_of [] = None
index_of (x ∷ []) = decimal_from 0 (x ∷ [])
index_of (x ∷ y ∷ s) = when (not (eqb x (byte "0"))) (decimal_from 0 (x ∷ y ∷ s))

abbrev pub item_at : Values → ℕ → Option Value
item_at no_items k = None
item_at (item v vs) zero = Some v
item_at (item v vs) (suc k) = item_at vs k

-- The part of a value that a fragment names, or none.
abbrev pub part : Bytes → Value → Option Value
part f (scalar x) = None
part f (instant t) = None
part f (array vs) = index_of f >>= item_at vs
part f (object ms) = member_named f ms

-- ---- a whole path
-- The value at a path; none where it is absent. The empty path leads to the whole.
abbrev pub lookup : Path → Value → Option Value
lookup [] c = Some c
lookup (f ∷ q) c = part f c >>= lookup q

-- 01, `var`: "Anything else gives null."
abbrev pub value_at : Path → Value → Value
value_at q c = or_else (lookup q c) (scalar null)
