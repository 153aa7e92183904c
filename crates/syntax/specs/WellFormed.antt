-- WellFormed: what holds of every value that a text reads as: its strings and names are well-formed UTF-8 in bytes, no object has a name twice,
-- its integers are within the limits, and it has no instant (Laws.WellFormed has the proof); and of every answer, but that it may have instants (Laws.Answers).
use Rattle.std.specs.Prelude.{Bool, true, ◌&&◌, not, List, [], ◌∷◌, T, ltb}
use Rattle.model.specs.Bounds.{bounded}
use Rattle.model.specs.Bytes.{Bytes}
use Rattle.model.specs.Lists.{all}
use Rattle.model.specs.Value.{Value, scalar, instant, array, object, Scalar, null, boolean, integer, string, Values, no_items, item, Members, no_members, member, instant_free}
use Rattle.syntax.specs.Read.{among}
use Rattle.syntax.specs.Utf8.{WellFormed}

-- ---- strings and names
abbrev pub AllInScalar : (Bytes → Type 0) → Scalar → Type 0
AllInScalar P null = Unit {0}
AllInScalar P (boolean b) = Unit {0}
AllInScalar P (integer z) = Unit {0}
AllInScalar P (string s) = P s

-- P holds of every string and every name in a value, at any depth.
unfoldable mutual
  pub AllStrings : (Bytes → Type 0) → Value → Type 0
  AllStrings P (scalar x) = AllInScalar P x
  AllStrings P (instant t) = Unit {0}
  AllStrings P (array vs) = AllInItems P vs
  AllStrings P (object ms) = AllInMembers P ms

  pub AllInItems : (Bytes → Type 0) → Values → Type 0
  AllInItems P no_items = Unit {0}
  AllInItems P (item v vs) = AllStrings P v × AllInItems P vs

  pub AllInMembers : (Bytes → Type 0) → Members → Type 0
  AllInMembers P no_members = Unit {0}
  AllInMembers P (member name v ms) = P name × AllStrings P v × AllInMembers P ms

-- Each number of it is a byte.
abbrev pub are_bytes : Bytes → Bool
are_bytes s = all (λ b. ltb b 256) s

-- ---- names
abbrev pub names : Members → List Bytes
names no_members = []
names (member name v ms) = name ∷ names ms

-- 01, refusal 3: not "a name twice in one object", at any depth.
unfoldable mutual
  pub distinct_names : Value → Bool
  distinct_names (scalar x) = true
  distinct_names (instant t) = true
  distinct_names (array vs) = distinct_in_items vs
  distinct_names (object ms) = distinct_in_members ms

  pub distinct_in_items : Values → Bool
  distinct_in_items no_items = true
  distinct_in_items (item v vs) = distinct_names v && distinct_in_items vs

  pub distinct_in_members : Members → Bool
  distinct_in_members no_members = true
  distinct_in_members (member name v ms) = not (among name (names ms)) && (distinct_names v && distinct_in_members ms)

-- ---- all of it
-- What holds of every answer. Its instants are between the earliest and the latest.
pub record WellFormedAnswer (v : Value) : Type 0 where
  pub utf8_strings : AllStrings WellFormed v
  pub byte_strings : AllStrings (λ s. T (are_bytes s)) v
  pub distinct_names_lem : T (distinct_names v)
  pub within_limits_lem : T (bounded v)

-- What holds of every value that a text reads as: it has no instant besides.
pub record WellFormedValue (v : Value) : Type 0 where
  pub formed : WellFormedAnswer v
  pub no_instants : T (instant_free v)
