-- Shows: what a host sees that walks by the viewer from a place on: the value there, whole, and nothing else.
use Rattle.std.specs.Prelude.{true, false, ◌≡◌, ℕ, suc, ◌+◌, ◌≤◌, length, take, drop}
use Rattle.std.specs.Prelude.{None, Some}
use Rattle.model.specs.Bytes.{Bytes}
use Rattle.model.specs.Size.{value_count}
use Rattle.model.specs.Value.{Value, scalar, instant, array, object, Scalar, null, boolean, integer, string, Values, no_items, item, Members, no_members, member, member_count}
use Rattle.syntax.specs.Layout.{item_count}
use Rattle.table.specs.declared.row.Span.{Span}
use Rattle.viewer.specs.Answer.{seen_of, name_of, integer_of, string_of}
use Rattle.viewer.specs.View.{row_seen, part_seen}

-- The kind of a value (docs/LAYOUT.md). No text reads as an instant.
abbrev pub kind_of : Value → ℕ
kind_of (scalar null) = 1
kind_of (scalar (boolean false)) = 2
kind_of (scalar (boolean true)) = 3
kind_of (scalar (integer z)) = 4
kind_of (scalar (string s)) = 5
kind_of (array vs) = 6
kind_of (object ms) = 7
kind_of (instant t) = 0

abbrev pub part_count : Value → ℕ
part_count (scalar x) = 0
part_count (instant t) = 0
part_count (array vs) = item_count vs
part_count (object ms) = member_count ms

-- The kind and the count are told, and no part from the count on.
pub record Tells (T : Bytes) (place : ℕ) (v : Value) : Type 0 where
  pub kind_and_count : seen_of (row_seen T place) ≡ Some (record { kind = kind_of v; count = part_count v })
  pub no_more : (n : ℕ) → part_count v ≤ n → part_seen T place n ≡ None

-- A part of the strings area S is these bytes, all of them.
pub record Spells (S : Bytes) (p : Span) (bytes : Bytes) : Type 0 where
  pub length_is : p.size ≡ length bytes
  pub bytes_are : take p.size (drop p.start S) ≡ bytes

pub record TellsString (T S : Bytes) (place : ℕ) (s : Bytes) : Type 0 where
  pub lies : Span
  pub told : string_of (row_seen T place) ≡ Some lies
  pub spells : Spells S lies s

-- An integer is told, and where a string lies.
abbrev pub TellsScalar : Bytes → Bytes → ℕ → Scalar → Type 0
TellsScalar T S place null = Unit
TellsScalar T S place (boolean b) = Unit
TellsScalar T S place (integer z) = integer_of (row_seen T place) ≡ Some z
TellsScalar T S place (string s) = TellsString T S place s

-- The name of what lies at a place; an item has none.
pub record Named (T S : Bytes) (place : ℕ) (name : Bytes) : Type 0 where
  pub lies : Span
  pub told : name_of (row_seen T place) ≡ Some lies
  pub spells : Spells S lies name

pub record Unnamed (T : Bytes) (place : ℕ) : Type 0 where
  pub told : name_of (row_seen T place) ≡ Some (record { start = 0; size = 0 })

mutual
  pub data Shows (T S : Bytes) : ℕ → Value → Type 0 where
    shows_scalar : {place : ℕ} {x : Scalar} → Tells T place (scalar x) → TellsScalar T S place x → Shows T S place (scalar x)
    shows_array : {place : ℕ} {vs : Values} → Tells T place (array vs) → ShowsItems T S place 0 (place + 1) vs → Shows T S place (array vs)
    shows_object : {place : ℕ} {ms : Members} → Tells T place (object ms) → ShowsMembers T S place 0 (place + 1) ms → Shows T S place (object ms)

  -- The parts of the container at a place, from the nth on, which is the value in the row `at`: a part's place is its row.
  pub data ShowsItems (T S : Bytes) : ℕ → ℕ → ℕ → Values → Type 0 where
    shows_no_items : {place n at : ℕ} → ShowsItems T S place n at no_items
    shows_item : {place n at : ℕ} {v : Value} {vs : Values} → part_seen T place n ≡ Some at → Unnamed T at → Shows T S at v
        → ShowsItems T S place (suc n) (at + value_count v) vs → ShowsItems T S place n at (item v vs)

  pub data ShowsMembers (T S : Bytes) : ℕ → ℕ → ℕ → Members → Type 0 where
    shows_no_members : {place n at : ℕ} → ShowsMembers T S place n at no_members
    shows_member : {place n at : ℕ} {name : Bytes} {v : Value} {ms : Members} → part_seen T place n ≡ Some at → Named T S at name → Shows T S at v
        → ShowsMembers T S place (suc n) (at + value_count v) ms → ShowsMembers T S place n at (member name v ms)

-- A text's value is seen at place 0, and is no member.
pub record ShowsText (T S : Bytes) (v : Value) : Type 0 where
  pub shows : Shows T S 0 v
  pub no_member : Unnamed T 0
