-- Contract: what `enter` asks and promises, and what `find` promises, by the rows of members. That the index is a trie (specs/Trie.antt, specs/Slots.antt) is no concern of its callers.
use Rattle.std.specs.Prelude.{◌≡◌, Bool, false, cond, List, [], ◌∷◌, ◌++◌, ◌⊎◌, ℕ, ◌+◌, ◌*◌, ◌-◌, ◌/◌, ◌≤◌, ◌<◌, length, take, drop, Option, None, Some}
use Rattle.area.specs.Words.{word_at}
use Rattle.model.specs.Bytes.{Bytes, same_bytes}
use Rattle.model.specs.Limits.{max_values, max_text_bytes}
use Rattle.model.specs.Lists.{any}
use Rattle.syntax.specs.Layout.{table_bytes}
use Rattle.name_index.specs.Slots as Slots

-- n bytes of an area from x on
abbrev pub part : Bytes → ℕ → ℕ → Bytes
part A x n = take n (drop x A)

-- The index entry of the member in a row (rows of members count from 1).
abbrev pub entry : Bytes → ℕ → Bytes
entry T r = Slots.entry T (r - 1)

-- A member that is indexed: its row and its name.
pub record Entry : Type 0 where
  pub row : ℕ
  pub name : Bytes

unfoldable pub names_of : List Entry → List Bytes
names_of [] = []
names_of (e ∷ es) = e.name ∷ names_of es

-- Every member's row has its name: length and start in words 0 and 1 of the row.
unfoldable pub Named : Bytes → Bytes → List Entry → Type 0
Named T A [] = Unit {0}
Named T A (e ∷ es) =
    (e.name ≡ part A (word_at T (e.row * 16 + 4)) (word_at T (e.row * 16) / 256))
    × (word_at T (e.row * 16 + 4) + word_at T (e.row * 16) / 256 ≤ length A)
    × Named T A es

-- Every row from `first` up to, but not with, `row`.
unfoldable pub Between : ℕ → ℕ → List Entry → Type 0
Between first row [] = Unit {0}
Between first row (e ∷ es) = (first ≤ e.row) × (e.row < row) × Between first row es

-- A row is that of one of the members.
abbrev pub HasRow : List Entry → ℕ → Type 0
HasRow [] r = ⊥
HasRow (e ∷ es) r = (r ≡ e.row) ⊎ HasRow es r

-- The members by their slots.
unfoldable pub slots : List Entry → List (ℕ × Bytes)
slots [] = []
slots (e ∷ es) = (e.row - 1, e.name) ∷ slots es

-- The table's entries index these members of the object whose first member's row is `first`.
pub record Indexed (T : Bytes) (first : ℕ) (es : List Entry) : Type 0 where
  pub trie : Slots.Indexed T (first - 1) (slots es)

pub record EnterRoom (T A : Bytes) (first row start len : ℕ) : Type 0 where
  pub member : 1 ≤ first
  pub order : first ≤ row
  pub rows : row ≤ max_values
  pub table : table_bytes ≤ length T
  pub strings : start + len ≤ length A
  pub short : start + len ≤ max_text_bytes

-- What `enter(table, strings, first, row, start, len) -> bool` promises. The entries of all rows stay but for those of the members and of the new one.
pub record Entered (T A : Bytes) (first row start len : ℕ) (b : Bool) (T' : Bytes) : Type 0 where
  pub size : length T' ≡ length T
  pub rows : take (max_values * 16) T' ≡ take (max_values * 16) T
  pub kept : (r : ℕ) → 1 ≤ r → r < first → entry T' r ≡ entry T r
  pub others :
      (es : List Entry) → Indexed T first es → Named T A es → Between first row es → (row ≡ first → es ≡ []) → (es ≡ [] → row ≡ first)
      → (r : ℕ) → 1 ≤ r → (HasRow es r → ⊥) → (r ≡ row → ⊥) → entry T' r ≡ entry T r
  pub run :
      (es : List Entry) → Indexed T first es → Named T A es → Between first row es → (row ≡ first → es ≡ []) → (es ≡ [] → row ≡ first)
      → (b ≡ any (same_bytes (part A start len)) (names_of es)) × (b ≡ false → Indexed T' first (es ++ (record { row = row; name = part A start len } ∷ [])))

-- Where the first member of a name stands.
abbrev pub first_named : Bytes → List Entry → Option ℕ
first_named n [] = None
first_named n (e ∷ es) = cond (same_bytes n e.name) (Some e.row) (first_named n es)

-- What `find(table, strings, first, name) -> Option<usize>` promises: that member, of those that the table's entries index.
pub record Finds (T A : Bytes) (first : ℕ) (n : Bytes) (r : Option ℕ) : Type 0 where
  pub is :
      (es : List Entry) → 1 ≤ first → table_bytes ≤ length T → Indexed T first es → Named T A es → Between first max_values es → (es ≡ [] → ⊥)
      → r ≡ first_named n es
