-- Inner: what the functions below `enter` promise.
use Rattle.std.specs.Prelude.{◌≡◌, Bool, true, false, cond, [], ◌++◌, ℕ, ◌+◌, ◌*◌, ◌-◌, ◌/◌, ◌%◌, ◌^◌, ◌<◌, ◌≤◌, length, get_or, Option, None, Some}
use Rattle.std.proofs.lemmas.List.Edits.{sets}
use Rattle.model.specs.Bytes.{Bytes, same_bytes}
use Rattle.model.specs.Limits.{max_values}
use Rattle.area.specs.Words.{word, word_at}
use Rattle.name_index.specs.declared.Ended.{Ended}
use Rattle.name_index.specs.Bits.{part, Critical}
use Rattle.name_index.specs.Trie.{Trie, Node, Ordered, Walk, Ends}
use Rattle.syntax.specs.Layout.{table_bytes}
use Rattle.name_index.specs.Slots.{name_start, name_length, place, side, link_in, Holds}

-- ---- comparing names

-- The first place at which two names part, or at which one of them ends.
pub record Common (m n : Bytes) (p : ℕ) : Type 0 where
  pub left : p ≤ length m
  pub right : p ≤ length n
  pub same : (i : ℕ) → i < p → get_or m i 0 ≡ get_or n i 0
  pub parts : p < length m → p < length n → get_or m p 0 ≡ get_or n p 0 → ⊥

-- The highest of the sixteen bits of two numbers in which they differ, counted from the highest.
pub record Highest (x y r : ℕ) : Type 0 where
  pub small : r < 16
  pub above : (i : ℕ) → i < r → x / 2 ^ (15 - i) ≡ y / 2 ^ (15 - i)
  pub differ : x / 2 ^ (15 - r) % 2 ≡ y / 2 ^ (15 - r) % 2 → ⊥

-- How two names compare.
abbrev pub Told : Bytes → Bytes → Option ℕ → Type 0
Told m n None = m ≡ n
Told m n (Some c) = Critical m n c

-- The rank in which two names differ has room in an entry.
abbrev pub Ranked : Option ℕ → Type 0
Ranked None = Unit {0}
Ranked (Some c) = c < 1073741824

-- How a name compares with that of the row of a leaf.
abbrev pub ToldOf : Bytes → Bytes → ℕ → ℕ → Bytes → Option ℕ → Type 0
ToldOf T A link row n r =
    (q : ℕ) → link ≡ q * 2 → q < row → name_start T q + name_length T q ≤ length A
    → Told n (part A (name_start T q) (name_length T q)) r

-- ---- going down

-- A name may lead through the entries from `first` up to `row`.
pub record WalkRoom (T : Bytes) (first row : ℕ) : Type 0 where
  pub table : table_bytes ≤ length T
  pub order : first < row
  pub below : row < max_values

-- The link at which a walk in a trie ends.
pub record Reached (T n : Bytes) (stop first : ℕ) (t : Trie) (at : ℕ) : Type 0 where
  pub row : ℕ
  pub turn : Bool
  pub below : Trie
  pub is : at ≡ place row + side turn
  pub walk : Walk n stop row turn below first false t
  pub ends : Ends stop below
  pub holds : Holds T row turn below

-- Such a link, whatever the table holds.
pub record Descended (T n : Bytes) (first row stop at : ℕ) : Type 0 where
  pub low : place first ≤ at
  pub high : at + 4 ≤ place row
  pub run : stop ≤ 1073741824 → (t : Trie) → Holds T first false t → Ordered [] 0 t → ((k : ℕ) → Node k t → (first < k) × (k < row))
      → Reached T n stop first t at

-- A walk that ended before `stop`: every stop above the ranks passed and not above this one ends it there.
pub record Stopped (T n : Bytes) (first row stop : ℕ) (r : Ended) : Type 0 where
  pub least : r.from ≤ stop
  pub link : r.link ≡ link_in (word_at T r.at)
  pub all : (c : ℕ) → r.from ≤ c → (c ≤ 1073741824 → c ≤ stop) → Descended T n first row c r.at

-- A link leads to no node between two rows.
abbrev pub NoNode : ℕ → ℕ → ℕ → Type 0
NoNode link first row = first < link / 2 → link / 2 < row → link % 2 ≡ 0

-- It leads to the node of a row.
abbrev pub IsNode : ℕ → ℕ → ℕ → ℕ → Type 0
IsNode link first row k = (k ≡ link / 2) × (link % 2 ≡ 0 → ⊥) × (first < k) × (k < row)

abbrev pub NodeOf : ℕ → ℕ → ℕ → Option ℕ → Type 0
NodeOf link first row None = NoNode link first row
NodeOf link first row (Some k) = IsNode link first row k

-- The number w as a rank r from `from` up to `stop`; not below `stop` if it is none.
abbrev pub RankOf : ℕ → ℕ → ℕ → ℕ → Type 0
RankOf w from stop r = (r < stop → (r ≡ w) × (from ≤ r) × (r < 1073741824)) × (stop ≤ r → from ≤ w → stop ≤ w)

-- ---- a node for a new member

-- What the table is with a rank and links in the entry of `row`.
unfoldable pub noded : Bytes → ℕ → ℕ → ℕ → ℕ → Bytes
noded T row rank left right = sets T (place row) (word (left + rank % 32768 * 131072) ++ word (right + rank / 32768 * 131072))

-- With another link in the word at a place.
unfoldable pub relinked : Bytes → ℕ → ℕ → Bytes
relinked T at link = sets T at (word (word_at T at - link_in (word_at T at) + link))

-- With the node of `row` at that link: the new leaf on its side, what hung there on the other.
unfoldable pub forked : Bytes → ℕ → ℕ → ℕ → Bool → Bytes
forked T at row rank false = noded (relinked T at (row * 2 + 1)) row rank (row * 2) (link_in (word_at T at))
forked T at row rank true = noded (relinked T at (row * 2 + 1)) row rank (link_in (word_at T at)) (row * 2)

pub record Forked (T : Bytes) (at row rank turn : ℕ) (T' : Bytes) : Type 0 where
  pub is : (b : Bool) → turn ≡ side b → T' ≡ forked T at row rank b
  pub old : word_at T at < 4294967296

-- ---- finding a member

-- The row of a slot, if the name in it is this one.
pub record NamedSlot (T A : Bytes) (slot : ℕ) (n : Bytes) (r : Option ℕ) : Type 0 where
  pub is :
      slot + 1 < max_values → name_start T slot + name_length T slot ≤ length A
      → r ≡ cond (same_bytes n (part A (name_start T slot) (name_length T slot))) (Some (slot + 1)) None
