-- Slots: where the trie of an object's names lies in a table, and what entering a name promises.
-- The slot of a member is the number of its row, less one: row 0 is no member.
use Rattle.std.specs.Prelude.{◌≡◌, Bool, true, false, List, [], ◌∷◌, ◌++◌, map, ◌⊎◌, ℕ, ◌+◌, ◌*◌, ◌/◌, ◌%◌, ◌<◌, ◌≤◌, length, take, drop}
use Rattle.model.specs.Bytes.{Bytes, same_bytes}
use Rattle.model.specs.Limits.{max_values, max_text_bytes}
use Rattle.model.specs.Lists.{any}
use Rattle.area.specs.Words.{word_at}
use Rattle.syntax.specs.Layout.{row_bytes, entry_bytes, table_bytes}
use Rattle.name_index.specs.Bits.{part}
use Rattle.name_index.specs.Trie.{Trie, leaf, node, Leaf, Node, Apart, Ordered}

-- ---- members: their rows and names, in the object's order

abbrev pub Has : List (ℕ × Bytes) → ℕ → Bytes → Type 0
Has [] r n = ⊥
Has (m ∷ ms) r n = ((r ≡ m.0) × (n ≡ m.1)) ⊎ Has ms r n

abbrev pub names : List (ℕ × Bytes) → List Bytes
names ms = map (λ m. m.1) ms

-- A name's bytes are those of one in the list.
abbrev pub among : Bytes → List Bytes → Bool
among n seen = any (same_bytes n) seen

-- ---- rows: sixteen bytes each. The first word holds the kind and 256 times the length of the name, the second where
-- the name begins in the strings.

abbrev pub name_length : Bytes → ℕ → ℕ
name_length T r = word_at T (r * 16 + 16) / 256

abbrev pub name_start : Bytes → ℕ → ℕ
name_start T r = word_at T (r * 16 + 20)

-- The rows of the members say their names.
pub record Named (T A : Bytes) (ms : List (ℕ × Bytes)) : Type 0 where
  pub inside : (r : ℕ) (n : Bytes) → Has ms r n → name_start T r + name_length T r ≤ length A
  pub name : (r : ℕ) (n : Bytes) → Has ms r n → n ≡ part A (name_start T r) (name_length T r)

-- The members stand in slots from `first` up to `row`, and there are none exactly where the two are the same.
pub record Within (first row : ℕ) (ms : List (ℕ × Bytes)) : Type 0 where
  pub rows : (r : ℕ) (n : Bytes) → Has ms r n → (first ≤ r) × (r < row)
  pub none : row ≡ first → ms ≡ []
  pub some : ms ≡ [] → row ≡ first

-- ---- entries: two words for each row, behind the rows. A node's entry holds its rank and a link for each side. The
-- root's link is the left one of the entry `first`. A link is twice the row of a leaf, or one more than twice that of a node.

unfoldable pub place : ℕ → ℕ
place k = max_values * row_bytes + k * entry_bytes

unfoldable pub entry : Bytes → ℕ → Bytes
entry T k = take entry_bytes (drop (place k) T)

-- Where the word of a side lies in an entry.
abbrev pub side : Bool → ℕ
side false = 0
side true = 4

-- A word has a link in its lowest 17 bits. Above them the first has the lowest 15 bits of the rank, the second the others.
abbrev pub link_in : ℕ → ℕ
link_in w = w % 131072

abbrev pub rank_in : ℕ → ℕ → ℕ
rank_in x y = x / 131072 + y / 131072 * 32768

abbrev pub rank_at : Bytes → ℕ → ℕ
rank_at T k = rank_in (word_at (entry T k) 0) (word_at (entry T k) 4)

abbrev pub link_at : Bytes → ℕ → Bool → ℕ
link_at T k b = link_in (word_at (entry T k) (side b))

-- A trie hangs at a link.
abbrev pub Holds : Bytes → ℕ → Bool → Trie → Type 0
Holds T k b (leaf r n) = link_at T k b ≡ r * 2
Holds T k b (node j c t) = (link_at T k b ≡ j * 2 + 1) × (rank_at T j ≡ c) × ((s : Bool) → Holds T j s (t s))

-- The index of some members: a trie of exactly these, its nodes in their entries.
pub record Tree (T : Bytes) (first : ℕ) (ms : List (ℕ × Bytes)) : Type 0 where
  pub trie : Trie
  pub holds : Holds T first false trie
  pub apart : Apart trie
  pub ordered : Ordered [] 0 trie
  pub root : (n : Bytes) × Has ms first n
  pub nodes : (k : ℕ) → Node k trie → (first < k) × (n : Bytes) × Has ms k n
  pub leaves : (r : ℕ) (n : Bytes) → Leaf r n trie → Has ms r n
  pub members : (r : ℕ) (n : Bytes) → Has ms r n → Leaf r n trie

unfoldable pub Indexed : Bytes → ℕ → List (ℕ × Bytes) → Type 0
Indexed T first [] = Unit {0}
Indexed T first (m ∷ ms) = Tree T first (m ∷ ms)

-- ---- entering a name for the member in the slot `row` of the object whose first is in `first`

pub record Room (T : Bytes) (first row : ℕ) (name : Bytes) : Type 0 where
  pub table : table_bytes ≤ length T
  pub order : first ≤ row
  pub below : row < max_values
  pub short : length name ≤ max_text_bytes

-- Rows stay as they are, and so do the entries before `first`, behind `row`, and of slots that are no member's. The answer tells whether the name is
-- among those of the members so far; if it is not, the index is then that of these and the new one.
pub record Entered (T A : Bytes) (first row : ℕ) (name : Bytes) (b : Bool) (T' : Bytes) : Type 0 where
  pub size : length T' ≡ length T
  pub rows : take (max_values * 16) T' ≡ take (max_values * 16) T
  pub kept : (k : ℕ) → k < first → entry T' k ≡ entry T k
  pub later : (k : ℕ) → row < k → entry T' k ≡ entry T k
  pub others : (ms : List (ℕ × Bytes)) → Indexed T first ms → Named T A ms → Within first row ms
      → (k : ℕ) → ((n : Bytes) → Has ms k n → ⊥) → (k ≡ row → ⊥) → entry T' k ≡ entry T k
  pub run : (ms : List (ℕ × Bytes)) → Indexed T first ms → Named T A ms → Within first row ms
      → (b ≡ among name (names ms)) × (b ≡ false → Indexed T' first (ms ++ ((row, name) ∷ [])))
