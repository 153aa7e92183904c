-- Trie: names by the ranks in which they differ. A leaf is a member, its row and its name. A node lies in the entry of
-- a row; at its rank the names below it part.
use Rattle.std.specs.Prelude.{◌≡◌, Bool, true, false, ◌⊎◌, ℕ, ◌+◌, ◌<◌, ◌≤◌}
use Rattle.model.specs.Bytes.{Bytes}
use Rattle.name_index.specs.Bits.{bit_at, Agree}

pub data Trie : Type 0 where
  leaf : (row : ℕ) (name : Bytes) → Trie
  node : (row rank : ℕ) (below : Bool → Trie) → Trie

-- A member of the trie.
abbrev pub Leaf : ℕ → Bytes → Trie → Type 0
Leaf r n (leaf q m) = (r ≡ q) × (n ≡ m)
Leaf r n (node k c t) = (b : Bool) × Leaf r n (t b)

-- The row of a node.
abbrev pub Node : ℕ → Trie → Type 0
Node j (leaf q m) = ⊥
Node j (node k c t) = (j ≡ k) ⊎ ((b : Bool) × Node j (t b))

-- No two nodes lie in one entry.
abbrev pub Apart : Trie → Type 0
Apart (leaf q m) = Unit {0}
Apart (node k c t) =
    ((b : Bool) → Node k (t b) → ⊥) × ((j : ℕ) → Node j (t false) → Node j (t true) → ⊥) × ((b : Bool) → Apart (t b))

-- Ranks rise from `from` on. All names agree with w below it; at a node they agree below its rank, and differ there by
-- the side that they are on.
abbrev pub Ordered : Bytes → ℕ → Trie → Type 0
Ordered w from (leaf q m) = Agree from w m
Ordered w from (node k c t) =
    (from ≤ c) × (c < 1073741824) × (p : Bool → Bytes) × ((b : Bool) → Agree from w (p b))
    × Agree c (p false) (p true) × ((b : Bool) → bit_at (p b) c ≡ b) × ((b : Bool) → Ordered (p b) (c + 1) (t b))

-- ---- walks

-- A walk by the bits of n through nodes of ranks below `stop`, from a link at which a trie hangs to the link (j, d), at
-- which u hangs.
pub data Walk (n : Bytes) (stop j : ℕ) (d : Bool) (u : Trie) : ℕ → Bool → Trie → Type 0 where
  here : Walk n stop j d u j d u
  down : {k : ℕ} {b : Bool} {m c : ℕ} {t : Bool → Trie} → c < stop → Walk n stop j d u m (bit_at n c) (t (bit_at n c))
      → Walk n stop j d u k b (node m c t)

-- A walk ends where there is a leaf or a rank is not below `stop`.
abbrev pub Ends : ℕ → Trie → Type 0
Ends stop (leaf r m) = Unit {0}
Ends stop (node k c t) = stop ≤ c
