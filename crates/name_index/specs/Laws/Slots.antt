-- Laws of the index that callers of `enter` cite.
use Rattle.std.specs.Prelude.{◌≡◌, refl, Bool, true, false, ◌||◌, List, [], ◌∷◌, ◌++◌, ◌⊎◌, ℕ, ◌+◌, ◌*◌, ◌-◌, ◌≤◌, length, drop}
use Rattle.std.proofs.Math.Path.{ap}
use Rattle.std.proofs.Common.{◌∙◌, subst, inl, inr, ⊎_elim}
use native.Mathlib.Omega.{arith}
use Rattle.std.proofs.Math.Decide.{dec_lt}
use Rattle.std.proofs.Math.Dec.{T}
use Rattle.std.proofs.Math.ListN.{take}
use Rattle.std.proofs.lemmas.List.Edits.{sets}
use Rattle.model.specs.Bytes.{Bytes, same_bytes}
use Rattle.model.specs.Limits.{max_values}
use Rattle.model.proofs.Laws.Logic.{bytes→≡, bytes_refl}
use Rattle.area.specs.Words.{word_at}
use Rattle.area.specs.Laws.{drop_sets_behind, drop_sets_add, take_sets_before, word_at_take, word_at_drop}
use Rattle.syntax.specs.Layout.{row_bytes, entry_bytes}
use Rattle.name_index.specs.Trie.{Trie, leaf, node, Node}
use Rattle.name_index.specs.Slots.{Has, names, among, place, entry, Holds, Tree, Indexed}

-- ---- one member more

pub has_old : (ms : List (ℕ × Bytes)) (m : ℕ × Bytes) (r : ℕ) (n : Bytes) → Has ms r n → Has (ms ++ (m ∷ [])) r n
has_old [] m r n h = absurd h
has_old (x ∷ ms) m r n (inl e) = inl e
has_old (x ∷ ms) m r n (inr h) = inr (has_old ms m r n h)

pub has_new : (ms : List (ℕ × Bytes)) (r : ℕ) (n : Bytes) → Has (ms ++ ((r, n) ∷ [])) r n
has_new [] r n = inl (refl, refl)
has_new (x ∷ ms) r n = inr (has_new ms r n)

pub has_cases : (ms : List (ℕ × Bytes)) (m : ℕ × Bytes) (r : ℕ) (n : Bytes) → Has (ms ++ (m ∷ [])) r n
    → Has ms r n ⊎ ((r ≡ m.0) × (n ≡ m.1))
has_cases [] m r n (inl e) = inr e
has_cases [] m r n (inr h) = absurd h
has_cases (x ∷ ms) m r n (inl e) = inl (inl e)
has_cases (x ∷ ms) m r n (inr h) = ⊎_elim (λ g. inl (inr g)) inr (has_cases ms m r n h)

-- ---- a name among those of the members

or_true : (a b : Bool) → b ≡ true → (a || b) ≡ true
or_true true b h = refl
or_true false b h = h

or_first : (a b : Bool) → T a → (a || b) ≡ true
or_first true b h = refl
or_first false b h = absurd h

or_none : (a b : Bool) → (T a → ⊥) → b ≡ false → (a || b) ≡ false
or_none true b h e = absurd (h tt)
or_none false b h e = e

pub among_true : (n : Bytes) (ms : List (ℕ × Bytes)) (r : ℕ) (m : Bytes) → Has ms r m → n ≡ m → among n (names ms) ≡ true
among_true n [] r m h e = absurd h
among_true n (x ∷ ms) r m (inl g) e = or_first (same_bytes n x.1) (among n (names ms)) (subst (λ (z : Bytes). T (same_bytes n z)) (e ∙ g.1) (bytes_refl n))
among_true n (x ∷ ms) r m (inr h) e = or_true (same_bytes n x.1) (among n (names ms)) (among_true n ms r m h e)

pub among_false : (n : Bytes) (ms : List (ℕ × Bytes)) → ((r : ℕ) (m : Bytes) → Has ms r m → n ≡ m → ⊥) → among n (names ms) ≡ false
among_false n [] f = refl
among_false n (x ∷ ms) f =
    or_none (same_bytes n x.1) (among n (names ms)) (λ h. f x.0 x.1 (inl (refl, refl)) (bytes→≡ n x.1 h))
    (among_false n ms (λ r m h. f r m (inr h)))

-- ---- entries

-- What is stored in the rows leaves the entries.
pub entry_rows : (T xs : Bytes) (i k : ℕ) → i + length xs ≤ max_values * 16 → entry (sets T i xs) k ≡ entry T k
unfolding entry place row_bytes entry_bytes
entry_rows T xs i k h = ap (take entry_bytes) (drop_sets_behind (place k) xs T i (omega arith))

-- A word of an entry is one of the table.
pub entry_word : (T : Bytes) (k o : ℕ) → o ≤ 4 → word_at (entry T k) o ≡ word_at T (place k + o)
unfolding entry entry_bytes
entry_word T k o h = word_at_take 8 (drop (place k) T) o (omega arith) ∙ word_at_drop (place k) T o

module _ (T xs : Bytes) where
  -- What is stored before an entry, and behind it.
  pub entry_before : (i k : ℕ) → i + length xs ≤ place k → entry (sets T i xs) k ≡ entry T k
  unfolding entry
  entry_before i k h = ap (take entry_bytes) (drop_sets_behind (place k) xs T i h)

  pub entry_behind : (i k : ℕ) → place k + 8 ≤ i → entry (sets T i xs) k ≡ entry T k
  unfolding entry entry_bytes
  entry_behind i k h =
      let e : i ≡ place k + (i - place k) = omega arith in
      ap (λ (z : ℕ). take 8 (drop (place k) (sets T z xs))) e ∙ ap (take 8) (drop_sets_add (place k) xs T (i - place k))
      ∙ take_sets_before 8 xs (drop (place k) T) (i - place k) (omega arith)

  -- What is stored in an entry leaves the others.
  pub entry_other : (j o k : ℕ) → o + length xs ≤ 8 → (k ≡ j → ⊥) → entry (sets T (place j + o) xs) k ≡ entry T k
  unfolding place row_bytes entry_bytes
  entry_other j o k h ne = elim (dec_lt j k) [
    | yes l ↦ entry_before (place j + o) k (omega arith)
    | no l ↦ entry_behind (place j + o) k (omega (arith, l, ne))
  ]

-- ---- the index

pub indexed_none : (T : Bytes) (first : ℕ) → Indexed T first []
unfolding Indexed
indexed_none T first = tt

holds_same : (T T' : Bytes) (t : Trie) (k : ℕ) (b : Bool) → entry T' k ≡ entry T k → ((i : ℕ) → Node i t → entry T' i ≡ entry T i) → Holds T k b t
    → Holds T' k b t
holds_same T T' (leaf r n) k b e f h = rw e h
holds_same T T' (node m c t) k b e f h =
    let g = f m (inl refl) in
    (rw e h.0, rw g h.1, λ s. holds_same T T' (t s) m s g (λ i x. f i (inr (s, x))) (h.2 s))

-- It goes by the entries of its members alone.
tree_same : (T T' : Bytes) (first : ℕ) (ms : List (ℕ × Bytes)) → ((k : ℕ) (n : Bytes) → Has ms k n → entry T' k ≡ entry T k)
    → Tree T first ms → Tree T' first ms
tree_same T T' first ms same t = record {
  trie = t.trie;
  holds = holds_same T T' t.trie first false (same first t.root.0 t.root.1)
      (λ i x. let g = t.nodes i x in same i g.1 g.2) t.holds;
  apart = t.apart;
  ordered = t.ordered;
  root = t.root;
  nodes = t.nodes;
  leaves = t.leaves;
  members = t.members;
}

pub indexed_same : (T T' : Bytes) (first : ℕ) (ms : List (ℕ × Bytes)) → ((k : ℕ) (n : Bytes) → Has ms k n → entry T' k ≡ entry T k)
    → Indexed T first ms → Indexed T' first ms
unfolding Indexed
indexed_same T T' first [] same h = tt
indexed_same T T' first (m ∷ ms) same h = tree_same T T' first (m ∷ ms) same h
