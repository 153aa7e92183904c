-- Laws of the entries of a table.
use mathlib.Core.Path.{◌≡◌, refl, sym, ap, ap₂, ◌∙◌, subst}
use mathlib.Core.Bool.{Bool, true, false, not}
use mathlib.Core.List.{[], ◌++◌}
use Prim.Native.Nat.{ℕ, ◌+◌, ◌*◌, ◌-◌, ◌/◌, ◌%◌, ◌<◌, ◌≤◌}
use native.Mathlib.Omega.{arith}
use native.Mathlib.Decide.{dec_lt, ℕ_discrete}
use lib.ListN.{length, take, drop, length-take, length-drop}
use lib.Seq.{sets, length-sets}
use Rattle.model.specs.Bytes.{Bytes}
use Rattle.model.proofs.Laws.Logic.{clash}
use Rattle.model.proofs.Laws.Widths.{values_linked}
use Rattle.model.specs.Limits.{max_values}
use Rattle.syntax.specs.Layout.{row_bytes, entry_bytes, table_bytes}
use Rattle.area.specs.Words.{word, word_at}
use Rattle.area.specs.Laws.{sets_append, drop_sets_add, take_sets, part_sets, word_at_word, length_word, word_read, word_at_sets_before, word_at_sets_behind}
use Rattle.name_index.specs.Slots.{place, entry, side, link_in, rank_in, rank_at, link_at}
use Rattle.name_index.specs.Laws.Slots.{entry_word, entry_before, entry_behind, entry_other}
use Rattle.name_index.specs.Inner.{noded, relinked, forked, Forked}
use Rattle.name_index.proofs.Trie.{Linked}

-- ---- one entry

pub side_small : (b : Bool) (z : ℕ) → z ≡ side b → z ≤ 4
side_small false z e = omega arith
side_small true z e = omega arith

pub length_entry : (T : Bytes) (k : ℕ) → place k + 8 ≤ length T → length (entry T k) ≡ 8
unfolding entry entry_bytes
length_entry T k h = simp (length-take, length-drop) (omega arith)

module _ (T xs : Bytes) where
  -- What is stored in an entry.
  pub entry_in : (k o : ℕ) → o + length xs ≤ 8 → entry (sets T (place k + o) xs) k ≡ sets (entry T k) o xs
  unfolding entry entry_bytes
  entry_in k o h = ap (take 8) (drop_sets_add (place k) xs T o) ∙ take_sets 8 xs (drop (place k) T) o h

  -- The whole entry.
  pub entry_all : (k : ℕ) → length xs ≡ 8 → place k + 8 ≤ length T → entry (sets T (place k) xs) k ≡ xs
  unfolding entry entry_bytes
  entry_all k e h = ap (λ (z : ℕ). take z (drop (place k) (sets T (place k) xs))) (sym e) ∙ part_sets xs T (place k) (omega arith)

  -- A whole entry leaves the others.
  pub entry_apart : (j k : ℕ) → length xs ≡ 8 → (k ≡ j → ⊥) → entry (sets T (place j) xs) k ≡ entry T k
  unfolding place row_bytes entry_bytes
  entry_apart j k h ne = elim (dec_lt j k) [
    | yes l ↦ entry_before T xs (place j) k (omega arith)
    | no l ↦ entry_behind T xs (place j) k (omega (arith, l, ne))
  ]

-- ---- two words of an entry

pub length_words : (x y : ℕ) → length (word x ++ word y) ≡ 8
unfolding word
length_words x y = refl

second_word : (x y : ℕ) → y < 4294967296 → word_at (word x ++ word y) 4 ≡ y
unfolding word word_at
second_word x y h = word_at_word y [] h

-- A link with a part of a rank above it.
module _ (link part : ℕ) (l : link < 131072) where
  pub packed_link : link_in (link + part * 131072) ≡ link
  packed_link = omega arith

  packed_rest : (link + part * 131072) / 131072 ≡ part
  packed_rest = omega arith

  pub packed_small : part < 32768 → link + part * 131072 < 4294967296
  packed_small h = omega arith

-- The entry of a node.
abbrev words : ℕ → ℕ → ℕ → Bytes
words c x y = word (x + c % 32768 * 131072) ++ word (y + c / 32768 * 131072)

module _ (c x y : ℕ) (hc : c < 1073741824) (hx : x < 131072) (hy : y < 131072) where
  low : c % 32768 < 32768
  low = omega arith

  high : c / 32768 < 32768
  high = omega arith

  first_is : word_at (words c x y) 0 ≡ x + c % 32768 * 131072
  first_is = word_at_word (x + c % 32768 * 131072) (word (y + c / 32768 * 131072)) (packed_small x (c % 32768) hx low)

  second_is : word_at (words c x y) 4 ≡ y + c / 32768 * 131072
  second_is = second_word (x + c % 32768 * 131072) (y + c / 32768 * 131072) (packed_small y (c / 32768) hy high)

  node_left : link_in (word_at (words c x y) 0) ≡ x
  node_left = ap link_in first_is ∙ packed_link x (c % 32768) hx

  node_right : link_in (word_at (words c x y) 4) ≡ y
  node_right = ap link_in second_is ∙ packed_link y (c / 32768) hy

  node_rank : rank_in (word_at (words c x y) 0) (word_at (words c x y) 4) ≡ c
  node_rank =
      ap₂ rank_in first_is second_is
      ∙ ap₂ (λ (a b : ℕ). a + b * 32768) (packed_rest x (c % 32768) hx) (packed_rest y (c / 32768) hy) ∙ omega arith

-- The words of an entry in which one link is new.
module _ (e : Bytes) (x : ℕ) (l : length e ≡ 8) (h : x < 131072) where
  changed : ℕ → ℕ
  changed w = w - link_in w + x

  changed_link : (w : ℕ) → link_in (changed w) ≡ x
  unfolding changed
  changed_link w = omega arith

  changed_rest : (w : ℕ) → changed w / 131072 ≡ w / 131072
  unfolding changed
  changed_rest w = omega arith

  changed_small : (w : ℕ) → w < 4294967296 → changed w < 4294967296
  unfolding changed
  changed_small w g = omega arith

  -- The entry with the link of a side changed.
  newly : Bool → Bytes
  newly d = sets e (side d) (word (changed (word_at e (side d))))

  set_word : (d : Bool) → word_at e (side d) < 4294967296 → word_at (newly d) (side d) ≡ changed (word_at e (side d))
  unfolding newly
  set_word false g = word_read (changed (word_at e 0)) e 0 (changed_small (word_at e 0) g) (omega arith)
  set_word true g = word_read (changed (word_at e 4)) e 4 (changed_small (word_at e 4) g) (omega arith)

  kept_word : (d s : Bool) → (s ≡ d → ⊥) → word_at (newly d) (side s) ≡ word_at e (side s)
  unfolding newly
  kept_word false false g = absurd (g refl)
  kept_word false true g = word_at_sets_behind (word (changed (word_at e 0))) e 0 4 (rw length_word (omega arith))
  kept_word true false g = word_at_sets_before (word (changed (word_at e 4))) e 4 0 (omega arith)
  kept_word true true g = absurd (g refl)

  set_link : (d : Bool) → word_at e (side d) < 4294967296 → link_in (word_at (newly d) (side d)) ≡ x
  set_link d g = ap link_in (set_word d g) ∙ changed_link (word_at e (side d))

  kept_rank : (d : Bool) → word_at e (side d) < 4294967296 → rank_in (word_at (newly d) 0) (word_at (newly d) 4) ≡ rank_in (word_at e 0) (word_at e 4)
  kept_rank false g =
      ap₂ rank_in (set_word false g) (kept_word false true (λ e. clash cc)) ∙ ap (λ (z : ℕ). z + word_at e 4 / 131072 * 32768) (changed_rest (word_at e 0))
  kept_rank true g =
      ap₂ rank_in (kept_word true false (λ e. clash cc)) (set_word true g) ∙ ap (λ (z : ℕ). word_at e 0 / 131072 + z * 32768) (changed_rest (word_at e 4))

-- ---- a new node

pub two_words : (T T₁ T₂ : Bytes) (row c x y p : ℕ) → p ≡ place row → T₁ ≡ sets T p (word (x + c % 32768 * 131072))
    → T₂ ≡ sets T₁ (p + 4) (word (y + c / 32768 * 131072)) → T₂ ≡ noded T row c x y
unfolding noded
two_words T T₁ T₂ row c x y p e s₁ s₂ =
    let g : p + 4 ≡ place row + length (word (x + c % 32768 * 131072)) = rw length_word (omega arith) in
    s₂ ∙ (λ i. sets (s₁ i) (g i) (word (y + c / 32768 * 131072)))
    ∙ ap (λ (z : ℕ). sets (sets T z (word (x + c % 32768 * 131072))) (place row + length (word (x + c % 32768 * 131072))) (word (y + c / 32768 * 131072))) e
    ∙ sets_append (word (x + c % 32768 * 131072)) (word (y + c / 32768 * 131072)) T (place row)

-- A new leaf on the left, and on the right.
module _ (T T₁ T₂ : Bytes) (at row rank turn w : ℕ) (ew : w ≡ word_at T at) (l : w < 4294967296) (s₁ : T₁ ≡ sets T at (word (w - w % 131072 + (row * 2 + 1)))) where
  pub fork_left : turn ≡ 0 → T₂ ≡ noded T₁ row rank (row * 2) (w % 131072) → Forked T at row rank turn T₂
  unfolding forked relinked
  fork_left et s₂ = record { is = go; old = omega (arith, ew) }
    where
      go : (b : Bool) → turn ≡ side b → T₂ ≡ forked T at row rank b
      go false e = cc
      go true e = absurd (omega arith)

  pub fork_right : (turn ≡ 0 → ⊥) → T₂ ≡ noded T₁ row rank (w % 131072) (row * 2) → Forked T at row rank turn T₂
  unfolding forked relinked
  fork_right et s₂ = record { is = go; old = omega (arith, ew) }
    where
      go : (b : Bool) → turn ≡ side b → T₂ ≡ forked T at row rank b
      go false e = absurd (et e)
      go true e = cc

-- The link x on a side and y on the other.
abbrev links : Bool → ℕ → ℕ → Bool → ℕ
links false x y false = x
links false x y true = y
links true x y false = y
links true x y true = x

links_own : (b : Bool) (x y : ℕ) → links b x y b ≡ x
links_own false x y = refl
links_own true x y = refl

links_other : (b : Bool) (x y : ℕ) → links b x y (not b) ≡ y
links_other false x y = refl
links_other true x y = refl

links_small : (b : Bool) (x y : ℕ) → x < 131072 → y < 131072 → (s : Bool) → links b x y s < 131072
links_small false x y h g false = h
links_small false x y h g true = g
links_small true x y h g false = g
links_small true x y h g true = h

room_word : (b : Bool) (x : ℕ) → side b + length (word x) ≤ 8
room_word false x = rw length_word (omega arith)
room_word true x = rw length_word (omega arith)

module _ (T T' : Bytes) (at row c turn j : ℕ) (d β : Bool) (f : Forked T at row c turn T') (ea : at ≡ place j + side d) (et : turn ≡ side β)
    (less : j < row) (below : row < max_values) (room : table_bytes ≤ length T) (small : c < 1073741824) where
  -- The link that hung there, the word with the new one, and the table with it.
  old : ℕ
  old = link_in (word_at T at)

  linked_word : Bytes
  linked_word = word (word_at T at - link_in (word_at T at) + (row * 2 + 1))

  made : Bytes
  made = sets T (place j + side d) linked_word

  left : ℕ
  left = links β (row * 2) old false

  right : ℕ
  right = links β (row * 2) old true

  is_made : T' ≡ sets made (place row) (words c left right)
  unfolding forked noded relinked made linked_word left right old
  is_made = f.is β et ∙ go β
    where
      table : relinked T at (row * 2 + 1) ≡ made
      table = ap (λ (z : ℕ). sets T z linked_word) ea

      go : (b : Bool) → forked T at row c b ≡ sets made (place row) (words c (links b (row * 2) old false) (links b (row * 2) old true))
      go false = ap (λ (z : Bytes). sets z (place row) (words c (row * 2) old)) table
      go true = ap (λ (z : Bytes). sets z (place row) (words c old (row * 2))) table

  made_else : (k : ℕ) → (k ≡ j → ⊥) → entry made k ≡ entry T k
  unfolding made linked_word
  made_else k g = entry_other T linked_word j (side d) k (room_word d (word_at T at - link_in (word_at T at) + (row * 2 + 1))) g

  not_row : (k : ℕ) → (k ≡ row → ⊥) → entry T' k ≡ entry made k
  not_row k h = ap (λ (e : Bytes). entry e k) is_made ∙ entry_apart made (words c left right) row k (length_words _ _) h

  -- Its entries.
  pub entry_else : (k : ℕ) → (k ≡ row → ⊥) → (k ≡ j → ⊥) → entry T' k ≡ entry T k
  entry_else k h g = not_row k h ∙ made_else k g

  entry_row : entry T' row ≡ words c left right
  unfolding made place row_bytes entry_bytes
  entry_row =
      ap (λ (e : Bytes). entry e row) is_made
      ∙ entry_all made (words c left right) row (length_words _ _) (rw length-sets (omega arith))

  there : word_at T at ≡ word_at (entry T j) (side d)
  there = ap (word_at T) ea ∙ sym (entry_word T j (side d) (side_small d (side d) refl))

  entry_link : entry T' j ≡ sets (entry T j) (side d) (word (word_at (entry T j) (side d) - link_in (word_at (entry T j) (side d)) + (row * 2 + 1)))
  unfolding made linked_word
  entry_link =
      not_row j (λ e. omega arith) ∙ entry_in T linked_word j (side d) (room_word d (word_at T at - link_in (word_at T at) + (row * 2 + 1)))
      ∙ ap (λ (w : ℕ). sets (entry T j) (side d) (word (w - link_in w + (row * 2 + 1)))) there

  eight : length (entry T j) ≡ 8
  unfolding place row_bytes entry_bytes
  eight = length_entry T j (omega arith)

  link_small : row * 2 + 1 < 131072
  link_small = omega (arith, values_linked)

  left_small : left < 131072
  unfolding left old
  left_small = links_small β (row * 2) old (omega (arith, link_small)) (omega arith) false

  right_small : right < 131072
  unfolding right old
  right_small = links_small β (row * 2) old (omega (arith, link_small)) (omega arith) true

  row_link : (s : Bool) → link_at T' row s ≡ links β (row * 2) old s
  unfolding left right
  row_link false = ap (λ (z : Bytes). link_in (word_at z 0)) entry_row ∙ node_left c left right small left_small right_small
  row_link true = ap (λ (z : Bytes). link_in (word_at z 4)) entry_row ∙ node_right c left right small left_small right_small

  word_small : word_at (entry T j) (side d) < 4294967296
  word_small = subst (λ (z : ℕ). z < 4294967296) there f.old

  pub forked_linked : Linked T T' j d row c β
  unfolding old newly changed
  forked_linked = record {
    same = record {
      rank = λ k h. elim (ℕ_discrete k j) [
        | yes e ↦ subst (λ (z : ℕ). rank_at T' z ≡ rank_at T z) (sym e)
            (ap (λ (z : Bytes). rank_in (word_at z 0) (word_at z 4)) entry_link ∙ kept_rank (entry T j) (row * 2 + 1) eight link_small d word_small)
        | no e ↦ ap (λ (z : Bytes). rank_in (word_at z 0) (word_at z 4)) (entry_else k h e)
      ];
      link = λ k s h g. elim (ℕ_discrete k j) [
        | yes e ↦ subst (λ (z : ℕ). link_at T' z s ≡ link_at T z s) (sym e)
            (ap (λ (z : Bytes). link_in (word_at z (side s))) entry_link ∙ ap link_in (kept_word (entry T j) (row * 2 + 1) eight link_small d s (g e)))
        | no e ↦ ap (λ (z : Bytes). link_in (word_at z (side s))) (entry_else k h e)
      ];
    };
    link = ap (λ (z : Bytes). link_in (word_at z (side d))) entry_link ∙ set_link (entry T j) (row * 2 + 1) eight link_small d word_small;
    rank = ap (λ (z : Bytes). rank_in (word_at z 0) (word_at z 4)) entry_row ∙ node_rank c left right small left_small right_small;
    new = row_link β ∙ links_own β (row * 2) old;
    old = row_link (not β) ∙ links_other β (row * 2) old ∙ ap link_in there;
  }
