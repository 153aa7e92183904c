-- What `enter` promises, from what its steps do. Over plain values.
use Rattle.std.specs.Prelude.{Option, None, Some}
use mathlib.Core.Path.{◌≡◌, refl, sym, ap, ◌∙◌, subst}
use mathlib.Core.Bool.{Bool, true, false}
use mathlib.Core.List.{List, [], ◌∷◌, ◌++◌}
use mathlib.Core.Logic.{inl, ⊎_elim}
use Prim.Native.Nat.{ℕ, ◌+◌, ◌*◌, ◌/◌, ◌%◌, ◌<◌, ◌≤◌}
use native.Mathlib.Omega.{arith}
use native.Mathlib.Nat.{add-zero}
use lib.ListN.{length, take}
use lib.Seq.{sets, length-sets}
use Rattle.model.specs.Bytes.{Bytes}
use Rattle.model.proofs.Laws.Widths.{values_below, values_linked}
use Rattle.model.specs.Limits.{max_values}
use Rattle.model.proofs.Laws.Logic.{clash}
use Rattle.syntax.specs.Layout.{row_bytes, entry_bytes, table_bytes}
use Rattle.area.specs.Words.{word, word_at}
use Rattle.area.specs.Laws.{take_sets_before, length_word, word_read}
use Rattle.name_index.specs.declared.Ended.{Ended}
use Rattle.name_index.specs.Bits.{bit_at, Critical}
use Rattle.name_index.specs.Trie.{Trie, leaf, node, Leaf, Node, Ordered, Ends}
use Rattle.name_index.specs.Slots.{Has, names, among, Named, Within, place, entry, side, link_in, Holds, Tree, Indexed, Room, Entered}
use Rattle.name_index.specs.Inner.{Told, ToldOf, Reached, Descended, Stopped, noded, relinked, forked, Forked}
use Rattle.name_index.specs.Laws.Slots.{has_old, has_new, has_cases, among_true, among_false, entry_word, entry_before, entry_behind, entry_other}
use Rattle.name_index.proofs.Trie.{found, found_leaf, member_found, walk_found, walk_leaf, walk_node, walk_end, walk_apart, walk_outside, graft, leaf_graft, node_graft, graft_leaf, leaf_stays, above, apart_graft, holds_graft, fork, ordered_fork, node_fork, leaf_fork, fork_leaf, fork_stays, apart_fork, Linked, holds_fork}
use Rattle.name_index.proofs.Table.{entry_else, side_small, length_words, forked_linked}
use Rattle.name_index.proofs.Steps.{Between}

-- ---- what stays

pub record Framed (T : Bytes) (first row : ℕ) (T' : Bytes) : Type 0 where
  pub size : length T' ≡ length T
  pub rows : take (max_values * 16) T' ≡ take (max_values * 16) T
  pub kept : (k : ℕ) → k < first → entry T' k ≡ entry T k
  pub later : (k : ℕ) → row < k → entry T' k ≡ entry T k

pub framed_none : (T : Bytes) (first row : ℕ) → Framed T first row T
framed_none T first row = record { size = refl; rows = refl; kept = λ k h. refl; later = λ k h. refl }

-- A store in the entries from `first` to `row`.
framed_store : (T T₀ : Bytes) (first row i : ℕ) (xs : Bytes) → Framed T first row T₀ → place first ≤ i → i + length xs ≤ place row + 8
    → Framed T first row (sets T₀ i xs)
unfolding place row_bytes entry_bytes
framed_store T T₀ first row i xs f l h = record {
  size = length-sets T₀ i xs ∙ f.size;
  rows = take_sets_before (max_values * 16) xs T₀ i (omega arith) ∙ f.rows;
  kept = λ k g. entry_behind T₀ xs i k (omega arith) ∙ f.kept k g;
  later = λ k g. entry_before T₀ xs i k (omega arith) ∙ f.later k g;
}

framed_word : (T T₀ : Bytes) (first row i x : ℕ) → Framed T first row T₀ → place first ≤ i → i + 4 ≤ place row + 8
    → Framed T first row (sets T₀ i (word x))
framed_word T T₀ first row i x f l h = framed_store T T₀ first row i (word x) f l (rw length_word h)

pub framed_forked : (T T' : Bytes) (first row at c turn : ℕ) → Forked T at row c turn T' → first ≤ row → place first ≤ at → at + 4 ≤ place row
    → (b : Bool) → turn ≡ side b → Framed T first row T'
unfolding forked noded relinked place row_bytes entry_bytes
framed_forked T T' first row at c turn f l low high b e = subst (Framed T first row) (sym (f.is b e)) (go b)
  where
    node : (x y : ℕ) → Framed T first row (noded (relinked T at (row * 2 + 1)) row c x y)
    node x y =
        framed_store T _ first row (place row) (word (x + c % 32768 * 131072) ++ word (y + c / 32768 * 131072))
        (framed_word T T first row at _ (framed_none T first row) low (omega arith))
        (omega arith) (rw length_words (omega arith))

    go : (b : Bool) → Framed T first row (forked T at row c b)
    go false = node (row * 2) (link_in (word_at T at))
    go true = node (link_in (word_at T at)) (row * 2)

-- ---- the first member

module _ (T n : Bytes) (first row p : ℕ) (e : row ≡ first) (ep : p ≡ place first) (below : row < max_values) (room : table_bytes ≤ length T) where
  first_table : Bytes
  first_table = sets T p (word (row * 2))

  first_link : link_in (word_at (entry first_table first) 0) ≡ row * 2
  unfolding first_table place row_bytes entry_bytes
  first_link =
      let w : word_at (entry first_table first) 0 ≡ row * 2 =
      entry_word first_table first 0 (omega arith) ∙ ap (word_at first_table) (add-zero (place first) ∙ sym ep)
      ∙ word_read (row * 2) T p (omega (arith, values_below)) (omega arith) in
      omega (arith, values_linked)

  first_tree : Tree first_table first ((row, n) ∷ [])
  first_tree = record {
    trie = leaf row n;
    holds = first_link;
    apart = tt;
    ordered = λ i h. absurd (omega arith);
    root = (n, inl (sym e, refl));
    nodes = λ k x. absurd x;
    leaves = λ r m l. inl l;
    members = λ r m h. ⊎_elim (λ x. x) (λ x. absurd x) h;
  }

  first_framed : Framed T first row first_table
  unfolding first_table place row_bytes entry_bytes
  first_framed = framed_word T T first row p (row * 2) (framed_none T first row) (omega arith) (omega arith)

  first_others : (k : ℕ) → (k ≡ row → ⊥) → entry first_table k ≡ entry T k
  unfolding first_table
  first_others k h =
      ap (λ (z : ℕ). entry (sets T z (word (row * 2))) k) (ep ∙ sym (add-zero (place first)))
      ∙ entry_other T (word (row * 2)) first 0 k (rw length_word (omega arith)) (λ g. h (g ∙ sym e))

entered : (T A : Bytes) (first row : ℕ) (new : Bytes) (b : Bool) (T' : Bytes) → Framed T first row T'
    → ((ms : List (ℕ × Bytes)) → Indexed T first ms → Named T A ms → Within first row ms
    → (k : ℕ) → ((n : Bytes) → Has ms k n → ⊥) → (k ≡ row → ⊥) → entry T' k ≡ entry T k)
    → ((ms : List (ℕ × Bytes)) → Indexed T first ms → Named T A ms → Within first row ms
    → (b ≡ among new (names ms)) × (b ≡ false → Indexed T' first (ms ++ ((row, new) ∷ []))))
    → Entered T A first row new b T'
entered T A first row new b T' f o g = record {
  size = f.size;
  rows = f.rows;
  kept = f.kept;
  later = f.later;
  others = o;
  run = g;
}

pub first_entered : (T A : Bytes) (first row : ℕ) (new : Bytes) (p : ℕ) (T' : Bytes) → Room T first row new → row ≡ first → p ≡ place first
    → T' ≡ sets T p (word (row * 2)) → Entered T A first row new false T'
unfolding first_table Indexed
first_entered T A first row new p T' room e ep s =
    entered T A first row new false T'
    (subst (Framed T first row) (sym s) (first_framed T new first row p e ep room.below room.table))
    (λ ms i n w k f h. ap (λ (t : Bytes). entry t k) s ∙ first_others T new first row p e ep room.below room.table k h)
    (λ ms i n w. subst (λ (l : List (ℕ × Bytes)). (false ≡ among new (names l)) × (false ≡ false → Indexed T' first (l ++ ((row, new) ∷ []))))
    (sym (w.none e)) (
      refl,
      λ h. subst (λ (t : Bytes). Tree t first ((row, new) ∷ [])) (sym s)
          (first_tree T new first row p e ep room.below room.table),
    ))

-- ---- any other member

pub tree_of : (T : Bytes) (first row : ℕ) (ms : List (ℕ × Bytes)) → Within first row ms → (row ≡ first → ⊥) → Indexed T first ms → Tree T first ms
unfolding Indexed
tree_of T first row [] w h i = absurd (h (w.some refl))
tree_of T first row (m ∷ ms) w h i = i

indexed_of : (T : Bytes) (first : ℕ) (ms : List (ℕ × Bytes)) → Tree T first ms → Indexed T first ms
unfolding Indexed
indexed_of T first [] t = tt
indexed_of T first (m ∷ ms) t = t

module _ (T A new : Bytes) (first row : ℕ) (less : first < row) (ms : List (ℕ × Bytes)) (t : Tree T first ms)
    (named : Named T A ms) (within : Within first row ms) where
  between : Between first row t.trie
  between k h = let g = t.nodes k h in (g.0, (within.rows k g.1 g.2).1)

  -- The leaf to which the new name's bits lead.
  there : Leaf (found new t.trie).0 (found new t.trie).1 t.trie
  there = found_leaf new t.trie

  pub has_there : Has ms (found new t.trie).0 (found new t.trie).1
  has_there = t.leaves (found new t.trie).0 (found new t.trie).1 there

  pub found_link : (at x : ℕ) → Descended T new first row 1073741824 at → x ≡ link_in (word_at T at) → x ≡ (found new t.trie).0 * 2
  found_link at x d ex =
      let r = d.run (omega arith) t.trie t.holds t.ordered between in
      let a = above [] 0 r.walk t.ordered in
      ex ∙ ap link_in (ap (word_at T) r.is ∙ sym (entry_word T r.row (side r.turn) (side_small r.turn (side r.turn) refl)))
      ∙ go r.row r.turn r.below a.pattern a.least a.ordered r.ends r.holds
      ∙ ap (λ (z : ℕ × Bytes). z.0 * 2) (sym (walk_found r.walk))
    where
      go : (j : ℕ) (s : Bool) (u : Trie) (p : Bytes) (from : ℕ) → Ordered p from u → Ends 1073741824 u → Holds T j s u
          → link_in (word_at (entry T j) (side s)) ≡ (found new u).0 * 2
      go j s (leaf r m) p from o e h = h
      go j s (node m c u) p from o e h = absurd (omega (arith, o.1))

  -- How the new name compares with the one there.
  compared : (x : ℕ) (r : Option ℕ) → x ≡ (found new t.trie).0 * 2 → ToldOf T A x row new r → Told new (found new t.trie).1 r
  compared x r e f =
      subst (λ (m : Bytes). Told new m r) (sym (named.name (found new t.trie).0 (found new t.trie).1 has_there))
      (f (found new t.trie).0 e (within.rows (found new t.trie).0 (found new t.trie).1 has_there).1
      (named.inside (found new t.trie).0 (found new t.trie).1 has_there))

  -- A member of the new name is the one there.
  pub is_found : (r : ℕ) (m : Bytes) → Has ms r m → new ≡ m → ((found new t.trie).0 ≡ r) × ((found new t.trie).1 ≡ m)
  is_found r m h e =
      let g : found new t.trie ≡ (r, m) = ap (λ (z : Bytes). found z t.trie) e ∙ member_found [] 0 t.trie t.ordered r m (t.members r m h) in
      (ap (λ (z : ℕ × Bytes). z.0) g, ap (λ (z : ℕ × Bytes). z.1) g)

  known : new ≡ (found new t.trie).1 → true ≡ among new (names ms)
  known e = sym (among_true new ms (found new t.trie).0 (found new t.trie).1 has_there e)

  module _ (c : ℕ) (crit : Critical new (found new t.trie).1 c) where
    unknown : false ≡ among new (names ms)
    unknown = sym (among_false new ms (λ r m h e. crit.differ (ap (λ (z : Bytes). bit_at z c)
        (e ∙ sym (is_found r m h e).1))))

    module _ (at turn : ℕ) (T' : Bytes) (d : Descended T new first row c at) (et : turn ≡ side (bit_at new c)) (f : Forked T at row c turn T')
        (below : row < max_values) (room : table_bytes ≤ length T) where
      r : Reached T new c first t.trie at
      r = d.run (omega (arith, crit.small)) t.trie t.holds t.ordered between

      j_less : r.row < row
      j_less = ⊎_elim (λ e. omega (arith, e.0)) (λ h. (between r.row h).1) (walk_end r.walk)

      linked : Linked T T' r.row r.turn row c (bit_at new c)
      linked =
          forked_linked T T' at row c turn r.row r.turn (bit_at new c) f r.is et j_less below room crit.small

      -- The entry that holds the link is a member's.
      has_link : (m : Bytes) × Has ms r.row m
      has_link = ⊎_elim
          (λ e. (t.root.0, subst (λ (z : ℕ). Has ms z t.root.0) (sym e.0) t.root.1))
          (λ h. let g = t.nodes r.row h in (g.1, g.2))
          (walk_end r.walk)

      others : (k : ℕ) → ((m : Bytes) → Has ms k m → ⊥) → (k ≡ row → ⊥) → entry T' k ≡ entry T k
      others k g h =
          entry_else T T' at row c turn r.row r.turn (bit_at new c) f r.is et j_less below room crit.small k h
          (λ e. g has_link.0 (subst (λ (z : ℕ). Has ms z has_link.0) (sym e) has_link.1))

      fresh : (i : ℕ) → Node i t.trie → i ≡ row → ⊥
      fresh i h e = omega (arith, between i h)

      grown : Tree T' first (ms ++ ((row, new) ∷ []))
      grown =
          let w = r.walk in
          let u = r.below in
          let v = fork new c row u in
          let a = above [] 0 w t.ordered in
          let same = walk_found w in
          record {
            trie = graft w v;
            holds = holds_graft linked.same v w (λ e. omega arith) (λ h. omega (arith, between first h)) fresh t.apart t.holds
                (holds_fork new u linked (λ i h. (fresh i (walk_node w i h), λ e. walk_outside w t.apart (λ g. omega (arith, between first g)) (subst (λ (z : ℕ). Node z u) e h))) r.holds);
            apart = apart_graft row v (node_fork new c row u) w (apart_fork new c row u (λ h. fresh row (walk_node w row h) refl) (walk_apart w t.apart)) fresh t.apart;
            ordered = a.grafted v (ordered_fork new c row u a.pattern a.least a.ordered (a.low (omega arith)) r.ends
                (subst (λ (z : ℕ × Bytes). Critical new z.1 c) same crit));
            root = (t.root.0, has_old ms (row, new) first t.root.0 t.root.1);
            nodes = λ k h. ⊎_elim
                (λ g. old_node k g)
                (λ g. ⊎_elim (λ e. (omega arith, new, subst (λ (z : ℕ). Has (ms ++ ((row, new) ∷ [])) z new) (sym e) (has_new ms row new))) (λ x. old_node k (walk_node w k x)) (node_fork new c row u k g))
                (node_graft w v k h);
            leaves = λ q m h. ⊎_elim
                (λ g. has_old ms (row, new) q m (t.leaves q m g))
                (λ g. ⊎_elim
                (λ e. subst (λ (z : ℕ). Has (ms ++ ((row, new) ∷ [])) z m) (sym e.0) (subst (λ (z : Bytes). Has (ms ++ ((row, new) ∷ [])) row z) (sym e.1) (has_new ms row new)))
                (λ x. has_old ms (row, new) q m (t.leaves q m (walk_leaf w q m x)))
                (leaf_fork new c row u q m g))
                (leaf_graft w v q m h);
            members = λ q m h. ⊎_elim
                (λ g. leaf_stays w v q m (fork_stays new c row u q m) (t.members q m g))
                (λ e. subst (λ (z : ℕ). Leaf z m (graft w v)) (sym e.0) (subst (λ (z : Bytes). Leaf row z (graft w v)) (sym e.1) (graft_leaf w v row new (fork_leaf new c row u))))
                (has_cases ms (row, new) q m h);
          }
        where
          old_node : (k : ℕ) → Node k t.trie → (first < k) × (n : Bytes) × Has (ms ++ ((row, new) ∷ [])) k n
          old_node k h = let g = t.nodes k h in (g.0, g.1, has_old ms (row, new) k g.1 g.2)

module _ (T A : Bytes) (first row : ℕ) (new : Bytes) (room : Room T first row new) (other : row ≡ first → ⊥) (end : Ended)
    (stopped : Stopped T new first row 1073741824 end) where
  less : first < row
  less = omega (arith, room.order)

  down : Descended T new first row 1073741824 end.at
  down = stopped.all 1073741824 stopped.least (λ h. h)

  pub same_entered : ToldOf T A end.link row new None → Entered T A first row new true T
  same_entered told =
      entered T A first row new true T (framed_none T first row) (λ ms i n w k f h. refl)
      (λ ms i n w.
      let t = tree_of T first row ms w other i in (
        known T A new first row less ms t n w
            (compared T A new first row less ms t n w end.link None (found_link T A new first row less ms t n w end.at end.link down stopped.link) told),
        λ e. clash cc,
      ))

  pub fork_entered : (c at turn : ℕ) (T' : Bytes) → ToldOf T A end.link row new (Some c) → Descended T new first row c at
      → turn ≡ side (bit_at new c) → Forked T at row c turn T' → Entered T A first row new false T'
  fork_entered c at turn T' told d et f =
      entered T A first row new false T' (framed_forked T T' first row at c turn f room.order d.low d.high (bit_at new c) et)
      (λ ms i n w k g h.
      let t = tree_of T first row ms w other i in
      let crit = compared T A new first row less ms t n w end.link (Some c) (found_link T A new first row less ms t n w end.at end.link down stopped.link) told in
      others T A new first row less ms t n w c crit at turn T' d et f room.below room.table k g h)
      (λ ms i n w.
      let t = tree_of T first row ms w other i in
      let crit = compared T A new first row less ms t n w end.link (Some c) (found_link T A new first row less ms t n w end.at end.link down stopped.link) told in (
        unknown T A new first row less ms t n w c crit,
        λ e. indexed_of T' first (ms ++ ((row, new) ∷ []))
            (grown T A new first row less ms t n w c crit at turn T' d et f room.below room.table),
      ))
