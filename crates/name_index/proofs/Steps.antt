-- Laws of the steps of `enter`, over plain values.
use Rattle.std.specs.Prelude.{Option, None, Some}
use mathlib.Core.Path.{◌≡◌, refl, sym, ap, ap₂, ◌∙◌, subst}
use mathlib.Core.Bool.{Bool, true, false}
use mathlib.Core.List.{[]}
use mathlib.Core.Logic.{inl}
use Prim.Native.Nat.{ℕ, ◌+◌, ◌*◌, ◌/◌, ◌%◌, ◌<◌, ◌≤◌}
use native.Mathlib.Omega.{arith}
use native.Mathlib.Nat.{add-zero}
use lib.ListN.{length}
use Rattle.model.specs.Bytes.{Bytes}
use Rattle.area.specs.Words.{word_at}
use Rattle.model.specs.Limits.{max_values}
use Rattle.table.specs.declared.row.Span.{Span}
use Rattle.table.specs.Node.{name_at}
use Rattle.table.specs.declared.row.Row.{Row}
use Rattle.table.specs.Row.{row_at, numbers_at, span}
use Rattle.table.specs.Strings.{bytes_of}
use borrow.Author.Tests.{lt-ltb}
use lib.Dec.{ltb}
use Rattle.syntax.specs.Layout.{row_bytes, entry_bytes, table_bytes}
use Rattle.name_index.specs.Bits.{bit_at}
use Rattle.name_index.specs.Trie.{Trie, leaf, node, Node, Ordered, Walk, here, Ends}
use Rattle.name_index.specs.Slots.{name_start, name_length, place, entry, side, link_in, rank_in, link_at, Holds}
use Rattle.name_index.specs.Laws.Slots.{entry_word}
use Rattle.name_index.specs.Inner.{Told, Ranked, ToldOf, Reached, Stopped, NoNode, IsNode, NodeOf}
use Rattle.name_index.proofs.Trie.{walk_more, walk_node}
use Rattle.name_index.proofs.Table.{side_small}

-- ---- comparing with the name of a leaf's row

-- Where the name of the member in a slot lies.
pub name_there : (T : Bytes) (q : ℕ) → table_bytes ≤ length T → q < max_values → name_at T (q + 1) ≡ span (name_start T q) (name_length T q)
unfolding row_at max_values row_bytes entry_bytes
name_there T q t l =
    let here : ltb (q + 1) (length T / 16) ≡ true = lt-ltb _ _ (omega arith) in
    let a : (q + 1) * 16 + 4 ≡ q * 16 + 20 = omega arith in
    let b : (q + 1) * 16 ≡ q * 16 + 16 = omega arith in
    let there : row_at T (q + 1) ≡ numbers_at T (q + 1) = rw here in
    ap (λ (r : Row). r.name) there ∙ (λ i. span (word_at T (a i)) (word_at T (b i) / 256))

pub told_leaf : (T A : Bytes) (link : ℕ) (n : Bytes) {p : Span} {s : Bytes} (r : Option ℕ) → table_bytes ≤ length T → p ≡ name_at T (link / 2 + 1) → s ≡ bytes_of A p → Told n s r → ToldOf T A link max_values n r
told_leaf T A link n {p} {s} r t ep es told q e l i =
    let h : link / 2 ≡ q = omega arith in
    let here : p ≡ span (name_start T q) (name_length T q) = ep ∙ ap (λ (k : ℕ). name_at T (k + 1)) h ∙ name_there T q t l in
    subst (λ (z : Bytes). Told n z r) (es ∙ ap (bytes_of A) here) told

pub told_below : (T A : Bytes) (link row : ℕ) (n : Bytes) (r : Option ℕ) → row < max_values → ToldOf T A link max_values n r → ToldOf T A link row n r
told_below T A link row n r b f q e l i = f q e (omega arith) i

pub told_ranked : (m n : Bytes) (r : Option ℕ) → Told m n r → Ranked r
told_ranked m n None t = tt
told_ranked m n (Some c) t = t.small

-- ---- going down

-- A link to no node, and to one.
pub no_node : (link first row : ℕ) (r : Option ℕ) → NodeOf link first row r → ((k : ℕ) → r ≡ Some k → ⊥) → NoNode link first row
no_node link first row None n h = n
no_node link first row (Some k) n h = absurd (h k refl)

pub a_node : (link first row k : ℕ) {r : Option ℕ} → NodeOf link first row r → r ≡ Some k → IsNode link first row k
a_node link first row k n e = subst (NodeOf link first row) e n

-- The rank in the entry at a place.
abbrev pub rank_of : Bytes → ℕ → ℕ
rank_of T p = rank_in (word_at T p) (word_at T (p + 4))

-- A walk in a trie, on its way: it stands at a link; ranks are still to rise from `from` on.
pub record Standing (T n : Bytes) (first : ℕ) (t : Trie) (at from : ℕ) : Type 0 where
  pub row : ℕ
  pub turn : Bool
  pub below : Trie
  pub is : at ≡ place row + side turn
  pub walk : (c : ℕ) → from ≤ c → Walk n c row turn below first false t
  pub holds : Holds T row turn below
  pub pattern : Bytes
  pub ordered : Ordered pattern from below

abbrev pub Between : ℕ → ℕ → Trie → Type 0
Between first row t = (k : ℕ) → Node k t → (first < k) × (k < row)

module _ (T n : Bytes) (first row : ℕ) where
  stand_first : (t : Trie) (p : ℕ) → p ≡ place first → Holds T first false t → Ordered [] 0 t → Standing T n first t p 0
  stand_first t p e h o = record {
    row = first;
    turn = false;
    below = t;
    is = e ∙ sym (add-zero (place first));
    walk = λ c l. here;
    holds = h;
    pattern = [];
    ordered = o;
  }

  -- The word x stands there, and y is the rank of the node that it would name.
  module _ (t : Trie) (between : Between first row t) (at from x : ℕ) (s : Standing T n first t at from) (ex : x ≡ link_in (word_at T at)) where
    link_is : link_at T s.row s.turn ≡ x
    link_is = ap link_in (entry_word T s.row (side s.turn) (side_small s.turn (side s.turn) refl) ∙ ap (word_at T) (sym s.is)) ∙ sym ex

    reached : (c : ℕ) → from ≤ c → Ends c s.below → Reached T n c first t at
    reached c l e = record {
      row = s.row;
      turn = s.turn;
      below = s.below;
      is = s.is;
      walk = s.walk c l;
      ends = e;
      holds = s.holds;
    }

    ends_none : (c : ℕ) → NoNode x first row → Ends c s.below
    ends_none c h = go s.below s.holds (walk_node (s.walk from (omega arith)))
      where
        go : (u : Trie) → Holds T s.row s.turn u → ((i : ℕ) → Node i u → Node i t) → Ends c u
        go (leaf r m) g f = tt
        go (node m k u) g f =
            let b = between m (f m (inl refl)) in
            let e : x / 2 ≡ m = omega (arith, link_is, g.0) in
            absurd (omega (arith, link_is, g.0, h (omega (arith, b.0)) (omega (arith, b.1))))

    module _ (y p : ℕ) (ep : p ≡ place (x / 2)) (ey : y ≡ rank_of T p) where
      rank_is : (m k : ℕ) (u : Bool → Trie) → Holds T s.row s.turn (node m k u) → y ≡ k
      rank_is m k u g =
          let e : x / 2 ≡ m = omega (arith, link_is, g.0) in
          let q : p ≡ place m = ep ∙ ap place e in
          let z : word_at T p ≡ word_at (entry T m) 0 = ap (word_at T) (q ∙ sym (add-zero (place m))) ∙ sym (entry_word T m 0 (omega arith)) in
          let w : word_at T (p + 4) ≡ word_at (entry T m) 4 = ap (λ (i : ℕ). word_at T (i + 4)) q ∙ sym (entry_word T m 4 (omega arith)) in
          ey ∙ ap₂ rank_in z w ∙ g.1

      ends_rank : (c : ℕ) → (from ≤ y → c ≤ y) → Ends c s.below
      ends_rank c h = go s.below s.holds s.ordered
        where
          go : (u : Trie) → Holds T s.row s.turn u → Ordered s.pattern from u → Ends c u
          go (leaf r m) g o = tt
          go (node m k u) g o = let e = rank_is m k u g in omega (arith, h (omega (arith, o.0)))

      stand_next : (x % 2 ≡ 0 → ⊥) → from ≤ y → (z : ℕ) → z ≡ side (bit_at n y) → Standing T n first t (p + z) (y + 1)
      stand_next odd l z ez = go s.below s.holds s.walk s.ordered
        where
          go : (u : Trie) → Holds T s.row s.turn u → ((c : ℕ) → from ≤ c → Walk n c s.row s.turn u first false t)
              → Ordered s.pattern from u → Standing T n first t (p + z) (y + 1)
          go (leaf r m) g w o = absurd (odd (omega (arith, link_is, g)))
          go (node m k u) g w o =
              let e : x / 2 ≡ m = omega (arith, link_is, g.0) in
              let q = rank_is m k u g in
              let β = bit_at n k in
              record {
                row = m;
                turn = β;
                below = u β;
                is = ap₂ ◌+◌ (ep ∙ ap place e) (ez ∙ ap (λ (i : ℕ). side (bit_at n i)) q);
                walk = λ c h. walk_more n c s.row s.turn m k u (w c (omega arith)) (omega arith);
                holds = g.2 β;
                pattern = o.2 β;
                ordered = subst (λ (i : ℕ). Ordered (o.2 β) (i + 1) (u β)) (sym q) (o.6 β);
              }

-- Where the loop stands, whatever the table holds.
pub record Going (T n : Bytes) (first row stop at from link : ℕ) : Type 0 where
  pub low : place first ≤ at
  pub high : at + 4 ≤ place row
  pub least : from ≤ stop
  pub small : from ≤ 1073741824
  pub is : link ≡ link_in (word_at T at)
  pub run : (t : Trie) → Holds T first false t → Ordered [] 0 t → Between first row t → Standing T n first t at from

pub going_first : (T n : Bytes) (first row stop p x : ℕ) → first < row → p ≡ place first → x ≡ link_in (word_at T p) → Going T n first row stop p 0 x
unfolding place row_bytes entry_bytes
going_first T n first row stop p x h e ex = record {
  low = omega arith;
  high = omega arith;
  least = omega arith;
  small = omega arith;
  is = ex;
  run = λ t g o b. stand_first T n first row t p e g o;
}

module _ (T n : Bytes) (first row stop at from x : ℕ) (g : Going T n first row stop at from x) where
  done : ((c : ℕ) → (c ≤ 1073741824 → c ≤ stop) → c ≤ 1073741824 → (t : Trie) (b : Between first row t) (s : Standing T n first t at from) → Ends c s.below)
      → Stopped T n first row stop (record { at = at; from = from; link = x })
  done f = record {
    least = g.least;
    link = g.is;
    all = λ c l h. record {
      low = g.low;
      high = g.high;
      run = λ i t hs o b. let s = g.run t hs o b in reached T n first row t b at from x s g.is c l (f c h i t b s);
    };
  }

  pub done_none : NoNode x first row → Stopped T n first row stop (record { at = at; from = from; link = x })
  done_none h = done (λ c l i t b s. ends_none T n first row t b at from x s g.is c h)

  pub done_rank : (k p : ℕ) → k ≡ x / 2 → p ≡ place k → (from ≤ rank_of T p → stop ≤ rank_of T p) → Stopped T n first row stop (record { at = at; from = from; link = x })
  done_rank k p ek ep h =
      done (λ c l i t b s. ends_rank T n first row t b at from x s g.is (rank_of T p) p (ep ∙ ap place ek) refl c (λ o. omega (arith, l i, h o)))

  module _ (y p : ℕ) (ep : p ≡ place (x / 2)) (ey : y ≡ rank_of T p) where
    going_next : (x % 2 ≡ 0 → ⊥) → first < x / 2 → x / 2 < row → y < 1073741824 → from ≤ y → y < stop → (z x' : ℕ) → z ≡ side (bit_at n y)
        → x' ≡ link_in (word_at T (p + z)) → Going T n first row stop (p + z) (y + 1) x'
    unfolding place row_bytes entry_bytes
    going_next odd lo hi small l less z x' ez ex = record {
      low = omega arith;
      high = omega (arith, side_small (bit_at n y) z ez);
      least = omega arith;
      small = omega arith;
      is = ex;
      run = λ t h o b. stand_next T n first row t b at from x (g.run t h o b) g.is y p ep ey odd l z ez;
    }

  -- A step to the side o, from the row k of a node at p, of the rank y.
  pub going_side : (k : ℕ) → IsNode x first row k → (p : ℕ) → p ≡ place k
      → (y : ℕ) → (y ≡ rank_of T p) × (from ≤ y) × (y < 1073741824) → y < stop
      → (z o x' : ℕ) → z ≡ side (bit_at n y) → z ≡ o → x' ≡ link_in (word_at T (p + o)) → Going T n first row stop (p + o) (y + 1) x'
  going_side k a p ep y b less z o x' ez eo ex =
      going_next y p (ep ∙ ap place a.0) b.0 a.1 (omega (arith, a.0, a.2)) (omega (arith, a.0, a.3)) b.2 b.1 less o x' (sym eo ∙ ez) ex

  pub going_left : (k : ℕ) → IsNode x first row k → (p : ℕ) → p ≡ place k
      → (y : ℕ) → (y ≡ rank_of T p) × (from ≤ y) × (y < 1073741824) → y < stop
      → (z x' : ℕ) → z ≡ side (bit_at n y) → z ≡ 0 → x' ≡ link_in (word_at T p) → Going T n first row stop p (y + 1) x'
  going_left k a p ep y b less z x' ez eo ex =
      subst (λ (i : ℕ). Going T n first row stop i (y + 1) x') (add-zero p)
      (going_side k a p ep y b less z 0 x' ez eo (ex ∙ ap (λ (i : ℕ). link_in (word_at T i)) (sym (add-zero p))))
