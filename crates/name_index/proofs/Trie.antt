-- Laws of tries: walks in them, and what is grafted where a walk ends. Over plain values.
use mathlib.Core.Path.{◌≡◌, refl, sym, ap, ap₂, ◌∙◌, subst}
use mathlib.Core.Bool.{Bool, true, false, not}
use mathlib.Core.Logic.{◌⊎◌, inl, inr, ⊎_elim}
use Prim.Native.Nat.{ℕ, ◌+◌, ◌*◌, ◌<◌, ◌≤◌}
use native.Mathlib.Omega.{arith}
use Rattle.model.specs.Bytes.{Bytes}
use Rattle.model.proofs.Laws.Logic.{clash}
use Rattle.name_index.specs.Bits.{bit_at, Agree, Critical}
use Rattle.name_index.specs.Trie.{Trie, leaf, node, Leaf, Node, Apart, Ordered, Walk, here, down, Ends}
use Rattle.name_index.specs.Slots.{rank_at, link_at, Holds}

-- ---- two sides, one of them replaced

abbrev pub put : {A : Type 0} → Bool → A → (Bool → A) → Bool → A
put false v t false = v
put false v t true = t true
put true v t false = t false
put true v t true = v

module _ {A : Type 0} (P : Bool → A → Type 0) (v : A) (t : Bool → A) where
  pub put_all : (b : Bool) → P b v → ((s : Bool) → (s ≡ b → ⊥) → P s (t s)) → (s : Bool) → P s (put b v t s)
  put_all false h g false = h
  put_all false h g true = g true (λ e. clash cc)
  put_all true h g false = g false (λ e. clash cc)
  put_all true h g true = h

  -- what holds of a side
  pub put_some : (b s : Bool) → P s (put b v t s) → ((s ≡ b) × P b v) ⊎ ((s ≡ b → ⊥) × P s (t s))
  put_some false false h = inl (refl, h)
  put_some false true h = inr ((λ e. clash cc), h)
  put_some true false h = inr ((λ e. clash cc), h)
  put_some true true h = inl (refl, h)

module _ {A : Type 0} (P : A → Type 0) where
  pub put_at : (b : Bool) (v : A) (t : Bool → A) → P v → P (put b v t b)
  put_at false v t h = h
  put_at true v t h = h

  pub put_keeps : (b : Bool) (v : A) (t : Bool → A) → (P (t b) → P v) → (s : Bool) → P (t s) → (x : Bool) × P (put b v t x)
  put_keeps false v t f false h = (false, f h)
  put_keeps false v t f true h = (true, h)
  put_keeps true v t f false h = (false, h)
  put_keeps true v t f true h = (true, f h)

-- ---- the leaf to which a name's bits lead

abbrev pub found : Bytes → Trie → ℕ × Bytes
found n (leaf r m) = (r, m)
found n (node k c t) = found n (t (bit_at n c))

pub found_leaf : (n : Bytes) (t : Trie) → Leaf (found n t).0 (found n t).1 t
found_leaf n (leaf r m) = (refl, refl)
found_leaf n (node k c t) = (bit_at n c, found_leaf n (t (bit_at n c)))

-- Names below agree with the pattern.
pub leaf_agrees : (p : Bytes) (from : ℕ) (t : Trie) → Ordered p from t → (r : ℕ) (m : Bytes) → Leaf r m t → Agree from p m
leaf_agrees p from (leaf q n) o r m l i h = o i h ∙ ap (λ (x : Bytes). bit_at x i) (sym l.1)
leaf_agrees p from (node k c t) o r m l i h =
    o.3 l.0 i h ∙ leaf_agrees (o.2 l.0) (c + 1) (t l.0) (o.6 l.0) r m l.1 i (omega arith)

-- A member that is there is found by its name.
pub member_found : (p : Bytes) (from : ℕ) (t : Trie) → Ordered p from t → (r : ℕ) (m : Bytes) → Leaf r m t → found m t ≡ (r, m)
member_found p from (leaf q n) o r m l = ap₂ (λ (x : ℕ) (y : Bytes). (x, y)) (sym l.0) (sym l.1)
member_found p from (node k c t) o r m l =
    let e : l.0 ≡ bit_at m c = sym (o.5 l.0) ∙ leaf_agrees (o.2 l.0) (c + 1) (t l.0) (o.6 l.0) r m l.1 c (omega arith) in
    ap (λ (b : Bool). found m (t b)) (sym e) ∙ member_found (o.2 l.0) (c + 1) (t l.0) (o.6 l.0) r m l.1

-- ---- walks

-- A step more.
pub walk_more : (n : Bytes) (stop j : ℕ) (d : Bool) (m c : ℕ) (t : Bool → Trie) {k : ℕ} {b : Bool} {t₀ : Trie}
    → Walk n stop j d (node m c t) k b t₀ → c < stop → Walk n stop m (bit_at n c) (t (bit_at n c)) k b t₀
walk_more n stop j d m c t here h = down h here
walk_more n stop j d m c t (down l w) h = down l (walk_more n stop j d m c t w h)

module _ {n : Bytes} {stop j : ℕ} {d : Bool} {u : Trie} where
  pub walk_found : {k : ℕ} {b : Bool} {t : Trie} → Walk n stop j d u k b t → found n t ≡ found n u
  walk_found here = refl
  walk_found (down l w) = walk_found w

  pub walk_leaf : {k : ℕ} {b : Bool} {t : Trie} → Walk n stop j d u k b t → (r : ℕ) (m : Bytes) → Leaf r m u → Leaf r m t
  walk_leaf here r m h = h
  walk_leaf (down {c} l w) r m h = (bit_at n c, walk_leaf w r m h)

  pub walk_node : {k : ℕ} {b : Bool} {t : Trie} → Walk n stop j d u k b t → (i : ℕ) → Node i u → Node i t
  walk_node here i h = h
  walk_node (down {c} l w) i h = inr (bit_at n c, walk_node w i h)

  -- Where it ends.
  pub walk_end : {k : ℕ} {b : Bool} {t : Trie} → Walk n stop j d u k b t → ((j ≡ k) × (d ≡ b)) ⊎ Node j t
  walk_end here = inl (refl, refl)
  walk_end (down {c} l w) = inr (⊎_elim (λ e. inl e.0) (λ h. inr (bit_at n c, h)) (walk_end w))

  -- ---- what hangs there replaced by v

  abbrev pub graft : {k : ℕ} {b : Bool} {t : Trie} → Walk n stop j d u k b t → Trie → Trie
  graft here v = v
  graft (down {m} {c} {t} l w) v = node m c (put (bit_at n c) (graft w v) t)

  pub leaf_graft : {k : ℕ} {b : Bool} {t : Trie} (w : Walk n stop j d u k b t) (v : Trie) (r : ℕ) (m : Bytes) → Leaf r m (graft w v)
      → Leaf r m t ⊎ Leaf r m v
  leaf_graft here v r m h = inr h
  leaf_graft (down {c} {t} l w) v r m h =
      ⊎_elim
      (λ g. ⊎_elim (λ x. inl (bit_at n c, x)) inr (leaf_graft w v r m g.1))
      (λ g. inl (h.0, g.1))
      (put_some (λ s x. Leaf r m x) (graft w v) t (bit_at n c) h.0 h.1)

  pub node_graft : {k : ℕ} {b : Bool} {t : Trie} (w : Walk n stop j d u k b t) (v : Trie) (i : ℕ) → Node i (graft w v)
      → Node i t ⊎ Node i v
  node_graft here v i h = inr h
  node_graft (down {c} {t} l w) v i h =
      ⊎_elim
      (λ e. inl (inl e))
      (λ x. ⊎_elim
      (λ g. ⊎_elim (λ y. inl (inr (bit_at n c, y))) inr (node_graft w v i g.1))
      (λ g. inl (inr (x.0, g.1)))
      (put_some (λ s y. Node i y) (graft w v) t (bit_at n c) x.0 x.1))
      h

  pub graft_leaf : {k : ℕ} {b : Bool} {t : Trie} (w : Walk n stop j d u k b t) (v : Trie) (r : ℕ) (m : Bytes) → Leaf r m v → Leaf r m (graft w v)
  graft_leaf here v r m h = h
  graft_leaf (down {c} {t} l w) v r m h = (bit_at n c, put_at (λ x. Leaf r m x) (bit_at n c) (graft w v) t (graft_leaf w v r m h))

  -- A leaf stays, if it stays in what is replaced.
  pub leaf_stays : {k : ℕ} {b : Bool} {t : Trie} (w : Walk n stop j d u k b t) (v : Trie) (r : ℕ) (m : Bytes) → (Leaf r m u → Leaf r m v)
      → Leaf r m t → Leaf r m (graft w v)
  leaf_stays here v r m f h = f h
  leaf_stays (down {c} {t} l w) v r m f h =
      put_keeps (λ x. Leaf r m x) (bit_at n c) (graft w v) t (λ g. leaf_stays w v r m f g) h.0 h.1

  -- Ordered above what is replaced, by the pattern that it had there.
  pub record Above (p : Bytes) (from : ℕ) {k : ℕ} {b : Bool} {t : Trie} (w : Walk n stop j d u k b t) : Type 0 where
    pub pattern : Bytes
    pub least : ℕ
    pub ordered : Ordered pattern least u
    pub low : from ≤ stop → least ≤ stop
    pub grafted : (v : Trie) → Ordered pattern least v → Ordered p from (graft w v)

  pub above : (p : Bytes) (from : ℕ) {k : ℕ} {b : Bool} {t : Trie} (w : Walk n stop j d u k b t) → Ordered p from t → Above p from w
  above p from here o = record { pattern = p; least = from; ordered = o; low = λ h. h; grafted = λ v h. h }
  above p from (down {c} {t} l w) o =
      let a = above (o.2 (bit_at n c)) (c + 1) w (o.6 (bit_at n c)) in
      record {
        pattern = a.pattern;
        least = a.least;
        ordered = a.ordered;
        low = λ h. a.low (omega arith);
        grafted = λ v h. (
          o.0,
          o.1,
          o.2,
          o.3,
          o.4,
          o.5,
          put_all (λ s x. Ordered (o.2 s) (c + 1) x) (graft w v) t (bit_at n c) (a.grafted v h) (λ s g. o.6 s),
        );
      }

-- Nodes of the two sides are apart.
pub sides_apart : (k c : ℕ) (t : Bool → Trie) → Apart (node k c t) → (s b : Bool) → (s ≡ b → ⊥) → (i : ℕ) → Node i (t s) → Node i (t b) → ⊥
sides_apart k c t a false false h i x y = h refl
sides_apart k c t a false true h i x y = a.1 i x y
sides_apart k c t a true false h i x y = a.1 i y x
sides_apart k c t a true true h i x y = h refl

module _ {n : Bytes} {stop j : ℕ} {d : Bool} {u : Trie} (row : ℕ) (v : Trie) (new : (i : ℕ) → Node i v → (i ≡ row) ⊎ Node i u) where
  -- The nodes are those that were there, and a new one.
  pub node_old : {k : ℕ} {b : Bool} {t : Trie} (w : Walk n stop j d u k b t) (i : ℕ) → (i ≡ row → ⊥) → Node i (graft w v) → Node i t
  node_old w i f h =
      ⊎_elim (λ x. x) (λ x. ⊎_elim (λ e. absurd (f e)) (walk_node w i) (new i x)) (node_graft w v i h)

  pub apart_graft : {k : ℕ} {b : Bool} {t : Trie} (w : Walk n stop j d u k b t) → Apart v → ((i : ℕ) → Node i t → i ≡ row → ⊥)
      → Apart t → Apart (graft w v)
  apart_graft here a f h = a
  apart_graft (down {m} {c} {t} l w) a f h =
      let old : (i : ℕ) → (i ≡ row → ⊥) → Node i (graft w v) → Node i (t (bit_at n c)) = λ i g x. node_old w i g x in (
        λ s x. ⊎_elim
            (λ g. h.0 (bit_at n c) (old m (f m (inl refl)) g.1))
            (λ g. h.0 s g.1)
            (put_some (λ s y. Node m y) (graft w v) t (bit_at n c) s x),
        λ i x y. two (bit_at n c) i old x y,
        put_all (λ s x. Apart x) (graft w v) t (bit_at n c) (apart_graft w a (λ i x. f i (inr (bit_at n c, x))) (h.2 (bit_at n c))) (λ s g. h.2 s),
      )
    where
      two : (β : Bool) (i : ℕ) → ((i : ℕ) → (i ≡ row → ⊥) → Node i (graft w v) → Node i (t β)) → Node i (put β (graft w v) t false) → Node i (put β (graft w v) t true) → ⊥
      two false i old x y = h.1 i (old i (f i (inr (true, y))) x) y
      two true i old x y = h.1 i x (old i (f i (inr (false, x))) y)

-- ---- tries in tables

-- Links and ranks are the same in both tables, but for the link (j, d) and the entry `row`.
pub record Changed (T T' : Bytes) (j : ℕ) (d : Bool) (row : ℕ) : Type 0 where
  pub rank : (k : ℕ) → (k ≡ row → ⊥) → rank_at T' k ≡ rank_at T k
  pub link : (k : ℕ) (s : Bool) → (k ≡ row → ⊥) → (k ≡ j → s ≡ d → ⊥) → link_at T' k s ≡ link_at T k s

module _ {T T' : Bytes} {j : ℕ} {d : Bool} {row : ℕ} (same : Changed T T' j d row) where
  pub holds_apart : (t : Trie) (k : ℕ) (s : Bool) → (k ≡ row → ⊥) → (k ≡ j → s ≡ d → ⊥)
      → ((i : ℕ) → Node i t → (i ≡ row → ⊥) × (i ≡ j → ⊥)) → Holds T k s t → Holds T' k s t
  holds_apart (leaf r m) k s f g a h = same.link k s f g ∙ h
  holds_apart (node m c t) k s f g a h =
      let x = a m (inl refl) in (
        same.link k s f g ∙ h.0,
        same.rank m x.0 ∙ h.1,
        λ b. holds_apart (t b) m b x.0 (λ e q. x.1 e) (λ i y. a i (inr (b, y))) (h.2 b),
      )

  pub holds_graft : {n : Bytes} {stop : ℕ} {u : Trie} (v : Trie) {k : ℕ} {b : Bool} {t : Trie} (w : Walk n stop j d u k b t)
      → (k ≡ row → ⊥) → (Node k t → ⊥) → ((i : ℕ) → Node i t → i ≡ row → ⊥) → Apart t → Holds T k b t → Holds T' j d v → Holds T' k b (graft w v)
  holds_graft v here f g e a h x = x
  holds_graft {n} v {k} {b} (down {m} {c} {t} l w) f g e a h x =
      let β = bit_at n c in
      let q = walk_end w in (
        same.link k b f (λ i o. ⊎_elim (λ z. g (inl (i ∙ z.0))) (λ z. g (inr (β, subst (λ (y : ℕ). Node y (t β)) (sym i) z))) q) ∙ h.0,
        same.rank m (e m (inl refl)) ∙ h.1,
        put_all (λ s y. Holds T' m s y) (graft w v) t β
            (holds_graft v w (e m (inl refl)) (a.0 β) (λ i y. e i (inr (β, y))) (a.2 β) (h.2 β) x)
            (λ s p. holds_apart (t s) m s (e m (inl refl))
            (λ i o. ⊎_elim (λ z. p (o ∙ z.1)) (λ z. a.0 β (subst (λ (y : ℕ). Node y (t β)) (sym i) z)) q)
            (λ i y. (
              e i (inr (s, y)),
              λ o. ⊎_elim
                  (λ z. a.0 s (subst (λ (y : ℕ). Node y (t s)) (o ∙ z.0) y))
                  (λ z. sides_apart m c t a s β p i y (subst (λ (y : ℕ). Node y (t β)) (sym o) z)) q,
            ))
            (h.2 s)),
      )

-- ---- a new member: a node over what hangs at a link, with the new leaf on its own side

abbrev pub fork : Bytes → ℕ → ℕ → Trie → Trie
fork n c row u = node row c (put (bit_at n c) (leaf row n) (λ s. u))

unlike : (x y : Bool) → (x ≡ y → ⊥) → y ≡ not x
unlike false false h = absurd (h refl)
unlike false true h = refl
unlike true false h = refl
unlike true true h = absurd (h refl)

-- What hangs there has the pattern of the leaf that was found.
found_pattern : (n : Bytes) (c : ℕ) (u : Trie) (p : Bytes) (from : ℕ) → Ordered p from u → Ends c u → Critical n (found n u).1 c
    → Ordered (found n u).1 (c + 1) u
found_pattern n c (leaf r m) p from o e h = λ i l. refl
found_pattern n c (node k x t) p from o e h =
    let β = bit_at n x in
    let g = (found n (t β)).1 in
    let below = leaf_agrees (o.2 β) (x + 1) (t β) (o.6 β) (found n (t β)).0 g (found_leaf n (t β)) in
    let more : c ≡ x → ⊥ = λ q. h.differ (subst (λ (y : ℕ). bit_at n y ≡ bit_at g y) (sym q) (sym (o.5 β) ∙ below x (omega arith))) in
    (omega arith, o.1, o.2, λ b i l. sym (below i (omega arith)) ∙ alike o.2 x o.4 β b i (omega arith), o.4, o.5, o.6)
  where
    alike : (p : Bool → Bytes) (x : ℕ) → Agree x (p false) (p true) → (β b : Bool) → Agree x (p β) (p b)
    alike p x h false false i l = refl
    alike p x h false true i l = h i l
    alike p x h true false i l = sym (h i l)
    alike p x h true true i l = refl

pub ordered_fork : (n : Bytes) (c row : ℕ) (u : Trie) (p : Bytes) (from : ℕ) → Ordered p from u → from ≤ c → Ends c u → Critical n (found n u).1 c
    → Ordered p from (fork n c row u)
ordered_fork n c row u p from o l e h =
    let g = (found n u).1 in
    let q = leaf_agrees p from u o (found n u).0 g (found_leaf n u) in
    go (bit_at n c) refl (unlike (bit_at n c) (bit_at g c) h.differ) q
  where
    go : (β : Bool) → bit_at n c ≡ β → bit_at (found n u).1 c ≡ not β → Agree from p (found n u).1 → Ordered p from (node row c (put β (leaf row n) (λ s. u)))
    go β x y q = (
      l,
      h.small,
      put β n (λ s. (found n u).1),
      put_all (λ s m. Agree from p m) n (λ s. (found n u).1) β (λ i k. q i k ∙ sym (h.agree i (omega arith))) (λ s k. q),
      both β,
      bits β x y,
      put_two β,
    )
      where
        both : (β : Bool) → Agree c (put β n (λ s. (found n u).1) false) (put β n (λ s. (found n u).1) true)
        both false = h.agree
        both true = λ i k. sym (h.agree i k)

        bits : (β : Bool) → bit_at n c ≡ β → bit_at (found n u).1 c ≡ not β → (s : Bool) → bit_at (put β n (λ s. (found n u).1) s) c ≡ s
        bits false x y false = x
        bits false x y true = y
        bits true x y false = y
        bits true x y true = x

        put_two : (β s : Bool) → Ordered (put β n (λ s. (found n u).1) s) (c + 1) (put β (leaf row n) (λ s. u) s)
        put_two false false = λ i k. refl
        put_two false true = found_pattern n c u p from o e h
        put_two true false = found_pattern n c u p from o e h
        put_two true true = λ i k. refl

module _ (n : Bytes) (c row : ℕ) (u : Trie) where
  pub node_fork : (i : ℕ) → Node i (fork n c row u) → (i ≡ row) ⊎ Node i u
  node_fork i h =
      ⊎_elim inl
      (λ x. ⊎_elim (λ g. absurd g.1) (λ g. inr g.1) (put_some (λ s y. Node i y) (leaf row n) (λ s. u) (bit_at n c) x.0 x.1))
      h

  pub leaf_fork : (r : ℕ) (m : Bytes) → Leaf r m (fork n c row u) → ((r ≡ row) × (m ≡ n)) ⊎ Leaf r m u
  leaf_fork r m h =
      ⊎_elim (λ g. inl g.1) (λ g. inr g.1) (put_some (λ s y. Leaf r m y) (leaf row n) (λ s. u) (bit_at n c) h.0 h.1)

  pub fork_leaf : Leaf row n (fork n c row u)
  fork_leaf = (bit_at n c, put_at (λ y. Leaf row n y) (bit_at n c) (leaf row n) (λ s. u) (refl, refl))

  pub fork_stays : (r : ℕ) (m : Bytes) → Leaf r m u → Leaf r m (fork n c row u)
  fork_stays r m h = go (bit_at n c)
    where
      go : (β : Bool) → (s : Bool) × Leaf r m (put β (leaf row n) (λ s. u) s)
      go false = (true, h)
      go true = (false, h)

  pub apart_fork : (Node row u → ⊥) → Apart u → Apart (fork n c row u)
  apart_fork f a = (
    λ s x. ⊎_elim (λ g. g.1) (λ g. f g.1) (put_some (λ s y. Node row y) (leaf row n) (λ s. u) (bit_at n c) s x),
    λ i x y. two (bit_at n c) i x y,
    put_all (λ s y. Apart y) (leaf row n) (λ s. u) (bit_at n c) tt (λ s g. a),
  )
    where
      two : (β : Bool) (i : ℕ) → Node i (put β (leaf row n) (λ s. u) false) → Node i (put β (leaf row n) (λ s. u) true) → ⊥
      two false i x y = x
      two true i x y = y

module _ {n : Bytes} {stop j : ℕ} {d : Bool} {u : Trie} where
  pub walk_apart : {k : ℕ} {b : Bool} {t : Trie} → Walk n stop j d u k b t → Apart t → Apart u
  walk_apart here a = a
  walk_apart (down {c} l w) a = walk_apart w (a.2 (bit_at n c))

  -- The entry that holds the link is none of what hangs there.
  pub walk_outside : {k : ℕ} {b : Bool} {t : Trie} → Walk n stop j d u k b t → Apart t → (Node k t → ⊥) → Node j u → ⊥
  walk_outside here a f = f
  walk_outside (down {c} l w) a f = walk_outside w (a.2 (bit_at n c)) (a.0 (bit_at n c))

-- What hangs at one link hangs at another that is the same.
pub holds_moved : {T T' : Bytes} {j : ℕ} {d : Bool} {row : ℕ} (same : Changed T T' j d row) (u : Trie) (s : Bool) → link_at T' row s ≡ link_at T j d
    → ((i : ℕ) → Node i u → (i ≡ row → ⊥) × (i ≡ j → ⊥)) → Holds T j d u → Holds T' row s u
holds_moved same (leaf r m) s e f h = e ∙ h
holds_moved same (node m c t) s e f h =
    let x = f m (inl refl) in
    (e ∙ h.0, same.rank m x.0 ∙ h.1, λ b. holds_apart same (t b) m b x.0 (λ q o. x.1 q) (λ i y. f i (inr (b, y))) (h.2 b))

-- ---- the table with the node of a new member

pub record Linked (T T' : Bytes) (j : ℕ) (d : Bool) (row c : ℕ) (β : Bool) : Type 0 where
  pub same : Changed T T' j d row
  pub link : link_at T' j d ≡ row * 2 + 1
  pub rank : rank_at T' row ≡ c
  pub new : link_at T' row β ≡ row * 2
  pub old : link_at T' row (not β) ≡ link_at T j d

other : (s b : Bool) → (s ≡ b → ⊥) → not b ≡ s
other false false h = absurd (h refl)
other false true h = refl
other true false h = refl
other true true h = absurd (h refl)

pub holds_fork : {T T' : Bytes} (n : Bytes) {j : ℕ} {d : Bool} {row c : ℕ} (u : Trie) → Linked T T' j d row c (bit_at n c)
    → ((i : ℕ) → Node i u → (i ≡ row → ⊥) × (i ≡ j → ⊥)) → Holds T j d u → Holds T' j d (fork n c row u)
holds_fork {T} {T'} n {j} {d} {row} {c} u l f h = (
  l.link,
  l.rank,
  put_all (λ s y. Holds T' row s y) (leaf row n) (λ s. u) (bit_at n c) l.new
      (λ s g. holds_moved l.same u s (ap (link_at T' row) (sym (other s (bit_at n c) g)) ∙ l.old) f h),
)
