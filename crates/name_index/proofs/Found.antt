-- Found: what `find` promises, from what its steps do. Over plain values.
use Rattle.std.specs.Bool.{then_some}
use Rattle.std.specs.Prelude.{Option, None, Some}
use mathlib.Core.Path.{◌≡◌, refl, sym, ap, ◌∙◌, subst}
use mathlib.Core.Bool.{Bool, true, false, cond}
use mathlib.Core.List.{List, [], ◌∷◌}
use mathlib.Core.Logic.{inl, inr}
use Prim.Native.Nat.{ℕ, ◌+◌, ◌-◌, ◌/◌, ◌≤◌, ◌<◌}
use native.Mathlib.Omega.{arith}
use lib.Dec.{T}
use lib.ListN.{length}
use Rattle.model.specs.Bytes.{Bytes, same_bytes}
use Rattle.model.specs.Limits.{max_values}
use Rattle.model.proofs.Laws.Logic.{bytes→≡, bytes_refl}
use Rattle.syntax.specs.Layout.{table_bytes}
use Rattle.table.specs.declared.row.Span.{Span}
use Rattle.table.specs.Node.{name_at}
use Rattle.table.specs.Strings.{bytes_of}
use Rattle.name_index.specs.declared.Ended.{Ended}
use Rattle.name_index.specs.Contract.{Entry, Named, Between, slots, Indexed, first_named, Finds}
use Rattle.name_index.specs.Slots as Slots
use Rattle.name_index.specs.Slots.{Has, Within, Tree, name_start, name_length}
use Rattle.name_index.specs.Inner.{Stopped, NamedSlot}
use Rattle.name_index.specs.Laws.Entries.{slots_between, slots_named}
use Rattle.name_index.proofs.Steps.{name_there}
use Rattle.name_index.proofs.Trie.{found}
use Rattle.name_index.proofs.Whole.{tree_of, has_there, found_link, is_found}

-- ---- comparing with the name in a slot

then_some_is : (b : Bool) (k : ℕ) → then_some b k ≡ cond b (Some k) None
then_some_is true k = refl
then_some_is false k = refl

pub named_slot : (T A n : Bytes) (slot : ℕ) {p : Span} {s : Bytes} {b : Bool} {r : Option ℕ} → table_bytes ≤ length T
    → p ≡ name_at T (slot + 1) → s ≡ bytes_of A p → b ≡ same_bytes n s → r ≡ then_some b (slot + 1) → NamedSlot T A slot n r
named_slot T A n slot {b = b} t ep es eb er = record {
  is = λ l i.
      er ∙ then_some_is b (slot + 1)
      ∙ ap (λ (z : Bool). cond z (Some (slot + 1)) None) (eb ∙ ap (same_bytes n) (es ∙ ap (bytes_of A) (ep ∙ name_there T slot t (omega arith))));
}

-- ---- the first member of a name

module _ (n : Bytes) (first bound : ℕ) (member : 1 ≤ first) where
  first_none : (es : List Entry) → ((r : ℕ) (m : Bytes) → Has (slots es) r m → n ≡ m → ⊥) → None ≡ first_named n es
  unfolding slots
  first_none [] f = refl
  first_none (e ∷ es) f = go (same_bytes n e.name) refl (first_none es (λ r m h. f r m (inr h)))
    where
      go : (b : Bool) → same_bytes n e.name ≡ b → None ≡ first_named n es → None ≡ cond b (Some e.row) (first_named n es)
      go true g i = absurd (f (e.row - 1) e.name (inl (refl, refl)) (bytes→≡ n e.name (subst T (sym g) tt)))
      go false g i = i

  first_some : (es : List Entry) → Between first bound es → (s : ℕ) → Has (slots es) s n → ((r : ℕ) (m : Bytes) → Has (slots es) r m → n ≡ m → s ≡ r)
      → Some (s + 1) ≡ first_named n es
  unfolding slots Between
  first_some [] b s h f = absurd h
  first_some (e ∷ es) b s h f = go (same_bytes n e.name) refl h (λ i. first_some es b.2 s i (λ r m k. f r m (inr k)))
    where
      go : (c : Bool) → same_bytes n e.name ≡ c → Has (slots (e ∷ es)) s n → (Has (slots es) s n → Some (s + 1) ≡ first_named n es)
          → Some (s + 1) ≡ cond c (Some e.row) (first_named n es)
      go true g h rest =
          let i : s ≡ e.row - 1 = f (e.row - 1) e.name (inl (refl, refl)) (bytes→≡ n e.name (subst T (sym g) tt)) in
          let j : s + 1 ≡ e.row = omega (arith, b.0) in
          ap Some j
      go false g (inl h) rest = absurd (subst T (ap (same_bytes n) h.1 ∙ g) (bytes_refl n))
      go false g (inr h) rest = rest h

  -- The slot that decides: a member of this name can only stand there.
  first_by : (es : List Entry) → Between first bound es → (s : ℕ) (m : Bytes) → Has (slots es) s m
      → ((r : ℕ) (k : Bytes) → Has (slots es) r k → n ≡ k → (s ≡ r) × (m ≡ k))
      → cond (same_bytes n m) (Some (s + 1)) None ≡ first_named n es
  first_by es b s m h f = go (same_bytes n m) refl
    where
      go : (c : Bool) → same_bytes n m ≡ c → cond c (Some (s + 1)) None ≡ first_named n es
      go true g =
          let i : n ≡ m = bytes→≡ n m (subst T (sym g) tt) in
          first_some es b s (subst (λ (z : Bytes). Has (slots es) s z) (sym i) h) (λ r k q e. (f r k q e).0)
      go false g = first_none es (λ r k q e. absurd (subst T (ap (same_bytes n) (e ∙ sym (f r k q e).1) ∙ g) (bytes_refl n)))

-- ---- the index, after a way down that no rank stopped

-- The slot to which it leads decides.
by_slot : (T A n : Bytes) (first row : ℕ) (less : first < row) (ms : List (ℕ × Bytes)) (t : Tree T first ms) (named : Slots.Named T A ms) (within : Within first row ms)
    (end : Ended) (r : Option ℕ) → row < max_values → Stopped T n first row 1073741824 end → NamedSlot T A (end.link / 2) n r
    → (s : ℕ) (m : Bytes) → (found n t.trie).0 ≡ s → Has ms s m → r ≡ cond (same_bytes n m) (Some (s + 1)) None
by_slot T A n first row less ms t named within end r below stopped at s m e h =
    let down = stopped.all 1073741824 stopped.least (λ l. l) in
    let link = found_link T A n first row less ms t named within end.at end.link down stopped.link in
    let half : end.link / 2 ≡ s = omega arith in
    let i = within.rows s m h in
    (subst (λ (z : ℕ). NamedSlot T A z n r) half at).is (omega (arith, i.1)) (named.inside s m h)
    ∙ ap (λ (z : Bytes). cond (same_bytes n z) (Some (s + 1)) None) (sym (named.name s m h))

found_at : (T A n : Bytes) (first row : ℕ) (end : Ended) (r : Option ℕ) → 1 ≤ first → first < row → row ≤ max_values
    → Stopped T n (first - 1) (row - 1) 1073741824 end → NamedSlot T A (end.link / 2) n r
    → (es : List Entry) → Indexed T first es → Named T A es → Between first row es → (es ≡ [] → ⊥) → r ≡ first_named n es
unfolding slots
found_at T A n first row end r member order below stopped at es i named between some =
    go (tree_of T (first - 1) (row - 1) (slots es) within (λ e. omega arith) i.trie)
  where
    none : (es : List Entry) → slots es ≡ [] → es ≡ []
    none [] e = refl
    none (x ∷ es) e = absurd (omega (arith, ap length e))

    within : Within (first - 1) (row - 1) (slots es)
    within = record {
      rows = slots_between first row es member between;
      none = λ e. absurd (omega arith);
      some = λ e. absurd (some (none es e));
    }

    less : first - 1 < row - 1
    less = omega arith

    names : Slots.Named T A (slots es)
    names = slots_named T A first row es member between named

    go : (t : Tree T (first - 1) (slots es)) → r ≡ first_named n es
    go t =
        let h = has_there T A n (first - 1) (row - 1) less (slots es) t names within in
        by_slot T A n (first - 1) (row - 1) less (slots es) t names within end r (omega arith) stopped at (found n t.trie).0 (found n t.trie).1 refl h
        ∙ first_by n first row member es between (found n t.trie).0 (found n t.trie).1 h
        (λ q k g e. is_found T A n (first - 1) (row - 1) less (slots es) t names within q k g e)

-- ---- what `find` promises

module _ {T A n : Bytes} {first : ℕ} {r : Option ℕ} where
  pub finds_no_member : first ≡ 0 → Finds T A first n r
  finds_no_member e = record { is = λ es m. absurd (omega arith) }

  pub finds_outside : max_values ≤ first → Finds T A first n r
  unfolding Between
  finds_outside h = record { is = λ es m s i g b f. absurd (f (none es b)) }
    where
      none : (es : List Entry) → Between first max_values es → es ≡ []
      none [] b = refl
      none (e ∷ es) b = absurd (omega (arith, b.0, b.1))

  pub finds_short : length T < table_bytes → Finds T A first n r
  finds_short h = record { is = λ es m s. absurd (omega arith) }

  pub finds : (end : Ended) → first < max_values → Stopped T n (first - 1) (max_values - 1) 1073741824 end
      → NamedSlot T A (end.link / 2) n r → Finds T A first n r
  finds end h d s = record {
    is = λ es l z. found_at T A n first max_values end r l h (omega arith) d s es;
  }
