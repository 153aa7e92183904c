-- Entries: the laws that callers of `enter` cite, and what it promises by slots said by rows.
use Rattle.std.specs.Prelude.{◌≡◌, refl, Bool, List, [], ◌∷◌, ◌++◌, ℕ, ◌+◌, ◌*◌, ◌-◌, ◌/◌, ◌≤◌, ◌<◌, length}
use Rattle.std.proofs.Common.{ap, ◌∙◌, subst, inl, inr, arith, length-take, length-drop}
use Rattle.area.specs.Words.{word_at}
use Rattle.model.specs.Bytes.{Bytes, same_bytes}
use Rattle.model.specs.Lists.{any}
use Rattle.name_index.specs.Bits.{part}
use Rattle.name_index.specs.Contract.{entry, Entry, names_of, Named, Between, HasRow, slots, Indexed, EnterRoom, Entered}
use Rattle.name_index.specs.Slots as Slots
use Rattle.name_index.specs.Laws.Slots.{indexed_none, indexed_same}

pub indexed_empty : (T : Bytes) (first : ℕ) → Indexed T first []
unfolding slots
indexed_empty T first = record { trie = indexed_none T (first - 1) }

-- Members between two rows have slots between those of the rows.
pub slots_between : (first row : ℕ) (es : List Entry) → 1 ≤ first → Between first row es → (r : ℕ) (n : Bytes) → Slots.Has (slots es) r n → (first - 1 ≤ r) × (r < row - 1)
unfolding slots Between
slots_between first row [] l b r n h = absurd h
slots_between first row (e ∷ es) l b r n (inl h) = (omega (arith, b.0, h.0), omega (arith, b.0, b.1, h.0))
slots_between first row (e ∷ es) l b r n (inr h) = slots_between first row es l b.2 r n h

-- A slot that a member has, by its row.
slot_row : (first row : ℕ) (es : List Entry) → 1 ≤ first → Between first row es → (k : ℕ) (n : Bytes) → Slots.Has (slots es) k n → HasRow es (k + 1)
unfolding slots Between
slot_row first row [] l b k n h = absurd h
slot_row first row (e ∷ es) l b k n (inl h) = inl (omega (arith, b.0, h.0))
slot_row first row (e ∷ es) l b k n (inr h) = inr (slot_row first row es l b.2 k n h)

-- The index goes by the entries of its members alone, whatever lies between them.
pub indexed_members_frame :
    {T T' : Bytes} {first : ℕ} {es : List Entry} (bound : ℕ)
    → 1 ≤ first
    → Indexed T first es
    → Between first bound es
    → ((r : ℕ) → HasRow es r → entry T' r ≡ entry T r)
    → Indexed T' first es
indexed_members_frame {T} {T'} {first} {es} bound l i b h = record {
  trie = indexed_same T T' (first - 1) (slots es)
      (λ k n g. let e : k + 1 - 1 ≡ k = omega arith in subst (λ (x : ℕ). Slots.entry T' x ≡ Slots.entry T x) e (h (k + 1) (slot_row first bound es l b k n g)))
      i.trie;
}

pub has_between : (first row : ℕ) (es : List Entry) → Between first row es → (r : ℕ) → HasRow es r → (first ≤ r) × (r < row)
unfolding Between
has_between first row [] b r h = absurd h
has_between first row (e ∷ es) b r (inl h) = (omega (arith, b.0), omega (arith, b.1))
has_between first row (e ∷ es) b r (inr h) = has_between first row es b.2 r h

-- So it stays where all entries between the bounds do.
pub indexed_frame :
    {T T' : Bytes} {first : ℕ} {es : List Entry} (bound : ℕ)
    → 1 ≤ first
    → Indexed T first es
    → Between first bound es
    → ((r : ℕ) → first ≤ r → r < bound → entry T' r ≡ entry T r)
    → Indexed T' first es
indexed_frame {first} {es} bound l i b h =
    indexed_members_frame bound l i b (λ r g. let k = has_between first bound es b r g in h r k.0 k.1)

-- ---- from slots to rows
pub slots_named : (T A : Bytes) (first row : ℕ) (es : List Entry) → 1 ≤ first → Between first row es → Named T A es → Slots.Named T A (slots es)
unfolding slots Between Named
slots_named T A first row es l b h = record { inside = λ r n g. inside es b h r n g; name = λ r n g. name es b h r n g }
  where
    word : (e r k : ℕ) → first ≤ e → r ≡ e - 1 → word_at T (e * 16 + k) ≡ word_at T (r * 16 + (16 + k))
    word e r k lo g = let i : e * 16 + k ≡ r * 16 + (16 + k) = omega (arith, l) in ap (word_at T) i

    start : (e r : ℕ) → first ≤ e → r ≡ e - 1 → word_at T (e * 16 + 4) ≡ Slots.name_start T r
    start e r lo g = word e r 4 lo g

    size : (e r : ℕ) → first ≤ e → r ≡ e - 1 → word_at T (e * 16) / 256 ≡ Slots.name_length T r
    size e r lo g = let i : e * 16 ≡ r * 16 + 16 = omega (arith, l) in ap (λ x. word_at T x / 256) i

    inside : (es : List Entry) → Between first row es → Named T A es → (r : ℕ) (n : Bytes) → Slots.Has (slots es) r n → Slots.name_start T r + Slots.name_length T r ≤ length A
    inside [] b h r n g = absurd g
    inside (e ∷ es) b h r n (inl g) = omega (arith, h.1, start e.row r b.0 g.0, size e.row r b.0 g.0)
    inside (e ∷ es) b h r n (inr g) = inside es b.2 h.2 r n g

    name : (es : List Entry) → Between first row es → Named T A es → (r : ℕ) (n : Bytes) → Slots.Has (slots es) r n → n ≡ part A (Slots.name_start T r) (Slots.name_length T r)
    name [] b h r n g = absurd g
    name (e ∷ es) b h r n (inl g) =
        g.1 ∙ h.0 ∙ ap (λ x. part A x (word_at T (e.row * 16) / 256)) (start e.row r b.0 g.0)
        ∙ ap (part A (Slots.name_start T r)) (size e.row r b.0 g.0)
    name (e ∷ es) b h r n (inr g) = name es b.2 h.2 r n g

slots_within :
    (first row : ℕ) (es : List Entry) → 1 ≤ first → first ≤ row → Between first row es → (row ≡ first → es ≡ []) → (es ≡ [] → row ≡ first)
    → Slots.Within (first - 1) (row - 1) (slots es)
unfolding slots
slots_within first row es l o b none some = record {
  rows = slots_between first row es l b;
  none = λ e. ap slots (none (omega arith)) ∙ empty;
  some = λ e. let g : row ≡ first = some (back es e) in ap (λ x. x - 1) g;
}
  where
    empty : slots [] ≡ []
    empty = refl

    back : (es : List Entry) → slots es ≡ [] → es ≡ []
    back [] e = refl
    back (x ∷ es) e = absurd (omega (arith, ap length e))

slots_names : (es : List Entry) → Slots.names (slots es) ≡ names_of es
unfolding slots names_of
slots_names [] = refl
slots_names (e ∷ es) = ap (λ l. e.name ∷ l) (slots_names es)

slots_append : (es : List Entry) (e : Entry) → slots es ++ ((e.row - 1, e.name) ∷ []) ≡ slots (es ++ (e ∷ []))
unfolding slots
slots_append [] e = refl
slots_append (x ∷ es) e = ap (λ l. (x.row - 1, x.name) ∷ l) (slots_append es e)

pub room_slots : {T A : Bytes} {first row start len : ℕ} → EnterRoom T A first row start len → Slots.Room T (first - 1) (row - 1) (part A start len)
room_slots m = record {
  table = m.table;
  order = omega (arith, m.order);
  below = omega (arith, m.rows, m.order, m.member);
  short = simp (length-take, length-drop) (omega (arith, m.strings, m.short));
}

pub by_rows :
    {T A : Bytes} {first row start len : ℕ} {b : Bool} {T' : Bytes}
    → EnterRoom T A first row start len → Slots.Entered T A (first - 1) (row - 1) (part A start len) b T' → Entered T A first row start len b T'
by_rows {T} {A} {first} {row} {start} {len} {b} {T'} m s = record {
  size = s.size;
  rows = s.rows;
  kept = λ r lo hi. s.kept (r - 1) (omega arith);
  others = λ es i n w none some r lo f h.
      s.others (slots es) i.trie (slots_named T A first row es m.member w n) (slots_within first row es m.member m.order w none some) (r - 1)
      (λ x g. f (subst (HasRow es) (omega arith) (slot_row first row es m.member w (r - 1) x g)))
      (λ e. h (omega (arith, m.member, m.order)));
  run = λ es i n w none some.
      let g = s.run (slots es) i.trie (slots_named T A first row es m.member w n) (slots_within first row es m.member m.order w none some) in (
        g.0 ∙ ap (any (same_bytes (part A start len))) (slots_names es),
        λ f. record { trie = subst (Slots.Indexed T' (first - 1)) (slots_append es (record { row = row; name = part A start len })) (g.1 f) },
      );
}
