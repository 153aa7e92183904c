-- Values: too many, too long, too deep; a scalar; an array or object around its parts.
use mathlib.Core.Path.{◌≡◌, refl, sym, ap, ◌∙◌}
use mathlib.Core.Bool.{Bool, true, false}
use mathlib.Core.List.{[], ◌∷◌, ◌++◌}
use mathlib.Core.Logic.{inl, inr}
use Prim.Native.Nat.{ℕ, zero, suc, ◌+◌, ◌-◌, ◌≤◌, ◌<◌}
use native.Mathlib.Omega.{arith}
use native.Mathlib.Numerals.{add-one}
use lib.ListN.{length, length-append, set}
use lib.Seq.{sets}
use Rattle.area.specs.Laws.{sets_append}
use Rattle.model.specs.Bytes.{Bytes}
use Rattle.model.specs.Instant.{in_range, from_year0}
use Rattle.model.specs.Limits.{max_text_bytes}
use Rattle.model.specs.Size.{value_count, nesting}
use Rattle.model.specs.Value.{Value, scalar, instant, null}
use Rattle.model.specs.Writing.{value_text}
use Rattle.model.proofs.Laws.Logic.{clash}
use Rattle.syntax.proofs.Laws.Layout.{count_positive}
use Rattle.heap.specs.declared.handle.Handle.{Handle}
use Rattle.heap.specs.declared.handle.Handle.TheVariants.{Null, False, True, Integer, Instant, String, Compound}
use Rattle.heap.specs.declared.handle.Form.{Form}
use Rattle.heap.specs.declared.handle.Form.TheVariants.{Items, Members, List, Context}
use Rattle.heap.specs.declared.handle.Parts.{Parts}
use Rattle.heap.specs.declared.handle.Span.{Span}
use Rattle.heap.specs.Unfold.{Areas, compound_by, opened, value_by, unfolded, instant_at}
use Rattle.writer.specs.declared.value.Progress.{Progress}
use Rattle.std.specs.Prelude.{Option, None}
use Rattle.writer.specs.Inner.{At, Puts, Piece, piece, value_piece, inside_piece, handle_text, opening_of, Writes, wrote, over, within, ValueWrites, PartsWrite}
use Rattle.writer.proofs.Pieces.{at_inj, Passing, stays, passes, passing, within_stays, within_passes, ends}

-- ---- refused at once
pub none_left : (v : Value) {deep left at : ℕ} {d d₁ : Bytes} → left ≡ 0 → Writes (value_piece v) deep left at d None d₁
none_left v e = over (inr (inl (omega (arith, count_positive v)))) refl

pub too_long : (v : Value) {deep left at : ℕ} {d d₁ : Bytes} → max_text_bytes < at → Writes (value_piece v) deep left at d None d₁
too_long v h = over (inr (inr (omega arith))) refl

-- Whatever its parts are, an array or object nests.
nests : (a : Areas) (f : Handle → Value) (p : Parts) → 1 ≤ nesting (opened a f p)
unfolding nesting
nests a f p = go p.form
  where
    go : (form : Form) → 1 ≤ nesting (compound_by a f form p)
    go Items = omega arith
    go Members = omega arith
    go List = omega arith
    go Context = omega arith

pub too_deep : (a : Areas) (p : Parts) {deep left at : ℕ} {d d₁ : Bytes} → deep ≡ 0 → Writes (value_piece (unfolded a deep (Compound p))) deep left at d None d₁
unfolding unfolded
too_deep a p {deep} e = rw e (over (inl (omega (arith, nests a (λ x. scalar null) p))) refl)

-- ---- scalars and instants
instant_piece : (n : ℕ) → value_piece (instant_at n) ≡ piece (value_text (instant_at n)) 1 0
unfolding instant_at value_count nesting
instant_piece n = go (in_range (from_year0 n))
  where
    go : (b : Bool) → value_piece (elim b [ true ↦ instant (from_year0 n) | false ↦ scalar null ]) ≡ piece (value_text (elim b [ true ↦ instant (from_year0 n) | false ↦ scalar null ])) 1 0
    go true = refl
    go false = refl

-- A handle of no array or object.
pub data Scalarlike : Handle → Type 0 where
  of_null : Scalarlike Null
  of_false : Scalarlike False
  of_true : Scalarlike True
  of_integer : {n : ℕ} → Scalarlike (Integer n)
  of_instant : {n : ℕ} → Scalarlike (Instant n)
  of_string : {s : Span} → Scalarlike (String s)

pub scalarlike : (h : Handle) → ((p : Parts) → h ≡ Compound p → ⊥) → Scalarlike h
scalarlike Null k = of_null
scalarlike False k = of_false
scalarlike True k = of_true
scalarlike (Integer n) k = of_integer
scalarlike (Instant n) k = of_instant
scalarlike (String s) k = of_string
scalarlike (Compound p) k = absurd (k p refl)

scalar_piece : (a : Areas) (f : Handle → Value) {h : Handle} → Scalarlike h → value_piece (value_by a f h) ≡ piece (handle_text a.rule a.strings h) 1 0
unfolding value_text value_count nesting
scalar_piece a f of_null = refl
scalar_piece a f of_false = refl
scalar_piece a f of_true = refl
scalar_piece a f of_integer = refl
scalar_piece a f (of_instant {n}) = instant_piece n
scalar_piece a f of_string = refl

scalar_writes : (a : Areas) {h : Handle} (deep : ℕ) {left at m : ℕ} {d d₁ : Bytes} → Scalarlike h → 1 ≤ left → Puts (handle_text a.rule a.strings h) at d m d₁
    → Writes (value_piece (unfolded a deep h)) deep left at d (within m (left - 1)) d₁
unfolding unfolded
scalar_writes a zero s l p = rw (scalar_piece a (λ x. scalar null) s) (ends 1 l p)
scalar_writes a (suc deep) s l p = rw (scalar_piece a (unfolded a deep) s) (ends 1 l p)

pub scalar_value : (a : Areas) {h : Handle} (deep : ℕ) {left at m : ℕ} {d d₁ : Bytes} (q : Option Progress) → Scalarlike h → 1 ≤ left → Puts (handle_text a.rule a.strings h) at d m d₁
    → q ≡ within m (left - 1) → ValueWrites a h deep at left d q d₁
scalar_value a deep q s l p e = record { writes = rw e (scalar_writes a deep s l p) }

-- ---- arrays and objects
-- A piece between an opening byte and the closing one, which is two more: one value more, and one deeper.
abbrev enclosed : ℕ → Piece → Piece
enclosed o p = piece (o ∷ (p.text ++ ((o + 2) ∷ []))) (suc p.values) (suc p.depth)

compound_piece : (a : Areas) (f : Handle → Value) (p : Parts) → value_piece (opened a f p) ≡ enclosed (opening_of p.form) (inside_piece (opened a f p) [])
unfolding value_text value_count nesting
compound_piece a f p = go p.form
  where
    go : (form : Form) → value_piece (compound_by a f form p) ≡ enclosed (opening_of form) (inside_piece (compound_by a f form p) [])
    go Items = refl
    go Members = refl
    go List = refl
    go Context = refl

enclosed_length : (o : ℕ) (p : Piece) → length (enclosed o p).text ≡ length p.text + 2
enclosed_length o p = omega (arith, length-append p.text ((o + 2) ∷ []))

-- Its parts are too large.
enclosed_over : (o : ℕ) {p : Piece} {deep left at : ℕ} {d d₁ d₂ : Bytes} → 1 ≤ left → Writes p deep (left - 1) (at + 1) (set d at o) None d₁
    → Writes (enclosed o p) (suc deep) left at d None d₂
enclosed_over o l (wrote a b c g f) = clash cc
enclosed_over o l (over (inl x) g) = over (inl (omega arith)) refl
enclosed_over o l (over (inr (inl x)) g) = over (inr (inl (omega arith))) refl
enclosed_over o {p} l (over (inr (inr x)) g) = over (inr (inr (omega (arith, enclosed_length o p)))) refl

enclosed_closes : (o : ℕ) {p : Piece} {deep left at end rest : ℕ} {d d₁ : Bytes} → 1 ≤ left → Writes p deep (left - 1) (at + 1) (set d at o) (At end rest) d₁
    → Writes (enclosed o p) (suc deep) left at d (within (end + 1) rest) (set d₁ end (o + 2))
enclosed_closes o {p} {deep} {left} {at} {end} {rest} {d} {d₁} l (over x g) = clash cc
enclosed_closes o {p} {deep} {left} {at} {end} {rest} {d} {d₁} l (wrote a b c g f) = go (passing (end + 1))
  where
    end_is : end ≡ at + 1 + length p.text
    end_is = (at_inj g).0

    rest_is : rest ≡ left - 1 - p.values
    rest_is = (at_inj g).1

    size : length (enclosed o p).text ≡ length p.text + 2
    size = enclosed_length o p

    rest_left : rest ≡ left - suc p.values
    rest_left = omega (arith, rest_is)

    close_at : end + 1 ≡ at + length (enclosed o p).text
    close_at = omega (arith, end_is, size)

    place : suc at + length p.text ≡ end
    place = omega (arith, end_is)

    stored : set d₁ end (o + 2) ≡ sets d at (enclosed o p).text
    stored =
        ap (λ (x : Bytes). set x end (o + 2)) (f ∙ ap (λ (n : ℕ). sets (set d at o) n p.text) (add-one at))
        ∙ ap (λ (n : ℕ). set (sets (set d at o) (suc at) p.text) n (o + 2)) (sym place)
        ∙ sets_append p.text ((o + 2) ∷ []) (set d at o) (suc at)

    go : Passing (end + 1) → Writes (enclosed o p) (suc deep) left at d (within (end + 1) rest) (set d₁ end (o + 2))
    go (stays k) = wrote (omega arith) (omega arith) (omega (arith, close_at)) (within_stays (end + 1) rest k ∙ (λ i. At (close_at i) (rest_left i))) stored
    go (passes k) = over (inr (inr (omega (arith, close_at)))) (within_passes (end + 1) rest k)

-- The value of an array or object is its parts, enclosed.
deeper : (a : Areas) (p : Parts) (deep : ℕ) → 1 ≤ deep → value_piece (unfolded a deep (Compound p)) ≡ enclosed (opening_of p.form) (inside_piece (opened a (unfolded a (deep - 1)) p) [])
unfolding unfolded
deeper a p deep some =
    let e : deep ≡ suc (deep - 1) = omega arith in
    ap (λ (n : ℕ). value_piece (unfolded a n (Compound p))) e ∙ compound_piece a (unfolded a (deep - 1)) p

module _ (a : Areas) (p : Parts) (deep left at : ℕ) (some_deep : 1 ≤ deep) (some_left : 1 ≤ left) where
  abbrev inside : Piece
  inside = inside_piece (opened a (unfolded a (deep - 1)) p) []

  abbrev opens : ℕ
  opens = opening_of p.form

  same_depth : suc (deep - 1) ≡ deep
  same_depth = omega arith

  enclosing : {d d₂ : Bytes} {r : Option Progress} → Writes (enclosed opens inside) (suc (deep - 1)) left at d r d₂ → ValueWrites a (Compound p) deep at left d r d₂
  enclosing w = record { writes = rw (deeper a p deep some_deep) (rw same_depth at w) }

  module _ (d d₀ : Bytes) {d₁ : Bytes} (b : ℕ) (is-opening : b ≡ opens) (opened-by : d₀ ≡ set d at b) (r : Option Progress) (w : PartsWrite a p (deep - 1) (at + 1) (left - 1) d₀ r d₁) where
    opened_writes : Writes inside (deep - 1) (left - 1) (at + 1) (set d at opens) r d₁
    opened_writes = rw (← is-opening, ← opened-by) w.writes

    pub compound_over : r ≡ None → ValueWrites a (Compound p) deep at left d None d₁
    compound_over e = enclosing (enclosed_over opens {p = inside} some_left (rw e at opened_writes))

    pub compound_closes : (end rest : ℕ) {d₂ : Bytes} (q : Option Progress) → r ≡ At end rest → d₂ ≡ set d₁ end (b + 2) → q ≡ within (end + 1) rest → ValueWrites a (Compound p) deep at left d q d₂
    compound_closes end rest q e f g = rw (f, g, is-opening) (enclosing (enclosed_closes opens {p = inside} some_left (rw e at opened_writes)))

-- The text goes no further than the largest.
pub writes_short : {p : Piece} {deep left at end rest : ℕ} {d d₁ : Bytes} (r : Option Progress) → Writes p deep left at d r d₁ → r ≡ At end rest → end ≤ max_text_bytes
writes_short {p} {at = at} {end = end} r (wrote x y z g f) e = let q : end ≡ at + length p.text = (at_inj (sym e ∙ g)).0 in omega arith
writes_short r (over x g) e = clash cc

pub opening_small : (form : Form) → opening_of form ≤ 123
opening_small Items = omega arith
opening_small Members = omega arith
opening_small List = omega arith
opening_small Context = omega arith
