-- Pieces of a text, one after another.
use mathlib.Core.Path.{◌≡◌, refl, sym, ap, ◌∙◌}
use mathlib.Core.Bool.{Bool, true, false}
use mathlib.Core.List.{[], ◌++◌}
use mathlib.Core.Logic.{inl, inr}
use Prim.Native.Nat.{ℕ, ◌+◌, ◌-◌, ◌≤◌, ◌<◌, max}
use native.Mathlib.Omega.{arith}
use native.Mathlib.Nat.{add-zero, le-max_left, le-max_right, max-le}
use borrow.Author.Tests.{lt-ltb, le-ltb}
use lib.Dec.{ltb}
use lib.ListN.{length, length-append}
use lib.Seq.{sets}
use Rattle.area.specs.Laws.{sets_append}
use Rattle.model.specs.Bytes.{Bytes}
use Rattle.model.specs.Limits.{max_text_bytes}
use Rattle.model.proofs.Laws.Logic.{clash}
use Rattle.print.specs.Contract.{Put}
use Rattle.writer.specs.declared.value.Progress.{Progress}
use Rattle.std.specs.Prelude.{Option, None, Some}
use Rattle.writer.specs.Inner.{At, Puts, Piece, piece, Writes, wrote, over, within}

infixr 20 ◌⊕◌
abbrev pub ◌⊕◌ : Piece → Piece → Piece
p ⊕ q = piece (p.text ++ q.text) (p.values + q.values) (max p.depth q.depth)

-- Bytes in front of a piece.
abbrev pub fronted : Bytes → Piece → Piece
fronted s p = piece (s ++ p.text) p.values p.depth

-- How far a text goes, and how many values may follow, are known.
abbrev place_of : Option Progress → ℕ
place_of None = 0
place_of (Some p) = p.at

abbrev rest_of : Option Progress → ℕ
rest_of None = 0
rest_of (Some p) = p.left

pub at_inj : {a b l m : ℕ} → At a l ≡ At b m → (a ≡ b) × (l ≡ m)
at_inj e = (ap place_of e, ap rest_of e)

-- ---- whether a text passes the largest
pub data Passing (n : ℕ) : Type 0 where
  stays : n ≤ max_text_bytes → Passing n
  passes : max_text_bytes < n → Passing n

pub passing : (n : ℕ) → Passing n
passing n = go (ltb max_text_bytes n) refl
  where
    go : (b : Bool) → ltb max_text_bytes n ≡ b → Passing n
    go true e = passes (omega (arith, borrow.Author.Tests.ltb-true max_text_bytes n e))
    go false e = stays (omega (arith, borrow.Author.Tests.ltb-false max_text_bytes n e))

pub within_stays : (n left : ℕ) → n ≤ max_text_bytes → within n left ≡ At n left
within_stays n left h = rw (le-ltb max_text_bytes n h)

pub within_passes : (n left : ℕ) → max_text_bytes < n → within n left ≡ None
within_passes n left h = rw (lt-ltb max_text_bytes n h)

-- A text that is put, of n values and no nesting, and the test of its end.
pub ends : {s : Bytes} (n : ℕ) {deep left at m : ℕ} {d d₁ : Bytes} → n ≤ left → Puts s at d m d₁ → Writes (piece s n 0) deep left at d (within m (left - n)) d₁
ends {s} n {deep} {left} {at} {m} {d} {d₁} l h = go (passing (at + length s))
  where
    go : Passing (at + length s) → Writes (piece s n 0) deep left at d (within m (left - n)) d₁
    go (stays k) = wrote (omega arith) l k (rw (h.fits k).end (within_stays (at + length s) (left - n) k)) (h.fits k).output
    go (passes k) = over (inr (inr k)) (within_passes m (left - n) (h.passes k))

pub put_puts : {s : Bytes} {at m : ℕ} {d d₁ : Bytes} → Put s at d m d₁ → Puts s at d m d₁
put_puts {s} {at} {m} h = record { fits = λ k. h; passes = λ k. omega (arith, h.end) }

-- Nothing is put.
pub nothing : {deep left at : ℕ} {d : Bytes} → Writes (piece [] 0 0) deep left at d (within at left) d
nothing {deep} {left} {at} {d} =
    let z : left - 0 ≡ left = omega arith in
    rw z at (ends {s = []} 0 {deep = deep} {left = left} {at = at} {m = at} {d = d} {d₁ = d} (omega arith) (put_puts (record { end = sym (add-zero at); output = refl })))

-- ---- one after another
-- Bytes, and then a piece.
pub front_first : {s : Bytes} {q : Piece} {deep left at m : ℕ} {d d₁ d₂ : Bytes} {r : Option Progress} → Puts s at d m d₁ → Writes q deep left m d₁ r d₂ → Writes (fronted s q) deep left at d r d₂
front_first {s} {q} {deep} {left} {at} {m} {d} {d₁} {d₂} {r} h w = go (passing (at + length s)) w
  where
    go : Passing (at + length s) → Writes q deep left m d₁ r d₂ → Writes (fronted s q) deep left at d r d₂
    go (stays k) (wrote a b c e f) =
        let l = length-append s q.text in
        let g = (h.fits k).end in
        wrote a b (omega arith)
        (e ∙ ap (λ n. At n (left - q.values)) (omega arith))
        (f ∙ (λ i. sets ((h.fits k).output i) (g i) q.text) ∙ sets_append s q.text d at)
    go (stays k) (over (inl a) e) = over (inl a) e
    go (stays k) (over (inr (inl a)) e) = over (inr (inl a)) e
    go (stays k) (over (inr (inr a)) e) = over (inr (inr (omega (arith, length-append s q.text, (h.fits k).end)))) e
    go (passes k) (wrote a b c e f) = absurd (omega (arith, h.passes k))
    go (passes k) (over a e) = over (inr (inr (omega (arith, length-append s q.text)))) e

-- A piece, and then another with what it left.
pub then : {p q : Piece} {deep left at e l : ℕ} {d d₁ d₂ : Bytes} {r : Option Progress} → Writes p deep left at d (At e l) d₁ → Writes q deep l e d₁ r d₂ → Writes (p ⊕ q) deep left at d r d₂
then {p} {q} {deep} {left} {at} {e} {l} {d} {d₁} {d₂} {r} (wrote a b c g f) w = go w
  where
    e_is : e ≡ at + length p.text
    e_is = (at_inj g).0

    l_is : l ≡ left - p.values
    l_is = (at_inj g).1

    app : length (p.text ++ q.text) ≡ length p.text + length q.text
    app = length-append p.text q.text

    go : Writes q deep l e d₁ r d₂ → Writes (p ⊕ q) deep left at d r d₂
    go (wrote a' b' c' g' f') =
        wrote (max-le a a') (omega (arith, l_is)) (omega (arith, app, e_is))
        (g' ∙ (λ i. At (ends_at i) (leaves i)))
        (f' ∙ (λ i. sets (f i) (e_is i) q.text) ∙ sets_append p.text q.text d at)
      where
        ends_at : e + length q.text ≡ at + length (p.text ++ q.text)
        ends_at = omega (arith, app, e_is)

        leaves : l - q.values ≡ left - (p.values + q.values)
        leaves = omega (arith, l_is)
    go (over (inl x) y) = over (inl (omega (arith, le-max_right p.depth q.depth))) y
    go (over (inr (inl x)) y) = over (inr (inl (omega (arith, l_is)))) y
    go (over (inr (inr x)) y) = over (inr (inr (omega (arith, app, e_is)))) y
then (over a g) w = clash cc

-- A piece that is too large makes what it begins too large.
pub stops : {p : Piece} (q : Piece) {deep left at : ℕ} {d d₁ d₂ : Bytes} → Writes p deep left at d None d₁ → Writes (p ⊕ q) deep left at d None d₂
stops {p} q (wrote a b c g f) = clash cc
stops {p} q (over (inl x) g) = over (inl (omega (arith, le-max_left p.depth q.depth))) refl
stops {p} q (over (inr (inl x)) g) = over (inr (inl (omega arith))) refl
stops {p} q (over (inr (inr x)) g) = over (inr (inr (omega (arith, length-append p.text q.text)))) refl
