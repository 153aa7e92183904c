-- Tokens: a number, an instant, a string, a name, as the writer puts them.
use mathlib.Core.Path.{◌≡◌, refl, ap, ◌∙◌}
use mathlib.Core.Bool.{Bool, true, false}
use mathlib.Core.List.{◌++◌}
use Prim.Native.Nat.{ℕ, suc, ◌+◌, ◌-◌, ◌≤◌, ◌<◌}
use native.Mathlib.Omega.{arith}
use borrow.Author.Tests.{le-leb, lt-leb}
use lib.IntN.{ℤ, pos, negsuc}
use lib.ListN.{length, length-append}
use Rattle.model.specs.Bytes.{Bytes, ascii}
use Rattle.model.specs.Instant.{in_range, ranged, from_year0}
use Rattle.model.specs.InstantText.{instant_text}
use Rattle.model.specs.Limits.{max_text_bytes}
use Rattle.model.specs.declared.refusal.Fault.TheVariants.{OutOfRange}
use Rattle.model.specs.Result.{ok, refuse, provided}
use Rattle.model.specs.Value.{scalar, instant, null}
use Rattle.model.specs.Writing.{decimal, integer_text, string_text, value_text}
use Rattle.model.proofs.Laws.Logic.{clash}
use Rattle.syntax.specs.Layout.{unbiased}
use Rattle.heap.specs.Unfold.{instant_at}
use Rattle.print.specs.Contract.{Put, StringPut}
use Rattle.print.specs.Laws.{put_then, string_fits, string_passes}
use Rattle.writer.specs.Inner.{Puts}
use Rattle.writer.proofs.Pieces.{Passing, stays, passes, passing}

-- ---- one text after another
pub puts_as : {x y : Bytes} {at r : ℕ} {d d' : Bytes} → Puts x at d r d' → x ≡ y → Puts y at d r d'
puts_as p e = rw e at p

-- A text, and bytes behind it.
pub puts_then : {x y : Bytes} {at m r : ℕ} {d d₁ d₂ : Bytes} → Puts x at d m d₁ → Put y m d₁ r d₂ → Puts (x ++ y) at d r d₂
puts_then {x} {y} {at} {m} {r} {d} {d₁} {d₂} p q =
    let l = length-append x y in
    record { fits = λ k. put_then (p.fits (omega arith)) q; passes = λ k. past k (passing (at + length x)) }
  where
    past : max_text_bytes < at + length (x ++ y) → Passing (at + length x) → max_text_bytes < r
    past k (stays h) = omega (arith, length-append x y, (p.fits h).end, q.end)
    past k (passes h) = omega (arith, p.passes h, q.end)

-- Bytes, and a text behind them.
pub then_puts : {x y : Bytes} {at m r : ℕ} {d d₁ d₂ : Bytes} → Put x at d m d₁ → Puts y m d₁ r d₂ → Puts (x ++ y) at d r d₂
then_puts {x} {y} p q =
    let l = length-append x y in
    let e = p.end in
    record { fits = λ k. put_then p (q.fits (omega arith)); passes = λ k. q.passes (omega arith) }

-- ---- integers
up : (n : ℕ) → 9007199254740992 ≤ n → pos (n - 9007199254740992) ≡ unbiased n
unfolding unbiased
up n h = rw (le-leb 9007199254740992 n h, unbiased)

down : (n : ℕ) → n < 9007199254740992 → negsuc (9007199254740991 - n) ≡ unbiased n
unfolding unbiased
down n h = rw (lt-leb 9007199254740992 n h, unbiased)

pub integer_up : (n : ℕ) → 9007199254740992 ≤ n → decimal (n - 9007199254740992) ≡ integer_text (unbiased n)
integer_up n h = ap integer_text (up n h)

pub integer_down : (n : ℕ) → n < 9007199254740992 → ascii "-" ++ decimal (9007199254740992 - n) ≡ integer_text (unbiased n)
integer_down n h =
    let e : 9007199254740992 - n ≡ suc (9007199254740991 - n) = omega arith in
    ap (λ (k : ℕ). ascii "-" ++ decimal k) e ∙ ap integer_text (down n h)

-- ---- instants
pub instant_in : (n : ℕ) {t : ℤ} → ok t ≡ ranged (from_year0 n) → string_text (instant_text t) ≡ value_text (instant_at n)
unfolding instant_at value_text
instant_in n {t} = go (in_range (from_year0 n)) (from_year0 n)
  where
    go : (b : Bool) (z : ℤ) → ok t ≡ provided b OutOfRange (ok z) → string_text (instant_text t) ≡ value_text (elim b [ true ↦ instant z | false ↦ scalar null ])
    go true z e = let f : t ≡ z = cc in ap (λ (x : ℤ). string_text (instant_text x)) f
    go false z e = clash cc

pub instant_out : (n : ℕ) → refuse OutOfRange ≡ ranged (from_year0 n) → ascii "null" ≡ value_text (instant_at n)
unfolding instant_at value_text
instant_out n = go (in_range (from_year0 n)) (from_year0 n)
  where
    go : (b : Bool) (z : ℤ) → refuse OutOfRange ≡ provided b OutOfRange (ok z) → ascii "null" ≡ value_text (elim b [ true ↦ instant z | false ↦ scalar null ])
    go true z e = clash cc
    go false z e = refl

-- ---- strings
pub string_puts : {s : Bytes} {at r : ℕ} {d d' : Bytes} → StringPut s at d r d' → Puts (string_text s) at d r d'
string_puts p = record { fits = λ k. string_fits p (omega arith); passes = string_passes p }
