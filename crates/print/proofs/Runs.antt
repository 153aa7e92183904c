-- Runs of bytes that stand as they are.
use mathlib.Core.Path.{◌≡◌, refl, sym, ap, ◌∙◌}
use mathlib.Core.Bool.{Bool, true, false, ◌&&◌, cond, true≢false}
use mathlib.Core.List.{[], ◌∷◌}
use Prim.Native.Nat.{ℕ, zero, suc, ◌+◌, ◌-◌, ◌≤◌, ◌<◌}
use native.Mathlib.Omega.{arith}
use lib.Dec.{T}
use lib.ListN.{length, get_or, take, drop, length-drop}
use lib.Seq.{drop-drop, take_all}
use Rattle.std.specs.List.{fold, prefix_len}
use Rattle.model.specs.Bytes.{Bytes}
use Rattle.model.specs.Lists.{all}
use Rattle.model.proofs.Laws.Logic.{and_i, true→t}

-- A fold that looks at each byte.
fold_from : (p : ℕ → Bool) (a : Bool) (s : Bytes) → fold (λ b x. b && p x) a s ≡ a && all p s
fold_from p true [] = refl
fold_from p false [] = refl
fold_from p true (x ∷ s) = fold_from p (p x) s
fold_from p false (x ∷ s) = fold_from p false s

pub fold_all : (p : ℕ → Bool) (s : Bytes) → fold (λ b x. b && p x) true s ≡ all p s
fold_all p s = fold_from p true s

-- The run goes on behind bytes that all stand as they are.
pub run_on : (p : ℕ → Bool) (n : ℕ) (s : Bytes) → n ≤ length s → all p (take n s) ≡ true → prefix_len p s ≡ n + prefix_len p (drop n s)
run_on p zero s h e = omega arith
run_on p (suc n) [] h e = absurd (omega arith)
run_on p (suc n) (x ∷ s) h e = go (p x) (run_on p n s (omega arith)) e
  where
    go : (t : Bool) → (all p (take n s) ≡ true → prefix_len p s ≡ n + prefix_len p (drop n s)) → t && all p (take n s) ≡ true → cond t (1 + prefix_len p s) 0 ≡ suc n + prefix_len p (drop n s)
    go true f e = omega (arith, f e)
    go false f e = absurd (true≢false (sym e))

-- The loop's step, over a place in the text.
pub run_goes : (p : ℕ → Bool) (s : Bytes) (at n : ℕ) {r : Bool} → at + n ≤ length s → r ≡ fold (λ b x. b && p x) true (take (at + n - at) (drop at s)) → r ≡ true
    → prefix_len p (drop at s) ≡ n + prefix_len p (drop (at + n) s)
run_goes p s at n h e t =
    let k : at + n - at ≡ n = omega arith in
    run_on p n (drop at s) (omega (arith, length-drop at s)) (sym (fold_all p (take n (drop at s))) ∙ sym (rw k at e) ∙ t)
    ∙ ap (λ (x : Bytes). n + prefix_len p x) (drop-drop n at s)

-- All from a place on.
pub rest_all : (s : Bytes) (at : ℕ) → take (length s - at) (drop at s) ≡ drop at s
rest_all s at = take_all (length s - at) (drop at s) (omega (arith, length-drop at s))

-- The bytes of a run.
pub run_all : (p : ℕ → Bool) (s : Bytes) → T (all p (take (prefix_len p s) s))
run_all p [] = tt
run_all p (x ∷ s) = go (p x) refl (run_all p s)
  where
    go : (t : Bool) → p x ≡ t → T (all p (take (prefix_len p s) s)) → T (all p (take (cond t (1 + prefix_len p s) 0) (x ∷ s)))
    go true f r = let e : 1 + prefix_len p s ≡ suc (prefix_len p s) = omega arith in rw e (and_i (p x) (all p (take (prefix_len p s) s)) (true→t (p x) f) r)
    go false f r = tt

pub run_inside : (p : ℕ → Bool) (s : Bytes) → prefix_len p s ≤ length s
run_inside p [] = omega arith
run_inside p (x ∷ s) = go (p x) (run_inside p s)
  where
    go : (t : Bool) → prefix_len p s ≤ length s → cond t (1 + prefix_len p s) 0 ≤ suc (length s)
    go true r = omega arith
    go false r = omega arith

-- A run that begins with such a byte has one.
pub run_some : (p : ℕ → Bool) (s : Bytes) → 0 < length s → p (get_or s 0 0) ≡ true → 1 ≤ prefix_len p s
run_some p [] h e = absurd (omega arith)
run_some p (x ∷ s) h e = rw e (omega arith)
