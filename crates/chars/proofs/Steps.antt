-- The steps of the definition `chars`, one at a time and several in a row. Assumes nothing.
use mathlib.Core.Path.{◌≡◌, refl, sym, ap, ◌∙◌}
use mathlib.Core.List.{[], ◌++◌, append_assoc}
use Prim.Native.Nat.{ℕ, suc, ◌+◌, ◌≤◌, ◌<◌}
use native.Mathlib.Omega.{arith}
use native.Mathlib.Nat.{zero-add, add_assoc}
use lib.ListN.{length, drop, length-append}
use lib.Seq.{sets}
use Rattle.model.specs.Bytes.{Bytes}
use Rattle.model.specs.declared.refusal.ReadFault.{ReadFault}
use Rattle.model.specs.declared.refusal.ReadFault.TheVariants.{LoneSurrogate}
use Rattle.area.specs.Laws.{sets_append}
use Rattle.syntax.specs.declared.Unit.TheVariants.{Plain, High, Low}
use Rattle.syntax.specs.Read.{Parsed, ok, bad, then, give, closing, bytes, unit, on_piece, on_unit, or_lone, lone, char, chars, clear, high, grow}
use Rattle.syntax.specs.Utf8.{unit_of, utf8, pair_of}
use Rattle.chars.specs.Inner.{Reads, Taken}

-- ---- one step
module _ (f : ℕ) (t : Bytes) (at : ℕ) where
  pub chars_bytes : (bs u : Bytes) (q : ℕ) → char t at ≡ ok (bytes bs) u q → chars (suc f) clear t at ≡ grow bs (chars f clear u q)
  unfolding chars then on_piece
  chars_bytes bs u q e = rw e

  pub chars_closing : (u : Bytes) (q : ℕ) → char t at ≡ ok closing u q → chars (suc f) clear t at ≡ ok [] u q
  unfolding chars then on_piece give
  chars_closing u q e = rw e

  pub chars_bad : (k : ReadFault) (p : ℕ) → char t at ≡ bad k p → chars (suc f) clear t at ≡ bad k p
  unfolding chars then
  chars_bad k p e = rw e

  pub chars_plain : (c : ℕ) (u : Bytes) (q : ℕ) → char t at ≡ ok (unit c) u q → unit_of c ≡ Plain → chars (suc f) clear t at ≡ grow (utf8 c) (chars f clear u q)
  unfolding chars then on_piece on_unit
  chars_plain c u q e k = rw (e, k)

  pub chars_high : (c : ℕ) (u : Bytes) (q : ℕ) → char t at ≡ ok (unit c) u q → unit_of c ≡ High → chars (suc f) clear t at ≡ chars f (high c at) u q
  unfolding chars then on_piece on_unit
  chars_high c u q e k = rw (e, k)

  pub chars_low : (c : ℕ) (u : Bytes) (q : ℕ) → char t at ≡ ok (unit c) u q → unit_of c ≡ Low → chars (suc f) clear t at ≡ bad LoneSurrogate at
  unfolding chars then on_piece on_unit lone
  chars_low c u q e k = rw (e, k)

  pub chars_pair : (h p c : ℕ) (u : Bytes) (q : ℕ) → char t at ≡ ok (unit c) u q → unit_of c ≡ Low
      → chars (suc f) (high h p) t at ≡ grow (utf8 (pair_of h c)) (chars f clear u q)
  unfolding chars or_lone on_piece on_unit
  chars_pair h p c u q e k = rw (e, k)

-- ---- several steps
pub grow_none : (r : Parsed Bytes) → grow [] r ≡ r
unfolding grow then give
grow_none (ok bs t q) = refl
grow_none (bad k p) = refl

pub grow_grow : (xs ys : Bytes) (r : Parsed Bytes) → grow xs (grow ys r) ≡ grow (xs ++ ys) r
unfolding grow then give
grow_grow xs ys (ok bs t q) = ap (λ z. ok z t q) (sym (append_assoc xs ys bs))
grow_grow xs ys (bad k p) = refl

pub reads_none : (s : Bytes) (at : ℕ) → at ≤ length s → Reads s at [] at
reads_none s at h =
    record {
      steps = 0;
      few = omega arith;
      short = omega arith;
      inside = h;
      run = λ f. ap (λ g. chars g clear (drop at s) at) (zero-add f) ∙ sym (grow_none _);
    }

-- A reading in one step.
pub reads_one : (s : Bytes) (at : ℕ) (bs : Bytes) (i : ℕ) → at < i → at + length bs ≤ i → i ≤ length s
    → ((f : ℕ) → chars (suc f) clear (drop at s) at ≡ grow bs (chars f clear (drop i s) i)) → Reads s at bs i
reads_one s at bs i h l g r =
    record { steps = 1; few = omega arith; short = l; inside = g; run = λ f. let e : 1 + f ≡ suc f = omega arith in ap (λ n. chars n clear (drop at s) at) e ∙ r f }

pub reads_then : {s xs ys : Bytes} {at i j : ℕ} → Reads s at xs i → Reads s i ys j → Reads s at (xs ++ ys) j
reads_then {s} {xs} {ys} {at} a b =
    record {
      steps = a.steps + b.steps;
      few = omega arith;
      short = simp length-append (omega arith);
      inside = b.inside;
      run = λ f. ap (λ g. chars g clear (drop at s) at) (add_assoc a.steps b.steps f) ∙ a.run (b.steps + f) ∙ ap (grow xs) (b.run f) ∙ grow_grow xs ys _;
    }

pub taken_none : (s : Bytes) (at used : ℕ) (A : Bytes) → at ≤ length s → Taken s at used A at used A
taken_none s at used A h = record { bs = []; reads = reads_none s at h; next = omega arith; area = refl }

pub taken_then : {s A B C : Bytes} {at used i to j end : ℕ} → Taken s at used A i to B → Taken s i to B j end C → Taken s at used A j end C
taken_then {A = A} {C = C} {used = used} a b =
    record {
      bs = a.bs ++ b.bs;
      reads = reads_then a.reads b.reads;
      next = simp length-append (omega arith);
      area = b.area ∙ (λ k. sets (a.area k) (a.next k) b.bs) ∙ sets_append a.bs b.bs A used;
    }
