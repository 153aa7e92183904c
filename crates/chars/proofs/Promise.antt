-- The whole reading of a string's characters: its turns, and its ends. Assumes nothing.
use mathlib.Core.Path.{◌≡◌, refl, sym, ap, ◌∙◌, subst⁻¹}
use mathlib.Core.Bool.{Bool, true}
use mathlib.Core.List.{[], ◌++◌, append-nil}
use Prim.Native.Nat.{ℕ, zero, suc, ◌+◌, ◌-◌, ◌≤◌, ◌<◌}
use native.Mathlib.Omega.{arith}
use lib.ListN.{length, drop, take, length-append}
use lib.Seq.{sets, length-sets, take-take}
use Rattle.model.specs.Bytes.{Bytes}
use Rattle.model.specs.declared.refusal.ReadFault.TheVariants.{NotJson}
use Rattle.area.specs.Laws.{sets_append, take_sets_before}
use Rattle.syntax.specs.Read.{Parsed, ok, bad, then, give, chars, clear, grow}
use Rattle.syntax.specs.Utf8.{lead_of}
use Rattle.scan.specs.declared.Fault.{Fault}
use Rattle.scan.specs.Contract.{fault_of, Stands}
use Rattle.chars.specs.declared.Decoded.{Decoded}
use Rattle.std.specs.Prelude.{Result, Ok, Err}
use Rattle.chars.specs.Contract.{decoded, CharsMeets, CharsPromise}
use Rattle.chars.specs.Inner.{Room, Taken, Stopped}
use Rattle.chars.proofs.Steps.{chars_closing, chars_bad}
use Rattle.chars.proofs.Read.{char_closing, char_end}
use Rattle.chars.proofs.Loops.{taken_length}
use Rattle.chars.proofs.Halves.{stands_is}

closing : {s : Bytes} {i : ℕ} {q : Bool} → Stands s i 34 q → q ≡ true → (f : ℕ) → chars (suc f) clear (drop i s) i ≡ ok [] (drop i s) i
unfolding lead_of
closing {s} {i} t e f = chars_closing f (drop i s) i (drop i s) i (char_closing s i (t.room e) (ap lead_of (stands_is t e)))

module _ {s A B : Bytes} {at used i to : ℕ} (t : Taken s at used A i to B) where
  -- The steps that are left after i.
  rest : ℕ → ℕ
  rest f = f - t.reads.steps

  on : (f : ℕ) → length s < at + f → chars f clear (drop at s) at ≡ grow t.bs (chars (rest f) clear (drop i s) i)
  unfolding rest
  on f h =
      let e : f ≡ t.reads.steps + (f - t.reads.steps) = omega (arith, t.reads.few, t.reads.inside) in
      ap (λ g. chars g clear (drop at s) at) e ∙ t.reads.run (f - t.reads.steps)

  -- What is decoded is never ahead of the text.
  pub room_of : used ≤ at → length s ≤ length A → Room s i to B
  room_of h l = record { inside = t.reads.inside; behind = omega (arith, t.reads.short); fits = omega (arith, taken_length t) }

  promise : (r : Result Decoded Fault) {C : Bytes} → C ≡ B → ((f : ℕ) → length s < at + f → CharsMeets s at used A (chars f clear (drop at s) at) r C) → CharsPromise s at used A r C
  promise r e m =
      record {
        run = m;
        size = ap length (e ∙ t.area) ∙ length-sets A used t.bs;
        kept = ap (take used) (e ∙ t.area) ∙ take_sets_before used t.bs A used (omega arith);
      }

  pub promise_closed : {q : Bool} → Stands s i 34 q → q ≡ true → CharsPromise s at used A (Ok (decoded i to)) B
  unfolding rest grow then give
  promise_closed x e =
      promise (Ok (decoded i to)) refl
      (λ f h.
      let k : rest f ≡ suc (rest f - 1) = omega (arith, t.reads.few, t.reads.inside) in
      subst⁻¹ (λ g. CharsMeets s at used A g (Ok (decoded i to)) B)
      (on f h ∙ ap (λ n. grow t.bs (chars n clear (drop i s) i)) k ∙ ap (grow t.bs) (closing x e (rest f - 1))
      ∙ ap (λ bs. ok bs (drop i s) i) (append-nil t.bs))
      (record {
        answer = ap (λ n. Ok (decoded i n)) t.next;
        area = t.area;
        left = refl;
        on = t.reads.short;
        inside = x.room e;
        quote = stands_is x e;
      }))

  pub promise_stopped : {y : Fault} {C : Bytes} → Stopped s i B y C → CharsPromise s at used A (Err y) C
  unfolding rest grow then
  promise_stopped {y} {C} x =
      promise (Err y) x.same
      (λ f h.
      let l : length s < i + rest f = omega (arith, t.reads.few) in
      subst⁻¹ (λ g. CharsMeets s at used A g (Err y) C) (on f h ∙ ap (grow t.bs) (x.run (rest f) l)) refl)

  -- What is promised from i on, after what is decoded up to i.
  meets_then : (r : Result Decoded Fault) (C : Bytes) (g : Parsed Bytes) → CharsMeets s i to B g r C → CharsMeets s at used A (grow t.bs g) r C
  unfolding grow then give
  meets_then r C (ok bs u q) x =
      let e : to + length bs ≡ used + length (t.bs ++ bs) = simp length-append (omega (arith, t.next)) in
      record {
        answer = x.answer ∙ ap (λ n. Ok (decoded q n)) e;
        area = x.area ∙ (λ k. sets (t.area k) (t.next k) bs) ∙ sets_append t.bs bs A used;
        left = x.left;
        on = simp length-append (omega (arith, t.reads.short, x.on));
        inside = x.inside;
        quote = x.quote;
      }
  meets_then r C (bad k p) x = x

  pub promise_then : {r : Result Decoded Fault} {C : Bytes} → CharsPromise s i to B r C → CharsPromise s at used A r C
  unfolding rest
  promise_then {r} {C} x =
      let l : used ≤ to = omega (arith, t.next) in
      record {
        run = λ f h.
            subst⁻¹ (λ g. CharsMeets s at used A g r C) (on f h)
            (meets_then r C (chars (rest f) clear (drop i s) i) (x.run (rest f) (omega (arith, t.reads.few))));
        size = x.size ∙ taken_length t;
        kept = sym (take-take used to C l) ∙ ap (take used) x.kept ∙ take-take used to B l ∙ ap (take used) t.area ∙ take_sets_before used t.bs A used (omega arith);
      }

-- ---- what `chars` says where no byte is left
pub promise_end : {s : Bytes} {at used : ℕ} {A : Bytes} → length s ≤ at → CharsPromise s at used A (Err (fault_of NotJson at)) A
unfolding chars
promise_end {s} {at} {used} {A} l =
    record { run = λ f h. subst⁻¹ (λ g. CharsMeets s at used A g (Err (fault_of NotJson at)) A) (none f) refl; size = refl; kept = refl }
  where
    none : (f : ℕ) → chars f clear (drop at s) at ≡ bad NotJson at
    none zero = refl
    none (suc f) = chars_bad f (drop at s) at NotJson at (char_end s at l)
