-- Numbers, digit by digit.
use mathlib.Core.Path.{◌≡◌, refl, sym, ap, ◌∙◌, subst⁻¹}
use mathlib.Core.Bool.{Bool, true, false}
use mathlib.Core.List.{[], ◌∷◌}
use Prim.Native.Nat.{ℕ, zero, suc, ◌+◌, ◌*◌, ◌-◌, ◌≤◌, ◌<◌}
use native.Mathlib.Omega.{arith}
use native.Mathlib.Numerals.{add-one}
use borrow.Author.Tests.{le-leb, lt-leb, ltb-true, ltb-false}
use lib.Dec.{leb, ltb}
use lib.IntN.{pos, negsuc}
use lib.ListN.{length, get_or, drop, drop_of_length-le}
use lib.Seq.{drop-cons}
use Rattle.model.specs.Bytes.{Bytes}
use Rattle.model.specs.Limits.{max_integer}
use Rattle.model.specs.declared.refusal.ReadFault.{ReadFault}
use Rattle.model.specs.declared.refusal.ReadFault.TheVariants.{NotJson, BadNumber}
use Rattle.model.specs.Value.{Value}
use Rattle.syntax.specs.Layout.{biased}
use Rattle.syntax.specs.Read.{Parsed, ok, bad, then, ◌>>=◌, give, fail, if, eat, signed, is_part, end_number, digits, after_zero, first_digit, int}
use Rattle.syntax.specs.Tokens.{is_digit, digit_value}
use Rattle.scan.specs.Contract.{decimal_of, fault_of, NumberMeets}
use Rattle.scan.specs.Inner.{Signed, ending, Rest, digit_at}
use Rattle.std.specs.Prelude.{Option, None, Some, Result, Ok, Err, slice_get}
use Rattle.std.specs.Option.{option_and_then}
use Rattle.std.proofs.lemmas.Option.{slice_get-get_or, slice_get_past}
use Rattle.model.proofs.Laws.Logic.{clash}
use Rattle.scan.specs.declared.Fault.{Fault}
use Rattle.scan.specs.Laws.{decimal_as, peek_in, peek_end, eat_in}
use Rattle.scan.specs.declared.number.Numeral.{Numeral}

-- ---- a number that ended
pub signed_up : {negative : Bool} → negative ≡ false → (at n : ℕ) → Signed at negative n record { at = at; biased = 9007199254740992 + n }
unfolding signed biased
signed_up e at n = rw e (record { z = pos n; is = refl; answer = refl })

pub signed_down : {negative : Bool} → negative ≡ true → (at n : ℕ) → Signed at negative n record { at = at; biased = 9007199254740992 - n }
unfolding signed biased
signed_down e at zero = rw e (record { z = pos 0; is = refl; answer = refl })
signed_down e at (suc n) = rw e (record { z = negsuc n; is = refl; answer = refl })

module _ {s : Bytes} {at : ℕ} {m : Parsed Value} where
  pub rest_whole : {negative : Bool} {n : ℕ} {x : Numeral} → m ≡ ok (signed negative n) (drop at s) at → at ≤ length s → Signed at negative n x → Rest s at m (Ok x)
  rest_whole {x = x} e l g =
      record {
        run = λ from h. subst⁻¹ (λ (y : Parsed Value). NumberMeets s from y (Ok x)) e
            (record { z = g.z; is = g.is; answer = ap Ok g.answer; left = refl; on = h; inside = l });
      }

  pub rest_failed : {k : ReadFault} {p : ℕ} → m ≡ bad k p → Rest s at m (Err (fault_of k p))
  rest_failed {k} {p} e = record { run = λ from h. subst⁻¹ (λ (y : Parsed Value). NumberMeets s from y (Err (fault_of k p))) e refl }

  -- What began earlier goes on here.
  rest_before : {q : ℕ} {o : Parsed Value} {r : Result Numeral Fault} → o ≡ m → q ≤ at → Rest s at m r → Rest s q o r
  rest_before {r = r} e l g = record { run = λ from h. subst⁻¹ (λ (y : Parsed Value). NumberMeets s from y r) e (g.run from (omega arith)) }

module _ (negative : Bool) (n : ℕ) (s : Bytes) (at : ℕ) where
  pub ending_end : length s ≤ at → ending negative n (drop at s) at ≡ ok (signed negative n) (drop at s) at
  unfolding ending
  ending_end l = rw (drop_of_length-le s l)

  ending_in : at < length s → (c : Bool) → is_part (get_or s at 0) ≡ c → ending negative n (drop at s) at ≡ if c (fail BadNumber) (give (signed negative n)) (drop at s) at
  unfolding ending end_number
  ending_in l c e = rw (drop-cons s at 0 l) (ap (λ z. if z (fail BadNumber) (give (signed negative n)) (get_or s at 0 ∷ drop (suc at) s) at) e)

  pub ending_part : at < length s → is_part (get_or s at 0) ≡ true → ending negative n (drop at s) at ≡ bad BadNumber at
  unfolding if fail
  ending_part l e = ending_in l true e

  pub ending_whole : at < length s → is_part (get_or s at 0) ≡ false → ending negative n (drop at s) at ≡ ok (signed negative n) (drop at s) at
  unfolding if give
  ending_whole l e = ending_in l false e

  pub rest_part : at < length s → is_part (get_or s at 0) ≡ true → Rest s at (ending negative n (drop at s) at) (Err (fault_of BadNumber at))
  rest_part l e = rest_failed (ending_part l e)

-- ---- digits
module _ (negative : Bool) (n : ℕ) (s : Bytes) (i : ℕ) where
  digits_end : length s ≤ i → digits negative n (drop i s) i ≡ ok (signed negative n) (drop i s) i
  unfolding digits
  digits_end l = rw (drop_of_length-le s l)

  digits_stop : i < length s → is_digit (get_or s i 0) ≡ false → digits negative n (drop i s) i ≡ ending negative n (drop i s) i
  unfolding digits ending if
  digits_stop l e = rw (drop-cons s i 0 l) (rw e)

  digits_in : i < length s → is_digit (get_or s i 0) ≡ true → (c : Bool) → leb (n * 10 + digit_value (get_or s i 0)) max_integer ≡ c
      → digits negative n (drop i s) i ≡ if c (λ u q. digits negative (n * 10 + digit_value (get_or s i 0)) (drop (suc i) s) (suc i)) (fail BadNumber) (drop i s) i
  unfolding digits if
  digits_in l e c g = rw (drop-cons s i 0 l) (rw (e, g))

  digits_past : i < length s → is_digit (get_or s i 0) ≡ true → max_integer < n * 10 + digit_value (get_or s i 0) → digits negative n (drop i s) i ≡ bad BadNumber i
  unfolding if fail
  digits_past l e h = digits_in l e false (lt-leb _ _ h)

  digits_more : i < length s → is_digit (get_or s i 0) ≡ true → n * 10 + digit_value (get_or s i 0) ≤ max_integer
      → digits negative n (drop i s) i ≡ digits negative (n * 10 + digit_value (get_or s i 0)) (drop (suc i) s) (suc i)
  unfolding if
  digits_more l e h = digits_in l e true (le-leb _ _ h)

pub record Counting (s : Bytes) (at : ℕ) (negative : Bool) (first i n : ℕ) : Type 0 where
  pub run : digits negative first (drop at s) at ≡ digits negative n (drop i s) i
  pub on : at ≤ i
  pub inside : i ≤ length s
  pub small : n ≤ max_integer

pub count_start : (s : Bytes) (at : ℕ) (negative : Bool) (first : ℕ) → at ≤ length s → first ≤ max_integer → Counting s at negative first at first
count_start s at negative first l h = record { run = refl; on = omega arith; inside = l; small = h }

module _ {s : Bytes} {at : ℕ} {negative : Bool} {first i n : ℕ} (k : Counting s at negative first i n) where
  pub count_end : {x : Numeral} → length s ≤ i → Signed i negative n x → Rest s at (digits negative first (drop at s) at) (Ok x)
  count_end l g = rest_before k.run k.on (rest_whole (digits_end negative n s i l) k.inside g)

  pub count_stop : {r : Result Numeral Fault} → i < length s → is_digit (get_or s i 0) ≡ false → Rest s i (ending negative n (drop i s) i) r → Rest s at (digits negative first (drop at s) at) r
  count_stop l e g = rest_before (k.run ∙ digits_stop negative n s i l e) k.on g

  module _ {d : ℕ} (l : i < length s) (e : is_digit (get_or s i 0) ≡ true) (v : d ≡ digit_value (get_or s i 0)) where
    pub count_past : max_integer < n * 10 + d → Rest s at (digits negative first (drop at s) at) (Err (fault_of BadNumber i))
    count_past h =
        let g : max_integer < n * 10 + digit_value (get_or s i 0) = rw v at h in
        rest_before k.run k.on (rest_failed (digits_past negative n s i l e g))

    pub count_more : n * 10 + d ≤ max_integer → Counting s at negative first (i + 1) (n * 10 + d)
    count_more h =
        let g : n * 10 + digit_value (get_or s i 0) ≤ max_integer = rw v at h in
        record { run = k.run ∙ rw (v, add-one) (digits_more negative n s i l e g); on = omega (arith, k.on); inside = omega arith; small = h }

-- ---- from the first digit
module _ (negative : Bool) where
  after_zero_lem : (t : Bytes) (q : ℕ) → after_zero negative t q ≡ ending negative 0 t q
  unfolding after_zero ending
  after_zero_lem [] q = refl
  after_zero_lem (b ∷ t) q = refl

  first_digits : (d : ℕ) → 0 < d → (t : Bytes) (q : ℕ) → first_digit negative d t q ≡ digits negative d t q
  unfolding first_digit
  first_digits zero h t q = absurd (omega arith)
  first_digits (suc d) h t q = refl

module _ (negative : Bool) (s : Bytes) (at : ℕ) where
  int_end : length s ≤ at → int negative (drop at s) at ≡ bad NotJson at
  unfolding int ◌>>=◌ then
  int_end l = rw (peek_end s at l)

  int_in : at < length s → (c : Bool) → is_digit (get_or s at 0) ≡ c
      → int negative (drop at s) at ≡ if c (eat (first_digit negative (digit_value (get_or s at 0)))) (fail NotJson) (drop at s) at
  unfolding int ◌>>=◌ then
  int_in l c e = rw (peek_in s at l) (rw e)

  first : at < length s → is_digit (get_or s at 0) ≡ true → int negative (drop at s) at ≡ first_digit negative (digit_value (get_or s at 0)) (drop (suc at) s) (suc at)
  unfolding if
  first l e = int_in l true e ∙ eat_in (first_digit negative (digit_value (get_or s at 0))) s at l

-- A digit stands at an offset.
pub record DigitIn (s : Bytes) (at d : ℕ) : Type 0 where
  pub inside : at < length s
  pub is : is_digit (get_or s at 0) ≡ true
  pub value : d ≡ digit_value (get_or s at 0)

pub digit_in : {s : Bytes} {at d : ℕ} {r : Option ℕ} → r ≡ digit_at s at → r ≡ Some d → DigitIn s at d
unfolding digit_at
digit_in {s} {at} {d} e g = go (ltb at (length s)) refl
  where
    go : (c : Bool) → ltb at (length s) ≡ c → DigitIn s at d
    go true h =
        let l : at < length s = ltb-true at (length s) h in
        let x : decimal_of (get_or s at 0) ≡ Some d = rw (slice_get-get_or s at 0 l) at (sym e ∙ g) in
        let k = decimal_as (get_or s at 0) refl x in
        record { inside = l; is = k.0; value = k.1 }
    go false h =
        let l : length s ≤ at = ltb-false at (length s) h in
        let x : option_and_then decimal_of (slice_get s at) ≡ None = rw (slice_get_past s at l) in
        clash cc

module _ (negative : Bool) (s : Bytes) (at : ℕ) where
  abbrev Meets : Result Numeral Fault → Parsed Value → Type 0
  Meets r x = NumberMeets s at x r

  number_end : length s ≤ at → Meets (Err (fault_of NotJson at)) (int negative (drop at s) at)
  number_end l = subst⁻¹ (Meets (Err (fault_of NotJson at))) (int_end negative s at l) refl

  number_none : at < length s → is_digit (get_or s at 0) ≡ false → Meets (Err (fault_of NotJson at)) (int negative (drop at s) at)
  unfolding if fail
  number_none l e = subst⁻¹ (Meets (Err (fault_of NotJson at))) (int_in negative s at l false e) refl

  pub number_not : digit_at s at ≡ None → Meets (Err (fault_of NotJson at)) (int negative (drop at s) at)
  unfolding digit_at
  number_not e = go (ltb at (length s)) refl
    where
      go : (c : Bool) → ltb at (length s) ≡ c → Meets (Err (fault_of NotJson at)) (int negative (drop at s) at)
      go true g =
          let l : at < length s = ltb-true at (length s) g in
          let h : decimal_of (get_or s at 0) ≡ None = rw (slice_get-get_or s at 0 l) at e in
          number_none l (decimal_as (get_or s at 0) refl h)
      go false g = number_end (ltb-false at (length s) g)

  module _ {r : Result Numeral Fault} where
    pub number_zero : digit_at s at ≡ Some 0 → Rest s (at + 1) (ending negative 0 (drop (at + 1) s) (at + 1)) r → Meets r (int negative (drop at s) at)
    unfolding first_digit
    number_zero e g =
        let k : DigitIn s at 0 = digit_in refl e in
        let f : int negative (drop at s) at ≡ ending negative 0 (drop (at + 1) s) (at + 1) =
        first negative s at k.inside k.is ∙ ap (λ (x : ℕ). first_digit negative x (drop (suc at) s) (suc at)) (sym k.value)
        ∙ rw add-one (after_zero_lem negative (drop (suc at) s) (suc at)) in
        subst⁻¹ (Meets r) f (g.run at (omega arith))

    pub number_digits : {d n : ℕ} → DigitIn s at d → (d ≡ 0 → ⊥) → n ≡ d → Rest s (at + 1) (digits negative n (drop (at + 1) s) (at + 1)) r → Meets r (int negative (drop at s) at)
    number_digits {n = n} k x e g =
        let h : 0 < digit_value (get_or s at 0) = omega (arith, x, k.value) in
        let f : int negative (drop at s) at ≡ digits negative n (drop (at + 1) s) (at + 1) =
        first negative s at k.inside k.is ∙ first_digits negative (digit_value (get_or s at 0)) h (drop (suc at) s) (suc at) ∙ rw (e, k.value, add-one) refl in
        subst⁻¹ (Meets r) f (g.run at (omega arith))
