-- Sizes: sentences of 01, Reading, at the edges of the limits of texts and values, for any limits that Widths allows.
use Rattle.std.specs.Prelude.{◌≡◌, refl, Bool, true, false, [], ◌∷◌, ℕ, zero, suc, ◌+◌, ◌*◌, ◌-◌, ◌≤◌, ◌<◌, pos, length, replicate}
use Rattle.std.proofs.Common.{ap, arith, le-leb, le-ltb}
use Rattle.std.proofs.lemmas.Bool.{lt-leb}
use Rattle.std.proofs.lemmas.List.{length-replicate}
use Rattle.model.specs.Bytes.{Bytes}
use Rattle.model.proofs.Laws.Widths.{values_have_bytes, two_values, one_deep}
use Rattle.model.specs.Limits.{max_text_bytes, max_values, max_nesting}
use Rattle.model.specs.declared.refusal.ReadFault.TheVariants.{NotJson, TooLarge}
use Rattle.model.specs.Size.{value_count}
use Rattle.model.specs.Value.{Value, scalar, array, integer, Values, no_items, item}
use Rattle.syntax.specs.declared.Start.TheVariants.{TooMuch, Digit, Bracket}
use Rattle.syntax.specs.Read.{ok, bad, then, ◌>>=◌, give, fail, if, peek, eat, white, signed, is_part, end_number, after_zero, first_digit, int, on_start, on_separator, value, items, ended, text, Read, done, refuse, answer, read}
use Rattle.syntax.proofs.Laws.Exact.{over_long}
use Rattle.syntax.specs.Tokens.{within, is_white, is_digit, is_point, is_e, counted, nested, start_of, separator_of}

abbrev zero_value : Value
zero_value = scalar (integer (pos 0))

-- An array of n + 1 zeros, from behind its first one on.
abbrev more : ℕ → Bytes
more zero = 0x5D ∷ []
more (suc n) = 0x2C ∷ 0x30 ∷ more n

abbrev zeros : ℕ → Bytes
zeros n = 0x5B ∷ 0x30 ∷ more n

zeros_length : (n : ℕ) → length (zeros n) ≡ 2 * n + 3
zeros_length zero = refl
zeros_length (suc n) = omega (arith, zeros_length n)

-- What a zero begins where `row` values have begun before it.
start_few : (row : ℕ) → row < max_values → start_of row 1 0x30 ≡ Digit
unfolding start_of is_digit within counted
start_few row l = rw (lt-leb max_values row l, counted)

start_many : (row : ℕ) → max_values ≤ row → start_of row 1 0x30 ≡ TooMuch
unfolding start_of is_digit within counted
start_many row l = rw (le-leb max_values row l, counted)

start_first : start_of 0 0 0x5B ≡ Bracket
unfolding start_of counted nested
start_first = rw (lt-leb max_values 0 (omega (arith, two_values)), lt-leb max_nesting 0 one_deep, counted, nested)

-- The items, where the last value is within the limit; and where it is the first past it.
few_items_lem : (n f row at : ℕ) → row + n < max_values → n + 2 ≤ f → (vs : Values) × (end : ℕ) × (items f row 1 (0x30 ∷ more n) at ≡ ok vs [] end)
unfolding value items then ◌>>=◌ give fail if peek eat white on_start int first_digit after_zero end_number is_part is_point is_e is_digit is_white within signed on_separator separator_of value_count
few_items_lem n zero row at l h = absurd (omega arith)
few_items_lem n (suc zero) row at l h = absurd (omega arith)
few_items_lem zero (suc (suc f)) row at l h = (item zero_value no_items, suc (suc at), rw (start_few row (omega arith)) refl)
few_items_lem (suc n) (suc (suc f)) row at l h =
    let (vs, end, e) = few_items_lem n (suc f) (row + 1) (suc (suc at)) (omega arith) (omega arith) in
    (item zero_value vs, end, rw (start_few row (omega arith), e) refl)

many_items : (n f row at p : ℕ) → row + n ≡ max_values → n + 2 ≤ f → at + 2 * n ≡ p → items f row 1 (0x30 ∷ more n) at ≡ bad TooLarge p
unfolding value items then ◌>>=◌ give fail if peek eat white on_start int first_digit after_zero end_number is_part is_point is_e is_digit is_white within signed on_separator separator_of value_count
many_items n zero row at p l h k = absurd (omega arith)
many_items n (suc zero) row at p l h k = absurd (omega arith)
many_items zero (suc (suc f)) row at p l h k = let e : at ≡ p = omega arith in rw (start_many row (omega arith)) (ap (bad TooLarge) e)
many_items (suc n) (suc (suc f)) row at p l h k = rw (start_few row (omega arith), many_items n (suc f) (row + 1) (suc (suc at)) p (omega arith) (omega arith) (omega arith)) refl

-- The array.
few_text : (n f : ℕ) → n + 2 ≤ max_values → n + 3 ≤ f → (v : Value) × (end : ℕ) × (text f (zeros n) 0 ≡ ok v [] end)
unfolding text value then ◌>>=◌ give if peek eat white on_start is_white ended
few_text n zero l h = absurd (omega arith)
few_text n (suc f) l h =
    let (vs, end, e) = few_items_lem n f 1 1 (omega arith) (omega arith) in
    (array vs, end, rw (start_first, e) refl)

many_text : (n f : ℕ) → n + 1 ≡ max_values → n + 3 ≤ f → text f (zeros n) 0 ≡ bad TooLarge (2 * n + 1)
unfolding text value then ◌>>=◌ give if peek eat white on_start is_white ended
many_text n zero l h = absurd (omega arith)
many_text n (suc f) l h = rw (start_first, many_items n f 1 1 (2 * n + 1) (omega arith) (omega arith) (omega arith)) refl

-- Spaces, and then the text's end.
blank_text : (n f at p : ℕ) → 1 ≤ f → at + n ≡ p → text f (replicate n 0x20) at ≡ bad NotJson p
unfolding text value then ◌>>=◌ if peek white is_white
blank_text n zero at p l k = absurd (omega arith)
blank_text zero (suc f) at p l k = let e : at ≡ p = omega arith in ap (bad NotJson) e
blank_text (suc n) (suc f) at p l k = blank_text n (suc f) (suc at) p l (omega arith)

-- A text that is not over-long.
short : (s : Bytes) → length s ≤ max_text_bytes → read s ≡ answer (text (2 * length s + 1) s 0)
unfolding read
short s l = rw (le-ltb max_text_bytes (length s) l, read)

abbrev is_done : Read → Bool
is_done (done v) = true
is_done (refuse k p) = false

-- "or the first byte of the 1,025th value"
pub rows_values : (is_done (read (zeros (max_values - 2))) ≡ true) × (read (zeros (max_values - 1)) ≡ refuse TooLarge (2 * max_values - 1))
unfolding answer
rows_values =
    let n = max_values - 2 in
    let m = max_values - 1 in
    let few = few_text n (2 * length (zeros n) + 1) (omega (arith, two_values)) (omega (arith, zeros_length n)) in
    let many = many_text m (2 * length (zeros m) + 1) (omega (arith, two_values)) (omega (arith, zeros_length m)) in
    let e : 2 * m + 1 ≡ 2 * max_values - 1 = omega (arith, two_values) in (
      rw (short (zeros n) (omega (arith, zeros_length n, values_have_bytes)), few.2) refl,
      rw (short (zeros m) (omega (arith, zeros_length m, values_have_bytes)), many) (ap (refuse TooLarge) e),
    )

-- "Over-long text is refused first, at place 16,384."
pub rows_sizes : (read (replicate (suc max_text_bytes) 0x20) ≡ refuse TooLarge max_text_bytes) × (read (replicate max_text_bytes 0x20) ≡ refuse NotJson max_text_bytes)
unfolding answer
rows_sizes =
    let k = length-replicate {A = ℕ} (suc max_text_bytes) 0x20 in
    let l = length-replicate {A = ℕ} max_text_bytes 0x20 in
    let s : Bytes = replicate max_text_bytes 0x20 in (
      over_long (replicate (suc max_text_bytes) 0x20) (omega (arith, k)),
      rw (short s (omega (arith, l)), blank_text max_text_bytes (2 * length s + 1) 0 max_text_bytes (omega arith) (omega arith)) refl,
    )
