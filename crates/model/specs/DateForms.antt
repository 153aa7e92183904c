-- DateForms: the nineteen forms as document 001 lists them, and which texts are of a form. DateText reads a text by its parts; that it refuses
-- every text of no form, and a text of a form only for its numbers, is proved in Laws.DateForms.
use Rattle.std.specs.Prelude.{Bool, true, false, ◌&&◌, ◌||◌, cond, List, [], ◌∷◌, ◌++◌, ℕ, zero, suc, eqb}
use Rattle.model.specs.Bytes.{Bytes, ascii, byte, is_digit}
use Rattle.model.specs.DateText.{max_fraction_digits}
use Rattle.model.specs.Lists.{any}

-- Document 001, under `plusTime`: "The following date and date-time formats are allowed". Of a day,
abbrev pub day_forms : List Bytes
day_forms = ascii "YYYY" ∷ ascii "YYYY-MM" ∷ ascii "YYYY-MM-DD" ∷ []

-- and of a time.
abbrev pub time_forms : List Bytes
time_forms =
    ascii "YYYY-MM-DDThh:mm:ss"
    ∷ ascii "YYYY-MM-DDThh:mm:ssZ"
    ∷ ascii "YYYY-MM-DDThh:mm:ss[+-]h"
    ∷ ascii "YYYY-MM-DDThh:mm:ss[+-]hh"
    ∷ ascii "YYYY-MM-DDThh:mm:ss[+-]hmm"
    ∷ ascii "YYYY-MM-DDThh:mm:ss[+-]hhmm"
    ∷ ascii "YYYY-MM-DDThh:mm:ss[+-]h:mm"
    ∷ ascii "YYYY-MM-DDThh:mm:ss[+-]hh:mm"
    ∷ ascii "YYYY-MM-DDThh:mm:ss.S"
    ∷ ascii "YYYY-MM-DDThh:mm:ss.SZ"
    ∷ ascii "YYYY-MM-DDThh:mm:ss.S[+-]h"
    ∷ ascii "YYYY-MM-DDThh:mm:ss.S[+-]hh"
    ∷ ascii "YYYY-MM-DDThh:mm:ss.S[+-]hmm"
    ∷ ascii "YYYY-MM-DDThh:mm:ss.S[+-]hhmm"
    ∷ ascii "YYYY-MM-DDThh:mm:ss.S[+-]h:mm"
    ∷ ascii "YYYY-MM-DDThh:mm:ss.S[+-]hh:mm"
    ∷ []

abbrev pub forms : List Bytes
forms = day_forms ++ time_forms

-- What a form asks, one after the other: a byte that passes a test, or the digits of a fraction.
pub data Mark : Type 0 where
  byte_that : (ℕ → Bool) → Mark
  fraction : Mark

abbrev pub is_sign : ℕ → Bool
is_sign x = eqb (byte "+") x || eqb (byte "-") x

-- Y, M, D, h, m and s stand for a digit each, S for a fraction's digits, [+-] for either sign, every other byte for itself.
abbrev pub mark_of : ℕ → Mark
mark_of p = cond (any (eqb p) (ascii "YMDhms")) (byte_that is_digit) (cond (eqb p (byte "S")) fraction (byte_that (eqb p)))

abbrev pub marks : Bool → Bytes → List Mark
marks inBrackets [] = []
marks false (p ∷ ps) = elim (eqb p (byte "[")) [ true ↦ byte_that is_sign ∷ marks true ps | false ↦ mark_of p ∷ marks false ps ]
marks true (p ∷ ps) = elim (eqb p (byte "]")) [ true ↦ marks false ps | false ↦ marks true ps ]

-- One to k digits, and then a text that passes a test.
unfoldable pub digits_then : ℕ → (Bytes → Bool) → Bytes → Bool
digits_then zero f s = false
digits_then (suc k) f [] = false
digits_then (suc k) f (x ∷ s) = is_digit x && (f s || digits_then k f s)

-- A text is what a list of marks asks, and no more.
unfoldable pub matches : List Mark → Bytes → Bool
matches [] [] = true
matches [] (x ∷ s) = false
matches (byte_that f ∷ l) [] = false
matches (byte_that f ∷ l) (x ∷ s) = f x && matches l s
matches (fraction ∷ l) s = digits_then max_fraction_digits (λ r. matches l r) s

-- A text is of one of a list's forms.
abbrev pub is_of : List Bytes → Bytes → Bool
is_of l s = any (λ p. matches (marks false p) s) l
