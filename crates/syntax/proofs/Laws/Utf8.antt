-- Utf8: the characters of RFC 3629's table, the escapes and the surrogate pairs are code points up to 10FFFF that are no surrogates, encoded by utf8;
-- so the meaning of a string is well-formed UTF-8, and in bytes.
use Rattle.std.specs.Prelude.{◌≡◌, refl, Bool, true, false, [], ◌∷◌, ◌++◌, ◌⊎◌, ℕ, suc, ◌+◌, ◌*◌, ◌-◌, ◌/◌, ◌%◌, ◌^◌, ◌<◌, ◌≤◌, T, ltb, eqb, length}
use Rattle.std.proofs.Common.{sym, subst, subst₂, ap, ap₂, ◌∙◌, inl, inr, arith, ne_eqb, ltb→lt, lt→ltb, eqb→eq}
use Rattle.std.proofs.Math.Path.{subst₃}
use Rattle.std.specs.Prelude.{Option, None, Some}
use Rattle.std.proofs.Math.Decide.{dec_le}
use Rattle.model.specs.Bytes.{Bytes}
use Rattle.model.proofs.Laws.Logic.{and_l, and_r, and_i, T→true, true→t}
use Rattle.model.proofs.Laws.Option.{All}
use Rattle.model.specs.Lists.{all}
use Rattle.syntax.specs.declared.Lead.{Lead}
use Rattle.syntax.specs.declared.Lead.TheVariants.{Closing, Backslash, Never, Char}
use Rattle.syntax.specs.declared.Escape.{Escape}
use Rattle.syntax.specs.declared.Escape.TheVariants.{Letter, Unicode, NoEscape}
use Rattle.syntax.specs.declared.Unit.{Unit as CodeUnit}
use Rattle.syntax.specs.declared.Unit.TheVariants.{Plain, High, Low}
use Rattle.syntax.specs.Grammar.{Tails, no_tail, tail, Hexes, no_hexes, hex, Chars, no_chars, unescaped, escaped, code_unit_lem, tail_bytes, hex_number, map, map₂, chars_meaning}
use Rattle.syntax.specs.Tokens.{within, escape_of, hex_of}
use Rattle.syntax.proofs.Laws.Tokens.{within_bounds, bounds_within, above, branch}
use Rattle.syntax.specs.Utf8.{utf8, WellFormed, nothing, character, lead_of, unit_of, pair_of}
use Rattle.syntax.specs.WellFormed.{are_bytes}

-- ---- tests
chosen : {A : Type 0} (b : Bool) (x y : A) → T b → elim b [ true ↦ x | false ↦ y ] ≡ x
chosen true x y h = refl
chosen false x y h = absurd h

passed_over : {A : Type 0} (b : Bool) (x y : A) → (T b → ⊥) → elim b [ true ↦ x | false ↦ y ] ≡ y
passed_over true x y h = absurd (h tt)
passed_over false x y h = refl

not_within : {X : Type 0} (lo hi b : ℕ) → within lo hi b ≡ false → lo ≤ b → b ≤ hi → X
not_within lo hi b e l h = absurd (subst T e (bounds_within lo hi b l h))

not_below : (m n : ℕ) → n ≤ m → T (ltb m n) → ⊥
not_below m n h t = let x = ltb→lt m n t in omega arith

-- ---- the bytes of a code point, by their number (RFC 3629, section 3)
pub utf8_1 : (u : ℕ) → u < 0x80 → utf8 u ≡ u ∷ []
unfolding utf8
utf8_1 u h = chosen (ltb u 0x80) _ _ (lt→ltb u 0x80 h)

utf8_2 : (u : ℕ) → 0x80 ≤ u → u < 0x800 → utf8 u ≡ (0xC0 + u / 64) ∷ (0x80 + u % 64) ∷ []
unfolding utf8
utf8_2 u h k = passed_over (ltb u 0x80) _ _ (not_below u 0x80 h) ∙ chosen (ltb u 0x800) _ _ (lt→ltb u 0x800 k)

utf8_3 : (u : ℕ) → 0x800 ≤ u → u < 0x10000 → utf8 u ≡ (0xE0 + u / 4096) ∷ (0x80 + u / 64 % 64) ∷ (0x80 + u % 64) ∷ []
unfolding utf8
utf8_3 u h k =
    passed_over (ltb u 0x80) _ _ (not_below u 0x80 (omega arith))
    ∙ passed_over (ltb u 0x800) _ _ (not_below u 0x800 h)
    ∙ chosen (ltb u 0x10000) _ _ (lt→ltb u 0x10000 k)

utf8_4 : (u : ℕ) → 0x10000 ≤ u → utf8 u ≡ (0xF0 + u / 262144) ∷ (0x80 + u / 4096 % 64) ∷ (0x80 + u / 64 % 64) ∷ (0x80 + u % 64) ∷ []
unfolding utf8
utf8_4 u h =
    passed_over (ltb u 0x80) _ _ (not_below u 0x80 (omega arith))
    ∙ passed_over (ltb u 0x800) _ _ (not_below u 0x800 (omega arith))
    ∙ passed_over (ltb u 0x10000) _ _ (not_below u 0x10000 h)

-- At most four.
pub utf8_most : (u : ℕ) → length (utf8 u) ≤ 4
unfolding utf8
utf8_most u =
    let P : Bytes → Type 0 = λ s. length s ≤ 4 in
    branch P (ltb u 0x80) _ _ (λ h. omega arith) (branch P (ltb u 0x800) _ _ (λ h. omega arith) (branch P (ltb u 0x10000) _ _ (λ h. omega arith) (omega arith)))

-- ---- and back: the code point that the bytes of a character encode
-- A code point up to 10FFFF that is no surrogate, in UTF-8.
abbrev pub Character : Bytes → Type 0
Character s = (u : ℕ) × (u < 0x110000) × (0xD800 ≤ u → u ≤ 0xDFFF → ⊥) × (utf8 u ≡ s)

-- Each UTF8-tail holds six bits.
last_six : (x y : ℕ) → y < 64 → (x * 64 + y) % 64 ≡ y
last_six x y h = omega arith

all_but_six : (x y : ℕ) → y < 64 → (x * 64 + y) / 64 ≡ x
all_but_six x y h = omega arith

-- The bytes are written as a highest one, less its marks, and six bits each.
decode_2 : (x y : ℕ) → 2 ≤ x → x < 32 → y < 64 → Character ((0xC0 + x) ∷ (0x80 + y) ∷ [])
decode_2 x y l h k =
    let u = x * 64 + y in
    (u, omega arith, λ a b. omega arith, utf8_2 u (omega arith) (omega arith) ∙ ap₂ (λ a b. (0xC0 + a) ∷ (0x80 + b) ∷ []) (all_but_six x y k) (last_six x y k))

decode_3 : (x y z : ℕ) → x < 16 → y < 64 → z < 64 → 0x800 ≤ (x * 64 + y) * 64 + z → (0xD800 ≤ (x * 64 + y) * 64 + z → (x * 64 + y) * 64 + z ≤ 0xDFFF → ⊥)
    → Character ((0xE0 + x) ∷ (0x80 + y) ∷ (0x80 + z) ∷ [])
decode_3 x y z hx hy hz l no_surrogate =
    let u = (x * 64 + y) * 64 + z in
    let all-but-twelve : u / 4096 ≡ x = omega arith in
    let u/64 : u / 64 ≡ x * 64 + y = all_but_six (x * 64 + y) z hz in (
      u,
      omega arith,
      no_surrogate,
      utf8_3 u l (omega arith)
          ∙ ap (λ a. (0xE0 + a) ∷ (0x80 + u / 64 % 64) ∷ (0x80 + u % 64) ∷ []) all-but-twelve
          ∙ ap₂ (λ a b. (0xE0 + x) ∷ (0x80 + a) ∷ (0x80 + b) ∷ []) (ap (λ a. a % 64) u/64 ∙ last_six x y hy) (last_six (x * 64 + y) z hz),
    )

decode_4 : (w x y z : ℕ) → x < 64 → y < 64 → z < 64 → 0x10000 ≤ ((w * 64 + x) * 64 + y) * 64 + z → ((w * 64 + x) * 64 + y) * 64 + z < 0x110000
    → Character ((0xF0 + w) ∷ (0x80 + x) ∷ (0x80 + y) ∷ (0x80 + z) ∷ [])
decode_4 w x y z hx hy hz l h =
    let u = ((w * 64 + x) * 64 + y) * 64 + z in
    let all-but-eighteen : u / 262144 ≡ w = omega arith in
    let all-but-twelve : u / 4096 ≡ w * 64 + x = omega arith in
    let u/64 : u / 64 ≡ (w * 64 + x) * 64 + y = all_but_six ((w * 64 + x) * 64 + y) z hz in (
      u,
      h,
      λ a b. omega arith,
      utf8_4 u l
          ∙ ap₂ (λ a b. (0xF0 + a) ∷ (0x80 + b) ∷ (0x80 + u / 64 % 64) ∷ (0x80 + u % 64) ∷ []) all-but-eighteen (ap (λ a. a % 64) all-but-twelve ∙ last_six w x hx)
          ∙ ap₂ (λ a b. (0xF0 + w) ∷ (0x80 + x) ∷ (0x80 + a) ∷ (0x80 + b) ∷ []) (ap (λ a. a % 64) u/64 ∙ last_six (w * 64 + x) y hy) (last_six ((w * 64 + x) * 64 + y) z hz),
    )

-- ---- the table UTF8-char (RFC 3629, section 4)
-- What follows from a row of the table.
abbrev Row : ℕ → Lead → Type 0
Row b Closing = Unit {0}
Row b Backslash = Unit {0}
Row b Never = Unit {0}
Row b (Char n lo hi) = (ts : Tails n lo hi) → Character (b ∷ tail_bytes ts)

row_1 : (b lo hi : ℕ) → b ≤ 0x7F → Row b (Char 0 lo hi)
unfolding tail_bytes
row_1 b lo hi h no_tail = (b, omega arith, λ x y. omega arith, utf8_1 b (omega arith))

row_2 : (b : ℕ) → 0xC2 ≤ b → b ≤ 0xDF → Row b (Char 1 0x80 0xBF)
unfolding tail_bytes
row_2 b l h (tail c i no_tail) =
    let (lc, hc) = within_bounds 0x80 0xBF c i in
    subst₂ (λ x y. Character (x ∷ y ∷ [])) (omega arith) (omega arith) (decode_2 (b - 0xC0) (c - 0x80) (omega arith) (omega arith) (omega arith))

-- Below the surrogates or above them: the code points that begin with these two bytes are from 64 * x to 64 * y + 63.
abbrev Clear : ℕ → ℕ → Type 0
Clear x y = (y < 0x360) ⊎ (0x380 ≤ x)

clear : (x y u : ℕ) → Clear x y → x * 64 ≤ u → u < y * 64 + 64 → 0xD800 ≤ u → u ≤ 0xDFFF → ⊥
clear x y u (inl h) l k a b = omega arith
clear x y u (inr h) l k a b = omega arith

row_3 : (b lo hi : ℕ) → 0xE0 ≤ b → b ≤ 0xEF → 0x80 ≤ lo → hi ≤ 0xBF → 0x20 ≤ (b - 0xE0) * 64 + (lo - 0x80) → Clear ((b - 0xE0) * 64 + (lo - 0x80)) ((b - 0xE0) * 64 + (hi - 0x80))
    → Row b (Char 2 lo hi)
unfolding tail_bytes
row_3 b lo hi lb hb ll hh long free (tail c i (tail d j no_tail)) =
    let (lc, hc) = within_bounds lo hi c i in
    let (ld, hd) = within_bounds 0x80 0xBF d j in
    let x = b - 0xE0 in
    let y = c - 0x80 in
    let z = d - 0x80 in
    let is_b : 0xE0 + x ≡ b = omega arith in
    let is_c : 0x80 + y ≡ c = omega arith in
    let is-d : 0x80 + z ≡ d = omega arith in
    let low : lo - 0x80 ≤ y = omega arith in
    let high : y ≤ hi - 0x80 = omega arith in
    subst₃ (λ p q r. Character (p ∷ q ∷ r ∷ [])) is_b is_c is-d
    (decode_3 x y z (omega arith) (omega arith) (omega arith) (omega arith)
    (clear (x * 64 + (lo - 0x80)) (x * 64 + (hi - 0x80)) ((x * 64 + y) * 64 + z) free (omega arith) (omega arith)))

row_4 : (b lo hi : ℕ) → 0xF0 ≤ b → 0x80 ≤ lo → hi ≤ 0xBF → 0x10 ≤ (b - 0xF0) * 64 + (lo - 0x80) → (b - 0xF0) * 64 + (hi - 0x80) < 0x110 → Row b (Char 3 lo hi)
unfolding tail_bytes
row_4 b lo hi lb ll hh long short (tail c i (tail d j (tail e k no_tail))) =
    let (lc, hc) = within_bounds lo hi c i in
    let (ld, hd) = within_bounds 0x80 0xBF d j in
    let (le, he) = within_bounds 0x80 0xBF e k in
    let w = b - 0xF0 in
    let x = c - 0x80 in
    let y = d - 0x80 in
    let z = e - 0x80 in
    let is_b : 0xF0 + w ≡ b = omega arith in
    let is_c : 0x80 + x ≡ c = omega arith in
    let is-d : 0x80 + y ≡ d = omega arith in
    let is-e : 0x80 + z ≡ e = omega arith in
    let low : lo - 0x80 ≤ x = omega arith in
    let high : x ≤ hi - 0x80 = omega arith in
    subst (λ p. Character (p ∷ c ∷ d ∷ e ∷ [])) is_b (subst₃ (λ p q r. Character ((0xF0 + w) ∷ p ∷ q ∷ r ∷ [])) is_c is-d is-e
    (decode_4 w x y z (omega arith) (omega arith) (omega arith) (omega arith) (omega arith)))

row : (b : ℕ) → Row b (lead_of b)
unfolding lead_of
row b =
    branch (Row b) (eqb b 0x22) Closing _ (λ h. tt)
    (branch (Row b) (eqb b 0x5C) Backslash _ (λ h. tt)
    (branch (Row b) (within 0x20 0x7F b) (Char 0 0x80 0xBF) _ (λ h. row_1 b 0x80 0xBF (within_bounds 0x20 0x7F b h).1)
    (branch (Row b) (within 0xC2 0xDF b) (Char 1 0x80 0xBF) _ (λ h. row_2 b (within_bounds 0xC2 0xDF b h).0 (within_bounds 0xC2 0xDF b h).1)
    (branch (Row b) (eqb b 0xE0) (Char 2 0xA0 0xBF) _ (λ h. let e = eqb→eq b 0xE0 h in row_3 b 0xA0 0xBF (omega arith) (omega arith) (omega arith) (omega arith) (omega arith) (inl (omega arith)))
    (branch (Row b) (within 0xE1 0xEC b) (Char 2 0x80 0xBF) _ (λ h. let e = within_bounds 0xE1 0xEC b h in row_3 b 0x80 0xBF (omega arith) (omega arith) (omega arith) (omega arith) (omega arith) (inl (omega arith)))
    (branch (Row b) (eqb b 0xED) (Char 2 0x80 0x9F) _ (λ h. let e = eqb→eq b 0xED h in row_3 b 0x80 0x9F (omega arith) (omega arith) (omega arith) (omega arith) (omega arith) (inl (omega arith)))
    (branch (Row b) (within 0xEE 0xEF b) (Char 2 0x80 0xBF) _ (λ h. let e = within_bounds 0xEE 0xEF b h in row_3 b 0x80 0xBF (omega arith) (omega arith) (omega arith) (omega arith) (omega arith) (inr (omega arith)))
    (branch (Row b) (eqb b 0xF0) (Char 3 0x90 0xBF) _ (λ h. let e = eqb→eq b 0xF0 h in row_4 b 0x90 0xBF (omega arith) (omega arith) (omega arith) (omega arith) (omega arith))
    (branch (Row b) (within 0xF1 0xF3 b) (Char 3 0x80 0xBF) _ (λ h. let e = within_bounds 0xF1 0xF3 b h in row_4 b 0x80 0xBF (omega arith) (omega arith) (omega arith) (omega arith) (omega arith))
    (branch (Row b) (eqb b 0xF4) (Char 3 0x80 0x8F) _ (λ h. let e = eqb→eq b 0xF4 h in row_4 b 0x80 0x8F (omega arith) (omega arith) (omega arith) (omega arith) (omega arith)) tt))))))))))

-- A character by the table is a code point in UTF-8.
pub table_character : (b n lo hi : ℕ) → lead_of b ≡ Char n lo hi → (ts : Tails n lo hi) → Character (b ∷ tail_bytes ts)
table_character b n lo hi e = subst (Row b) e (row b)

-- ---- and every code point that RFC 8259 lets stand for itself has its row: unescaped = %x20-21 / %x23-5B / %x5D-10FFFF
pub record Unescaped (s : Bytes) : Type 0 where
  pub first : ℕ
  pub n : ℕ
  pub lo : ℕ
  pub hi : ℕ
  pub lead : lead_of first ≡ Char n lo hi
  pub tails : Tails n lo hi
  pub is : s ≡ first ∷ tail_bytes tails

lead_1 : (b : ℕ) → 0x20 ≤ b → b ≤ 0x7F → (b ≡ 0x22 → ⊥) → (b ≡ 0x5C → ⊥) → lead_of b ≡ Char 0 0x80 0xBF
unfolding lead_of
lead_1 b l h q r = rw (ne_eqb b 0x22 q, ne_eqb b 0x5C r, T→true (within 0x20 0x7F b) (bounds_within 0x20 0x7F b l h), lead_of)

lead_2 : (b : ℕ) → 0xC2 ≤ b → b ≤ 0xDF → lead_of b ≡ Char 1 0x80 0xBF
unfolding lead_of
lead_2 b l h = rw (ne_eqb b 0x22 (λ e. omega arith), ne_eqb b 0x5C (λ e. omega arith), above 0x20 0x7F b (omega arith), T→true (within 0xC2 0xDF b) (bounds_within 0xC2 0xDF b l h), lead_of)

lead_e1 : (b : ℕ) → 0xE1 ≤ b → b ≤ 0xEC → lead_of b ≡ Char 2 0x80 0xBF
unfolding lead_of
lead_e1 b l h = rw (ne_eqb b 0x22 (λ e. omega arith), ne_eqb b 0x5C (λ e. omega arith), above 0x20 0x7F b (omega arith), above 0xC2 0xDF b (omega arith), ne_eqb b 0xE0 (λ e. omega arith), T→true (within 0xE1 0xEC b) (bounds_within 0xE1 0xEC b l h), lead_of)

lead_ee : (b : ℕ) → 0xEE ≤ b → b ≤ 0xEF → lead_of b ≡ Char 2 0x80 0xBF
unfolding lead_of
lead_ee b l h = rw (ne_eqb b 0x22 (λ e. omega arith), ne_eqb b 0x5C (λ e. omega arith), above 0x20 0x7F b (omega arith), above 0xC2 0xDF b (omega arith), ne_eqb b 0xE0 (λ e. omega arith), above 0xE1 0xEC b (omega arith), ne_eqb b 0xED (λ e. omega arith), T→true (within 0xEE 0xEF b) (bounds_within 0xEE 0xEF b l h), lead_of)

lead_f1 : (b : ℕ) → 0xF1 ≤ b → b ≤ 0xF3 → lead_of b ≡ Char 3 0x80 0xBF
unfolding lead_of
lead_f1 b l h = rw (ne_eqb b 0x22 (λ e. omega arith), ne_eqb b 0x5C (λ e. omega arith), above 0x20 0x7F b (omega arith), above 0xC2 0xDF b (omega arith), ne_eqb b 0xE0 (λ e. omega arith), above 0xE1 0xEC b (omega arith), ne_eqb b 0xED (λ e. omega arith), above 0xEE 0xEF b (omega arith), ne_eqb b 0xF0 (λ e. omega arith), T→true (within 0xF1 0xF3 b) (bounds_within 0xF1 0xF3 b l h), lead_of)

lead_e0 : lead_of 0xE0 ≡ Char 2 0xA0 0xBF
unfolding lead_of within
lead_e0 = refl

lead_ed : lead_of 0xED ≡ Char 2 0x80 0x9F
unfolding lead_of within
lead_ed = refl

lead_f0 : lead_of 0xF0 ≡ Char 3 0x90 0xBF
unfolding lead_of within
lead_f0 = refl

lead_f4 : lead_of 0xF4 ≡ Char 3 0x80 0x8F
unfolding lead_of within
lead_f4 = refl

three : (b c d lo hi : ℕ) → lead_of b ≡ Char 2 lo hi → lo ≤ c → c ≤ hi → 0x80 ≤ d → d ≤ 0xBF → Unescaped (b ∷ c ∷ d ∷ [])
unfolding tail_bytes
three b c d lo hi e lc hc ld hd =
    record { first = b; n = 2; lo = lo; hi = hi; lead = e; tails = tail c (bounds_within lo hi c lc hc) (tail d (bounds_within 0x80 0xBF d ld hd) no_tail); is = refl }

four : (a b c d lo hi : ℕ) → lead_of a ≡ Char 3 lo hi → lo ≤ b → b ≤ hi → 0x80 ≤ c → c ≤ 0xBF → 0x80 ≤ d → d ≤ 0xBF → Unescaped (a ∷ b ∷ c ∷ d ∷ [])
unfolding tail_bytes
four a b c d lo hi e lb hb lc hc ld hd =
    record { first = a; n = 3; lo = lo; hi = hi; lead = e; tails = tail b (bounds_within lo hi b lb hb) (tail c (bounds_within 0x80 0xBF c lc hc) (tail d (bounds_within 0x80 0xBF d ld hd) no_tail)); is = refl }

unescaped_1 : (u : ℕ) → 0x20 ≤ u → u < 0x80 → (u ≡ 0x22 → ⊥) → (u ≡ 0x5C → ⊥) → Unescaped (utf8 u)
unfolding tail_bytes
unescaped_1 u l h q r = record { first = u; n = 0; lo = 0x80; hi = 0xBF; lead = lead_1 u l (omega arith) q r; tails = no_tail; is = utf8_1 u h }

unescaped_2 : (u : ℕ) → 0x80 ≤ u → u < 0x800 → Unescaped (utf8 u)
unfolding tail_bytes
unescaped_2 u l h =
    let c = 0x80 + u % 64 in
    record { first = 0xC0 + u / 64; n = 1; lo = 0x80; hi = 0xBF; lead = lead_2 (0xC0 + u / 64) (omega arith) (omega arith); tails = tail c (bounds_within 0x80 0xBF c (omega arith) (omega arith)) no_tail; is = utf8_2 u l h }

unescaped_3 : (u : ℕ) → 0x800 ≤ u → u < 0x10000 → (0xD800 ≤ u → u ≤ 0xDFFF → ⊥) → Unescaped (utf8 u)
unescaped_3 u l h no_surrogate = subst Unescaped (sym (utf8_3 u l h)) (elim (dec_le (u / 4096) 0) [
  | yes k ↦ let e : 0xE0 + u / 4096 ≡ 0xE0 = omega arith in bytes 0xA0 0xBF (ap lead_of e ∙ lead_e0) (omega arith) (omega arith)
  | no k ↦ elim (dec_le (u / 4096) 12) [
    | yes j ↦ bytes 0x80 0xBF (lead_e1 _ (omega arith) (omega arith)) (omega arith) (omega arith)
    | no j ↦ elim (dec_le (u / 4096) 13) [
      | yes i ↦ let e : 0xE0 + u / 4096 ≡ 0xED = omega arith in elim (dec_le 0xD800 u) [
        | yes s ↦ absurd (no_surrogate s (omega arith))
        | no s ↦ bytes 0x80 0x9F (ap lead_of e ∙ lead_ed) (omega arith) (omega arith)
      ]
      | no i ↦ bytes 0x80 0xBF (lead_ee _ (omega arith) (omega arith)) (omega arith) (omega arith)
    ]
  ]
])
  where
    bytes : (lo hi : ℕ) → lead_of (0xE0 + u / 4096) ≡ Char 2 lo hi → lo ≤ 0x80 + u / 64 % 64 → 0x80 + u / 64 % 64 ≤ hi → Unescaped ((0xE0 + u / 4096) ∷ (0x80 + u / 64 % 64) ∷ (0x80 + u % 64) ∷ [])
    bytes lo hi e lc hc = three (0xE0 + u / 4096) (0x80 + u / 64 % 64) (0x80 + u % 64) lo hi e lc hc (omega arith) (omega arith)

unescaped_4 : (u : ℕ) → 0x10000 ≤ u → u < 0x110000 → Unescaped (utf8 u)
unescaped_4 u l h = subst Unescaped (sym (utf8_4 u l)) (elim (dec_le (u / 262144) 0) [
  | yes k ↦ let e : 0xF0 + u / 262144 ≡ 0xF0 = omega arith in bytes 0x90 0xBF (ap lead_of e ∙ lead_f0) (omega arith) (omega arith)
  | no k ↦ elim (dec_le (u / 262144) 3) [
    | yes j ↦ bytes 0x80 0xBF (lead_f1 _ (omega arith) (omega arith)) (omega arith) (omega arith)
    | no j ↦ let e : 0xF0 + u / 262144 ≡ 0xF4 = omega arith in bytes 0x80 0x8F (ap lead_of e ∙ lead_f4) (omega arith) (omega arith)
  ]
])
  where
    bytes : (lo hi : ℕ) → lead_of (0xF0 + u / 262144) ≡ Char 3 lo hi → lo ≤ 0x80 + u / 4096 % 64 → 0x80 + u / 4096 % 64 ≤ hi → Unescaped ((0xF0 + u / 262144) ∷ (0x80 + u / 4096 % 64) ∷ (0x80 + u / 64 % 64) ∷ (0x80 + u % 64) ∷ [])
    bytes lo hi e lb hb = four (0xF0 + u / 262144) (0x80 + u / 4096 % 64) (0x80 + u / 64 % 64) (0x80 + u % 64) lo hi e lb hb (omega arith) (omega arith) (omega arith) (omega arith)

pub unescaped_all : (u : ℕ) → 0x20 ≤ u → u < 0x110000 → (0xD800 ≤ u → u ≤ 0xDFFF → ⊥) → (u ≡ 0x22 → ⊥) → (u ≡ 0x5C → ⊥) → Unescaped (utf8 u)
unescaped_all u l h no_surrogate q r = elim (dec_le 0x80 u) [
  | no a ↦ unescaped_1 u l (omega arith) q r
  | yes a ↦ elim (dec_le 0x800 u) [
    | no b ↦ unescaped_2 u a (omega arith)
    | yes b ↦ elim (dec_le 0x10000 u) [ no c ↦ unescaped_3 u b (omega arith) no_surrogate | yes c ↦ unescaped_4 u c h ]
  ]
]

-- ---- escapes
abbrev InAscii : Escape → Type 0
InAscii (Letter d) = d < 0x80
InAscii Unicode = Unit {0}
InAscii NoEscape = Unit {0}

in_ascii : (b : ℕ) → InAscii (escape_of b)
unfolding escape_of
in_ascii b =
    branch InAscii (eqb b 0x22) (Letter 0x22) _ (λ h. omega arith)
    (branch InAscii (eqb b 0x5C) (Letter 0x5C) _ (λ h. omega arith)
    (branch InAscii (eqb b 0x2F) (Letter 0x2F) _ (λ h. omega arith)
    (branch InAscii (eqb b 0x62) (Letter 0x08) _ (λ h. omega arith)
    (branch InAscii (eqb b 0x66) (Letter 0x0C) _ (λ h. omega arith)
    (branch InAscii (eqb b 0x6E) (Letter 0x0A) _ (λ h. omega arith)
    (branch InAscii (eqb b 0x72) (Letter 0x0D) _ (λ h. omega arith)
    (branch InAscii (eqb b 0x74) (Letter 0x09) _ (λ h. omega arith)
    (branch InAscii (eqb b 0x75) Unicode _ (λ h. tt) tt))))))))

-- The letter of an escape stands for a character in ASCII.
pub letter_ascii : (b d : ℕ) → escape_of b ≡ Letter d → d < 0x80
letter_ascii b d e = subst InAscii e (in_ascii b)

pub letter_character : (b d : ℕ) → escape_of b ≡ Letter d → Character (d ∷ [])
letter_character b d e =
    let h = letter_ascii b d e in
    (d, omega arith, λ x y. omega arith, utf8_1 d h)

-- ---- code units
abbrev BelowSixteen : Option ℕ → Type 0
BelowSixteen (Some d) = d < 16
BelowSixteen None = Unit {0}

below_sixteen : (b : ℕ) → BelowSixteen (hex_of b)
unfolding hex_of
below_sixteen b =
    branch BelowSixteen (within 0x30 0x39 b) (Some (b - 0x30)) _ (λ h. let e = within_bounds 0x30 0x39 b h in omega arith)
    (branch BelowSixteen (within 0x41 0x46 b) (Some (b - 0x37)) _ (λ h. let e = within_bounds 0x41 0x46 b h in omega arith)
    (branch BelowSixteen (within 0x61 0x66 b) (Some (b - 0x57)) _ (λ h. let e = within_bounds 0x61 0x66 b h in omega arith) tt))

hexes_below : {n : ℕ} (hs : Hexes n) (u k : ℕ) → u < 16 ^ k → hex_number u hs < 16 ^ (k + n)
unfolding hex_number
hexes_below no_hexes u k h = let e : k + 0 ≡ k = omega arith in subst (λ m. u < 16 ^ m) (sym e) h
hexes_below (hex {n} b d i hs) u k h =
    let digit : d < 16 = subst BelowSixteen i (below_sixteen b) in
    let e : suc k + n ≡ k + suc n = omega arith in
    subst (λ m. hex_number (u * 16 + d) hs < 16 ^ m) e (hexes_below hs (u * 16 + d) (suc k) (omega arith))

pub unit_below : (hs : Hexes 4) → hex_number 0 hs < 0x10000
unit_below hs = hexes_below hs 0 0 (omega arith)

-- What kind of code unit u is says where it lies.
abbrev Kind : ℕ → CodeUnit → Type 0
Kind u Plain = 0xD800 ≤ u → u ≤ 0xDFFF → ⊥
Kind u High = (0xD800 ≤ u) × (u ≤ 0xDBFF)
Kind u Low = (0xDC00 ≤ u) × (u ≤ 0xDFFF)

kind : (u : ℕ) → Kind u (unit_of u)
unfolding unit_of
kind u = go (within 0xD800 0xDBFF u) refl (within 0xDC00 0xDFFF u) refl
  where
    go : (a : Bool) → within 0xD800 0xDBFF u ≡ a → (b : Bool) → within 0xDC00 0xDFFF u ≡ b → Kind u (elim a [ true ↦ High | false ↦ elim b [ true ↦ Low | false ↦ Plain ] ])
    go true e b i = within_bounds 0xD800 0xDBFF u (true→t _ e)
    go false e true i = within_bounds 0xDC00 0xDFFF u (true→t _ i)
    go false e false i = λ l h. elim (dec_le u 0xDBFF) [
      | yes k ↦ not_within 0xD800 0xDBFF u e l k
      | no k ↦ not_within 0xDC00 0xDFFF u i (omega arith) h
    ]

-- A plain code unit is a code point by itself,
pub plain_character : (hs : Hexes 4) → unit_of (hex_number 0 hs) ≡ Plain → Character (utf8 (hex_number 0 hs))
plain_character hs e =
    let below = unit_below hs in
    (hex_number 0 hs, omega arith, subst (Kind (hex_number 0 hs)) e (kind (hex_number 0 hs)), refl)

-- and so is a pair of a high one and a low one.
pub pair_character : (h l : ℕ) → unit_of h ≡ High → unit_of l ≡ Low → Character (utf8 (pair_of h l))
unfolding pair_of
pair_character h l e i =
    let high : Kind h High = subst (Kind h) e (kind h) in
    let low : Kind l Low = subst (Kind l) i (kind l) in
    (pair_of h l, omega arith, λ a b. omega arith, refl)

-- ---- strings
then_character : (s t : Bytes) → Character s → WellFormed t → WellFormed (s ++ t)
then_character s t (u, below, no_surrogate, is) h = subst (λ x. WellFormed (x ++ t)) is (character u below no_surrogate h)

pub all_map : {A B : Type 0} (P : A → Type 0) (Q : B → Type 0) (f : A → B) (o : Option A) → ((a : A) → P a → Q (f a)) → All P o → All Q (map f o)
unfolding map
all_map P Q f None k h = tt
all_map P Q f (Some a) k h = k a h

pub all_map₂ : {A B C : Type 0} (P : A → Type 0) (Q : B → Type 0) (R : C → Type 0) (f : A → B → C) (o : Option A) (p : Option B) → ((a : A) (b : B) → P a → Q b → R (f a b)) → All P o → All Q p → All R (map₂ f o p)
unfolding map₂
all_map₂ P Q R f None p k h i = tt
all_map₂ P Q R f (Some a) None k h i = tt
all_map₂ P Q R f (Some a) (Some b) k h i = k a b h i

-- The code unit that waits for its partner is a high one.
abbrev Pending : Option ℕ → Type 0
Pending None = Unit {0}
Pending (Some h) = unit_of h ≡ High

chars : (cs : Chars) (o : Option ℕ) → Pending o → All WellFormed (chars_meaning cs o)
unfolding chars_meaning
chars no_chars None p = nothing
chars no_chars (Some h) p = tt
chars (unescaped b n lo hi e ts cs) None p = all_map WellFormed WellFormed _ (chars_meaning cs None) (λ s k. then_character (b ∷ tail_bytes ts) s (table_character b n lo hi e ts) k) (chars cs None tt)
chars (unescaped b n lo hi e ts cs) (Some h) p = tt
chars (escaped b d e cs) None p = all_map WellFormed WellFormed _ (chars_meaning cs None) (λ s k. then_character (d ∷ []) s (letter_character b d e) k) (chars cs None tt)
chars (escaped b d e cs) (Some h) p = tt
chars (code_unit_lem hs cs) None p = go (unit_of (hex_number 0 hs)) refl (chars cs None tt) (chars cs (Some (hex_number 0 hs)))
  where
    go : (x : CodeUnit) → unit_of (hex_number 0 hs) ≡ x → All WellFormed (chars_meaning cs None) → (unit_of (hex_number 0 hs) ≡ High → All WellFormed (chars_meaning cs (Some (hex_number 0 hs))))
        → All WellFormed (elim x [ Plain ↦ map (λ s. utf8 (hex_number 0 hs) ++ s) (chars_meaning cs None) | High ↦ chars_meaning cs (Some (hex_number 0 hs)) | Low ↦ None ])
    go Plain e k l = all_map WellFormed WellFormed _ (chars_meaning cs None) (λ s i. then_character (utf8 (hex_number 0 hs)) s (plain_character hs e) i) k
    go High e k l = l e
    go Low e k l = tt
chars (code_unit_lem hs cs) (Some h) p = go (unit_of (hex_number 0 hs)) refl (chars cs None tt)
  where
    go : (x : CodeUnit) → unit_of (hex_number 0 hs) ≡ x → All WellFormed (chars_meaning cs None)
        → All WellFormed (elim x [ Plain ↦ None | High ↦ None | Low ↦ map (λ s. utf8 (pair_of h (hex_number 0 hs)) ++ s) (chars_meaning cs None) ])
    go Plain e k = tt
    go High e k = tt
    go Low e k = all_map WellFormed WellFormed _ (chars_meaning cs None) (λ s i. then_character (utf8 (pair_of h (hex_number 0 hs))) s (pair_character h (hex_number 0 hs) p e) i) k

-- The meaning of a string is well-formed UTF-8.
pub chars_well_formed : (cs : Chars) → All WellFormed (chars_meaning cs None)
chars_well_formed cs = chars cs None tt

-- ---- bytes
record InBytes (s : Bytes) : Type 0 where
  holds : T (are_bytes s)

bytes_append : (s t : Bytes) → T (are_bytes s) → T (are_bytes t) → T (are_bytes (s ++ t))
bytes_append [] t h k = k
bytes_append (b ∷ s) t h k = and_i (ltb b 256) _ (and_l (ltb b 256) _ h) (bytes_append s t (and_r (ltb b 256) _ h) k)

no_bytes : InBytes []
no_bytes = record { holds = tt }

byte : {s : Bytes} (b : ℕ) → b < 256 → InBytes s → InBytes (b ∷ s)
byte b h k = record { holds = and_i (ltb b 256) _ (lt→ltb b 256 h) k.holds }

tail_byte : {s : Bytes} (n : ℕ) → InBytes s → InBytes ((0x80 + n % 64) ∷ s)
tail_byte n k = byte (0x80 + n % 64) (omega arith) k

utf8_bytes : (u : ℕ) → u < 0x110000 → InBytes (utf8 u)
unfolding utf8
utf8_bytes u h =
    branch InBytes (ltb u 0x80) _ _ (λ k. let l = ltb→lt u 0x80 k in byte u (omega arith) no_bytes)
    (branch InBytes (ltb u 0x800) _ _ (λ k. let l = ltb→lt u 0x800 k in byte (0xC0 + u / 64) (omega arith) (tail_byte u no_bytes))
    (branch InBytes (ltb u 0x10000) _ _ (λ k. let l = ltb→lt u 0x10000 k in byte (0xE0 + u / 4096) (omega arith) (tail_byte (u / 64) (tail_byte u no_bytes)))
    (byte (0xF0 + u / 262144) (omega arith) (tail_byte (u / 4096) (tail_byte (u / 64) (tail_byte u no_bytes))))))

-- ASCII is well-formed UTF-8.
pub ascii_well_formed : (s : Bytes) → T (all (λ b. ltb b 0x80) s) → WellFormed s
ascii_well_formed [] h = nothing
ascii_well_formed (b ∷ s) h =
    let l = ltb→lt b 0x80 (and_l (ltb b 0x80) _ h) in
    subst (λ x. WellFormed (x ++ s)) (utf8_1 b l) (character b (omega arith) (λ i j. omega arith) (ascii_well_formed s (and_r (ltb b 0x80) _ h)))

-- Well-formed UTF-8 is in bytes.
pub well_formed_bytes : (s : Bytes) → WellFormed s → T (are_bytes s)
well_formed_bytes s nothing = tt
well_formed_bytes s (character u {s = t} below no_surrogate h) = bytes_append (utf8 u) t (utf8_bytes u below).holds (well_formed_bytes t h)
