-- Tokens: what each decision says of its byte, and which bytes are apart.
use Rattle.std.specs.Prelude.{◌≡◌, refl, Bool, true, false, ◌&&◌, ◌⊎◌, ◌∷◌, ℕ, zero, suc, ◌-◌, ◌≤◌, ◌<◌, T, leb, eqb}
use Rattle.std.proofs.Common.{sym, subst, ap, ◌∙◌, inl, inr, arith, leb-true, leb-false, ne_eqb, leb→le, le→leb, eqb→eq}
use Rattle.std.proofs.lemmas.Bool.{lt-leb}
use Rattle.model.specs.Bytes.{Bytes}
use Rattle.model.specs.Limits.{max_values, max_nesting, max_integer}
use Rattle.model.proofs.Laws.Logic.{and_l, and_r, and_i, or_e, or_r, T→true, true→t}
use Rattle.syntax.specs.declared.Start.{Start}
use Rattle.syntax.specs.declared.Start.TheVariants.{NoValue, TooMuch, Literal, Minus, Digit, Quote, Bracket, Brace}
use Rattle.syntax.specs.declared.Word.TheVariants.{TrueWord, FalseWord, NullWord}
use Rattle.syntax.specs.declared.Separator.{Separator}
use Rattle.syntax.specs.declared.Separator.TheVariants.{Comma, Close, Neither}
use Rattle.syntax.specs.declared.Lead.{Lead}
use Rattle.syntax.specs.declared.Lead.TheVariants.{Closing, Backslash, Never, Char}
use Rattle.syntax.specs.declared.Escape.{Escape}
use Rattle.syntax.specs.declared.Escape.TheVariants.{Letter, Unicode, NoEscape}
use Rattle.syntax.specs.Grammar.{no_ws, no_digits, zero_int, int, no_frac, no_exp, no_chars, JValue, jtrue, jfalse, jnull, jnumber, jstring, jempty_array, jempty_object, spell_value, spell_ws, spell_minus, spell_int, spell_frac, spell_exp, spell_digits, spell_chars}
use Rattle.syntax.specs.Read.{is_part}
use Rattle.syntax.specs.Tokens.{within, is_white, is_digit, is_digit1_9, digit_value, is_point, is_e, counted, nested, start_of, separator_of, escape_of}
use Rattle.syntax.specs.Utf8.{lead_of}

-- ---- tests
pub true_t : {b : Bool} → b ≡ true → T b
true_t {b} e = true→t b e

pub false_t : {b : Bool} → b ≡ false → T b → ⊥
false_t e = subst (λ b. T b → ⊥) (sym e) (λ x. x)

-- A test that holds of one byte and not of another tells them apart.
pub apart : (test : ℕ → Bool) (b x : ℕ) → T (test b) → test x ≡ false → eqb b x ≡ false
apart test b x h e = ne_eqb b x (λ i. false_t e (subst (λ c. T (test c)) i h))

pub within_bounds : (lo hi b : ℕ) → T (within lo hi b) → (lo ≤ b) × (b ≤ hi)
unfolding within
within_bounds lo hi b h = (leb→le lo b (and_l (leb lo b) (leb b hi) h), leb→le b hi (and_r (leb lo b) (leb b hi) h))

pub bounds_within : (lo hi b : ℕ) → lo ≤ b → b ≤ hi → T (within lo hi b)
unfolding within
bounds_within lo hi b l h = and_i (leb lo b) (leb b hi) (le→leb lo b l) (le→leb b hi h)

pub below : (lo hi b : ℕ) → b < lo → within lo hi b ≡ false
unfolding within
below lo hi b l = rw (lt-leb lo b l)

pub above : (lo hi b : ℕ) → hi < b → within lo hi b ≡ false
unfolding within
above lo hi b l = go (leb lo b)
  where
    go : (c : Bool) → c && leb b hi ≡ false
    go true = lt-leb b hi l
    go false = refl

-- A property of what a test chooses.
pub branch : {A : Type 0} (P : A → Type 0) (b : Bool) (x y : A) → (T b → P x) → P y → P (elim b [ true ↦ x | false ↦ y ])
branch P true x y f g = f tt
branch P false x y f g = g

-- ---- digits
pub digit_bounds : (b : ℕ) → T (is_digit b) → (0x30 ≤ b) × (b ≤ 0x39)
unfolding is_digit
digit_bounds b h = within_bounds 0x30 0x39 b h

pub digit_zero : (b : ℕ) → T (is_digit b) → digit_value b ≡ 0 → b ≡ 0x30
digit_zero b h e = let g = digit_bounds b h in omega (arith, e)

pub digit_positive : (b d : ℕ) → T (is_digit b) → digit_value b ≡ suc d → T (is_digit1_9 b)
unfolding is_digit1_9
digit_positive b d h e = let g = digit_bounds b h in bounds_within 0x31 0x39 b (omega (arith, e)) g.1

pub positive_digit : (b : ℕ) → T (is_digit1_9 b) → T (is_digit b)
unfolding is_digit1_9 is_digit
positive_digit b h = let g = within_bounds 0x31 0x39 b h in bounds_within 0x30 0x39 b (omega (arith, g.0)) g.1

pub positive_value : (b : ℕ) → T (is_digit1_9 b) → (d : ℕ) × (digit_value b ≡ suc d)
unfolding is_digit1_9
positive_value b h = let g = within_bounds 0x31 0x39 b h in (b - 0x31, omega (arith, g.0))

-- A single digit is within the limit.
pub digit_small : (b : ℕ) → T (is_digit b) → digit_value b ≤ max_integer
unfolding max_integer
digit_small b h = let g = digit_bounds b h in omega (arith, g.1)

-- ---- what follows a number: no digit, no fraction, no exponent
abbrev pub EndsNumber : ℕ → Type 0
EndsNumber b = (is_digit b ≡ false) × (is_part b ≡ false)

pub white_ends : (b : ℕ) → T (is_white b) → EndsNumber b
unfolding is_white is_digit within is_part is_point is_e
white_ends b h = or_e (eqb b 0x20) _ (λ i. is 0x20 i refl refl) (or_e (eqb b 0x09) _ (λ i. is 0x09 i refl refl) (or_e (eqb b 0x0A) _ (λ i. is 0x0A i refl refl) (λ i. is 0x0D i refl refl))) h
  where
    is : (x : ℕ) → T (eqb b x) → is_digit x ≡ false → is_part x ≡ false → EndsNumber b
    is x i d p = subst EndsNumber (sym (eqb→eq b x i)) (d, p)

-- A fraction or an exponent, by its first byte.
pub part_says : (b : ℕ) → is_part b ≡ true → (b ≡ 0x2E) ⊎ T (is_e b)
unfolding is_part is_point
part_says b e = or_e (eqb b 0x2E) (is_e b) (λ h. inl (eqb→eq b 0x2E h)) (λ h. inr h) (true_t e)

pub exponent_part : (b : ℕ) → T (is_e b) → is_part b ≡ true
unfolding is_part
exponent_part b h = T→true _ (or_r (is_point b) (is_e b) h)

pub exponent_no_digit : (b : ℕ) → T (is_e b) → is_digit b ≡ false
unfolding is_e is_digit within
exponent_no_digit b h = or_e (eqb b 0x65) (eqb b 0x45) (λ i. is 0x65 i refl) (λ i. is 0x45 i refl) h
  where
    is : (x : ℕ) → T (eqb b x) → is_digit x ≡ false → is_digit b ≡ false
    is x i d = ap is_digit (eqb→eq b x i) ∙ d

-- ---- values
-- There is a value that begins with this byte.
pub record Opens (b : ℕ) : Type 0 where
  pub tree : JValue
  pub more : Bytes → Bytes
  pub is : (y : Bytes) → spell_value tree y ≡ b ∷ more y

abbrev opens : (x : ℕ) (tree : JValue) (more : Bytes → Bytes) → ((y : Bytes) → spell_value tree y ≡ x ∷ more y) → (b : ℕ) → T (eqb b x) → Opens b
opens x tree more is b h = record { tree = tree; more = more; is = λ y. is y ∙ ap (λ c. c ∷ more y) (sym (eqb→eq b x h)) }

opens_digit : (b : ℕ) → T (is_digit b) → Opens b
unfolding spell_value spell_minus spell_int spell_frac spell_exp spell_digits
opens_digit b h = go (digit_value b) refl
  where
    go : (d : ℕ) → digit_value b ≡ d → Opens b
    go zero e = record { tree = jnumber false zero_int no_frac no_exp; more = λ y. y; is = λ y. ap (λ c. c ∷ y) (sym (digit_zero b h e)) }
    go (suc d) e = record { tree = jnumber false (int b (digit_positive b d h e) no_digits) no_frac no_exp; more = λ y. y; is = λ y. refl }

-- What is known where a value is to begin.
abbrev pub StartSays : ℕ → ℕ → ℕ → Start → Type 0
StartSays row depth b NoValue = Unit {0}
StartSays row depth b TooMuch = Opens b
StartSays row depth b (Literal x) = row < max_values
StartSays row depth b Minus = (b ≡ 0x2D) × (row < max_values)
StartSays row depth b Digit = row < max_values
StartSays row depth b Quote = (b ≡ 0x22) × (row < max_values)
StartSays row depth b Bracket = (b ≡ 0x5B) × (row < max_values) × (depth < max_nesting)
StartSays row depth b Brace = (b ≡ 0x7B) × (row < max_values) × (depth < max_nesting)

pub counted_law : (P : Start → Type 0) (row : ℕ) (x : Start) → (max_values ≤ row → P TooMuch) → (row < max_values → P x) → P (counted row x)
unfolding counted
counted_law P row x f g = go (leb max_values row) refl
  where
    go : (b : Bool) → leb max_values row ≡ b → P (elim b [ true ↦ TooMuch | false ↦ x ])
    go true e = f (leb-true max_values row e)
    go false e = g (leb-false max_values row e)

pub nested_law : (P : Start → Type 0) (depth : ℕ) (x : Start) → (max_nesting ≤ depth → P TooMuch) → (depth < max_nesting → P x) → P (nested depth x)
unfolding nested
nested_law P depth x f g = go (leb max_nesting depth) refl
  where
    go : (b : Bool) → leb max_nesting depth ≡ b → P (elim b [ true ↦ TooMuch | false ↦ x ])
    go true e = f (leb-true max_nesting depth e)
    go false e = g (leb-false max_nesting depth e)

pub start_says : (row depth b : ℕ) (x : Start) → start_of row depth b ≡ x → StartSays row depth b x
unfolding start_of spell_value spell_chars spell_ws spell_minus spell_int spell_frac spell_exp
start_says row depth b x e =
    subst Says e
    (branch Says (eqb b 0x22) _ _ (λ h. value (opens 0x22 (jstring no_chars) (λ y. 0x22 ∷ y) (λ y. refl) b h) Quote (λ r. (eqb→eq b 0x22 h, r)))
    (branch Says (eqb b 0x5B) _ _ (λ h. let o = opens 0x5B (jempty_array no_ws) (λ y. 0x5D ∷ y) (λ y. refl) b h in value o _ (λ r. inner o Bracket (λ d. (eqb→eq b 0x5B h, r, d))))
    (branch Says (eqb b 0x7B) _ _ (λ h. let o = opens 0x7B (jempty_object no_ws) (λ y. 0x7D ∷ y) (λ y. refl) b h in value o _ (λ r. inner o Brace (λ d. (eqb→eq b 0x7B h, r, d))))
    (branch Says (is_digit b) _ _ (λ h. value (opens_digit b h) Digit (λ r. r))
    (branch Says (eqb b 0x2D) _ _ (λ h. value (opens 0x2D (jnumber true zero_int no_frac no_exp) (λ y. 0x30 ∷ y) (λ y. refl) b h) Minus (λ r. (eqb→eq b 0x2D h, r)))
    (branch Says (eqb b 0x74) _ _ (λ h. value (opens 0x74 jtrue (λ y. 0x72 ∷ 0x75 ∷ 0x65 ∷ y) (λ y. refl) b h) (Literal TrueWord) (λ r. r))
    (branch Says (eqb b 0x66) _ _ (λ h. value (opens 0x66 jfalse (λ y. 0x61 ∷ 0x6C ∷ 0x73 ∷ 0x65 ∷ y) (λ y. refl) b h) (Literal FalseWord) (λ r. r))
    (branch Says (eqb b 0x6E) _ _ (λ h. value (opens 0x6E jnull (λ y. 0x75 ∷ 0x6C ∷ 0x6C ∷ y) (λ y. refl) b h) (Literal NullWord) (λ r. r)) tt))))))))
  where
    Says : Start → Type 0
    Says = StartSays row depth b

    value : Opens b → (x : Start) → (row < max_values → Says x) → Says (counted row x)
    value o x f = counted_law Says row x (λ l. o) f

    inner : Opens b → (x : Start) → (depth < max_nesting → Says x) → Says (nested depth x)
    inner o x f = nested_law Says depth x (λ l. o) f

pub digit_starts : (row depth b : ℕ) → T (is_digit b) → start_of row depth b ≡ counted row Digit
unfolding start_of is_digit within
digit_starts row depth b h = rw (apart is_digit b 0x22 h refl, apart is_digit b 0x5B h refl, apart is_digit b 0x7B h refl, T→true (is_digit b) h, start_of)

-- ---- separators
abbrev pub SeparatorSays : ℕ → ℕ → Separator → Type 0
SeparatorSays close b Comma = b ≡ 0x2C
SeparatorSays close b Close = b ≡ close
SeparatorSays close b Neither = Unit {0}

pub separator_says : (close b : ℕ) (x : Separator) → separator_of close b ≡ x → SeparatorSays close b x
unfolding separator_of
separator_says close b x e = subst (SeparatorSays close b) e (branch (SeparatorSays close b) (eqb b 0x2C) _ _ (λ h. eqb→eq b 0x2C h) (branch (SeparatorSays close b) (eqb b close) _ _ (λ h. eqb→eq b close h) tt))

-- ---- strings
-- A byte that begins a character names bytes that there are.
abbrev pub LeadSays : ℕ → Lead → Type 0
LeadSays b Closing = b ≡ 0x22
LeadSays b Backslash = b ≡ 0x5C
LeadSays b Never = Unit {0}
LeadSays b (Char n lo hi) = T (within lo hi lo)

pub lead_says : (b : ℕ) (x : Lead) → lead_of b ≡ x → LeadSays b x
unfolding lead_of within
lead_says b x e =
    subst (LeadSays b) e
    (branch (LeadSays b) (eqb b 0x22) _ _ (λ h. eqb→eq b 0x22 h)
    (branch (LeadSays b) (eqb b 0x5C) _ _ (λ h. eqb→eq b 0x5C h)
    (branch (LeadSays b) (within 0x20 0x7F b) _ _ (λ h. tt)
    (branch (LeadSays b) (within 0xC2 0xDF b) _ _ (λ h. tt)
    (branch (LeadSays b) (eqb b 0xE0) _ _ (λ h. tt)
    (branch (LeadSays b) (within 0xE1 0xEC b) _ _ (λ h. tt)
    (branch (LeadSays b) (eqb b 0xED) _ _ (λ h. tt)
    (branch (LeadSays b) (within 0xEE 0xEF b) _ _ (λ h. tt)
    (branch (LeadSays b) (eqb b 0xF0) _ _ (λ h. tt)
    (branch (LeadSays b) (within 0xF1 0xF3 b) _ _ (λ h. tt)
    (branch (LeadSays b) (eqb b 0xF4) _ _ (λ h. tt) tt)))))))))))

-- No character begins with a control character, with a byte that only follows others or would begin an overlong form, or with one beyond F4.
pub no_control : (b : ℕ) → b < 0x20 → lead_of b ≡ Never
unfolding lead_of
no_control b l =
    rw (
      ne_eqb b 0x22 (λ e. omega arith),
      ne_eqb b 0x5C (λ e. omega arith),
      below 0x20 0x7F b (omega arith),
      below 0xC2 0xDF b (omega arith),
      ne_eqb b 0xE0 (λ e. omega arith),
      below 0xE1 0xEC b (omega arith),
      ne_eqb b 0xED (λ e. omega arith),
      below 0xEE 0xEF b (omega arith),
      ne_eqb b 0xF0 (λ e. omega arith),
      below 0xF1 0xF3 b (omega arith),
      ne_eqb b 0xF4 (λ e. omega arith),
      lead_of,
    )

pub no_overlong : (b : ℕ) → 0x80 ≤ b → b < 0xC2 → lead_of b ≡ Never
unfolding lead_of
no_overlong b k l =
    rw (
      ne_eqb b 0x22 (λ e. omega arith),
      ne_eqb b 0x5C (λ e. omega arith),
      above 0x20 0x7F b (omega arith),
      below 0xC2 0xDF b (omega arith),
      ne_eqb b 0xE0 (λ e. omega arith),
      below 0xE1 0xEC b (omega arith),
      ne_eqb b 0xED (λ e. omega arith),
      below 0xEE 0xEF b (omega arith),
      ne_eqb b 0xF0 (λ e. omega arith),
      below 0xF1 0xF3 b (omega arith),
      ne_eqb b 0xF4 (λ e. omega arith),
      lead_of,
    )

pub no_more : (b : ℕ) → 0xF4 < b → lead_of b ≡ Never
unfolding lead_of
no_more b l =
    rw (
      ne_eqb b 0x22 (λ e. omega arith),
      ne_eqb b 0x5C (λ e. omega arith),
      above 0x20 0x7F b (omega arith),
      above 0xC2 0xDF b (omega arith),
      ne_eqb b 0xE0 (λ e. omega arith),
      above 0xE1 0xEC b (omega arith),
      ne_eqb b 0xED (λ e. omega arith),
      above 0xEE 0xEF b (omega arith),
      ne_eqb b 0xF0 (λ e. omega arith),
      above 0xF1 0xF3 b (omega arith),
      ne_eqb b 0xF4 (λ e. omega arith),
      lead_of,
    )

abbrev EscapeSays : ℕ → Escape → Type 0
EscapeSays b (Letter d) = Unit {0}
EscapeSays b Unicode = b ≡ 0x75
EscapeSays b NoEscape = Unit {0}

pub escape_says : (b : ℕ) → escape_of b ≡ Unicode → b ≡ 0x75
unfolding escape_of
escape_says b e =
    subst (EscapeSays b) e
    (branch (EscapeSays b) (eqb b 0x22) _ _ (λ h. tt)
    (branch (EscapeSays b) (eqb b 0x5C) _ _ (λ h. tt)
    (branch (EscapeSays b) (eqb b 0x2F) _ _ (λ h. tt)
    (branch (EscapeSays b) (eqb b 0x62) _ _ (λ h. tt)
    (branch (EscapeSays b) (eqb b 0x66) _ _ (λ h. tt)
    (branch (EscapeSays b) (eqb b 0x6E) _ _ (λ h. tt)
    (branch (EscapeSays b) (eqb b 0x72) _ _ (λ h. tt)
    (branch (EscapeSays b) (eqb b 0x74) _ _ (λ h. tt)
    (branch (EscapeSays b) (eqb b 0x75) _ _ (λ h. eqb→eq b 0x75 h) tt)))))))))
