-- Laws of texts that are written one after the other, and of the sizes of numbers and strings.
use Rattle.std.specs.Prelude.{◌≡◌, refl, Bool, true, false, ◌&&◌, not, cond, [], ◌∷◌, ◌++◌, ℕ, zero, suc, ◌+◌, ◌*◌, ◌/◌, ◌^◌, ◌≤◌, ◌<◌, T, ltb, eqb, ℤ, length, set}
use Rattle.std.proofs.Common.{sym, ap, ◌∙◌, subst, true≢false, append_assoc, arith, pow-suc, lt-ltb, le-ltb, ne_eqb, ltb-true, ltb-false, eqb-true, length-append}
use Rattle.std.specs.Prelude.{Option, None, Some}
use Rattle.std.proofs.lemmas.Bool.{eqb-false}
use Rattle.std.proofs.lemmas.List.Edits.{sets}
use Rattle.std.proofs.Math.Seq.{length-sets, set_out}
use Rattle.area.specs.Laws.{sets_append}
use Rattle.model.specs.Bytes.{Bytes, digit_byte}
use Rattle.model.specs.InstantText.{instant_text}
use Rattle.model.specs.Limits.{max_text_bytes}
use Rattle.model.specs.Lists.{find, all}
use Rattle.model.proofs.Laws.Logic.{and_l, and_r, T→true, clash}
use Rattle.model.specs.Option.{or_else}
use Rattle.model.specs.Writing.{decimal_within, decimal, short_escapes, long_escape, escaped, escaped_all, string_text}
use Rattle.print.specs.Contract.{Put, StringPut}
use Rattle.print.specs.Inner.{plain, letter_of}

-- ---- one text after another
pub put_none : (at : ℕ) (d : Bytes) → Put [] at d at d
put_none at d = record { end = omega arith; output = refl }

pub put_byte : {b at : ℕ} {d d' : Bytes} → d' ≡ set d at b → Put (b ∷ []) at d (at + 1) d'
put_byte e = record { end = refl; output = e }

pub put_bytes_lem : {x : Bytes} {at : ℕ} {d d' : Bytes} → d' ≡ sets d at x → Put x at d (at + length x) d'
put_bytes_lem e = record { end = refl; output = e }

pub put_then : {x y : Bytes} {at m r : ℕ} {d d₁ d₂ : Bytes} → Put x at d m d₁ → Put y m d₁ r d₂ → Put (x ++ y) at d r d₂
put_then {x} {y} {at} {m} {r} {d} {d₁} {d₂} p q =
    record {
      end = omega (arith, p.end, q.end, length-append x y);
      output = q.output ∙ (ap (λ (e : Bytes). sets e m y) p.output ∙ (ap (λ (k : ℕ). sets (sets d at x) k y) p.end ∙ sets_append x y d at));
    }

-- The same end, the same text.
pub put_end : {x : Bytes} {at m r : ℕ} {d d' : Bytes} → Put x at d m d' → r ≡ m → Put x at d r d'
put_end p e = record { end = e ∙ p.end; output = p.output }

pub put_as : {x y : Bytes} {at r : ℕ} {d d' : Bytes} → Put x at d r d' → x ≡ y → Put y at d r d'
put_as {at = at} {r = r} {d = d} {d' = d'} p e = subst (λ (z : Bytes). Put z at d r d') e p

-- The output keeps its size.
pub put_size : {x : Bytes} {at r : ℕ} {d d' : Bytes} → Put x at d r d' → length d' ≡ length d
put_size {x} {at} {d = d} p = ap length p.output ∙ length-sets d at x

-- What begins past the output's end leaves it as it is.
pub sets_out : (xs d : Bytes) (i : ℕ) → length d ≤ i → sets d i xs ≡ d
sets_out [] d i h = refl
sets_out (x ∷ xs) d i h = ap (λ (e : Bytes). sets e (suc i) xs) (set_out d i x h) ∙ sets_out xs d (suc i) (omega arith)

-- ---- numbers
cond_same : (t : Bool) (x : Bytes) {y z : Bytes} → (t ≡ false → y ≡ z) → cond t x y ≡ cond t x z
cond_same true x h = refl
cond_same false x h = h refl

fuel : (j k n : ℕ) → n ≤ j → n ≤ k → decimal_within j n ≡ decimal_within k n
fuel zero zero n h l = refl
fuel zero (suc k) n h l = rw (lt-ltb n 10 (omega arith))
fuel (suc j) zero n h l = rw (lt-ltb n 10 (omega arith))
fuel (suc j) (suc k) n h l =
    cond_same (ltb n 10) (digit_byte n ∷ []) (λ e. ap (λ (s : Bytes). s ++ (digit_byte n ∷ [])) (fuel j k (n / 10) (omega (arith, ltb-false n 10 e)) (omega (arith, ltb-false n 10 e))))

-- A number below ten is its digit; any other is the text of a tenth of it, and its last digit.
pub decimal_digit : (n : ℕ) → n < 10 → decimal n ≡ digit_byte n ∷ []
unfolding decimal
decimal_digit zero h = refl
decimal_digit (suc n) h = rw (lt-ltb (suc n) 10 h)

pub decimal_more : (n : ℕ) → 10 ≤ n → decimal n ≡ decimal (n / 10) ++ (digit_byte n ∷ [])
unfolding decimal
decimal_more zero h = absurd (omega arith)
decimal_more (suc n) h = rw (le-ltb (suc n) 10 h) (ap (λ (s : Bytes). s ++ (digit_byte (suc n) ∷ [])) (fuel n (suc n / 10) (suc n / 10) (omega arith) (omega arith)))

one_more : (n m : ℕ) (t : Bool) → ltb n 10 ≡ t → (10 ≤ n → length (decimal (n / 10)) ≤ m) → length (decimal n) ≤ suc m
one_more n m true e f = rw (decimal_digit n (ltb-true n 10 e)) (omega arith)
one_more n m false e f =
    let l = ltb-false n 10 e in
    rw (decimal_more n l, length-append (decimal (n / 10)) (digit_byte n ∷ [])) (omega (arith, f l))

-- A number below 10 ^ k has at most k digits, for k from 1.
pub decimal_length : (k n : ℕ) → n < 10 ^ suc k → length (decimal n) ≤ suc k
decimal_length zero n h = one_more n 0 (ltb n 10) refl (λ l. absurd (omega arith))
decimal_length (suc k) n h =
    let b : n < 10 ^ suc k * 10 = rw pow-suc at h in
    one_more n (suc k) (ltb n 10) refl (λ l. decimal_length k (n / 10) (omega arith))

pub decimal_20 : (n : ℕ) → n < 18446744073709551616 → length (decimal n) ≤ 20
decimal_20 n h = decimal_length 19 n (omega arith)

-- ---- strings
-- The table of short escapes, beside that of their letters.
data Short : Option Bytes → Option ℕ → Type 0 where
  missing : Short None None
  letter : (l : ℕ) → Short (Some (0x5c ∷ l ∷ [])) (Some l)

short_or : (t : Bool) (k : ℕ) {o : Option Bytes} {l : Option ℕ} → Short o l → Short (cond t (Some (0x5c ∷ k ∷ [])) o) (cond t (Some k) l)
short_or true k p = letter k
short_or false k p = p

short : (b : ℕ) → Short (find (eqb b) short_escapes) (letter_of b)
short b =
    short_or (eqb b 8) 98
    (short_or (eqb b 9) 116
    (short_or (eqb b 10) 110
    (short_or (eqb b 12) 102
    (short_or (eqb b 13) 114
    (short_or (eqb b 34) 34
    (short_or (eqb b 92) 92 missing))))))

abbrev unlettered : ℕ → Bytes
unlettered b = cond (ltb b 0x20) (long_escape b) (b ∷ [])

-- A byte with a letter has the short escape; of the others, those below 32 the long one, and the rest stand as they are.
pub escaped_short : (b c : ℕ) → letter_of b ≡ Some c → escaped b ≡ 0x5c ∷ c ∷ []
escaped_short b c = go (short b)
  where
    go : {o : Option Bytes} {l : Option ℕ} → Short o l → l ≡ Some c → or_else o (unlettered b) ≡ 0x5c ∷ c ∷ []
    go missing h = clash cc
    go (letter l) h = cc

escaped_other : (b : ℕ) → letter_of b ≡ None → escaped b ≡ unlettered b
escaped_other b = go (short b)
  where
    go : {o : Option Bytes} {l : Option ℕ} → Short o l → l ≡ None → or_else o (unlettered b) ≡ unlettered b
    go missing h = refl
    go (letter l) h = clash cc

pub escaped_long : (b : ℕ) → plain b ≡ false → letter_of b ≡ None → escaped b ≡ long_escape b
escaped_long b p h = escaped_other b h ∙ go (ltb b 0x20) (eqb b 0x22) (eqb b 0x5c) refl refl p
  where
    go : (t q s : Bool) → eqb b 0x22 ≡ q → eqb b 0x5c ≡ s → not t && (not q && not s) ≡ false → cond t (long_escape b) (b ∷ []) ≡ long_escape b
    go true q s e f p = refl
    go false true s e f p = let k = ap letter_of (eqb-true b 0x22 e) in clash cc
    go false false true e f p = let k = ap letter_of (eqb-true b 0x5c f) in clash cc
    go false false false e f p = absurd (true≢false p)

-- What is known of a byte that stands as it is.
plain_byte : (b : ℕ) → plain b ≡ true → (0x20 ≤ b) × (b ≡ 0x22 → ⊥) × (b ≡ 0x5c → ⊥)
plain_byte b = go (ltb b 0x20) (eqb b 0x22) (eqb b 0x5c) refl refl refl
  where
    go : (t q s : Bool) → ltb b 0x20 ≡ t → eqb b 0x22 ≡ q → eqb b 0x5c ≡ s → not t && (not q && not s) ≡ true → (0x20 ≤ b) × (b ≡ 0x22 → ⊥) × (b ≡ 0x5c → ⊥)
    go true q s d e f p = absurd (true≢false (sym p))
    go false true s d e f p = absurd (true≢false (sym p))
    go false false true d e f p = absurd (true≢false (sym p))
    go false false false d e f p = (ltb-false b 0x20 d, eqb-false b 0x22 e, eqb-false b 0x5c f)

pub letter_none : (b : ℕ) → (b ≡ 8 → ⊥) → (b ≡ 9 → ⊥) → (b ≡ 10 → ⊥) → (b ≡ 12 → ⊥) → (b ≡ 13 → ⊥) → (b ≡ 0x22 → ⊥) → (b ≡ 0x5c → ⊥) → letter_of b ≡ None
letter_none b h8 h9 h10 h12 h13 h34 h92 = simp (ne_eqb b 8 h8, ne_eqb b 9 h9, ne_eqb b 10 h10, ne_eqb b 12 h12, ne_eqb b 13 h13, ne_eqb b 0x22 h34, ne_eqb b 0x5c h92)

pub escaped_plain : (b : ℕ) → plain b ≡ true → escaped b ≡ b ∷ []
escaped_plain b p =
    let w = plain_byte b p in
    let n = letter_none b (λ e. omega arith) (λ e. omega arith) (λ e. omega arith) (λ e. omega arith) (λ e. omega arith) w.1 w.2 in
    escaped_other b n ∙ rw (le-ltb b 0x20 w.0)

-- ---- sizes of strings
pub escaped_length : (b : ℕ) → (1 ≤ length (escaped b)) × (length (escaped b) ≤ 6)
escaped_length b = go (ltb b 0x20) (short b)
  where
    go : (t : Bool) {o : Option Bytes} {l : Option ℕ} → Short o l → let x = or_else o (cond t (long_escape b) (b ∷ [])) in (1 ≤ length x) × (length x ≤ 6)
    go true missing = (omega arith, omega arith)
    go false missing = (omega arith, omega arith)
    go t (letter l) = (omega arith, omega arith)

pub escaped_all_append : (s t : Bytes) → escaped_all (s ++ t) ≡ escaped_all s ++ escaped_all t
escaped_all_append [] t = refl
escaped_all_append (b ∷ s) t = ap (λ (r : Bytes). escaped b ++ r) (escaped_all_append s t) ∙ sym (append_assoc (escaped b) (escaped_all s) (escaped_all t))

pub escaped_all_length : (s : Bytes) → (length s ≤ length (escaped_all s)) × (length (escaped_all s) ≤ 6 * length s)
escaped_all_length [] = (omega arith, omega arith)
escaped_all_length (b ∷ s) =
    let w = escaped_all_length s in
    let x = escaped_length b in
    rw (length-append (escaped b) (escaped_all s)) (omega arith, omega arith)

-- A string's text has its quotes, and at most six bytes for each byte.
pub string_length : (s : Bytes) → (length s + 2 ≤ length (string_text s)) × (length (string_text s) ≤ 6 * length s + 2)
string_length s =
    let w = escaped_all_length s in
    rw (length-append (escaped_all s) (0x22 ∷ [])) (omega arith, omega arith)

-- ---- strings of any size
module _ {s : Bytes} {at r : ℕ} {d d' : Bytes} (p : StringPut s at d r d') where
  -- One of no more bytes than the largest text is written.
  pub string_written : length s ≤ max_text_bytes → Put (string_text s) at d r d'
  string_written h = rw (le-ltb max_text_bytes (length s) h) at p.meets

  string_left : max_text_bytes < length s → (r ≡ suc max_text_bytes) × (d' ≡ d)
  string_left h = rw (lt-ltb max_text_bytes (length s) h) at p.meets

  by_size : {X : Type 0} → (length s ≤ max_text_bytes → X) → (max_text_bytes < length s → X) → X
  by_size {X} f g = go (ltb max_text_bytes (length s)) refl
    where
      go : (t : Bool) → ltb max_text_bytes (length s) ≡ t → X
      go true e = g (ltb-true max_text_bytes (length s) e)
      go false e = f (ltb-false max_text_bytes (length s) e)

  -- So is one whose text is no longer than that; a text that would pass the largest ends past it.
  pub string_fits : length (string_text s) ≤ max_text_bytes → Put (string_text s) at d r d'
  string_fits h = string_written (omega (arith, string_length s))

  pub string_passes : max_text_bytes < at + length (string_text s) → max_text_bytes < r
  string_passes h = by_size (λ l. omega (arith, (string_written l).end)) (λ l. omega (arith, (string_left l).0))

  pub string_near : r ≤ at + 6 * max_text_bytes + 2
  string_near = by_size (λ l. omega (arith, (string_written l).end, string_length s)) (λ l. omega (arith, (string_left l).0))

  pub string_size : length d' ≡ length d
  string_size = by_size (λ l. put_size (string_written l)) (λ l. ap length (string_left l).1)

-- ---- bytes that all stand as they are
pub escaped_all_plain : (s : Bytes) → T (all plain s) → escaped_all s ≡ s
escaped_all_plain [] p = refl
escaped_all_plain (b ∷ s) p =
    rw (escaped_all_plain s (and_r (plain b) (all plain s) p))
    (ap (λ (r : Bytes). r ++ s) (escaped_plain b (T→true (plain b) (and_l (plain b) (all plain s) p))))

plain_digit : (n : ℕ) → plain (digit_byte n) ≡ true
plain_digit n = simp (le-ltb (digit_byte n) 0x20 (omega arith), ne_eqb (digit_byte n) 0x22 (λ e. omega arith), ne_eqb (digit_byte n) 0x5c (λ e. omega arith))

instant_plain : (t : ℤ) → T (all plain (instant_text t))
unfolding instant_text
instant_plain t = simp plain_digit tt

-- An instant's text, as a string, is itself in quotes.
pub instant_string : (t : ℤ) → string_text (instant_text t) ≡ 0x22 ∷ (instant_text t ++ (0x22 ∷ []))
instant_string t = ap (λ (s : Bytes). 0x22 ∷ (s ++ (0x22 ∷ []))) (escaped_all_plain (instant_text t) (instant_plain t))
