-- WrittenStrings: the text of a string in well-formed UTF-8 is a string of RFC 8259, and means that string.
use Rattle.std.specs.Prelude.{◌≡◌, refl, Bool, true, false, ◌&&◌, cond, List, [], ◌∷◌, ◌++◌, ℕ, zero, suc, ◌/◌, ◌%◌, ◌≤◌, ◌<◌, T, ltb, eqb}
use Rattle.std.proofs.Common.{sym, subst, ap, ◌∙◌, append_assoc, arith, lt-ltb, le-ltb, eqb→eq}
use Rattle.std.specs.Prelude.{Option, None, Some}
use Rattle.std.proofs.Math.Decide.{dec_le}
use Rattle.model.specs.Bytes.{Bytes}
use Rattle.model.proofs.Laws.Logic.{and_l, and_r}
use Rattle.model.proofs.Laws.Option.{All, none_some}
use Rattle.model.specs.Lists.{find}
use Rattle.model.specs.Writing.{short_escapes, hex_digit, long_escape, escaped as escapedByte, escaped_all}
use Rattle.syntax.specs.declared.Escape.TheVariants.{Letter}
use Rattle.syntax.specs.declared.Unit.TheVariants.{Plain}
use Rattle.syntax.specs.Grammar.{Tails, no_tail, tail, Hexes, no_hexes, hex, Chars, no_chars, unescaped, escaped, code_unit_lem, spell_tails, spell_hexes, spell_chars, tail_bytes, hex_number, map, chars_meaning}
use Rattle.syntax.specs.Tokens.{within, escape_of, hex_of}
use Rattle.syntax.specs.Utf8.{utf8, WellFormed, nothing, character, unit_of}
use Rattle.syntax.proofs.Laws.FaultStrings.{unit_means_plain}
use Rattle.syntax.proofs.Laws.Tokens.{branch, below}
use Rattle.syntax.proofs.Laws.Utf8.{utf8_1, Unescaped, unescaped_all, letter_ascii}

-- Derivations of characters that begin with those of s, as they are written.
record Begun (s : Bytes) : Type 0 where
  before : Chars → Chars
  spells : (cs : Chars) (y : Bytes) → spell_chars (before cs) y ≡ escaped_all s ++ spell_chars cs y
  means : (cs : Chars) → chars_meaning (before cs) None ≡ map (λ t. s ++ t) (chars_meaning cs None)

-- ---- the short escapes
-- The table has for a character a backslash and the letter that stands for it.
record Short (x : ℕ) (t : Bytes) : Type 0 where
  letter : ℕ
  is : t ≡ 0x5C ∷ letter ∷ []
  stands : escape_of letter ≡ Letter x

data AllShort : List (ℕ × Bytes) → Type 0 where
  none_left : AllShort []
  short : {x : ℕ} {l : List (ℕ × Bytes)} (letter : ℕ) → escape_of letter ≡ Letter x → AllShort l → AllShort ((x, 0x5C ∷ letter ∷ []) ∷ l)

all_short : AllShort short_escapes
unfolding escape_of
all_short = short 0x62 refl (short 0x74 refl (short 0x6E refl (short 0x66 refl (short 0x72 refl (short 0x22 refl (short 0x5C refl none_left))))))

found : (x : ℕ) (l : List (ℕ × Bytes)) → AllShort l → All (Short x) (find (eqb x) l)
found x l none_left = tt
found x l (short {x = k} {l = more} letter e h) = go (eqb x k) (eqb→eq x k) (found x more h)
  where
    go : (b : Bool) → (T b → x ≡ k) → All (Short x) (find (eqb x) more) → All (Short x) (cond b (Some (0x5C ∷ letter ∷ [])) (find (eqb x) more))
    go true is r = record { letter = letter; is = refl; stands = e ∙ ap Letter (sym (is tt)) }
    go false is r = r

-- What a character with a short escape is written as, and what one without.
escaped_short : (x : ℕ) (t : Bytes) → find (eqb x) short_escapes ≡ Some t → escaped_all (x ∷ []) ≡ t ++ []
escaped_short x t e = rw e

escaped_long : (x : ℕ) → find (eqb x) short_escapes ≡ None → x < 0x20 → escaped_all (x ∷ []) ≡ long_escape x
escaped_long x e h = rw (e, lt-ltb x 0x20 h)

escaped_none : (x : ℕ) → find (eqb x) short_escapes ≡ None → 0x20 ≤ x → escaped_all (x ∷ []) ≡ x ∷ []
escaped_none x e h = rw (e, le-ltb x 0x20 h)

begun_short : (x : ℕ) (t : Bytes) → find (eqb x) short_escapes ≡ Some t → Short x t → Begun (utf8 x)
unfolding spell_chars chars_meaning
begun_short x t e k = subst Begun (sym (utf8_1 x (letter_ascii k.letter x k.stands))) (record {
  before = escaped k.letter x k.stands;
  spells = λ cs y. ap (λ z. z ++ spell_chars cs y) (sym (escaped_short x t e ∙ ap (λ z. z ++ []) k.is));
  means = λ cs. refl;
})

-- ---- the long escape
-- A test holds of every number below n.
holds_below : (ℕ → Bool) → ℕ → Bool
holds_below f zero = true
holds_below f (suc n) = f n && holds_below f n

holds_at : (f : ℕ → Bool) (n d : ℕ) → T (holds_below f n) → d < n → T (f d)
unfolding holds_below
holds_at f zero d h l = absurd (omega arith)
holds_at f (suc n) d h l = elim (dec_le n d) [
  | yes k ↦ let e : n ≡ d = omega arith in subst (λ m. T (f m)) e (and_l (f n) _ h)
  | no k ↦ holds_at f n d (and_r (f n) _ h) (omega arith)
]

is_hex_digit : ℕ → Option ℕ → Bool
is_hex_digit d (Some e) = eqb e d
is_hex_digit d None = false

is_hex_digit_lem : (d : ℕ) (x : Option ℕ) → T (is_hex_digit d x) → x ≡ Some d
unfolding is_hex_digit
is_hex_digit_lem d (Some e) h = ap Some (eqb→eq e d h)
is_hex_digit_lem d None h = absurd h

hex_digit_lem : (d : ℕ) → d < 16 → hex_of (hex_digit d) ≡ Some d
unfolding holds_below is_hex_digit hex_of within
hex_digit_lem d h = is_hex_digit_lem d (hex_of (hex_digit d)) (holds_at (λ x. is_hex_digit x (hex_of (hex_digit x))) 16 d tt h)

begun_long : (x : ℕ) → find (eqb x) short_escapes ≡ None → x < 0x20 → Begun (utf8 x)
unfolding spell_chars spell_hexes hex_number hex_of within unit_of
begun_long x e h = subst Begun (sym (utf8_1 x (omega arith))) (record {
  before = code_unit_lem hs;
  spells = λ cs y. ap (λ z. z ++ spell_chars cs y) (sym (escaped_long x e h));
  means = λ cs. unit_means_plain hs cs (ap unit_of number ∙ plain) ∙ ap (λ z. map (λ t. z ++ t) (chars_meaning cs None)) (ap utf8 number ∙ utf8_1 x (omega arith));
})
  where
    hs : Hexes 4
    hs = hex 0x30 0 refl (hex 0x30 0 refl (hex (hex_digit (x / 16)) (x / 16) (hex_digit_lem (x / 16) (omega arith)) (hex (hex_digit (x % 16)) (x % 16) (hex_digit_lem (x % 16) (omega arith)) no_hexes)))

    number : hex_number 0 hs ≡ x
    number = omega arith

    plain : unit_of x ≡ Plain
    plain = rw (below 0xD800 0xDBFF x (omega arith), below 0xDC00 0xDFFF x (omega arith), unit_of)

-- ---- no escape
-- A byte of a character of several bytes has none.
high_byte : (b : ℕ) → 0x80 ≤ b → find (eqb b) short_escapes ≡ None
high_byte b h = go (find (eqb b) short_escapes) (found b short_escapes all_short)
  where
    go : (o : Option Bytes) → All (Short b) o → o ≡ None
    go None k = refl
    go (Some t) k = absurd (let l = letter_ascii k.letter b k.stands in omega arith)

raw_byte : (b : ℕ) (s : Bytes) → 0x80 ≤ b → escaped_all s ≡ s → escaped_all (b ∷ s) ≡ b ∷ s
raw_byte b s h e = rw (high_byte b h, le-ltb b 0x20 (omega arith)) (ap (λ z. b ∷ z) e)

raw : (u : ℕ) → find (eqb u) short_escapes ≡ None → 0x20 ≤ u → escaped_all (utf8 u) ≡ utf8 u
unfolding utf8
raw u e h =
    branch (λ s. escaped_all s ≡ s) (ltb u 0x80) _ _ (λ k. escaped_none u e h)
    (branch (λ s. escaped_all s ≡ s) (ltb u 0x800) _ _ (λ k. raw_byte _ _ (omega arith) (raw_byte _ _ (omega arith) refl))
    (branch (λ s. escaped_all s ≡ s) (ltb u 0x10000) _ _ (λ k. raw_byte _ _ (omega arith) (raw_byte _ _ (omega arith) (raw_byte _ _ (omega arith) refl)))
    (raw_byte _ _ (omega arith) (raw_byte _ _ (omega arith) (raw_byte _ _ (omega arith) (raw_byte _ _ (omega arith) refl))))))

tails_spelled : {n lo hi : ℕ} (ts : Tails n lo hi) (y : Bytes) → spell_tails ts y ≡ tail_bytes ts ++ y
unfolding spell_tails tail_bytes
tails_spelled no_tail y = refl
tails_spelled (tail b h ts) y = ap (λ z. b ∷ z) (tails_spelled ts y)

begun_raw : (s : Bytes) → escaped_all s ≡ s → Unescaped s → Begun s
unfolding spell_chars chars_meaning
begun_raw s e k = record {
  before = unescaped k.first k.n k.lo k.hi k.lead k.tails;
  spells = λ cs y. ap (λ z. k.first ∷ z) (tails_spelled k.tails (spell_chars cs y)) ∙ ap (λ z. z ++ spell_chars cs y) (sym k.is ∙ sym e);
  means = λ cs. ap (λ z. map (λ t. z ++ t) (chars_meaning cs None)) (sym k.is);
}

-- ---- strings
begun : (u : ℕ) → u < 0x110000 → (0xD800 ≤ u → u ≤ 0xDFFF → ⊥) → Begun (utf8 u)
begun u h no_surrogate = go (find (eqb u) short_escapes) refl (found u short_escapes all_short)
  where
    other : (x : ℕ) (t : Bytes) → find (eqb x) short_escapes ≡ Some t → find (eqb u) short_escapes ≡ None → u ≡ x → ⊥
    other x t i e q = none_some (sym e ∙ (ap (λ z. find (eqb z) short_escapes) q ∙ i))

    go : (o : Option Bytes) → find (eqb u) short_escapes ≡ o → All (Short u) o → Begun (utf8 u)
    go (Some t) e k = begun_short u t e k
    go None e k = elim (dec_le 0x20 u) [
      | yes l ↦ begun_raw (utf8 u) (raw u e l) (unescaped_all u l h no_surrogate (other 0x22 _ refl e) (other 0x5C _ refl e))
      | no l ↦ begun_long u e (omega arith)
    ]

escaped_append : (s t : Bytes) → escaped_all (s ++ t) ≡ escaped_all s ++ escaped_all t
escaped_append [] t = refl
escaped_append (x ∷ s) t = ap (λ z. escapedByte x ++ z) (escaped_append s t) ∙ sym (append_assoc (escapedByte x) (escaped_all s) (escaped_all t))

-- A derivation of the text of a string, without its quotes, with that meaning.
pub record DerivedString (s : Bytes) : Type 0 where
  pub chars : Chars
  pub spells : (y : Bytes) → spell_chars chars y ≡ escaped_all s ++ y
  pub means : chars_meaning chars None ≡ Some s

pub derived_string : {s : Bytes} → WellFormed s → DerivedString s
unfolding spell_chars chars_meaning map
derived_string nothing = record { chars = no_chars; spells = λ y. refl; means = refl }
derived_string (character u {s = s} h no_surrogate w) =
    let c = begun u h no_surrogate in
    let r = derived_string w in
    record {
      chars = c.before r.chars;
      spells = λ y.
          c.spells r.chars y
          ∙ (ap (λ z. escaped_all (utf8 u) ++ z) (r.spells y)
          ∙ (sym (append_assoc (escaped_all (utf8 u)) (escaped_all s) y) ∙ ap (λ z. z ++ y) (sym (escaped_append (utf8 u) s))));
      means = c.means r.chars ∙ ap (map (λ t. utf8 u ++ t)) r.means;
    }
