-- Read: what a text reads as, or the fault and the place with which it is refused (01, Reading).
-- A parser takes the bytes that are left and their offset in the text (01: the place). It goes from left to right and ends at the first fault.
use Rattle.std.specs.Prelude.{Bool, true, false, ◌||◌, List, [], ◌∷◌, ◌++◌, ℕ, zero, suc, ◌+◌, ◌*◌, leb, ltb, eqb, pos, negsuc, length, Option, None, Some}
use Rattle.model.specs.Bytes.{Bytes, ascii, same_bytes}
use Rattle.model.specs.Limits.{max_text_bytes, max_integer}
use Rattle.model.specs.Lists.{any}
use Rattle.model.specs.declared.refusal.ReadFault.{ReadFault}
use Rattle.model.specs.declared.refusal.ReadFault.TheVariants.{NotJson, RepeatedName, LoneSurrogate, BadNumber, TooLarge}
use Rattle.model.specs.Size.{value_count}
use Rattle.model.specs.Value.{Value, scalar, array, object, null, boolean, integer, string, Values, no_items, item, Members, no_members, member}
use Rattle.syntax.specs.declared.Start.{Start}
use Rattle.syntax.specs.declared.Start.TheVariants.{NoValue, TooMuch, Literal, Minus, Digit, Quote, Bracket, Brace}
use Rattle.syntax.specs.declared.Word.{Word}
use Rattle.syntax.specs.declared.Word.TheVariants.{TrueWord, FalseWord, NullWord}
use Rattle.syntax.specs.declared.Separator.{Separator}
use Rattle.syntax.specs.declared.Separator.TheVariants.{Comma, Close, Neither}
use Rattle.syntax.specs.declared.Lead.{Lead}
use Rattle.syntax.specs.declared.Lead.TheVariants.{Closing, Backslash, Never, Char}
use Rattle.syntax.specs.declared.Escape.{Escape}
use Rattle.syntax.specs.declared.Escape.TheVariants.{Letter, Unicode, NoEscape}
use Rattle.syntax.specs.declared.Unit.{Unit}
use Rattle.syntax.specs.declared.Unit.TheVariants.{Plain, High, Low}
unfoldable pub use Rattle.syntax.specs.Domain.{signed, among}
use Rattle.syntax.specs.Tokens.{within, is_white, is_digit, digit_value, is_point, is_e, start_of, separator_of, escape_of, hex_of}
use Rattle.syntax.specs.Utf8.{utf8, lead_of, unit_of, pair_of}

-- What was read, the bytes that are left and their offset; or a fault and its place.
pub data Parsed (A : Type 0) : Type 0 where
  ok : A → Bytes → ℕ → Parsed A
  bad : ReadFault → ℕ → Parsed A

abbrev pub Parser : Type 0 → Type 0
Parser A = Bytes → ℕ → Parsed A

-- ---- parsers made of parsers
unfoldable pub then : {A B : Type 0} → Parsed A → (A → Parser B) → Parsed B
then (ok a t at) g = g a t at
then (bad k p) g = bad k p

infixl 20 ◌>>=◌
unfoldable pub ◌>>=◌ : {A B : Type 0} → Parser A → (A → Parser B) → Parser B
◌>>=◌ m g = λ t at. then (m t at) g

unfoldable pub give : {A : Type 0} → A → Parser A
give a t at = ok a t at

unfoldable pub fail : {A : Type 0} → ReadFault → Parser A
fail k t at = bad k at

unfoldable pub if : {A : Type 0} → Bool → Parser A → Parser A → Parser A
if true m n = m
if false m n = n

-- The next byte, which stays. Where the text ends too early, the place is its length.
unfoldable pub peek : Parser ℕ
peek [] at = bad NotJson at
peek (b ∷ t) at = ok b (b ∷ t) at

-- One byte, and then a parser.
unfoldable pub eat : {A : Type 0} → Parser A → Parser A
eat m [] at = bad NotJson at
eat m (b ∷ t) at = m t (suc at)

-- White space, and then a parser.
unfoldable pub white : {A : Type 0} → Parser A → Parser A
white m [] at = m [] at
white m (b ∷ t) at = if (is_white b) (λ u q. white m t (suc at)) m (b ∷ t) at

-- These bytes, for a result.
unfoldable pub expect : {A : Type 0} → Bytes → A → Parser A
expect [] a t at = ok a t at
expect (x ∷ xs) a [] at = bad NotJson at
expect (x ∷ xs) a (b ∷ t) at = if (eqb b x) (λ u q. expect xs a t (suc at)) (fail NotJson) (b ∷ t) at

-- ---- literals
unfoldable pub literal : Word → Parser Value
literal TrueWord = expect (ascii "true") (scalar (boolean true))
literal FalseWord = expect (ascii "false") (scalar (boolean false))
literal NullWord = expect (ascii "null") (scalar null)

-- ---- numbers
-- Refusal 4 at "the dot, the e or E".
unfoldable pub is_part : ℕ → Bool
is_part b = is_point b || is_e b

unfoldable pub end_number : Bool → ℕ → ℕ → Parser Value
end_number negative n b = if (is_part b) (fail BadNumber) (give (signed negative n))

-- Digits after a first one that is not 0; n is the number so far. Refusal 4 at "the digit that first passes the limit".
unfoldable pub digits : Bool → ℕ → Parser Value
digits negative n [] at = ok (signed negative n) [] at
digits negative n (b ∷ t) at =
    if (is_digit b)
    (if (leb (n * 10 + digit_value b) max_integer) (λ u q. digits negative (n * 10 + digit_value b) t (suc at)) (fail BadNumber))
    (end_number negative n b)
    (b ∷ t) at

-- int = zero / ( digit1-9 *DIGIT ): after a 0 no digit belongs to the number.
unfoldable pub after_zero : Bool → Parser Value
after_zero negative [] at = ok (signed negative 0) [] at
after_zero negative (b ∷ t) at = end_number negative 0 b (b ∷ t) at

unfoldable pub first_digit : Bool → ℕ → Parser Value
first_digit negative zero = after_zero negative
first_digit negative (suc d) = digits negative (suc d)

unfoldable pub int : Bool → Parser Value
int negative = peek >>= λ b. if (is_digit b) (eat (first_digit negative (digit_value b))) (fail NotJson)

-- ---- strings
-- n more bytes of a character, the first from lo to hi.
unfoldable pub tails : ℕ → ℕ → ℕ → Parser Bytes
tails zero lo hi t at = ok [] t at
tails (suc n) lo hi [] at = bad NotJson at
tails (suc n) lo hi (b ∷ t) at = if (within lo hi b) (λ u q. then (tails n 0x80 0xBF t (suc at)) (λ bs. give (b ∷ bs))) (fail NotJson) (b ∷ t) at

unfoldable pub on_hex : {A : Type 0} → Option ℕ → (ℕ → Parser A) → Parser A → Parser A
on_hex (Some d) f m = f d
on_hex None f m = m

-- n hexadecimal digits after those that make u.
unfoldable pub hexes : ℕ → ℕ → Parser ℕ
hexes zero u t at = ok u t at
hexes (suc n) u [] at = bad NotJson at
hexes (suc n) u (b ∷ t) at = on_hex (hex_of b) (λ d t' q. hexes n (u * 16 + d) t (suc at)) (fail NotJson) (b ∷ t) at

-- One step through a string: its end, the bytes of a character, or a code unit from an escape.
pub data Piece : Type 0 where
  closing : Piece
  bytes : Bytes → Piece
  unit : ℕ → Piece

unfoldable pub on_escape : {A : Type 0} → Escape → (ℕ → Parser A) → Parser A → Parser A → Parser A
on_escape (Letter d) f m n = f d
on_escape Unicode f m n = m
on_escape NoEscape f m n = n

unfoldable pub escape : Parser Piece
escape [] at = bad NotJson at
escape (b ∷ t) at =
    on_escape (escape_of b)
    (λ d t' q. ok (bytes (d ∷ [])) t (suc at))
    (λ t' q. then (hexes 4 0 t (suc at)) (λ u. give (unit u)))
    (fail NotJson)
    (b ∷ t) at

unfoldable pub on_lead : {A : Type 0} → Lead → Parser A → Parser A → Parser A → (ℕ → ℕ → ℕ → Parser A) → Parser A
on_lead Closing c b n r = c
on_lead Backslash c b n r = b
on_lead Never c b n r = n
on_lead (Char k lo hi) c b n r = r k lo hi

-- One character, or the closing quote, which stays.
unfoldable pub char : Parser Piece
char [] at = bad NotJson at
char (b ∷ t) at =
    on_lead (lead_of b)
    (give closing)
    (λ t' q. escape t (suc at))
    (fail NotJson)
    (λ n lo hi t' q. then (tails n lo hi t (suc at)) (λ bs. give (bytes (b ∷ bs))))
    (b ∷ t) at

-- A high surrogate escape that was just read: its code unit and the place of its backslash.
pub data Pending : Type 0 where
  clear : Pending
  high : ℕ → ℕ → Pending

unfoldable pub on_piece : {A : Type 0} → Piece → Parser A → (Bytes → Parser A) → (ℕ → Parser A) → Parser A
on_piece closing m f g = m
on_piece (bytes bs) m f g = f bs
on_piece (unit u) m f g = g u

unfoldable pub on_unit : {A : Type 0} → Unit → Parser A → Parser A → Parser A → Parser A
on_unit Plain m h l = m
on_unit High m h l = h
on_unit Low m h l = l

-- After a high surrogate escape whatever is no low one, a fault too, leaves it without a partner.
unfoldable pub or_lone : {A B : Type 0} → Parsed A → ℕ → (A → Parser B) → Parsed B
or_lone (ok a t at) p g = g a t at
or_lone (bad k q) p g = bad LoneSurrogate p

unfoldable pub lone : ℕ → Parser Bytes
lone p t at = bad LoneSurrogate p

-- The bytes in front of those that the rest gives.
unfoldable pub grow : Bytes → Parsed Bytes → Parsed Bytes
grow bs r = then r (λ cs. give (bs ++ cs))

-- The characters up to the closing quote, decoded. Refusal 3 at "the backslash of a complete surrogate escape that has no partner
-- (a high one followed at once by a complete low one is a pair)". The first argument bounds the steps: the number of bytes left is enough.
unfoldable pub chars : ℕ → Pending → Parser Bytes
chars zero w t at = bad NotJson at
chars (suc f) clear t at =
    then (char t at) (λ x. on_piece x (give []) (λ bs t' q. grow bs (chars f clear t' q))
    (λ u. on_unit (unit_of u) (λ t' q. grow (utf8 u) (chars f clear t' q)) (λ t' q. chars f (high u at) t' q) (lone at)))
chars (suc f) (high h p) t at =
    or_lone (char t at) p (λ x. on_piece x (lone p) (λ bs. lone p)
    (λ u. on_unit (unit_of u) (lone p) (lone p) (λ t' q. grow (utf8 (pair_of h u)) (chars f clear t' q))))

-- A string from its opening quote to its closing one, which stays.
unfoldable pub quoted : ℕ → Parser Bytes
quoted f = eat (chars f clear)

-- ---- members
-- A member's name and its colon. Refusal 3 at "the closing quote of the second equal name"; `seen` are the names before it in the object.
unfoldable pub name : ℕ → List Bytes → Parser Bytes
name f seen =
    peek >>= λ b. if (eqb b 0x22)
    (quoted f >>= λ n. if (among n seen) (fail RepeatedName) (eat (white (peek >>= λ c. if (eqb c 0x3A) (eat (give n)) (fail NotJson)))))
    (fail NotJson)

-- ---- values
unfoldable pub on_start : {A : Type 0} → Start → (Word → Parser A) → Parser A → Parser A → Parser A → Parser A → Parser A → Parser A
on_start NoValue w s n t a o = fail NotJson
on_start TooMuch w s n t a o = fail TooLarge
on_start (Literal x) w s n t a o = w x
on_start Minus w s n t a o = s
on_start Digit w s n t a o = n
on_start Quote w s n t a o = t
on_start Bracket w s n t a o = a
on_start Brace w s n t a o = o

unfoldable pub on_separator : {A : Type 0} → Separator → Parser A → Parser A → Parser A
on_separator Comma m c = m
on_separator Close m c = c
on_separator Neither m c = fail NotJson

-- The value that begins here, `row` values having begun before it, `depth` arrays and objects deep.
-- The first argument bounds the steps: 2 * length t + 1 is enough.
unfoldable mutual
  pub value : ℕ → ℕ → ℕ → Parser Value
  value zero row depth t at = bad NotJson at
  value (suc f) row depth t at =
      then (peek t at) (λ b. on_start (start_of row depth b) literal (eat (int true)) (int false)
      (quoted f >>= λ bs. eat (give (scalar (string bs))))
      (eat (white (peek >>= λ c. if (eqb c 0x5D) (eat (give (array no_items))) (λ u q. then (items f (suc row) (suc depth) u q) (λ vs. give (array vs))))))
      (eat (white (peek >>= λ c. if (eqb c 0x7D) (eat (give (object no_members))) (λ u q. then (members f (suc row) (suc depth) [] u q) (λ ms. give (object ms)))))))

  -- From the first byte of an item to the closing bracket.
  pub items : ℕ → ℕ → ℕ → Parser Values
  items zero row depth t at = bad NotJson at
  items (suc f) row depth t at =
      then (value f row depth t at) (λ v. white (peek >>= λ b. on_separator (separator_of 0x5D b)
      (eat (white (λ u q. then (items f (row + value_count v) depth u q) (λ vs. give (item v vs)))))
      (eat (give (item v no_items)))))

  -- From the first byte of a name to the closing brace.
  pub members : ℕ → ℕ → ℕ → List Bytes → Parser Members
  members zero row depth seen t at = bad NotJson at
  members (suc f) row depth seen t at =
      then (name f seen t at) (λ n. white (λ t₁ q₁. then (value f row depth t₁ q₁) (λ v. white (peek >>= λ b. on_separator (separator_of 0x7D b)
      (eat (white (λ u q. then (members f (row + value_count v) depth (seen ++ (n ∷ [])) u q) (λ ms. give (member n v ms)))))
      (eat (give (member n v no_members)))))))

-- ---- texts
-- Nothing may follow.
unfoldable pub ended : Value → Parser Value
ended v [] at = ok v [] at
ended v (b ∷ t) at = bad NotJson at

-- JSON-text = ws value ws
unfoldable pub text : ℕ → Parser Value
text f = white (value f 0 0 >>= λ v. white (ended v))

pub data Read : Type 0 where
  done : Value → Read
  refuse : ReadFault → ℕ → Read

unfoldable pub answer : Parsed Value → Read
answer (ok v t at) = done v
answer (bad k p) = refuse k p

-- "Over-long text is refused first, at place 16,384. Otherwise the fault with the smallest place wins."
unfoldable pub read : Bytes → Read
read s = elim (ltb max_text_bytes (length s)) [ true ↦ refuse TooLarge max_text_bytes | false ↦ answer (text (2 * length s + 1) s 0) ]
