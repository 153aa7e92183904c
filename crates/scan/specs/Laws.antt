-- Laws for the proofs of code that reads a text s: what the parsers give at an offset, where the bytes left are `drop at s`.
use Rattle.std.specs.Prelude.{◌≡◌, refl, Bool, true, false, ◌&&◌, ℕ, zero, suc, ◌+◌, ◌≤◌, ◌<◌, eqb, leb, ltb, ℤ, length, get_or, drop, Option, None, Some, Result, Ok, Err}
use Rattle.std.proofs.Common.{sym, ap, ◌∙◌, subst, add-one, arith, drop_of_length-le, drop-cons, drop-drop}
use Rattle.std.proofs.lemmas.Bool.{false≢true}
use mathlib.Core.List.{List, [], ◌∷◌}
use borrow.Author.Tests.{ltb-true, ltb-false, leb-true}
use Rattle.model.specs.Bytes.{Bytes}
use Rattle.model.specs.declared.refusal.ReadFault.TheVariants.{NotJson}
use Rattle.model.specs.Value.{Value, scalar, array, object, integer, string, no_items, no_members}
use Rattle.model.proofs.Laws.Logic.{clash}
use Rattle.syntax.specs.declared.Start.{Start}
use Rattle.syntax.specs.declared.Start.TheVariants.{NoValue}
use Rattle.syntax.specs.declared.Separator.{Separator}
use Rattle.syntax.specs.declared.Separator.TheVariants.{Neither}
use Rattle.syntax.specs.declared.Word.{Word}
use Rattle.syntax.specs.Read.{Parsed, ok, bad, Parser, then, ◌>>=◌, give, fail, if, peek, eat, white, literal, int, quoted, name, on_start, on_separator, value, items, members, ended}
use Rattle.syntax.specs.Layout.{biased}
use Rattle.syntax.specs.Tokens.{within, is_white, is_digit, digit_value, start_of, separator_of}
use Rattle.scan.specs.Contract.{fault_of, numeral, decimal_of, word_value, end_white, Skipped, start_at, StartRoom, Started, separator_at, SeparatorRoom, Separated, stands_at, Stands, LiteralMeets, NumberMeets}
use Rattle.scan.specs.declared.Fault.{Fault}
use Rattle.scan.specs.declared.number.Numeral.{Numeral}

-- ---- one byte
pub drop_next : (s t : Bytes) (at b : ℕ) → drop at s ≡ b ∷ t → drop (suc at) s ≡ t
drop_next s t at b e = ap (λ k. drop k s) (sym (add-one at)) ∙ sym (drop-drop 1 at s) ∙ ap (drop 1) e

pub peek_in : (s : Bytes) (at : ℕ) → at < length s → peek (drop at s) at ≡ ok (get_or s at 0) (drop at s) at
unfolding peek
peek_in s at l = rw (drop-cons s at 0 l)

pub peek_end : (s : Bytes) (at : ℕ) → length s ≤ at → peek (drop at s) at ≡ bad NotJson at
unfolding peek
peek_end s at l = rw (drop_of_length-le s l)

pub eat_in : {A : Type 0} (m : Parser A) (s : Bytes) (at : ℕ) → at < length s → eat m (drop at s) at ≡ m (drop (suc at) s) (suc at)
unfolding eat
eat_in m s at l = rw (drop-cons s at 0 l)

-- The same, at the offset as code has it.
pub eat_next : {A : Type 0} (m : Parser A) (s : Bytes) (at : ℕ) → at < length s → eat m (drop at s) at ≡ m (drop (at + 1) s) (at + 1)
eat_next m s at l = rw add-one (eat_in m s at l)

-- ---- white space
-- White space that is skipped is white space that is read.
pub white_skip : {A : Type 0} (m : Parser A) (s t : Bytes) (at : ℕ) → drop at s ≡ t → white m t at ≡ m (drop (end_white t at) s) (end_white t at)
unfolding white end_white if
white_skip m s [] at e = ap (λ z. m z at) (sym e)
white_skip m s (b ∷ t) at e = go (is_white b) (white_skip m s t (suc at) (drop_next s t at b e))
  where
    go : (c : Bool) → white m t (suc at) ≡ m (drop (end_white t (suc at)) s) (end_white t (suc at))
        → if c (λ u q. white m t (suc at)) m (b ∷ t) at
        ≡ m (drop (elim c [ true ↦ end_white t (suc at) | false ↦ at ]) s) (elim c [ true ↦ end_white t (suc at) | false ↦ at ])
    go true h = h
    go false h = ap (λ z. m z at) (sym e)

pub white_by : {A : Type 0} (m : Parser A) {s : Bytes} {at r : ℕ} → Skipped s at r → white m (drop at s) at ≡ m (drop r s) r
white_by m {s} {at} k = white_skip m s (drop at s) at refl ∙ ap (λ q. m (drop q s) q) (sym k.is)

-- ---- decisions by the byte at an offset
-- What a byte decides, and what its lack does.
at_byte : {A B : Type 0} (g : ℕ → B) (z : B) (f : B → Parser A) (s : Bytes) (at : ℕ) → (length s ≤ at → f z (drop at s) at ≡ bad NotJson at)
    → then (peek (drop at s) at) (λ b. f (g b)) ≡ f (elim (ltb at (length s)) [ true ↦ g (get_or s at 0) | false ↦ z ]) (drop at s) at
unfolding then
at_byte g z f s at h = go (ltb at (length s)) refl
  where
    go : (c : Bool) → ltb at (length s) ≡ c → then (peek (drop at s) at) (λ b. f (g b)) ≡ f (elim c [ true ↦ g (get_or s at 0) | false ↦ z ]) (drop at s) at
    go true e = ap (λ x. then x (λ b. f (g b))) (peek_in s at (ltb-true at (length s) e))
    go false e = let l : length s ≤ at = ltb-false at (length s) e in ap (λ x. then x (λ b. f (g b))) (peek_end s at l) ∙ sym (h l)

-- After an opening bracket or brace: nothing, or an item or a member.
abbrev pub array_by : ℕ → ℕ → ℕ → Bool → Parser Value
array_by f row depth b = if b (eat (give (array no_items))) (λ u q. then (items f (suc row) (suc depth) u q) (λ vs. give (array vs)))

abbrev pub object_by : ℕ → ℕ → ℕ → Bool → Parser Value
object_by f row depth b = if b (eat (give (object no_members))) (λ u q. then (members f (suc row) (suc depth) [] u q) (λ ms. give (object ms)))

-- A value by what stands where it begins.
abbrev pub value_by : ℕ → ℕ → ℕ → Start → Parser Value
value_by f row depth x =
    on_start x literal (eat (int true)) (int false) (quoted f >>= λ bs. eat (give (scalar (string bs))))
    (eat (white (peek >>= λ c. array_by f row depth (eqb c 0x5D)))) (eat (white (peek >>= λ c. object_by f row depth (eqb c 0x7D))))

pub value_in : (f row depth : ℕ) (s : Bytes) (at : ℕ) → value (suc f) row depth (drop at s) at ≡ value_by f row depth (start_at s row depth at) (drop at s) at
unfolding value start_at on_start fail
value_in f row depth s at = at_byte (start_of row depth) NoValue (value_by f row depth) s at (λ l. refl)

pub value_by_lem : (f : ℕ) {row depth : ℕ} {s : Bytes} {at : ℕ} {r : Start} → Started s row depth at r
    → value (suc f) row depth (drop at s) at ≡ value_by f row depth r (drop at s) at
value_by_lem f {row} {depth} {s} {at} k = value_in f row depth s at ∙ ap (λ x. value_by f row depth x (drop at s) at) (sym k.is)

pub started_room : {s : Bytes} {row depth at : ℕ} {r x : Start} → Started s row depth at r → r ≡ x → StartRoom s row depth at x
started_room {s} {row} {depth} {at} k e = subst (StartRoom s row depth at) e k.room

-- A comma, or the closing byte.
pub separator_in : {A : Type 0} (close : ℕ) (m c : Parser A) (s : Bytes) (at : ℕ)
    → (peek >>= λ b. on_separator (separator_of close b) m c) (drop at s) at ≡ on_separator (separator_at s close at) m c (drop at s) at
unfolding ◌>>=◌ separator_at on_separator fail
separator_in close m c s at = at_byte (separator_of close) Neither (λ x. on_separator x m c) s at (λ l. refl)

pub separator_by : {A : Type 0} (m c : Parser A) {s : Bytes} {close at : ℕ} {r : Separator} → Separated s close at r
    → (peek >>= λ b. on_separator (separator_of close b) m c) (drop at s) at ≡ on_separator r m c (drop at s) at
separator_by m c {s} {close} {at} k = separator_in close m c s at ∙ ap (λ x. on_separator x m c (drop at s) at) (sym k.is)

pub separated_room : {s : Bytes} {close at : ℕ} {r x : Separator} → Separated s close at r → r ≡ x → SeparatorRoom s at x
separated_room {s} {close} {at} k e = subst (SeparatorRoom s at) e k.room

-- One byte or another parser, which fails as `peek` does where no byte is left.
pub stands_in : {A : Type 0} (x : ℕ) (m n : Parser A) (s : Bytes) (at : ℕ) → (length s ≤ at → n (drop at s) at ≡ bad NotJson at)
    → (peek >>= λ b. if (eqb b x) m n) (drop at s) at ≡ if (stands_at s at x) m n (drop at s) at
unfolding ◌>>=◌ stands_at if
stands_in x m n s at h = at_byte (λ b. eqb b x) false (λ c. if c m n) s at h

pub stands_by : {A : Type 0} (m n : Parser A) {s : Bytes} {at x : ℕ} {r : Bool} → Stands s at x r → (length s ≤ at → n (drop at s) at ≡ bad NotJson at)
    → (peek >>= λ b. if (eqb b x) m n) (drop at s) at ≡ if r m n (drop at s) at
stands_by m n {s} {at} {x} k h = stands_in x m n s at h ∙ ap (λ c. if c m n (drop at s) at) (sym k.is)

-- One byte, which is to stand there.
pub byte_by : {A : Type 0} (m : Parser A) {s : Bytes} {at x : ℕ} {r : Bool} → Stands s at x r
    → (peek >>= λ b. if (eqb b x) m (fail NotJson)) (drop at s) at ≡ if r m (fail NotJson) (drop at s) at
unfolding fail
byte_by m k = stands_by m (fail NotJson) k (λ l. refl)

-- ---- where no byte is left
pub value_end : (f row depth : ℕ) (s : Bytes) (at : ℕ) → length s ≤ at → value f row depth (drop at s) at ≡ bad NotJson at
unfolding value then
value_end zero row depth s at l = refl
value_end (suc f) row depth s at l = ap (λ x. then x (λ b. value_by f row depth (start_of row depth b))) (peek_end s at l)

pub items_end : (f row depth : ℕ) (s : Bytes) (at : ℕ) → length s ≤ at → items f row depth (drop at s) at ≡ bad NotJson at
unfolding items then
items_end zero row depth s at l = refl
items_end (suc f) row depth s at l = rw (value_end f row depth s at l)

pub name_end : (f : ℕ) (seen : List Bytes) (s : Bytes) (at : ℕ) → length s ≤ at → name f seen (drop at s) at ≡ bad NotJson at
unfolding name ◌>>=◌ then
name_end f seen s at l = rw (peek_end s at l)

pub members_end : (f row depth : ℕ) (seen : List Bytes) (s : Bytes) (at : ℕ) → length s ≤ at → members f row depth seen (drop at s) at ≡ bad NotJson at
unfolding members then
members_end zero row depth seen s at l = refl
members_end (suc f) row depth seen s at l = rw (name_end f seen s at l)

module _ (f row depth : ℕ) {s : Bytes} {at : ℕ} {r : Bool} where
  pub array_by_lem : Stands s at 0x5D r → (peek >>= λ c. array_by f row depth (eqb c 0x5D)) (drop at s) at ≡ array_by f row depth r (drop at s) at
  unfolding then
  array_by_lem k =
      stands_by (eat (give (array no_items))) (λ u q. then (items f (suc row) (suc depth) u q) (λ vs. give (array vs))) k
      (λ l. rw (items_end f (suc row) (suc depth) s at l))

  pub object_by_lem : Stands s at 0x7D r → (peek >>= λ c. object_by f row depth (eqb c 0x7D)) (drop at s) at ≡ object_by f row depth r (drop at s) at
  unfolding then
  object_by_lem k =
      stands_by (eat (give (object no_members))) (λ u q. then (members f (suc row) (suc depth) [] u q) (λ ms. give (object ms))) k
      (λ l. rw (members_end f (suc row) (suc depth) [] s at l))

-- The end of a text.
pub ended_end : (v : Value) (s : Bytes) (at : ℕ) → length s ≤ at → ended v (drop at s) at ≡ ok v [] at
unfolding ended
ended_end v s at l = rw (drop_of_length-le s l)

pub ended_in : (v : Value) (s : Bytes) (at : ℕ) → at < length s → ended v (drop at s) at ≡ bad NotJson at
unfolding ended
ended_in v s at l = rw (drop-cons s at 0 l)

-- ---- a decimal digit
both : (x y : Bool) → x && y ≡ true → (x ≡ true) × (y ≡ true)
both true y e = (refl, e)
both false y e = absurd (false≢true e)

module _ (b : ℕ) (e : is_digit b ≡ true) where
  pub digit_low : 48 ≤ b
  unfolding is_digit within
  digit_low = leb-true 48 b (both (leb 48 b) (leb b 57) e).0

  pub digit_high : b ≤ 57
  unfolding is_digit within
  digit_high = leb-true b 57 (both (leb 48 b) (leb b 57) e).1

-- What the answer of `decimal_of` says of the byte.
abbrev pub DecimalAs : ℕ → Option ℕ → Type 0
DecimalAs b (Some d) = (is_digit b ≡ true) × (d ≡ digit_value b) × (d ≤ 9)
DecimalAs b None = is_digit b ≡ false

pub decimal_as : (b : ℕ) {r x : Option ℕ} → r ≡ decimal_of b → r ≡ x → DecimalAs b x
unfolding decimal_of
decimal_as b e q = subst (DecimalAs b) (sym e ∙ q) (go (is_digit b) refl)
  where
    go : (c : Bool) → is_digit b ≡ c → DecimalAs b (elim c [ true ↦ Some (digit_value b) | false ↦ None ])
    go true h = (h, refl, omega (arith, digit_high b h))
    go false h = h

-- ---- what a call says by its answer
-- A parser that refuses, with the fault f.
pub record Gone {A : Type 0} (m : Parsed A) (f : Fault) : Type 0 where
  pub is : m ≡ bad f.reason f.at

-- A parser that reads a literal up to e.
pub record Spelled (s : Bytes) (at : ℕ) (w : Word) (m : Parsed Value) (e : ℕ) : Type 0 where
  pub is : m ≡ ok (word_value w) (drop e s) e
  pub on : at < e
  pub inside : e ≤ length s

-- A parser that reads an integer, up to the end of the numeral n.
pub record Counted (s : Bytes) (at : ℕ) (m : Parsed Value) (n : Numeral) : Type 0 where
  pub z : ℤ
  pub is : m ≡ ok (scalar (integer z)) (drop n.at s) n.at
  pub content : n.biased ≡ biased z
  pub on : at < n.at
  pub inside : n.at ≤ length s

module _ (s : Bytes) (at : ℕ) where
  pub literal_whole : (w : Word) (m : Parsed Value) {r : Result ℕ Fault} (e : ℕ) → LiteralMeets s at w m r → r ≡ Ok e → Spelled s at w m e
  literal_whole w (ok v u q) e k h =
      let i : q ≡ e = cc k.answer in
      record { is = (λ j. ok (k.is j) (k.left j) q) ∙ (λ j. ok (word_value w) (drop (i j) s) (i j)); on = omega (arith, k.on); inside = omega (arith, k.inside) }
  literal_whole w (bad x p) e k h = clash cc

  pub literal_wrong : (w : Word) (m : Parsed Value) {r : Result ℕ Fault} (f : Fault) → LiteralMeets s at w m r → r ≡ Err f → Gone m f
  literal_wrong w (ok v u q) f k h = clash (cc k.answer)
  literal_wrong w (bad x p) f k h = let e : fault_of x p ≡ f = cc in record { is = ap (λ (g : Fault). bad g.reason g.at) e }

  pub number_whole : (m : Parsed Value) {r : Result Numeral Fault} (n : Numeral) → NumberMeets s at m r → r ≡ Ok n → Counted s at m n
  number_whole (ok v u q) n k h =
      let e : numeral q k.z ≡ n = cc k.answer in
      let i : q ≡ n.at = ap (λ (x : Numeral). x.at) e in
      record {
        z = k.z;
        is = (λ j. ok (k.is j) (k.left j) q) ∙ (λ j. ok (scalar (integer k.z)) (drop (i j) s) (i j));
        content = ap (λ (x : Numeral). x.biased) (sym e);
        on = omega (arith, k.on);
        inside = omega (arith, k.inside);
      }
  number_whole (bad x p) n k h = clash cc

  pub number_wrong : (m : Parsed Value) {r : Result Numeral Fault} (f : Fault) → NumberMeets s at m r → r ≡ Err f → Gone m f
  number_wrong (ok v u q) f k h = clash (cc k.answer)
  number_wrong (bad x p) f k h = let e : fault_of x p ≡ f = cc in record { is = ap (λ (g : Fault). bad g.reason g.at) e }
