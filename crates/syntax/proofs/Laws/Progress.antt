-- Progress: a parser that stands at a place of the text goes on from there, and its fault stands from there on.
use Rattle.std.specs.Prelude.{◌≡◌, refl, Bool, true, false, ◌⊎◌, leb, eqb, length}
use Rattle.std.proofs.Math.Path.{subst}
use mathlib.Core.List.{List, [], ◌∷◌, ◌++◌}
use Rattle.std.proofs.Math.Logic.{inl, inr}
use Prim.Native.Nat.{ℕ, zero, suc, ◌+◌, ◌*◌, ◌≤◌, ◌<◌}
use Rattle.std.proofs.Common.{arith}
use Rattle.model.specs.Bytes.{Bytes}
use Rattle.model.specs.Limits.{max_integer}
use Rattle.model.specs.declared.refusal.ReadFault.{ReadFault}
use Rattle.model.specs.declared.refusal.ReadFault.TheVariants.{NotJson, LoneSurrogate, BadNumber, RepeatedName}
use Rattle.model.specs.Size.{value_count}
use Rattle.model.specs.Value.{Value, scalar, array, object, string, no_items, item, no_members, member}
use Rattle.syntax.specs.declared.Word.{Word}
use Rattle.syntax.specs.declared.Word.TheVariants.{TrueWord, FalseWord, NullWord}
use Rattle.syntax.specs.Read.{Parsed, ok, bad, Parser, then, ◌>>=◌, give, fail, if, peek, eat, white, expect, literal, is_part, end_number, digits, after_zero, first_digit, int, tails, hexes, Piece, closing, bytes, unit, escape, char, Pending, clear, high, lone, grow, chars, quoted, among, name, on_separator, value, items, members, ended, text}
use Rattle.syntax.specs.Tokens.{within, is_white, is_digit, digit_value, start_of, separator_of, escape_of, hex_of}
use Rattle.syntax.specs.Utf8.{utf8, lead_of, unit_of, pair_of}
use Rattle.syntax.proofs.Laws.Agreement.{At, onward, at_length}
use Rattle.syntax.proofs.Laws.Parsing.{then_law, lone_law, if_law, peek_law, hex_law, escape_law, lead_law, piece_law, unit_law, separator_law, start_law}

-- ---- s is the whole text
module _ (s : Bytes) where
  -- A parser that began at `at`: it ends in s, at `lo` at least; or its fault stands from `at` on.
  abbrev pub Within : {A : Type 0} → ℕ → ℕ → Parsed A → Type 0
  Within lo at (ok a u q) = At s u q × (lo ≤ q)
  Within lo at (bad k p) = (at ≤ p) × (p ≤ length s)

  -- It goes on from where it began, and on by a byte at least.
  abbrev pub Stays : {A : Type 0} → Parser A → Type 0
  Stays m = (t : Bytes) (at : ℕ) → At s t at → Within at at (m t at)

  abbrev pub Moves : {A : Type 0} → Parser A → Type 0
  Moves m = (t : Bytes) (at : ℕ) → At s t at → Within (suc at) at (m t at)

  here : {t : Bytes} {at : ℕ} → At s t at → (at ≤ at) × (at ≤ length s)
  here h = (omega arith, omega (arith, at_length h))

  pub loose : {A : Type 0} (lo at lo' at' : ℕ) (x : Parsed A) → lo ≤ lo' → at ≤ at' → Within lo' at' x → Within lo at x
  loose lo at lo' at' (ok a u q) l m h = (h.0, omega (arith, h.1))
  loose lo at lo' at' (bad k p) l m h = (omega (arith, h.0), h.1)

  -- One that went on from the next byte.
  after_byte : {A : Type 0} (at : ℕ) (x : Parsed A) → Within (suc at) (suc at) x → Within (suc at) at x
  after_byte at x h = loose (suc at) at (suc at) (suc at) x (omega arith) (omega arith) h

  since_byte : {A : Type 0} (at : ℕ) (x : Parsed A) → Within (suc at) (suc at) x → Within at at x
  since_byte at x h = loose at at (suc at) (suc at) x (omega arith) (omega arith) h

  pub moves_stays : {A : Type 0} (m : Parser A) → Moves m → Stays m
  moves_stays m f t at h = loose at at (suc at) at (m t at) (omega arith) (omega arith) (f t at h)

  -- ---- parsers made of parsers
  -- After one that ends at `lo` at least, one that stays.
  within_then : {A B : Type 0} (lo at : ℕ) (x : Parsed A) (g : A → Parser B) → at ≤ lo → Within lo at x → ((a : A) → Stays (g a)) → Within lo at (then x g)
  within_then lo at x g l h f = then_law (Within lo at) (Within lo at) x g h (λ a t q i. loose lo at q q (g a t q) i.1 (omega (arith, i.1)) (f a t q i.0)) (λ k p i. i)

  pub stays_then : {A B : Type 0} (m : Parser A) (g : A → Parser B) → Stays m → ((a : A) → Stays (g a)) → Stays (m >>= g)
  unfolding ◌>>=◌
  stays_then m g f k t at h = within_then at at (m t at) g (omega arith) (f t at h) k

  moves_then : {A B : Type 0} (m : Parser A) (g : A → Parser B) → Moves m → ((a : A) → Stays (g a)) → Moves (m >>= g)
  unfolding ◌>>=◌
  moves_then m g f k t at h = within_then (suc at) at (m t at) g (omega arith) (f t at h) k

  pub stays_give : {A : Type 0} (a : A) → Stays (give a)
  unfolding give
  stays_give a t at h = (h, omega arith)

  moves_fail : (A : Type 0) (k : ReadFault) → Moves {A = A} (fail k)
  unfolding fail
  moves_fail A k t at h = here h

  pub stays_fail : (A : Type 0) (k : ReadFault) → Stays {A = A} (fail k)
  stays_fail A k = moves_stays (fail k) (moves_fail A k)

  moves_if : {A : Type 0} (b : Bool) (m n : Parser A) → Moves m → Moves n → Moves (if b m n)
  moves_if b m n f g t at h = if_law (Within (suc at) at) t at b m n (λ e. f t at h) (λ e. g t at h)

  pub stays_if : {A : Type 0} (b : Bool) (m n : Parser A) → Stays m → Stays n → Stays (if b m n)
  stays_if b m n f g t at h = if_law (Within at at) t at b m n (λ e. f t at h) (λ e. g t at h)

  pub stays_peek : Stays peek
  unfolding peek
  stays_peek [] at h = here h
  stays_peek (b ∷ t) at h = (h, omega arith)

  -- After a look at the next byte.
  moves_peek : {B : Type 0} (g : ℕ → Parser B) → ((b : ℕ) → Moves (g b)) → Moves (peek >>= g)
  unfolding ◌>>=◌
  moves_peek g f t at h = peek_law (Within (suc at) at) t at g (λ e. here h) (λ b u e. f b (b ∷ u) at (subst (λ x. At s x at) e h))

  moves_eat : {A : Type 0} (m : Parser A) → Stays m → Moves (eat m)
  unfolding eat
  moves_eat m f [] at h = here h
  moves_eat m f (b ∷ t) at h = after_byte at (m t (suc at)) (f t (suc at) (onward b h))

  pub stays_eat : {A : Type 0} (m : Parser A) → Stays m → Stays (eat m)
  stays_eat m f = moves_stays (eat m) (moves_eat m f)

  pub stays_white : {A : Type 0} (m : Parser A) → Stays m → Stays (white m)
  unfolding white
  stays_white m f [] at h = f [] at h
  stays_white m f (b ∷ t) at h =
      if_law (Within at at) (b ∷ t) at (is_white b) _ _ (λ e. since_byte at (white m t (suc at)) (stays_white m f t (suc at) (onward b h))) (λ e. f (b ∷ t) at h)

  pub stays_map : {A B : Type 0} (m : Parser A) (f : A → B) → Stays m → Stays (λ t q. then (m t q) (λ a. give (f a)))
  stays_map m f g t at h = within_then at at (m t at) _ (omega arith) (g t at h) (λ a. stays_give (f a))

  -- ---- scalars
  pub stays_expect : {A : Type 0} (xs : Bytes) (a : A) → Stays (expect xs a)
  unfolding expect fail
  stays_expect [] a t at h = (h, omega arith)
  stays_expect (x ∷ xs) a [] at h = here h
  stays_expect (x ∷ xs) a (b ∷ t) at h =
      if_law (Within at at) (b ∷ t) at (eqb b x) _ _ (λ e. since_byte at (expect xs a t (suc at)) (stays_expect xs a t (suc at) (onward b h))) (λ e. here h)

  moves_expect : {A : Type 0} (x : ℕ) (xs : Bytes) (a : A) → Moves (expect (x ∷ xs) a)
  unfolding expect fail
  moves_expect x xs a [] at h = here h
  moves_expect x xs a (b ∷ t) at h =
      if_law (Within (suc at) at) (b ∷ t) at (eqb b x) _ _ (λ e. after_byte at (expect xs a t (suc at)) (stays_expect xs a t (suc at) (onward b h))) (λ e. here h)

  pub moves_literal : (k : Word) → Moves (literal k)
  unfolding literal
  moves_literal TrueWord = moves_expect _ _ _
  moves_literal FalseWord = moves_expect _ _ _
  moves_literal NullWord = moves_expect _ _ _

  pub stays_end : (negative : Bool) (n b : ℕ) → Stays (end_number negative n b)
  unfolding end_number
  stays_end negative n b = stays_if (is_part b) _ _ (stays_fail Value BadNumber) (stays_give _)

  pub stays_digits : (negative : Bool) (n : ℕ) → Stays (digits negative n)
  unfolding digits fail
  stays_digits negative n [] at h = (h, omega arith)
  stays_digits negative n (b ∷ t) at h =
      if_law (Within at at) (b ∷ t) at (is_digit b) _ _
      (λ e. if_law (Within at at) (b ∷ t) at (leb (n * 10 + digit_value b) max_integer) _ _
      (λ i. since_byte at (digits negative (n * 10 + digit_value b) t (suc at)) (stays_digits negative (n * 10 + digit_value b) t (suc at) (onward b h)))
      (λ i. here h))
      (λ e. stays_end negative n b (b ∷ t) at h)

  pub stays_first : (negative : Bool) (d : ℕ) → Stays (first_digit negative d)
  unfolding first_digit after_zero
  stays_first negative zero [] at h = (h, omega arith)
  stays_first negative zero (b ∷ t) at h = stays_end negative 0 b (b ∷ t) at h
  stays_first negative (suc d) t at h = stays_digits negative (suc d) t at h

  pub moves_int : (negative : Bool) → Moves (int negative)
  unfolding int
  moves_int negative = moves_peek _ (λ b. moves_if (is_digit b) _ _ (moves_eat _ (stays_first negative (digit_value b))) (moves_fail Value NotJson))

  -- ---- strings
  pub stays_tails : (n lo hi : ℕ) → Stays (tails n lo hi)
  unfolding tails fail
  stays_tails zero lo hi t at h = (h, omega arith)
  stays_tails (suc n) lo hi [] at h = here h
  stays_tails (suc n) lo hi (b ∷ t) at h =
      if_law (Within at at) (b ∷ t) at (within lo hi b) _ _ (λ e. within_then at at (tails n 0x80 0xBF t (suc at)) _ (omega arith) (since_byte at (tails n 0x80 0xBF t (suc at)) (stays_tails n 0x80 0xBF t (suc at) (onward b h))) (λ bs. stays_give (b ∷ bs))) (λ e. here h)

  pub stays_hexes : (n u : ℕ) → Stays (hexes n u)
  unfolding hexes fail
  stays_hexes zero u t at h = (h, omega arith)
  stays_hexes (suc n) u [] at h = here h
  stays_hexes (suc n) u (b ∷ t) at h = hex_law (Within at at) (b ∷ t) at (hex_of b) _ _ (λ d e. since_byte at (hexes n (u * 16 + d) t (suc at)) (stays_hexes n (u * 16 + d) t (suc at) (onward b h))) (here h)

  pub stays_escape : Stays escape
  unfolding escape fail
  stays_escape [] at h = here h
  stays_escape (b ∷ t) at h =
      escape_law (Within at at) (b ∷ t) at (escape_of b) _ _ _ (λ d e. (onward b h, omega arith))
      (λ e. within_then at at (hexes 4 0 t (suc at)) _ (omega arith) (since_byte at (hexes 4 0 t (suc at)) (stays_hexes 4 0 t (suc at) (onward b h))) (λ u. stays_give (unit u)))
      (here h)

  -- A character but for the closing quote moves on.
  abbrev pub CharWithin : ℕ → Parsed Piece → Type 0
  CharWithin at (ok closing u q) = At s u q × (at ≤ q)
  CharWithin at (ok (bytes bs) u q) = At s u q × (at < q)
  CharWithin at (ok (unit c) u q) = At s u q × (at < q)
  CharWithin at (bad k p) = (at ≤ p) × (p ≤ length s)

  moved : (at : ℕ) (x : Parsed Piece) → Within (suc at) at x → CharWithin at x
  moved at (ok closing u q) h = (h.0, omega (arith, h.1))
  moved at (ok (bytes bs) u q) h = h
  moved at (ok (unit c) u q) h = h
  moved at (bad k p) h = h

  pub char_within : (t : Bytes) (at : ℕ) → At s t at → CharWithin at (char t at)
  unfolding char fail give
  char_within [] at h = here h
  char_within (b ∷ t) at h =
      lead_law (CharWithin at) (b ∷ t) at (lead_of b) _ _ _ _
      (λ e. (h, omega arith))
      (λ e. moved at (escape t (suc at)) (after_byte at (escape t (suc at)) (stays_escape t (suc at) (onward b h))))
      (here h)
      (λ n lo hi e. moved at (then (tails n lo hi t (suc at)) (λ bs. give (bytes (b ∷ bs)))) (within_then (suc at) at (tails n lo hi t (suc at)) (λ bs. give (bytes (b ∷ bs))) (omega arith) (after_byte at (tails n lo hi t (suc at)) (stays_tails n lo hi t (suc at) (onward b h))) (λ bs. stays_give (bytes (b ∷ bs)))))

  pub within_grow : (lo at : ℕ) (bs : Bytes) (r : Parsed Bytes) → at ≤ lo → Within lo at r → Within lo at (grow bs r)
  unfolding grow
  within_grow lo at bs r l h = within_then lo at r _ l h (λ cs. stays_give (bs ++ cs))

  -- After a high surrogate whose backslash stands at p₀: it is alone, or the parser goes on from here.
  abbrev pub HighWithin : ℕ → ℕ → Parsed Bytes → Type 0
  HighWithin p₀ at (ok bs u q) = At s u q × (at ≤ q)
  HighWithin p₀ at (bad k p) = ((k ≡ LoneSurrogate) × (p ≡ p₀)) ⊎ ((at ≤ p) × (p ≤ length s))

  abbrev pub CharsWithin : Pending → ℕ → Parsed Bytes → Type 0
  CharsWithin clear at r = Within at at r
  CharsWithin (high u p₀) at r = HighWithin p₀ at r

  from_high : (at p₀ : ℕ) (r : Parsed Bytes) → p₀ ≤ at → p₀ ≤ length s → HighWithin p₀ at r → Within p₀ p₀ r
  from_high at p₀ (ok bs u q) l m h = (h.0, omega (arith, h.1))
  from_high at p₀ (bad k p) l m (inl h) = (omega (arith, h.1), omega (arith, h.1))
  from_high at p₀ (bad k p) l m (inr h) = (omega (arith, h.0), h.1)

  to_high : (at p₀ : ℕ) (r : Parsed Bytes) → Within at at r → HighWithin p₀ at r
  to_high at p₀ (ok bs u q) h = h
  to_high at p₀ (bad k p) h = inr h

  pub chars_within : (f : ℕ) (w : Pending) (t : Bytes) (at : ℕ) → At s t at → CharsWithin w at (chars f w t at)
  unfolding chars give lone
  chars_within zero clear t at h = here h
  chars_within zero (high u p₀) t at h = inr (here h)
  chars_within (suc f) clear t at h =
      then_law (Within at at) (CharWithin at) (char t at) _ (char_within t at h)
      (λ x u q g. piece_law (Within at at) u q x _ _ _
      (λ i. subst (λ z. CharWithin at (ok z u q)) i g)
      (λ bs i. let y : At s u q × (at < q) = subst (λ z. CharWithin at (ok z u q)) i g in on bs y.0 y.1 (chars f clear u q) (chars_within f clear u q y.0))
      (λ c i. let y : At s u q × (at < q) = subst (λ z. CharWithin at (ok z u q)) i g in
      unit_law (Within at at) u q (unit_of c) _ _ _
      (λ j. on (utf8 c) y.0 y.1 (chars f clear u q) (chars_within f clear u q y.0))
      (λ j. from_high q at (chars f (high c at) u q) (omega (arith, y.1)) (omega (arith, at_length h)) (chars_within f (high c at) u q y.0))
      (λ j. here h)))
      (λ k p g. g)
    where
      on : (bs : Bytes) {u : Bytes} {q : ℕ} → At s u q → at < q → (r : Parsed Bytes) → Within q q r → Within at at (grow bs r)
      on bs {u} {q} g l r i = within_grow at at bs r (omega arith) (loose at at q q r (omega arith) (omega arith) i)
  chars_within (suc f) (high v p₀) t at h =
      lone_law (HighWithin p₀ at) (CharWithin at) (char t at) _ _ (char_within t at h)
      (λ x u q g. piece_law (HighWithin p₀ at) u q x _ _ _
      (λ i. inl (refl, refl))
      (λ bs i. inl (refl, refl))
      (λ c i. let y : At s u q × (at < q) = subst (λ z. CharWithin at (ok z u q)) i g in
      unit_law (HighWithin p₀ at) u q (unit_of c) _ _ _
      (λ j. inl (refl, refl))
      (λ j. inl (refl, refl))
      (λ j. to_high at p₀ (grow (utf8 (pair_of v c)) (chars f clear u q)) (within_grow at at (utf8 (pair_of v c)) (chars f clear u q) (omega arith) (loose at at q q (chars f clear u q) (omega (arith, y.1)) (omega (arith, y.1)) (chars_within f clear u q y.0))))))
      (λ k q g. inl (refl, refl))

  pub moves_quoted : (f : ℕ) → Moves (quoted f)
  unfolding quoted
  moves_quoted f = moves_eat (chars f clear) (chars_within f clear)

  pub moves_name : (f : ℕ) (seen : List Bytes) → Moves (name f seen)
  unfolding name
  moves_name f seen =
      moves_peek _ (λ b. moves_if (eqb b 0x22) _ _
      (moves_then (quoted f) _ (moves_quoted f) (λ n. stays_if (among n seen) _ _ (stays_fail Bytes RepeatedName)
      (stays_eat _ (stays_white _ (stays_then peek _ stays_peek (λ c. stays_if (eqb c 0x3A) _ _ (stays_eat _ (stays_give n)) (stays_fail Bytes NotJson)))))))
      (moves_fail Bytes NotJson))

  -- ---- values
  pub moves_inside : {A : Type 0} (close : ℕ) (nil : Value) (wrap : A → Value) (m : Parser A) → Stays m → Moves (eat (white (peek >>= λ c. if (eqb c close) (eat (give nil)) (λ u q. then (m u q) (λ a. give (wrap a))))))
  moves_inside close nil wrap m f = moves_eat _ (stays_white _ (stays_then peek _ stays_peek (λ c. stays_if (eqb c close) _ _ (stays_eat _ (stays_give nil)) (stays_map m wrap f))))

  pub stays_after :
      {A : Type 0} (close : ℕ) (one : A) (cons : A → A) (m : Parser A) → Stays m
      → Stays (white (peek >>= λ b. on_separator (separator_of close b) (eat (white (λ u q. then (m u q) (λ a. give (cons a))))) (eat (give one))))
  stays_after close one cons m f =
      stays_white _ (stays_then peek _ stays_peek (λ b t at h. separator_law (Within at at) t at (separator_of close b) _ _
      (λ e. stays_eat _ (stays_white _ (stays_map m cons f)) t at h) (λ e. stays_eat _ (stays_give one) t at h) (here h)))

  mutual
    unfolding value ◌>>=◌

    pub moves_value : (f row depth : ℕ) → Moves (λ t at. value f row depth t at)
    moves_value zero row depth t at h = here h
    moves_value (suc f) row depth t at h =
        peek_law (Within (suc at) at) t at _ (λ e. here h)
        (λ b u e. let g : At s (b ∷ u) at = subst (λ x. At s x at) e h in
        start_law (Within (suc at) at) (b ∷ u) at (start_of row depth b) _ _ _ _ _ _ (here h) (λ i. here h)
        (λ k i. moves_literal k (b ∷ u) at g)
        (λ i. moves_eat (int true) (moves_stays (int true) (moves_int true)) (b ∷ u) at g)
        (λ i. moves_int false (b ∷ u) at g)
        (λ i. moves_then (quoted f) _ (moves_quoted f) (λ bs. stays_eat _ (stays_give (scalar (string bs)))) (b ∷ u) at g)
        (λ i. moves_inside 0x5D (array no_items) array (λ x q. items f (suc row) (suc depth) x q) (moves_stays (λ x q. items f (suc row) (suc depth) x q) (λ x q g. moves_items f (suc row) (suc depth) x q g)) (b ∷ u) at g)
        (λ i. moves_inside 0x7D (object no_members) object (λ x q. members f (suc row) (suc depth) [] x q) (moves_stays (λ x q. members f (suc row) (suc depth) [] x q) (λ x q g. moves_members f (suc row) (suc depth) [] x q g)) (b ∷ u) at g))

    pub moves_items : (f row depth : ℕ) → Moves (λ t at. items f row depth t at)
    moves_items zero row depth t at h = here h
    moves_items (suc f) row depth t at h =
        within_then (suc at) at (value f row depth t at) _ (omega arith) (moves_value f row depth t at h)
        (λ v. stays_after 0x5D (item v no_items) (item v) (λ x q. items f (row + value_count v) depth x q) (moves_stays (λ x q. items f (row + value_count v) depth x q) (λ x q g. moves_items f (row + value_count v) depth x q g)))

    pub moves_members : (f row depth : ℕ) (seen : List Bytes) → Moves (λ t at. members f row depth seen t at)
    moves_members zero row depth seen t at h = here h
    moves_members (suc f) row depth seen t at h =
        within_then (suc at) at (name f seen t at) _ (omega arith) (moves_name f seen t at h)
        (λ n. stays_white _ (stays_then (λ x q. value f row depth x q) _ (moves_stays (λ x q. value f row depth x q) (λ x q g. moves_value f row depth x q g))
        (λ v. stays_after 0x7D (member n v no_members) (member n v) (λ x q. members f (row + value_count v) depth (seen ++ (n ∷ [])) x q) (moves_stays (λ x q. members f (row + value_count v) depth (seen ++ (n ∷ [])) x q) (λ x q g. moves_members f (row + value_count v) depth (seen ++ (n ∷ [])) x q g)))))

  pub stays_ended : (v : Value) → Stays (ended v)
  unfolding ended
  stays_ended v [] at h = (h, omega arith)
  stays_ended v (b ∷ t) at h = here h

  pub stays_text : (f : ℕ) → Stays (text f)
  unfolding text
  stays_text f = stays_white _ (stays_then (value f 0 0) _ (moves_stays (value f 0 0) (moves_value f 0 0)) (λ v. stays_white (ended v) (stays_ended v)))
