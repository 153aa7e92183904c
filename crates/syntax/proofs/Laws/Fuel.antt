-- Fuel: the number that bounds a parser's steps does not matter once it is large enough for the bytes that are left.
use Rattle.std.specs.Prelude.{◌≡◌, Bool, true, false, List, [], ◌∷◌, ◌++◌, ℕ, zero, suc, ◌+◌, ◌*◌, ◌≤◌, ◌<◌, eqb, length, replicate}
use Rattle.std.proofs.Math.Path.{refl}
use Rattle.std.proofs.Common.{sym, subst, ap, ◌∙◌, arith, length-append, drop_at}
use Rattle.std.proofs.lemmas.List.{length-replicate}
use Rattle.model.specs.Bytes.{Bytes}
use Rattle.model.specs.declared.refusal.ReadFault.TheVariants.{NotJson}
use Rattle.model.specs.Size.{value_count}
use Rattle.model.specs.Value.{Value, array, object, no_items, item, no_members, member}
use Rattle.model.proofs.Laws.Logic.{clash}
use Rattle.syntax.specs.declared.Unit.{Unit}
use Rattle.syntax.specs.declared.Unit.TheVariants.{Plain, High, Low}
use Rattle.syntax.specs.Read.{Parsed, ok, bad, Parser, then, ◌>>=◌, give, if, peek, eat, white, literal, int, Piece, closing, bytes, unit, char, Pending, clear, high, on_piece, on_unit, or_lone, lone, grow, chars, quoted, name, on_separator, value, items, members, text}
use Rattle.syntax.specs.Tokens.{is_white, start_of, separator_of}
use Rattle.syntax.specs.Utf8.{utf8, unit_of, pair_of}
use Rattle.syntax.proofs.Laws.Agreement.{At, at_length, at_place}
use Rattle.syntax.proofs.Laws.Parsing.{both_if, both_separator, both_start}
use Rattle.syntax.proofs.Laws.Progress.{Within, Stays, CharWithin, moves_stays, char_within, moves_quoted, moves_name, moves_value}

-- ---- what a parser leaves is no longer than what it was given
-- Some text has t at this place.
placed : (t : Bytes) (at : ℕ) → (s : Bytes) × At s t at
placed t at =
    let m : Bytes = replicate at 0 in
    let long : length m ≡ at = length-replicate {A = ℕ} at 0 in
    (m ++ t, subst (λ x. At (m ++ t) x at) (drop_at m t at long) (at_place (m ++ t) at (omega (arith, length-append m t, long))))

abbrev Shrinks : {A : Type 0} → Parser A → Type 0
Shrinks {A = A} m = (t : Bytes) (at : ℕ) (a : A) (u : Bytes) (q : ℕ) → m t at ≡ ok a u q → length u ≤ length t

shrinks : {A : Type 0} (m : Parser A) → ((s : Bytes) → Stays s m) → Shrinks m
shrinks m f t at a u q e =
    let x = placed t at in
    let g : At x.0 u q × (at ≤ q) = subst (Within x.0 at at) e (f x.0 t at x.1) in
    omega (arith, at_length x.1, at_length g.0, g.1)

shrinks_peek : Shrinks peek
unfolding peek
shrinks_peek [] at a u q e = clash cc
shrinks_peek (b ∷ t) at a u q e = let z : b ∷ t ≡ u = cc in omega (arith, ap length z)

-- A character but for the closing quote is a byte at least.
abbrev Shorter : ℕ → Parsed Piece → Type 0
Shorter n (ok closing u q) = Prim.Unit {0}
Shorter n (ok (bytes bs) u q) = length u < n
Shorter n (ok (unit c) u q) = length u < n
Shorter n (bad k p) = Prim.Unit {0}

char_shorter : (t : Bytes) (at : ℕ) → Shorter (length t) (char t at)
char_shorter t at = let x = placed t at in go x.1 (char t at) (char_within x.0 t at x.1)
  where
    go : {s : Bytes} → At s t at → (r : Parsed Piece) → CharWithin s at r → Shorter (length t) r
    go h (ok closing u q) g = tt
    go h (ok (bytes bs) u q) g = omega (arith, at_length h, at_length g.0, g.1)
    go h (ok (unit c) u q) g = omega (arith, at_length h, at_length g.0, g.1)
    go h (bad k p) g = tt

-- ---- two parsers that do the same on texts of at most L bytes
abbrev pub Equal : {A : Type 0} → ℕ → Parser A → Parser A → Type 0
Equal L m n = (t : Bytes) (at : ℕ) → length t ≤ L → m t at ≡ n t at

equal_refl : {A : Type 0} (L : ℕ) (m : Parser A) → Equal L m m
equal_refl L m t at l = refl

equal_then : {A B : Type 0} (L : ℕ) (m n : Parser A) (g k : A → Parser B) → Shrinks m → Equal L m n → ((a : A) → Equal L (g a) (k a)) → Equal L (m >>= g) (n >>= k)
unfolding ◌>>=◌ then
equal_then {A} {B} L m n g k c h f t at l = go (m t at) (λ a u q e. c t at a u q e) ∙ ap (λ x. then x k) (h t at l)
  where
    go : (x : Parsed A) → ((a : A) (u : Bytes) (q : ℕ) → x ≡ ok a u q → length u ≤ length t) → then x g ≡ then x k
    go (ok a u q) d = f a u q (omega (arith, d a u q refl, l))
    go (bad e p) d = refl

equal_eat : {A : Type 0} (L : ℕ) (m n : Parser A) → Equal L m n → Equal (suc L) (eat m) (eat n)
unfolding eat
equal_eat L m n h [] at l = refl
equal_eat L m n h (b ∷ t) at l = h t (suc at) (omega arith)

equal_white : {A : Type 0} (L : ℕ) (m n : Parser A) → Equal L m n → Equal L (white m) (white n)
unfolding white
equal_white L m n h [] at l = h [] at l
equal_white L m n h (b ∷ t) at l = both_if (λ x y. x ≡ y) (b ∷ t) (b ∷ t) at (is_white b) _ _ _ _ (equal_white L m n h t (suc at) (omega arith)) (h (b ∷ t) at l)

equal_if : {A : Type 0} (L : ℕ) (b : Bool) (m n m' n' : Parser A) → Equal L m m' → Equal L n n' → Equal L (if b m n) (if b m' n')
equal_if L b m n m' n' h k t at l = both_if (λ x y. x ≡ y) t t at b m n m' n' (h t at l) (k t at l)

equal_unit : {A : Type 0} (L : ℕ) (x : Unit) (m h l m' h' l' : Parser A) → Equal L m m' → Equal L h h' → Equal L l l' → Equal L (on_unit x m h l) (on_unit x m' h' l')
unfolding on_unit
equal_unit L Plain m h l m' h' l' i j k = i
equal_unit L High m h l m' h' l' i j k = j
equal_unit L Low m h l m' h' l' i j k = k

equal_map : {A B : Type 0} (L : ℕ) (m n : Parser A) (f : A → B) → Equal L m n → Equal L (λ t q. then (m t q) (λ a. give (f a))) (λ t q. then (n t q) (λ a. give (f a)))
equal_map L m n f h t at l = ap (λ x. then x (λ a. give (f a))) (h t at l)

equal_grow : (L : ℕ) (bs : Bytes) (m n : Parser Bytes) → Equal L m n → Equal L (λ t q. grow bs (m t q)) (λ t q. grow bs (n t q))
equal_grow L bs m n h t at l = ap (grow bs) (h t at l)

-- ---- strings
-- After a character.
module _ (L : ℕ) (t : Bytes) (l : length t ≤ suc L) (m : Parser Bytes) (f f' : Bytes → Parser Bytes) (g g' : ℕ → Parser Bytes) (h : (bs : Bytes) → Equal L (f bs) (f' bs)) (k : (c : ℕ) → Equal L (g c) (g' c)) where
  equal_piece : (x : Piece) (u : Bytes) (q : ℕ) → Shorter (length t) (ok x u q) → on_piece x m f g u q ≡ on_piece x m f' g' u q
  unfolding on_piece
  equal_piece closing u q y = refl
  equal_piece (bytes bs) u q y = h bs u q (omega (arith, y, l))
  equal_piece (unit c) u q y = k c u q (omega (arith, y, l))

  equal_char : (r : Parsed Piece) → Shorter (length t) r → then r (λ x. on_piece x m f g) ≡ then r (λ x. on_piece x m f' g')
  unfolding then
  equal_char (ok x u q) y = equal_piece x u q y
  equal_char (bad e p) y = refl

  equal_lone : (p : ℕ) (r : Parsed Piece) → Shorter (length t) r → or_lone r p (λ x. on_piece x m f g) ≡ or_lone r p (λ x. on_piece x m f' g')
  unfolding or_lone
  equal_lone p (ok x u q) y = equal_piece x u q y
  equal_lone p (bad e i) y = refl

chars_none : (f f' : ℕ) (w : Pending) (at : ℕ) → chars (suc f) w [] at ≡ chars (suc f') w [] at
unfolding chars then or_lone char
chars_none f f' clear at = refl
chars_none f f' (high v p) at = refl

pub fuel_chars : (f f' : ℕ) (w : Pending) (L : ℕ) → suc L ≤ f → suc L ≤ f' → Equal L (chars f w) (chars f' w)
unfolding chars
fuel_chars zero f' w L a b t at l = absurd (omega arith)
fuel_chars (suc f) zero w L a b t at l = absurd (omega arith)
fuel_chars (suc f) (suc f') w zero a b [] at l = chars_none f f' w at
fuel_chars (suc f) (suc f') w zero a b (c ∷ t) at l = absurd (omega arith)
fuel_chars (suc f) (suc f') clear (suc L) a b t at l =
    equal_char L t l (give []) (λ bs t' q. grow bs (chars f clear t' q)) (λ bs t' q. grow bs (chars f' clear t' q))
    (λ c. on_unit (unit_of c) (λ t' q. grow (utf8 c) (chars f clear t' q)) (λ t' q. chars f (high c at) t' q) (lone at))
    (λ c. on_unit (unit_of c) (λ t' q. grow (utf8 c) (chars f' clear t' q)) (λ t' q. chars f' (high c at) t' q) (lone at))
    (λ bs. equal_grow L bs (chars f clear) (chars f' clear) (fuel_chars f f' clear L (omega arith) (omega arith)))
    (λ c. equal_unit L (unit_of c) _ _ _ _ _ _ (equal_grow L (utf8 c) (chars f clear) (chars f' clear) (fuel_chars f f' clear L (omega arith) (omega arith))) (fuel_chars f f' (high c at) L (omega arith) (omega arith)) (equal_refl L (lone at)))
    (char t at) (char_shorter t at)
fuel_chars (suc f) (suc f') (high v p) (suc L) a b t at l =
    equal_lone L t l (lone p) (λ bs. lone p) (λ bs. lone p)
    (λ c. on_unit (unit_of c) (lone p) (lone p) (λ t' q. grow (utf8 (pair_of v c)) (chars f clear t' q)))
    (λ c. on_unit (unit_of c) (lone p) (lone p) (λ t' q. grow (utf8 (pair_of v c)) (chars f' clear t' q)))
    (λ bs. equal_refl L (lone p))
    (λ c. equal_unit L (unit_of c) _ _ _ _ _ _ (equal_refl L (lone p)) (equal_refl L (lone p)) (equal_grow L (utf8 (pair_of v c)) (chars f clear) (chars f' clear) (fuel_chars f f' clear L (omega arith) (omega arith))))
    p (char t at) (char_shorter t at)

fuel_quoted : (f f' K : ℕ) → suc K ≤ f → suc K ≤ f' → Equal (suc K) (quoted f) (quoted f')
unfolding quoted
fuel_quoted f f' K a b = equal_eat K (chars f clear) (chars f' clear) (fuel_chars f f' clear K a b)

shrinks_quoted : (f : ℕ) → Shrinks (quoted f)
shrinks_quoted f = shrinks (quoted f) (λ s. moves_stays s (quoted f) (moves_quoted s f))

pub fuel_name : (f f' : ℕ) (seen : List Bytes) (K : ℕ) → suc K ≤ f → suc K ≤ f' → Equal (suc K) (name f seen) (name f' seen)
unfolding name
fuel_name f f' seen K a b =
    equal_then (suc K) peek peek _ _ shrinks_peek (equal_refl (suc K) peek) (λ c. equal_if (suc K) (eqb c 0x22) _ _ _ _
    (equal_then (suc K) (quoted f) (quoted f') _ _ (shrinks_quoted f) (fuel_quoted f f' K a b) (λ n. equal_refl (suc K) _))
    (equal_refl (suc K) _))

-- ---- values
equal_after :
    {A : Type 0} (L close : ℕ) (one : A) (cons : A → A) (m n : Parser A) → Equal L m n
    → Equal (suc L) (white (peek >>= λ b. on_separator (separator_of close b) (eat (white (λ u q. then (m u q) (λ a. give (cons a))))) (eat (give one)))) (white (peek >>= λ b. on_separator (separator_of close b) (eat (white (λ u q. then (n u q) (λ a. give (cons a))))) (eat (give one))))
equal_after L close one cons m n h =
    equal_white (suc L) _ _ (equal_then (suc L) peek peek _ _ shrinks_peek (equal_refl (suc L) peek) (λ b t at l.
    both_separator (λ x y. x ≡ y) t t at (separator_of close b) _ _ _ _ (equal_eat L _ _ (equal_white L _ _ (equal_map L m n cons h)) t at l) refl refl))

equal_inside :
    {A : Type 0} (L close : ℕ) (nil : Value) (wrap : A → Value) (m n : Parser A) → Equal L m n
    → Equal (suc L) (eat (white (peek >>= λ c. if (eqb c close) (eat (give nil)) (λ u q. then (m u q) (λ a. give (wrap a)))))) (eat (white (peek >>= λ c. if (eqb c close) (eat (give nil)) (λ u q. then (n u q) (λ a. give (wrap a))))))
equal_inside L close nil wrap m n h =
    equal_eat L _ _ (equal_white L _ _ (equal_then L peek peek _ _ shrinks_peek (equal_refl L peek) (λ c. equal_if L (eqb c close) _ _ _ _ (equal_refl L _) (equal_map L m n wrap h))))

equal_none : {A : Type 0} (m n : Parser A) → ((at : ℕ) → m [] at ≡ bad NotJson at) → ((at : ℕ) → n [] at ≡ bad NotJson at) → Equal 0 m n
equal_none m n h k [] at l = h at ∙ sym (k at)
equal_none m n h k (b ∷ t) at l = absurd (omega arith)

value_none : (f row depth at : ℕ) → value f row depth [] at ≡ bad NotJson at
unfolding value then peek
value_none zero row depth at = refl
value_none (suc f) row depth at = refl

items_none : (f row depth at : ℕ) → items f row depth [] at ≡ bad NotJson at
unfolding value then
items_none zero row depth at = refl
items_none (suc f) row depth at =
    ap (λ z. then z (λ v. white (peek >>= λ b. on_separator (separator_of 0x5D b) (eat (white (λ u q. then (items f (row + value_count v) depth u q) (λ vs. give (item v vs))))) (eat (give (item v no_items)))))) (value_none f row depth at)

members_none : (f row depth : ℕ) (seen : List Bytes) (at : ℕ) → members f row depth seen [] at ≡ bad NotJson at
unfolding value then name ◌>>=◌ peek
members_none zero row depth seen at = refl
members_none (suc f) row depth seen at = refl

shrinks_value : (f row depth : ℕ) → Shrinks (λ t at. value f row depth t at)
shrinks_value f row depth = shrinks (λ t at. value f row depth t at) (λ s. moves_stays s (λ t at. value f row depth t at) (moves_value s f row depth))

shrinks_name : (f : ℕ) (seen : List Bytes) → Shrinks (name f seen)
shrinks_name f seen = shrinks (name f seen) (λ s. moves_stays s (name f seen) (moves_name s f seen))

mutual
  unfolding value ◌>>=◌

  pub fuel_value : (f f' row depth L : ℕ) → 2 * L + 1 ≤ f → 2 * L + 1 ≤ f' → Equal L (λ t at. value f row depth t at) (λ t at. value f' row depth t at)
  fuel_value zero f' row depth L a b = absurd (omega arith)
  fuel_value (suc f) zero row depth L a b = absurd (omega arith)
  fuel_value (suc f) (suc f') row depth zero a b = equal_none (λ t at. value (suc f) row depth t at) (λ t at. value (suc f') row depth t at) (value_none (suc f) row depth) (value_none (suc f') row depth)
  fuel_value (suc f) (suc f') row depth (suc K) a b =
      equal_then (suc K) peek peek _ _ shrinks_peek (equal_refl (suc K) peek) (λ c t at l.
      both_start (λ x y. x ≡ y) t t at (start_of row depth c) literal literal (eat (int true)) (int false) _ _ _ (eat (int true)) (int false) _ _ _ (λ k. refl) (λ k. refl) refl refl
      (equal_then (suc K) (quoted f) (quoted f') _ _ (shrinks_quoted f) (fuel_quoted f f' K (omega arith) (omega arith)) (λ bs. equal_refl (suc K) _) t at l)
      (equal_inside K 0x5D (array no_items) array (λ t at. items f (suc row) (suc depth) t at) (λ t at. items f' (suc row) (suc depth) t at) (λ x q g. fuel_items f f' (suc row) (suc depth) K (omega arith) (omega arith) x q g) t at l)
      (equal_inside K 0x7D (object no_members) object (λ t at. members f (suc row) (suc depth) [] t at) (λ t at. members f' (suc row) (suc depth) [] t at) (λ x q g. fuel_members f f' (suc row) (suc depth) [] K (omega arith) (omega arith) x q g) t at l))

  pub fuel_items : (f f' row depth L : ℕ) → 2 * L + 2 ≤ f → 2 * L + 2 ≤ f' → Equal L (λ t at. items f row depth t at) (λ t at. items f' row depth t at)
  fuel_items zero f' row depth L a b = absurd (omega arith)
  fuel_items (suc f) zero row depth L a b = absurd (omega arith)
  fuel_items (suc f) (suc f') row depth zero a b = equal_none (λ t at. items (suc f) row depth t at) (λ t at. items (suc f') row depth t at) (items_none (suc f) row depth) (items_none (suc f') row depth)
  fuel_items (suc f) (suc f') row depth (suc K) a b =
      equal_then (suc K) (λ t at. value f row depth t at) (λ t at. value f' row depth t at) _ _ (shrinks_value f row depth) (λ x q g. fuel_value f f' row depth (suc K) (omega arith) (omega arith) x q g)
      (λ v. equal_after K 0x5D (item v no_items) (item v) (λ t at. items f (row + value_count v) depth t at) (λ t at. items f' (row + value_count v) depth t at) (λ x q g. fuel_items f f' (row + value_count v) depth K (omega arith) (omega arith) x q g))

  pub fuel_members : (f f' row depth : ℕ) (seen : List Bytes) (L : ℕ) → 2 * L + 2 ≤ f → 2 * L + 2 ≤ f' → Equal L (λ t at. members f row depth seen t at) (λ t at. members f' row depth seen t at)
  fuel_members zero f' row depth seen L a b = absurd (omega arith)
  fuel_members (suc f) zero row depth seen L a b = absurd (omega arith)
  fuel_members (suc f) (suc f') row depth seen zero a b = equal_none (λ t at. members (suc f) row depth seen t at) (λ t at. members (suc f') row depth seen t at) (members_none (suc f) row depth seen) (members_none (suc f') row depth seen)
  fuel_members (suc f) (suc f') row depth seen (suc K) a b =
      equal_then (suc K) (name f seen) (name f' seen) _ _ (shrinks_name f seen) (fuel_name f f' seen K (omega arith) (omega arith))
      (λ n. equal_white (suc K) _ _ (equal_then (suc K) (λ t at. value f row depth t at) (λ t at. value f' row depth t at) _ _ (shrinks_value f row depth) (λ x q g. fuel_value f f' row depth (suc K) (omega arith) (omega arith) x q g)
      (λ v. equal_after K 0x7D (member n v no_members) (member n v) (λ t at. members f (row + value_count v) depth (seen ++ (n ∷ [])) t at) (λ t at. members f' (row + value_count v) depth (seen ++ (n ∷ [])) t at) (λ x q g. fuel_members f f' (row + value_count v) depth (seen ++ (n ∷ [])) K (omega arith) (omega arith) x q g))))

-- Any number of steps from 2 * length s + 1 on gives the same.
pub fuel_text : (f f' : ℕ) (s : Bytes) (at : ℕ) → 2 * length s + 1 ≤ f → 2 * length s + 1 ≤ f' → text f s at ≡ text f' s at
unfolding text
fuel_text f f' s at a b =
    equal_white (length s) _ _ (equal_then (length s) (value f 0 0) (value f' 0 0) _ _ (shrinks_value f 0 0) (fuel_value f f' 0 0 (length s) a b) (λ v. equal_refl (length s) _)) s at (omega arith)
