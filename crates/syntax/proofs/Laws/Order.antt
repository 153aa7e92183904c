-- Order: the faults of a text of RFC 8259 are listed by their places; and where the first is a lone surrogate, the bytes through any other
-- fault show that it is one.
use Rattle.std.specs.Prelude.{◌≡◌, Bool, ◌⊎◌, leb, drop}
use Rattle.std.proofs.Math.Path.{refl, subst}
use Rattle.std.proofs.Common.{sym, ap, ◌∙◌, inl, inr, drop-drop}
use Rattle.std.proofs.Math.Bool.{true, false}
use mathlib.Core.List.Memᴰ
use mathlib.Core.List.{List, [], ◌∷◌, ◌++◌, append-nil, Memᴰ}
use Rattle.std.specs.Prelude.{Option, None, Some}
use Prim.Native.Nat.{ℕ, suc, ◌+◌, ◌*◌, ◌≤◌}
use native.Mathlib.Omega.{arith}
use Rattle.std.proofs.Math.ListN.{length}
use Rattle.model.specs.Bytes.{Bytes}
use Rattle.model.specs.Limits.{max_values, max_nesting, max_integer}
use Rattle.model.specs.declared.refusal.ReadFault.{ReadFault}
use Rattle.model.specs.declared.refusal.ReadFault.TheVariants.{NotJson, RepeatedName, LoneSurrogate, BadNumber, TooLarge}
use Rattle.syntax.specs.declared.Unit.{Unit}
use Rattle.syntax.specs.declared.Unit.TheVariants.{Plain, High, Low}
use Rattle.syntax.specs.Faults.{Fault, fault, faults_digits, faults_int, faults_frac, faults_exp, faults_number, alone_high, alone_low, faults_chars, repeated_at, faults_name, many_at, deep_at, count_value, faults_value, faults_elements, faults_members, faults, place_of, spell_unit, Pair, reach}
use Rattle.syntax.specs.Grammar.{Digits, no_digits, digit, Int, zero_int, int, Frac, no_frac, frac, Exp, no_exp, exp, Hexes, Chars, no_chars, unescaped, escaped, code_unit_lem, JValue, jtrue, jfalse, jnull, jnumber, jstring, jempty_array, jarray, jempty_object, jobject, JElements, last_element, element, JMembers, last_member, jmember, JText, jtext, spell_ws, spell_digits, spell_int, spell_frac, spell_exp, spell_minus, spell_tails, spell_chars, spell_value, spell_elements, spell_members, spell, hex_number, chars_meaning, seen_with}
use Rattle.syntax.specs.Read.{Parsed, Piece, clear, char, among}
use Rattle.syntax.specs.Tokens.{digit_value}
use Rattle.syntax.specs.Utf8.{unit_of}
use Rattle.syntax.proofs.Laws.Agreement.{At, start, onward, at_length, at_after, Alike, alike_from, Keeps, ◌&◌, byte, spelled_length, alike_under, ws_keeps, int_keeps, frac_keeps, minus_keeps, tails_keeps, hexes_keeps, chars_keeps, value_keeps}
use Rattle.syntax.proofs.Laws.Characters.{tails_length, hexes_length, char_closing, char_unescaped, char_escaped, char_unit, StartsLow, NoLow, not_low, pair_high, pair_low, high_low, plain_low}
use Rattle.syntax.proofs.Laws.Complete.{chars_faultless}
use Rattle.syntax.proofs.Laws.FaultStrings.{unit_faults_plain, unit_faults_high, unit_faults_low}

abbrev pub reach_of : Fault → ℕ
reach_of (fault k p) = reach k p

place_reach : (x : Fault) → place_of x ≤ reach_of x
place_reach (fault NotJson p) = omega arith
place_reach (fault RepeatedName p) = omega arith
place_reach (fault LoneSurrogate p) = omega arith
place_reach (fault BadNumber p) = omega arith
place_reach (fault TooLarge p) = omega arith

abbrev pub All : (Fault → Type 0) → List Fault → Type 0
All P [] = Prim.Unit {0}
All P (x ∷ fs) = P x × All P fs

all_append : (P : Fault → Type 0) (fs gs : List Fault) → All P fs → All P gs → All P (fs ++ gs)
all_append P [] gs h k = k
all_append P (x ∷ fs) gs h k = (h.0, all_append P fs gs h.1 k)

-- ---- s is the whole text
module _ (s : Bytes) where
  -- In no text that begins with the same n bytes does a pair begin at p.
  abbrev pub Shows : ℕ → ℕ → Type 0
  Shows p n = (r w u : Bytes) → At s r n → Alike r w s u → Pair (drop p u) → ⊥

  -- Of a lone surrogate: so much of the text shows it, and every fault after it reaches as far.
  abbrev pub Shown : ReadFault → ℕ → List Fault → ℕ → Type 0
  Shown NotJson p fs hi = Prim.Unit {0}
  Shown RepeatedName p fs hi = Prim.Unit {0}
  Shown LoneSurrogate p fs hi = (n : ℕ) × (p + 6 ≤ n) × (n ≤ hi) × Shows p n × All (λ x. n ≤ reach_of x) fs
  Shown BadNumber p fs hi = Prim.Unit {0}
  Shown TooLarge p fs hi = Prim.Unit {0}

  -- Faults in order between two places.
  abbrev pub Ordered : ℕ → List Fault → ℕ → Type 0
  Ordered lo [] hi = lo ≤ hi
  Ordered lo (fault k p ∷ fs) hi = (lo ≤ p) × Shown k p fs hi × Ordered p fs hi

  ordered_le : (lo hi : ℕ) (fs : List Fault) → Ordered lo fs hi → lo ≤ hi
  ordered_le lo hi [] h = h
  ordered_le lo hi (fault k p ∷ fs) h = omega (arith, h.0, ordered_le p hi fs h.2)

  ordered_reach : (n lo hi : ℕ) (fs : List Fault) → n ≤ lo → Ordered lo fs hi → All (λ x. n ≤ reach_of x) fs
  ordered_reach n lo hi [] l h = tt
  ordered_reach n lo hi (fault k p ∷ fs) l h = (omega (arith, h.0, place_reach (fault k p)), ordered_reach n p hi fs (omega (arith, h.0)) h.2)

  seen_join : (k : ReadFault) (p mid hi : ℕ) (fs gs : List Fault) → Shown k p fs mid → Ordered mid gs hi → Shown k p (fs ++ gs) hi
  seen_join NotJson p mid hi fs gs h k = tt
  seen_join RepeatedName p mid hi fs gs h k = tt
  seen_join LoneSurrogate p mid hi fs gs h k = (h.0, h.1, omega (arith, h.2, ordered_le mid hi gs k), h.3, all_append (λ x. h.0 ≤ reach_of x) fs gs h.4 (ordered_reach h.0 mid hi gs h.2 k))
  seen_join BadNumber p mid hi fs gs h k = tt
  seen_join TooLarge p mid hi fs gs h k = tt

  low : (a lo hi : ℕ) (fs : List Fault) → a ≤ lo → Ordered lo fs hi → Ordered a fs hi
  low a lo hi [] l h = omega arith
  low a lo hi (fault k p ∷ fs) l h = (omega (arith, h.0), h.1, h.2)

  join : (lo mid hi : ℕ) (fs gs : List Fault) → Ordered lo fs mid → Ordered mid gs hi → Ordered lo (fs ++ gs) hi
  join lo mid hi [] gs h k = low lo mid hi gs h k
  join lo mid hi (fault n p ∷ fs) gs h k = (h.0, seen_join n p mid hi fs gs h.1 k, join p mid hi fs gs h.2 k)

  -- Up to a later place.
  up_to : (lo hi b : ℕ) (fs : List Fault) → hi ≤ b → Ordered lo fs hi → Ordered lo fs b
  up_to lo hi b fs l h = subst (λ x. Ordered lo x b) (append-nil fs) (join lo hi b fs [] h l)

  -- ---- numbers
  digits_ordered : (ds : Digits) (n at : ℕ) → Ordered at (faults_digits n ds at) (at + length (spell_digits ds []))
  unfolding faults_digits spell_digits
  digits_ordered no_digits n at = omega arith
  digits_ordered (digit b h ds) n at = go (leb (n * 10 + digit_value b) max_integer) (digits_ordered ds (n * 10 + digit_value b) (suc at))
    where
      go :
          (c : Bool) → Ordered (suc at) (faults_digits (n * 10 + digit_value b) ds (suc at)) (suc at + length (spell_digits ds []))
          → Ordered at (elim c [ true ↦ faults_digits (n * 10 + digit_value b) ds (suc at) | false ↦ fault BadNumber at ∷ [] ]) (at + suc (length (spell_digits ds [])))
      go true k = low at (suc at) _ (faults_digits (n * 10 + digit_value b) ds (suc at)) (omega arith) (up_to (suc at) (suc at + length (spell_digits ds [])) _ (faults_digits (n * 10 + digit_value b) ds (suc at)) (omega arith) k)
      go false k = (omega arith, tt, omega arith)

  int_ordered : (i : Int) (at : ℕ) → Ordered at (faults_int i at) (at + length (spell_int i []))
  unfolding faults_int spell_int
  int_ordered zero_int at = omega arith
  int_ordered (int b h ds) at = low at (suc at) _ (faults_digits (digit_value b) ds (suc at)) (omega arith) (up_to (suc at) (suc at + length (spell_digits ds [])) _ (faults_digits (digit_value b) ds (suc at)) (omega arith) (digits_ordered ds (digit_value b) (suc at)))

  frac_ordered : (x : Frac) (at hi : ℕ) → at ≤ hi → Ordered at (faults_frac x at) hi
  unfolding faults_frac
  frac_ordered no_frac at hi l = l
  frac_ordered (frac b h ds) at hi l = (omega arith, tt, l)

  exp_ordered : (x : Exp) (at hi : ℕ) → at ≤ hi → Ordered at (faults_exp x at) hi
  unfolding faults_exp
  exp_ordered no_exp at hi l = l
  exp_ordered (exp e h g b k ds) at hi l = (omega arith, tt, l)

  number_ordered : (i : Int) (fr : Frac) (ex : Exp) (at : ℕ) → Ordered at (faults_number i fr ex at) (at + length (spell_int i (spell_frac fr (spell_exp ex []))))
  unfolding faults_number
  number_ordered i fr ex at =
      let p = at + length (spell_int i []) in
      let q = at + length (spell_int i (spell_frac fr [])) in
      let f = spelled_length (int_keeps i) (spell_frac fr []) in
      let g = spelled_length (int_keeps i & frac_keeps fr) (spell_exp ex []) in
      join at p _ (faults_int i at) (faults_frac fr p ++ faults_exp ex q) (int_ordered i at) (join p q _ (faults_frac fr p) (faults_exp ex q) (frac_ordered fr p q (omega (arith, f))) (exp_ordered ex q _ (omega (arith, g))))

  -- ---- strings
  -- After a high surrogate at p, what F spells at p + 6 shows that no low one follows.
  shows_high : (p : ℕ) {F : Bytes → Bytes} → Keeps F → (z : Bytes) → At s (F z) (p + 6) → ((v : Bytes) → (r : Parsed Piece) × (char (F v) 0 ≡ r) × NoLow r) → Shows p (p + 6 + length (F []))
  shows_high p {F} f z h k r w u g a pair =
      let at = p + 6 in
      let x = alike_under f (alike_from g a h (omega arith)) (omega (arith, at_length g, at_length h, spelled_length f z)) in
      let y = k x.0 in
      not_low (F x.0) 0 y.0 y.1 y.2 (subst StartsLow (drop-drop 6 p u ∙ x.1) (pair_low pair))

  shows_low : (at : ℕ) (hs : Hexes 4) (z : Bytes) → At s (spell_unit hs z) at → unit_of (hex_number 0 hs) ≡ Low → Shows at (at + 6)
  shows_low at hs z h k r w u g a pair =
      let x = alike_under (byte 0x5C & byte 0x75 & hexes_keeps hs) (alike_from g a h (omega arith)) (omega (arith, at_length g, at_length h, hexes_length hs z)) in
      high_low (hex_number 0 hs) (pair_high (drop at u) 0 (hex_number 0 hs) x.0 6 (ap (λ t. char t 0) x.1 ∙ char_unit hs x.0 0) pair).0 k

  -- A high surrogate that stands just before.
  abbrev Before : Option ℕ → ℕ → Type 0
  Before None at = Prim.Unit {0}
  Before (Some p) at = p + 6 ≡ at

  abbrev since : Option ℕ → ℕ → ℕ
  since None at = at
  since (Some p) at = p

  -- In order from there on, and each reaches past `at`.
  abbrev CharsOrdered : Option ℕ → ℕ → List Fault → ℕ → Type 0
  CharsOrdered before at fs hi = Ordered (since before at) fs hi × All (λ x. at ≤ reach_of x) fs

  -- What follows is no low surrogate, as the bytes up to n show; the other faults stand from `lo` on.
  alone_ordered :
      (before : Option ℕ) (at n lo hi : ℕ) (gs : List Fault) → Before before at → ((p : ℕ) → p + 6 ≡ at → Shows p n) → at ≤ n → n ≤ hi → at ≤ lo → Ordered lo gs hi
      → All (λ x. n ≤ reach_of x) gs → CharsOrdered before at (alone_high before ++ gs) hi
  unfolding alone_high
  alone_ordered None at n lo hi gs b f l m k h g = (low at lo hi gs k h, ordered_reach at lo hi gs k h)
  alone_ordered (Some p) at n lo hi gs b f l m k h g = ((omega arith, (n, omega (arith, b, l), m, f p b, g), low p lo hi gs (omega (arith, b, k)) h), (omega (arith, b), ordered_reach at lo hi gs k h))

  paired_ordered : (before : Option ℕ) (at hi : ℕ) (gs : List Fault) → Before before at → Shows at (at + 6) → at + 6 ≤ hi → Ordered (at + 6) gs hi → CharsOrdered before at (alone_low before at ++ gs) hi
  unfolding alone_low
  paired_ordered None at hi gs b f m h = ((omega arith, (at + 6, omega arith, m, f, ordered_reach (at + 6) (at + 6) hi gs (omega arith) h), low at (at + 6) hi gs (omega arith) h), (omega arith, ordered_reach at (at + 6) hi gs (omega arith) h))
  paired_ordered (Some p) at hi gs b f m h = (low p (at + 6) hi gs (omega (arith, b)) h, ordered_reach at (at + 6) hi gs (omega arith) h)

  -- A next character that is spelled by F.
  shows_next : (at p n : ℕ) {F : Bytes → Bytes} → Keeps F → (z : Bytes) → At s (F z) at → ((v : Bytes) → (r : Parsed Piece) × (char (F v) 0 ≡ r) × NoLow r) → n ≡ at + length (F []) → p + 6 ≡ at → Shows p n
  shows_next at p n {F} f z h k e b = subst (Shows p) (omega (arith, e, b)) (shows_high p f z (subst (At s (F z)) (sym b) h) k)

  unit_ordered :
      (hs : Hexes 4) (cs : Chars) (y : Bytes) (before : Option ℕ) (at : ℕ) → At s (spell_unit hs (spell_chars cs (0x22 ∷ y))) at → Before before at
      → ((w : Option ℕ) → Before w (at + 6) → CharsOrdered w (at + 6) (faults_chars cs w (at + 6)) (suc (at + 6 + length (spell_chars cs []))))
      → CharsOrdered before at (faults_chars (code_unit_lem hs cs) before at) (suc (at + length (spell_unit hs (spell_chars cs []))))
  unit_ordered hs cs y before at h b k = subst (CharsOrdered before at (faults_chars (code_unit_lem hs cs) before at)) (omega (arith, hexes_length hs (spell_chars cs []))) (go (unit_of (hex_number 0 hs)) refl)
    where
      hi : ℕ
      hi = suc (at + 6 + length (spell_chars cs []))

      shown : (unit_of (hex_number 0 hs) ≡ Low → ⊥) → (p : ℕ) → p + 6 ≡ at → Shows p (at + 6)
      shown l p e = shows_next at p (at + 6) (byte 0x5C & byte 0x75 & hexes_keeps hs) _ h (λ v. (_, char_unit hs v 0, l)) (omega (arith, hexes_length hs [])) e

      go : (x : Unit) → unit_of (hex_number 0 hs) ≡ x → CharsOrdered before at (faults_chars (code_unit_lem hs cs) before at) hi
      go Plain e =
          let g = k None tt in
          subst (λ l. CharsOrdered before at l hi) (sym (unit_faults_plain hs cs before at e))
          (alone_ordered before at (at + 6) (at + 6) hi (faults_chars cs None (at + 6)) b (shown (plain_low (hex_number 0 hs) e)) (omega arith) (omega arith) (omega arith) g.0 g.1)
      go High e =
          let g = k (Some at) refl in
          subst (λ l. CharsOrdered before at l hi) (sym (unit_faults_high hs cs before at e))
          (alone_ordered before at (at + 6) at hi (faults_chars cs (Some at) (at + 6)) b (shown (high_low (hex_number 0 hs) e)) (omega arith) (omega arith) (omega arith) g.0 g.1)
      go Low e =
          let g = k None tt in
          subst (λ l. CharsOrdered before at l hi) (sym (unit_faults_low hs cs before at e)) (paired_ordered before at hi (faults_chars cs None (at + 6)) b (shows_low at hs _ h e) (omega arith) g.0)

  chars_ordered : (cs : Chars) (y : Bytes) (before : Option ℕ) (at : ℕ) → At s (spell_chars cs (0x22 ∷ y)) at → Before before at → CharsOrdered before at (faults_chars cs before at) (suc (at + length (spell_chars cs [])))
  unfolding faults_chars spell_chars
  chars_ordered no_chars y before at h b =
      subst (λ l. CharsOrdered before at l (suc (at + 0))) (append-nil (alone_high before))
      (alone_ordered before at (suc at) at (suc (at + 0)) [] b (λ p e. shows_next at p (suc at) (byte 0x22) y h (λ v. (_, char_closing v 0, tt)) (omega arith) e) (omega arith) (omega arith) (omega arith) (omega arith) tt)
  chars_ordered (unescaped c n lo hi i ts cs) y before at h b =
      let f = byte c & tails_keeps ts in
      let z = spell_chars cs (0x22 ∷ y) in
      let e = tails_length ts [] in
      let m : suc (at + length (c ∷ spell_tails ts (spell_chars cs []))) ≡ suc (at + suc n + length (spell_chars cs [])) = omega (arith, tails_length ts (spell_chars cs [])) in
      let g = chars_ordered cs y None (at + suc n) (subst (At s z) (omega (arith, e)) (at_after f h)) tt in
      subst (CharsOrdered before at (alone_high before ++ faults_chars cs None (at + suc n))) (sym m)
      (alone_ordered before at (at + suc n) (at + suc n) _ (faults_chars cs None (at + suc n)) b (λ p k. shows_next at p (at + suc n) f z h (λ v. (_, char_unescaped c n lo hi i ts v 0, tt)) (omega (arith, e)) k) (omega arith) (omega arith) (omega arith) g.0 g.1)
  chars_ordered (escaped c d i cs) y before at h b =
      let f = byte 0x5C & byte c in
      let z = spell_chars cs (0x22 ∷ y) in
      let m : suc (at + length (0x5C ∷ c ∷ spell_chars cs [])) ≡ suc (at + 2 + length (spell_chars cs [])) = omega arith in
      let g = chars_ordered cs y None (at + 2) (at_after f h) tt in
      subst (CharsOrdered before at (alone_high before ++ faults_chars cs None (at + 2))) (sym m)
      (alone_ordered before at (at + 2) (at + 2) _ (faults_chars cs None (at + 2)) b (λ p k. shows_next at p (at + 2) f z h (λ v. (_, char_escaped c d i v 0, tt)) refl k) (omega arith) (omega arith) (omega arith) g.0 g.1)
  chars_ordered (code_unit_lem hs cs) y before at h b =
      unit_ordered hs cs y before at h b (λ w k. chars_ordered cs y w (at + 6) (subst (At s (spell_chars cs (0x22 ∷ y))) (omega (arith, hexes_length hs [])) (at_after (byte 0x5C & byte 0x75 & hexes_keeps hs) h)) k)

  -- ---- names
  repeated_ordered : (seen : List Bytes) (o : Option Bytes) (at : ℕ) → Ordered at (repeated_at seen o at) (suc at)
  unfolding repeated_at
  repeated_ordered seen None at = omega arith
  repeated_ordered seen (Some n) at = go (among n seen)
    where
      go : (b : Bool) → Ordered at (elim b [ true ↦ fault RepeatedName at ∷ [] | false ↦ [] ]) (suc at)
      go true = (omega arith, tt, omega arith)
      go false = omega arith

  -- A name with a lone surrogate is not compared with others.
  name_ordered : (seen : List Bytes) (n : Chars) (y : Bytes) (at : ℕ) → At s (spell_chars n (0x22 ∷ y)) at → Ordered at (faults_name seen n at) (suc (at + length (spell_chars n [])))
  unfolding faults_name repeated_at
  name_ordered seen n y at h = go (chars_meaning n None) refl
    where
      c : ℕ
      c = at + length (spell_chars n [])

      go : (o : Option Bytes) → chars_meaning n None ≡ o → Ordered at (faults_chars n None at ++ repeated_at seen o c) (suc c)
      go None e = subst (λ l. Ordered at l (suc c)) (sym (append-nil (faults_chars n None at))) (chars_ordered n y None at h tt).0
      go (Some m) e = subst (λ l. Ordered at (l ++ repeated_at seen (Some m) c) (suc c)) (sym (chars_faultless n clear m at e)) (low at c (suc c) (repeated_at seen (Some m) c) (omega arith) (repeated_ordered seen (Some m) c))

  -- ---- values
  many_ordered : (row at : ℕ) → Ordered at (many_at row at) at
  unfolding many_at
  many_ordered row at = go (leb max_values row)
    where
      go : (b : Bool) → Ordered at (elim b [ true ↦ fault TooLarge at ∷ [] | false ↦ [] ]) at
      go true = (omega arith, tt, omega arith)
      go false = omega arith

  deep_ordered : (depth at : ℕ) → Ordered at (deep_at depth at) at
  unfolding deep_at
  deep_ordered depth at = go (leb max_nesting depth)
    where
      go : (b : Bool) → Ordered at (elim b [ true ↦ fault TooLarge at ∷ [] | false ↦ [] ]) at
      go true = (omega arith, tt, omega arith)
      go false = omega arith

  -- After the first byte of a value, and after its bracket.
  began : (row at hi : ℕ) (fs : List Fault) → Ordered at fs hi → Ordered at (many_at row at ++ fs) hi
  began row at hi fs h = join at at hi (many_at row at) fs (many_ordered row at) h

  opened : (depth at hi : ℕ) (fs : List Fault) → Ordered at fs hi → Ordered at (deep_at depth at ++ fs) hi
  opened depth at hi fs h = join at at hi (deep_at depth at) fs (deep_ordered depth at) h

  mutual
    unfolding faults_value spell_value

    value_ordered : (d : JValue) (y : Bytes) (row depth at : ℕ) → At s (spell_value d y) at → Ordered at (faults_value d row depth at) (at + length (spell_value d []))
    value_ordered jtrue y row depth at h = up_to at at _ (many_at row at) (omega arith) (many_ordered row at)
    value_ordered jfalse y row depth at h = up_to at at _ (many_at row at) (omega arith) (many_ordered row at)
    value_ordered jnull y row depth at h = up_to at at _ (many_at row at) (omega arith) (many_ordered row at)
    value_ordered (jnumber negative i fr ex) y row depth at h =
        let p = at + length (spell_minus negative []) in
        let e = spelled_length (minus_keeps negative) (spell_int i (spell_frac fr (spell_exp ex []))) in
        began row at _ (faults_number i fr ex p) (low at p _ (faults_number i fr ex p) (omega arith) (up_to p _ _ (faults_number i fr ex p) (omega (arith, e)) (number_ordered i fr ex p)))
    value_ordered (jstring cs) y row depth at h =
        let e = spelled_length (chars_keeps cs) (0x22 ∷ []) in
        began row at _ (faults_chars cs None (suc at)) (low at (suc at) _ (faults_chars cs None (suc at)) (omega arith) (up_to (suc at) _ _ (faults_chars cs None (suc at)) (omega (arith, e)) (chars_ordered cs y None (suc at) (onward 0x22 h) tt).0))
    value_ordered (jempty_array w) y row depth at h = began row at _ (deep_at depth at) (up_to at at _ (deep_at depth at) (omega arith) (deep_ordered depth at))
    value_ordered (jarray w es) y row depth at h =
        let p = at + length (0x5B ∷ spell_ws w []) in
        let e = spelled_length (ws_keeps w) (spell_elements es []) in
        let fs = faults_elements es (suc row) (suc depth) p in
        began row at _ (deep_at depth at ++ fs) (opened depth at _ fs (low at p _ fs (omega arith) (up_to p _ _ fs (omega (arith, e)) (elements_ordered es y (suc row) (suc depth) p (at_after (byte 0x5B & ws_keeps w) h)))))
    value_ordered (jempty_object w) y row depth at h = began row at _ (deep_at depth at) (up_to at at _ (deep_at depth at) (omega arith) (deep_ordered depth at))
    value_ordered (jobject w ms) y row depth at h =
        let p = at + length (0x7B ∷ spell_ws w []) in
        let e = spelled_length (ws_keeps w) (spell_members ms []) in
        let fs = faults_members ms (suc row) (suc depth) [] p in
        began row at _ (deep_at depth at ++ fs) (opened depth at _ fs (low at p _ fs (omega arith) (up_to p _ _ fs (omega (arith, e)) (members_ordered ms y (suc row) (suc depth) [] p (at_after (byte 0x7B & ws_keeps w) h)))))

    elements_ordered : (es : JElements) (y : Bytes) (row depth at : ℕ) → At s (spell_elements es y) at → Ordered at (faults_elements es row depth at) (at + length (spell_elements es []))
    elements_ordered (last_element d w) y row depth at h =
        up_to at _ _ (faults_value d row depth at) (omega (arith, spelled_length (value_keeps d) (spell_ws w (0x5D ∷ [])))) (value_ordered d (spell_ws w (0x5D ∷ y)) row depth at h)
    elements_ordered (element d w u es) y row depth at h =
        let f = value_keeps d & ws_keeps w & byte 0x2C & ws_keeps u in
        let p = at + length (spell_value d (spell_ws w (0x2C ∷ spell_ws u []))) in
        let gs = faults_elements es (row + count_value d) depth p in
        join at p _ (faults_value d row depth at) gs
        (up_to at _ p (faults_value d row depth at) (omega (arith, spelled_length (value_keeps d) (spell_ws w (0x2C ∷ spell_ws u [])))) (value_ordered d (spell_ws w (0x2C ∷ spell_ws u (spell_elements es y))) row depth at h))
        (up_to p _ _ gs (omega (arith, spelled_length f (spell_elements es []))) (elements_ordered es y (row + count_value d) depth p (at_after f h)))

    members_ordered : (ms : JMembers) (y : Bytes) (row depth : ℕ) (seen : List Bytes) (at : ℕ) → At s (spell_members ms y) at → Ordered at (faults_members ms row depth seen at) (at + length (spell_members ms []))
    members_ordered (last_member n w u d x) y row depth seen at h =
        let f = byte 0x22 & chars_keeps n & byte 0x22 & ws_keeps w & byte 0x3A & ws_keeps u in
        let p = at + length (0x22 ∷ spell_chars n (0x22 ∷ spell_ws w (0x3A ∷ spell_ws u []))) in
        let fs = faults_name seen n (suc at) in
        let gs = faults_value d row depth p in
        join at p _ fs gs
        (low at (suc at) p fs (omega arith) (up_to (suc at) _ p fs (omega (arith, spelled_length (chars_keeps n) (0x22 ∷ spell_ws w (0x3A ∷ spell_ws u [])))) (name_ordered seen n (spell_ws w (0x3A ∷ spell_ws u (spell_value d (spell_ws x (0x7D ∷ y))))) (suc at) (onward 0x22 h))))
        (up_to p _ _ gs (omega (arith, spelled_length f (spell_value d (spell_ws x (0x7D ∷ []))), spelled_length (value_keeps d) (spell_ws x (0x7D ∷ [])))) (value_ordered d (spell_ws x (0x7D ∷ y)) row depth p (at_after f h)))
    members_ordered (jmember n w u d x z ms) y row depth seen at h =
        let f = byte 0x22 & chars_keeps n & byte 0x22 & ws_keeps w & byte 0x3A & ws_keeps u in
        let g = f & value_keeps d & ws_keeps x & byte 0x2C & ws_keeps z in
        let p = at + length (0x22 ∷ spell_chars n (0x22 ∷ spell_ws w (0x3A ∷ spell_ws u []))) in
        let q = at + length (0x22 ∷ spell_chars n (0x22 ∷ spell_ws w (0x3A ∷ spell_ws u (spell_value d (spell_ws x (0x2C ∷ spell_ws z [])))))) in
        let fs = faults_name seen n (suc at) in
        let gs = faults_value d row depth p in
        let hs = faults_members ms (row + count_value d) depth (seen_with seen (chars_meaning n None)) q in
        join at p _ fs (gs ++ hs)
        (low at (suc at) p fs (omega arith) (up_to (suc at) _ p fs (omega (arith, spelled_length (chars_keeps n) (0x22 ∷ spell_ws w (0x3A ∷ spell_ws u [])))) (name_ordered seen n (spell_ws w (0x3A ∷ spell_ws u (spell_value d (spell_ws x (0x2C ∷ spell_ws z (spell_members ms y)))))) (suc at) (onward 0x22 h))))
        (join p q _ gs hs
        (up_to p _ q gs (omega (arith, spelled_length f (spell_value d (spell_ws x (0x2C ∷ spell_ws z []))), spelled_length (value_keeps d) (spell_ws x (0x2C ∷ spell_ws z [])))) (value_ordered d (spell_ws x (0x2C ∷ spell_ws z (spell_members ms y))) row depth p (at_after f h)))
        (up_to q _ _ hs (omega (arith, spelled_length g (spell_members ms []))) (members_ordered ms y (row + count_value d) depth (seen_with seen (chars_meaning n None)) q (at_after g h))))

-- ---- texts
pub text_ordered : (d : JText) → Ordered (spell d) 0 (faults d) (length (spell d))
unfolding faults spell
text_ordered (jtext w d u) =
    let s = spell_ws w (spell_value d (spell_ws u [])) in
    let p = length (spell_ws w []) in
    let fs = faults_value d 0 0 p in
    low s 0 p _ fs (omega arith) (up_to s p _ (length s) fs (omega (arith, spelled_length (ws_keeps w & value_keeps d) (spell_ws u []), spelled_length (ws_keeps w) (spell_value d []))) (value_ordered s d (spell_ws u []) 0 0 p (subst (At s (spell_value d (spell_ws u []))) (omega arith) (at_after (ws_keeps w) start))))

-- Every fault of a list in order stands no earlier than the list begins,
pub listed_from : (s : Bytes) (lo hi : ℕ) (fs : List Fault) (x : Fault) → Ordered s lo fs hi → Memᴰ x fs → lo ≤ place_of x
listed_from s lo hi [] x h m = absurd (Memᴰ.not-nil m)
listed_from s lo hi (fault k p ∷ fs) x h m = go (Memᴰ.cases_cons m) (λ n. listed_from s p hi fs x h.2 n)
  where
    go : (x ≡ fault k p) ⊎ Memᴰ x fs → (Memᴰ x fs → p ≤ place_of x) → lo ≤ place_of x
    go (inl e) f = let i : place_of x ≡ p = ap place_of e in omega (arith, i, h.0)
    go (inr n) f = omega (arith, h.0, f n)

-- so the first fault of a text has the smallest place.
pub smallest : (d : JText) (k : ReadFault) (p : ℕ) (others : List Fault) → faults d ≡ fault k p ∷ others → (x : Fault) → Memᴰ x (faults d) → p ≤ place_of x
smallest d k p others e x m =
    let h : Ordered (spell d) 0 (fault k p ∷ others) (length (spell d)) = subst (λ l. Ordered (spell d) 0 l (length (spell d))) e (text_ordered d) in
    listed_from (spell d) p (length (spell d)) (fault k p ∷ others) x (omega arith, h.1, h.2) (subst (Memᴰ x) e m)
