-- Faults: a text of RFC 8259 is read as its meaning if it has no fault, and else refused with its first fault.
use Rattle.std.specs.Prelude.{◌≡◌, Bool, true, false, ℕ, zero, suc, ◌+◌, ◌*◌, ◌≤◌, T, leb, ltb, eqb, length}
use Rattle.std.proofs.Math.Path.{refl, subst, ap}
use Rattle.std.proofs.Common.{sym, ◌∙◌, arith, ltb-true, eq-eqb, lit≤}
use mathlib.Core.List.{List, [], ◌∷◌, ◌++◌, append-nil}
use Rattle.std.specs.Prelude.{Option, None, Some}
use Rattle.model.specs.Bytes.{Bytes}
use Rattle.model.specs.Limits.{max_text_bytes, max_values, max_nesting}
use Rattle.model.specs.Refusal.{read_number}
use Rattle.model.specs.declared.refusal.ReadFault.TheVariants.{TooLarge}
use Rattle.model.specs.Size.{value_count}
use Rattle.model.specs.Value.{Value, scalar, array, object, string, no_items, item, Members, no_members, member}
use Rattle.syntax.specs.declared.Start.{Start}
use Rattle.syntax.specs.declared.Start.TheVariants.{TooMuch, Literal, Minus, Digit, Quote, Bracket, Brace}
use Rattle.syntax.specs.declared.Word.TheVariants.{TrueWord, FalseWord, NullWord}
use Rattle.syntax.specs.declared.Separator.TheVariants.{Close}
use Rattle.syntax.specs.Faults.{Fault, fault, faults_number, faults_chars, faults_name, many_at, deep_at, count_value, faults_value, faults_elements, faults_members, faults, FirstFault}
use Rattle.syntax.specs.Grammar.{Ws, Int, zero_int, int, Frac, Exp, Chars, JValue, jtrue, jfalse, jnull, jnumber, jstring, jempty_array, jarray, jempty_object, jobject, JElements, last_element, element, JMembers, last_member, jmember, JText, jtext, spell_ws, spell_int, spell_frac, spell_exp, spell_minus, spell_chars, spell_value, spell_elements, spell_members, spell, int_number, plain, map, map₂, chars_meaning, fresh, seen_with, member_of, value_meaning, elements_meaning, members_meaning, meaning}
use Rattle.syntax.specs.Read
use Rattle.syntax.specs.Read.{Parsed, ok, bad, Parser, then, ◌>>=◌, give, fail, if, peek, eat, white, expect, literal, is_part, clear, chars, quoted, name, on_start, on_separator, value, items, members, ended, text, refuse, answer, read}
use Rattle.syntax.specs.Tokens.{within, is_white, is_digit, is_digit1_9, is_point, is_e, counted, nested, start_of, separator_of}
use Rattle.syntax.proofs.Laws.Agreement.{◌&◌, byte, spelled_length, spelled_longer, ws_keeps, value_keeps}
use Rattle.syntax.proofs.Laws.FaultScalars.{Meets, meets_then, meets_last, meets_as, NotWhite, white_run, Stops, stops_ws, int_meets}
use Rattle.syntax.proofs.Laws.FaultStrings.{chars_meet, name_meets}
use Rattle.syntax.proofs.Laws.Meaning.{count_value_lem}
use Rattle.syntax.proofs.Laws.Parsing.{then_law, peek_at, if_true, if_false}
use Rattle.syntax.proofs.Laws.Sound.{seen_fresh}
use Rattle.syntax.proofs.Laws.SoundStrings.{name_keeps}
use Rattle.syntax.proofs.Laws.Tokens.{apart, positive_digit, EndsNumber, digit_starts}

-- ---- the first byte of a value: no white space and no closing bracket
abbrev Starts : ℕ → Type 0
Starts b = (is_white b ≡ false) × (eqb b 0x5D ≡ false) × (eqb b 0x7D ≡ false)

pub record First (t : Bytes) : Type 0 where
  pub b : ℕ
  pub u : Bytes
  pub is : t ≡ b ∷ u
  pub begins : Starts b

digit_begins : (b : ℕ) → T (is_digit1_9 b) → Starts b
unfolding is_white is_digit1_9 within
digit_begins b h = (rw (apart is_digit1_9 b 0x20 h refl, apart is_digit1_9 b 0x09 h refl, apart is_digit1_9 b 0x0A h refl, apart is_digit1_9 b 0x0D h refl, is_white), apart is_digit1_9 b 0x5D h refl, apart is_digit1_9 b 0x7D h refl)

pub first_value : (d : JValue) (y : Bytes) → First (spell_value d y)
unfolding spell_value spell_minus spell_int is_white
first_value jtrue y = record { b = _; u = _; is = refl; begins = (refl, refl, refl) }
first_value jfalse y = record { b = _; u = _; is = refl; begins = (refl, refl, refl) }
first_value jnull y = record { b = _; u = _; is = refl; begins = (refl, refl, refl) }
first_value (jnumber true i fr ex) y = record { b = _; u = _; is = refl; begins = (refl, refl, refl) }
first_value (jnumber false zero_int fr ex) y = record { b = _; u = _; is = refl; begins = (refl, refl, refl) }
first_value (jnumber false (int b h ds) fr ex) y = record { b = b; u = _; is = refl; begins = digit_begins b h }
first_value (jstring cs) y = record { b = _; u = _; is = refl; begins = (refl, refl, refl) }
first_value (jempty_array w) y = record { b = _; u = _; is = refl; begins = (refl, refl, refl) }
first_value (jarray w es) y = record { b = _; u = _; is = refl; begins = (refl, refl, refl) }
first_value (jempty_object w) y = record { b = _; u = _; is = refl; begins = (refl, refl, refl) }
first_value (jobject w ms) y = record { b = _; u = _; is = refl; begins = (refl, refl, refl) }

first_element : (es : JElements) (y : Bytes) → First (spell_elements es y)
unfolding spell_elements
first_element (last_element v w) y = first_value v _
first_element (element v w u es) y = first_value v _

first_member : (ms : JMembers) (y : Bytes) → First (spell_members ms y)
unfolding spell_members is_white
first_member (last_member n w u v x) y = record { b = _; u = _; is = refl; begins = (refl, refl, refl) }
first_member (jmember n w u v x z ms) y = record { b = _; u = _; is = refl; begins = (refl, refl, refl) }

pub not_white : {t : Bytes} → First t → NotWhite t
not_white g = subst NotWhite (sym g.is) g.begins.0

-- Closing brackets and the comma are no white space, and end a number.
mark_here : (is_white 0x5D ≡ false) × (is_white 0x7D ≡ false) × (is_white 0x2C ≡ false)
unfolding is_white
mark_here = (refl, refl, refl)

mark_ends : EndsNumber 0x5D × EndsNumber 0x7D × EndsNumber 0x2C
unfolding is_digit within is_part is_point is_e
mark_ends = ((refl, refl), (refl, refl), (refl, refl))

-- The steps that are left, one at least.
pub one_more : (P : ℕ → Type 0) (f : ℕ) → 1 ≤ f → ((g : ℕ) → f ≡ suc g → P (suc g)) → P f
one_more P zero h k = absurd (omega arith)
one_more P (suc f) h k = k f refl

-- ---- where a value begins
abbrev pub body_of : ℕ → ℕ → ℕ → Start → Parser Value
body_of f row depth x =
    on_start x literal (eat (Read.int true)) (Read.int false)
    (quoted f >>= λ bs. eat (give (scalar (string bs))))
    (eat (white (peek >>= λ c. if (eqb c 0x5D) (eat (give (array no_items))) (λ u q. then (items f (suc row) (suc depth) u q) (λ vs. give (array vs))))))
    (eat (white (peek >>= λ c. if (eqb c 0x7D) (eat (give (object no_members))) (λ u q. then (members f (suc row) (suc depth) [] u q) (λ ms. give (object ms))))))

begin_meets :
    (f row depth : ℕ) (y : Bytes) (N at b : ℕ) (u : Bytes) (o : Option Value) (x : Start) (fs : List Fault) → start_of row depth b ≡ counted row x
    → Meets fs o y N (body_of f row depth x (b ∷ u) at) → Meets (many_at row at ++ fs) o y N (value (suc f) row depth (b ∷ u) at)
unfolding value then peek on_start fail many_at counted
begin_meets f row depth y N at b u o x fs i h = subst (λ z. Meets (many_at row at ++ fs) o y N (body_of f row depth z (b ∷ u) at)) (sym i) (go (leb max_values row))
  where
    go : (c : Bool) → Meets (elim c [ true ↦ fault TooLarge at ∷ [] | false ↦ [] ] ++ fs) o y N (body_of f row depth (elim c [ true ↦ TooMuch | false ↦ x ]) (b ∷ u) at)
    go true = (lit≤ tt, (fs, refl))
    go false = h

-- A value after whose first byte no fault can come.
plain_meets :
    (f row depth : ℕ) (y : Bytes) (N at b : ℕ) (u : Bytes) (o : Option Value) (x : Start) → start_of row depth b ≡ counted row x
    → Meets [] o y N (body_of f row depth x (b ∷ u) at) → Meets (many_at row at) o y N (value (suc f) row depth (b ∷ u) at)
plain_meets f row depth y N at b u o x i h = meets_as (many_at row at) (many_at row at ++ []) o o y N (value (suc f) row depth (b ∷ u) at) (sym (append-nil (many_at row at))) refl (begin_meets f row depth y N at b u o x [] i h)

deep_meets :
    (f row depth : ℕ) (y : Bytes) (N at b : ℕ) (u : Bytes) (o : Option Value) (x : Start) (fs : List Fault) → Meets fs o y N (body_of f row depth x (b ∷ u) at)
    → Meets (deep_at depth at ++ fs) o y N (body_of f row depth (nested depth x) (b ∷ u) at)
unfolding on_start fail deep_at nested
deep_meets f row depth y N at b u o x fs h = go (leb max_nesting depth)
  where
    go : (c : Bool) → Meets (elim c [ true ↦ fault TooLarge at ∷ [] | false ↦ [] ] ++ fs) o y N (body_of f row depth (elim c [ true ↦ TooMuch | false ↦ x ]) (b ∷ u) at)
    go true = (lit≤ tt, (fs, refl))
    go false = h

deep_plain : (f row depth : ℕ) (y : Bytes) (N at b : ℕ) (u : Bytes) (o : Option Value) (x : Start) → Meets [] o y N (body_of f row depth x (b ∷ u) at) → Meets (deep_at depth at) o y N (body_of f row depth (nested depth x) (b ∷ u) at)
deep_plain f row depth y N at b u o x h = meets_as (deep_at depth at) (deep_at depth at ++ []) o o y N (body_of f row depth (nested depth x) (b ∷ u) at) (sym (append-nil (deep_at depth at))) refl (deep_meets f row depth y N at b u o x [] h)

-- ---- arrays and objects alike
module _ {A : Type 0} (close : ℕ) (nil : Value) (wrap : A → Value) (m : Parser A) where
  -- From after the opening bracket on.
  abbrev inside : Parser Value
  inside = white (peek >>= λ c. if (eqb c close) (eat (give nil)) (λ u q. then (m u q) (λ a. give (wrap a))))

  empty_meets : (w : Ws) (y : Bytes) (N at : ℕ) → is_white close ≡ false → at + length (spell_ws w (close ∷ y)) ≡ N → Meets [] (Some nil) y N (inside (spell_ws w (close ∷ y)) at)
  unfolding ◌>>=◌ then peek eat give
  empty_meets w y N at h e =
      white_run (Meets [] (Some nil) y N) _ w (close ∷ y) at N h e
      (λ q i. if_true (Meets [] (Some nil) y N) (close ∷ y) q (eqb close close) _ _ (eq-eqb close close refl) (refl, refl, refl, omega (arith, i)))

  filled_meets :
      (fs : List Fault) (o : Option A) (w : Ws) (t y : Bytes) (N at : ℕ) → (g : First t) → eqb g.b close ≡ false → at + length (spell_ws w t) ≡ N
      → ((q : ℕ) → q + length t ≡ N → Meets fs o y N (m t q)) → Meets fs (map wrap o) y N (inside (spell_ws w t) at)
  unfolding ◌>>=◌ give map
  filled_meets fs o w t y N at g h e f =
      white_run Q _ w t at N (not_white g) e (λ q i.
      peek_at Q t q g.b g.u _ g.is (if_false Q t q (eqb g.b close) _ _ h
      (meets_last o (map wrap o) y y N fs (m t q) _ (f q i) (λ a p j k. (refl, ap (map wrap) j, refl, k)))))
    where
      Q : Parsed Value → Type 0
      Q = Meets fs (map wrap o) y N

module _ {A : Type 0} (close : ℕ) (one : A) (m : Parser A) where
  -- After an item or a member.
  abbrev after : Parser A
  after = white (peek >>= λ b. on_separator (separator_of close b) (eat (white m)) (eat (give one)))

  last_meets : (o : Option A) (w : Ws) (y : Bytes) (N at : ℕ) → o ≡ Some one → is_white close ≡ false → separator_of close close ≡ Close → at + length (spell_ws w (close ∷ y)) ≡ N → Meets [] o y N (after (spell_ws w (close ∷ y)) at)
  unfolding ◌>>=◌ then peek on_separator eat give
  last_meets o w y N at j h c e =
      white_run (Meets [] o y N) _ w (close ∷ y) at N h e
      (λ q i. subst (λ z. Meets [] o y N (on_separator z (eat (white m)) (eat (give one)) (close ∷ y) q)) (sym c) (refl, j, refl, omega (arith, i)))

  more_meets : (Q : Parsed A → Type 0) (w u : Ws) (t : Bytes) (N at : ℕ) → NotWhite t → at + length (spell_ws w (0x2C ∷ spell_ws u t)) ≡ N → ((q : ℕ) → q + length t ≡ N → Q (m t q)) → Q (after (spell_ws w (0x2C ∷ spell_ws u t)) at)
  unfolding ◌>>=◌ then peek on_separator eat separator_of
  more_meets Q w u t N at h e f = white_run Q _ w (0x2C ∷ spell_ws u t) at N mark_here.2 e (λ q i. white_run Q m u t (suc q) N h (omega (arith, i)) f)

closes : (separator_of 0x5D 0x5D ≡ Close) × (separator_of 0x7D 0x7D ≡ Close)
unfolding separator_of
closes = (refl, refl)

-- ---- values
number_meets :
    (negative : Bool) (i : Int) (fr : Frac) (ex : Exp) (f row depth N : ℕ) (y : Bytes) (at : ℕ) → Stops y
    → at + length (spell_minus negative (spell_int i (spell_frac fr (spell_exp ex y)))) ≡ N
    → Meets (many_at row at ++ faults_number i fr ex (at + length (spell_minus negative []))) (plain negative (int_number i) fr ex) y N (value (suc f) row depth (spell_minus negative (spell_int i (spell_frac fr (spell_exp ex y)))) at)
unfolding spell_minus spell_int on_start eat start_of is_digit within
number_meets true i fr ex f row depth N y at h e =
    begin_meets f row depth y N at 0x2D _ _ Minus _ refl
    (subst (λ p. Meets (faults_number i fr ex p) (plain true (int_number i) fr ex) y N (Read.int true (spell_int i (spell_frac fr (spell_exp ex y))) (suc at))) (omega arith) (int_meets i fr ex true N y (suc at) h (omega (arith, e))))
number_meets false zero_int fr ex f row depth N y at h e =
    begin_meets f row depth y N at 0x30 _ _ Digit _ refl
    (subst (λ p. Meets (faults_number zero_int fr ex p) (plain false (int_number zero_int) fr ex) y N (Read.int false (spell_int zero_int (spell_frac fr (spell_exp ex y))) at)) (omega arith) (int_meets zero_int fr ex false N y at h e))
number_meets false (int b k ds) fr ex f row depth N y at h e =
    begin_meets f row depth y N at b _ _ Digit _ (digit_starts row depth b (positive_digit b k))
    (subst (λ p. Meets (faults_number (int b k ds) fr ex p) (plain false (int_number (int b k ds)) fr ex) y N (Read.int false (spell_int (int b k ds) (spell_frac fr (spell_exp ex y))) at)) (omega arith) (int_meets (int b k ds) fr ex false N y at h e))

string_meets :
    (f : ℕ) (cs : Chars) (N : ℕ) (y : Bytes) (at : ℕ) → length (spell_chars cs (0x22 ∷ y)) ≤ f → at + length (spell_chars cs (0x22 ∷ y)) ≡ N
    → Meets (faults_chars cs None at) (map (λ s. scalar (string s)) (chars_meaning cs None)) y N (then (chars f clear (spell_chars cs (0x22 ∷ y)) at) (λ bs. eat (give (scalar (string bs)))))
unfolding eat give map
string_meets f cs N y at l e =
    meets_last (chars_meaning cs None) (map (λ s. scalar (string s)) (chars_meaning cs None)) (0x22 ∷ y) y N (faults_chars cs None at) (chars f clear (spell_chars cs (0x22 ∷ y)) at) _ (chars_meet f cs clear N y at l e)
    (λ a q i j. (refl, ap (map (λ s. scalar (string s))) i, refl, omega (arith, j)))

map₂_is : {A B C : Type 0} (f : A → B → C) (o : Option A) (a : A) (p : Option B) → o ≡ Some a → map₂ f o p ≡ map (f a) p
unfolding map₂ map
map₂_is f o a None i = ap (λ z. map₂ f z None) i
map₂_is f o a (Some b) i = ap (λ z. map₂ f z (Some b)) i

member_is : (o : Option Bytes) (n : Bytes) (p : Option Value) (v : Value) (r : Option Members) → o ≡ Some n → p ≡ Some v → member_of o p r ≡ map (member n v) r
unfolding member_of map
member_is o n p v None i j = ap (λ z. member_of z p None) i ∙ ap (λ z. member_of (Some n) z None) j
member_is o n p v (Some ms) i j = ap (λ z. member_of z p (Some ms)) i ∙ ap (λ z. member_of (Some n) z (Some ms)) j

some_mapped : {A B : Type 0} (f : A → B) (o : Option A) (a : A) → o ≡ Some a → map f o ≡ Some (f a)
unfolding map
some_mapped f o a i = ap (map f) i

mutual
  unfolding spell_value value_meaning value eat quoted ◌>>=◌ on_start literal expect if fail give faults_value start_of is_digit within

  pub value_meets :
      (d : JValue) (f row depth N : ℕ) (y : Bytes) (at : ℕ) → 2 * length (spell_value d y) ≤ f → Stops y → at + length (spell_value d y) ≡ N
      → Meets (faults_value d row depth at) (value_meaning d) y N (value (suc f) row depth (spell_value d y) at)
  value_meets jtrue f row depth N y at l h e = plain_meets f row depth y N at 0x74 _ _ (Literal TrueWord) refl (refl, refl, refl, omega (arith, e))
  value_meets jfalse f row depth N y at l h e = plain_meets f row depth y N at 0x66 _ _ (Literal FalseWord) refl (refl, refl, refl, omega (arith, e))
  value_meets jnull f row depth N y at l h e = plain_meets f row depth y N at 0x6E _ _ (Literal NullWord) refl (refl, refl, refl, omega (arith, e))
  value_meets (jnumber negative i fr ex) f row depth N y at l h e = number_meets negative i fr ex f row depth N y at h e
  value_meets (jstring cs) f row depth N y at l h e = begin_meets f row depth y N at 0x22 _ _ Quote _ refl (string_meets f cs N y (suc at) (omega (arith, l)) (omega (arith, e)))
  value_meets (jempty_array w) f row depth N y at l h e =
      begin_meets f row depth y N at 0x5B _ _ (nested depth Bracket) _ refl (deep_plain f row depth y N at 0x5B _ _ Bracket (empty_meets 0x5D (array no_items) array _ w y N (suc at) mark_here.0 (omega (arith, e))))
  value_meets (jarray w es) f row depth N y at l h e =
      let g = first_element es y in
      begin_meets f row depth y N at 0x5B _ _ (nested depth Bracket) _ refl (deep_meets f row depth y N at 0x5B _ _ Bracket _
      (filled_meets 0x5D (array no_items) array (λ x q. items f (suc row) (suc depth) x q) (faults_elements es (suc row) (suc depth) (at + length (0x5B ∷ spell_ws w []))) (elements_meaning es) w (spell_elements es y) y N (suc at) g g.begins.1 (omega (arith, e))
      (λ q i. one_more (λ k. Meets (faults_elements es (suc row) (suc depth) (at + length (0x5B ∷ spell_ws w []))) (elements_meaning es) y N (items k (suc row) (suc depth) (spell_elements es y) q)) f (omega (arith, l))
      (λ k j. subst (λ p. Meets (faults_elements es (suc row) (suc depth) p) (elements_meaning es) y N (items (suc k) (suc row) (suc depth) (spell_elements es y) q)) (omega (arith, e, i, spelled_length (ws_keeps w) (spell_elements es y)))
      (items_meet es k (suc row) (suc depth) N y q (omega (arith, l, j, spelled_longer (ws_keeps w) (spell_elements es y))) i)))))
  value_meets (jempty_object w) f row depth N y at l h e =
      begin_meets f row depth y N at 0x7B _ _ (nested depth Brace) _ refl (deep_plain f row depth y N at 0x7B _ _ Brace (empty_meets 0x7D (object no_members) object _ w y N (suc at) mark_here.1 (omega (arith, e))))
  value_meets (jobject w ms) f row depth N y at l h e =
      let g = first_member ms y in
      begin_meets f row depth y N at 0x7B _ _ (nested depth Brace) _ refl (deep_meets f row depth y N at 0x7B _ _ Brace _
      (filled_meets 0x7D (object no_members) object (λ x q. members f (suc row) (suc depth) [] x q) (faults_members ms (suc row) (suc depth) [] (at + length (0x7B ∷ spell_ws w []))) (members_meaning ms []) w (spell_members ms y) y N (suc at) g g.begins.2 (omega (arith, e))
      (λ q i. one_more (λ k. Meets (faults_members ms (suc row) (suc depth) [] (at + length (0x7B ∷ spell_ws w []))) (members_meaning ms []) y N (members k (suc row) (suc depth) [] (spell_members ms y) q)) f (omega (arith, l))
      (λ k j. subst (λ p. Meets (faults_members ms (suc row) (suc depth) [] p) (members_meaning ms []) y N (members (suc k) (suc row) (suc depth) [] (spell_members ms y) q)) (omega (arith, e, i, spelled_length (ws_keeps w) (spell_members ms y)))
      (members_meet ms k (suc row) (suc depth) [] N y q (omega (arith, l, j, spelled_longer (ws_keeps w) (spell_members ms y))) i)))))

  items_meet :
      (es : JElements) (f row depth N : ℕ) (y : Bytes) (at : ℕ) → 2 * length (spell_elements es y) + 1 ≤ f → at + length (spell_elements es y) ≡ N
      → Meets (faults_elements es row depth at) (elements_meaning es) y N (items (suc f) row depth (spell_elements es y) at)
  items_meet (last_element d w) f row depth N y at l e =
      let z = spell_ws w (0x5D ∷ y) in
      meets_last (value_meaning d) (map (λ x. item x no_items) (value_meaning d)) z y N (faults_value d row depth at) (value f row depth (spell_value d z) at) _
      (one_more (λ k. Meets (faults_value d row depth at) (value_meaning d) z N (value k row depth (spell_value d z) at)) f (omega (arith, l)) (λ k j. value_meets d k row depth N z at (omega (arith, l, j)) (stops_ws w (0x5D ∷ y) mark_ends.0) e))
      (λ a q i j. last_meets 0x5D (item a no_items) (λ x r. then (items f (row + value_count a) depth x r) (λ vs. give (item a vs))) (map (λ x. item x no_items) (value_meaning d)) w y N q (some_mapped (λ x. item x no_items) (value_meaning d) a i) mark_here.0 closes.0 j)
  items_meet (element d w u es) f row depth N y at l e =
      let z = spell_ws w (0x2C ∷ spell_ws u (spell_elements es y)) in
      let p = at + length (spell_value d (spell_ws w (0x2C ∷ spell_ws u []))) in
      let gs = faults_elements es (row + count_value d) depth p in
      let whole = map₂ item (value_meaning d) (elements_meaning es) in
      meets_then (value_meaning d) whole z y N (faults_value d row depth at) gs (value f row depth (spell_value d z) at) _
      (one_more (λ k. Meets (faults_value d row depth at) (value_meaning d) z N (value k row depth (spell_value d z) at)) f (omega (arith, l)) (λ k j. value_meets d k row depth N z at (omega (arith, l, j)) (stops_ws w (0x2C ∷ spell_ws u (spell_elements es y)) mark_ends.2) e))
      (λ a q i j. more_meets 0x5D (item a no_items) (λ x r. then (items f (row + value_count a) depth x r) (λ vs. give (item a vs))) (Meets gs whole y N) w u (spell_elements es y) N q (not_white (first_element es y)) j
      (λ r k. meets_last (elements_meaning es) whole y y N gs (items f (row + value_count a) depth (spell_elements es y) r) _
      (one_more (λ n. Meets gs (elements_meaning es) y N (items n (row + value_count a) depth (spell_elements es y) r)) f (omega (arith, l))
      (λ n t. subst (λ c. Meets gs (elements_meaning es) y N (items (suc n) (row + c) depth (spell_elements es y) r)) (sym (count_value_lem d a i))
      (subst (λ x. Meets (faults_elements es (row + count_value d) depth x) (elements_meaning es) y N (items (suc n) (row + count_value d) depth (spell_elements es y) r))
      (omega (arith, e, k, spelled_length (value_keeps d & ws_keeps w & byte 0x2C & ws_keeps u) (spell_elements es y)))
      (items_meet es n (row + count_value d) depth N y r (omega (arith, l, t, e, k, spelled_longer (value_keeps d) z, spelled_longer (ws_keeps w) (0x2C ∷ spell_ws u (spell_elements es y)), spelled_longer (ws_keeps u) (spell_elements es y))) k))))
      (λ vs n t c. (refl, map₂_is item (value_meaning d) a (elements_meaning es) i ∙ some_mapped (item a) (elements_meaning es) vs t, refl, c))))

  members_meet :
      (ms : JMembers) (f row depth : ℕ) (seen : List Bytes) (N : ℕ) (y : Bytes) (at : ℕ) → 2 * length (spell_members ms y) + 1 ≤ f → at + length (spell_members ms y) ≡ N
      → Meets (faults_members ms row depth seen at) (members_meaning ms seen) y N (members (suc f) row depth seen (spell_members ms y) at)
  members_meet (last_member n w u d x) f row depth seen N y at l e =
      let c = spell_ws x (0x7D ∷ y) in
      let z = spell_ws u (spell_value d c) in
      let o = fresh seen (chars_meaning n None) in
      let p = at + length (0x22 ∷ spell_chars n (0x22 ∷ spell_ws w (0x3A ∷ spell_ws u []))) in
      let gs = faults_value d row depth p in
      let whole = member_of o (value_meaning d) (Some no_members) in
      meets_then o whole z y N (faults_name seen n (suc at)) gs (name f seen (0x22 ∷ spell_chars n (0x22 ∷ spell_ws w (0x3A ∷ z))) at) _
      (name_meets f seen N n w z at (omega (arith, l)) (omega (arith, e)))
      (λ a q i j. white_run (Meets gs whole y N) _ u (spell_value d c) q N (not_white (first_value d c)) j
      (λ r k. meets_last (value_meaning d) whole c y N gs (value f row depth (spell_value d c) r) _
      (one_more (λ g. Meets gs (value_meaning d) c N (value g row depth (spell_value d c) r)) f (omega (arith, l))
      (λ g t. subst (λ v. Meets (faults_value d row depth v) (value_meaning d) c N (value (suc g) row depth (spell_value d c) r))
      (omega (arith, e, k, spelled_length (name_keeps (record { cs = n; w = w }) & ws_keeps u) (spell_value d c)))
      (value_meets d g row depth N c r (omega (arith, l, t, spelled_longer (name_keeps (record { cs = n; w = w }) & ws_keeps u) (spell_value d c))) (stops_ws x (0x7D ∷ y) mark_ends.1) k)))
      (λ v g t h. last_meets 0x7D (member a v no_members) (λ b m. then (members f (row + value_count v) depth (seen ++ (a ∷ [])) b m) (λ ms. give (member a v ms))) whole x y N g
      (member_is o a (value_meaning d) v (Some no_members) i t ∙ some_mapped (member a v) (Some no_members) no_members refl) mark_here.1 closes.1 h)))
  members_meet (jmember n w u d x z₁ ms) f row depth seen N y at l e =
      let c = spell_ws x (0x2C ∷ spell_ws z₁ (spell_members ms y)) in
      let z = spell_ws u (spell_value d c) in
      let o = fresh seen (chars_meaning n None) in
      let p = at + length (0x22 ∷ spell_chars n (0x22 ∷ spell_ws w (0x3A ∷ spell_ws u []))) in
      let p₂ = at + length (0x22 ∷ spell_chars n (0x22 ∷ spell_ws w (0x3A ∷ spell_ws u (spell_value d (spell_ws x (0x2C ∷ spell_ws z₁ [])))))) in
      let seen₂ = seen_with seen (chars_meaning n None) in
      let hs = faults_members ms (row + count_value d) depth seen₂ p₂ in
      let gs = faults_value d row depth p ++ hs in
      let whole = member_of o (value_meaning d) (members_meaning ms seen₂) in
      let front = name_keeps (record { cs = n; w = w }) & ws_keeps u in
      meets_then o whole z y N (faults_name seen n (suc at)) gs (name f seen (0x22 ∷ spell_chars n (0x22 ∷ spell_ws w (0x3A ∷ z))) at) _
      (name_meets f seen N n w z at (omega (arith, l)) (omega (arith, e)))
      (λ a q i j. white_run (Meets gs whole y N) _ u (spell_value d c) q N (not_white (first_value d c)) j
      (λ r k. meets_then (value_meaning d) whole c y N (faults_value d row depth p) hs (value f row depth (spell_value d c) r) _
      (one_more (λ g. Meets (faults_value d row depth p) (value_meaning d) c N (value g row depth (spell_value d c) r)) f (omega (arith, l))
      (λ g t. subst (λ v. Meets (faults_value d row depth v) (value_meaning d) c N (value (suc g) row depth (spell_value d c) r)) (omega (arith, e, k, spelled_length front (spell_value d c)))
      (value_meets d g row depth N c r (omega (arith, l, t, spelled_longer front (spell_value d c))) (stops_ws x (0x2C ∷ spell_ws z₁ (spell_members ms y)) mark_ends.2) k)))
      (λ v g t h. more_meets 0x7D (member a v no_members) (λ b m. then (members f (row + value_count v) depth (seen ++ (a ∷ [])) b m) (λ ms. give (member a v ms))) (Meets hs whole y N) x z₁ (spell_members ms y) N g (not_white (first_member ms y)) h
      (λ m b. meets_last (members_meaning ms seen₂) whole y y N hs (members f (row + value_count v) depth (seen ++ (a ∷ [])) (spell_members ms y) m) _
      (one_more (λ g. Meets hs (members_meaning ms seen₂) y N (members g (row + value_count v) depth (seen ++ (a ∷ [])) (spell_members ms y) m)) f (omega (arith, l))
      (λ g s. subst (λ k. Meets hs (members_meaning ms seen₂) y N (members (suc g) (row + value_count v) depth k (spell_members ms y) m)) (seen_fresh seen (chars_meaning n None) a i)
      (subst (λ k. Meets hs (members_meaning ms seen₂) y N (members (suc g) (row + k) depth seen₂ (spell_members ms y) m)) (sym (count_value_lem d v t))
      (subst (λ k. Meets (faults_members ms (row + count_value d) depth seen₂ k) (members_meaning ms seen₂) y N (members (suc g) (row + count_value d) depth seen₂ (spell_members ms y) m))
      (omega (arith, e, b, spelled_length (front & value_keeps d & ws_keeps x & byte 0x2C & ws_keeps z₁) (spell_members ms y)))
      (members_meet ms g (row + count_value d) depth seen₂ N y m (omega (arith, l, s, spelled_longer (front & value_keeps d & ws_keeps x) (0x2C ∷ spell_ws z₁ (spell_members ms y)), spelled_longer (ws_keeps z₁) (spell_members ms y))) b)))))
      (λ vs q s r. (refl, member_is o a (value_meaning d) v (members_meaning ms seen₂) i t ∙ some_mapped (member a v) (members_meaning ms seen₂) vs s, refl, r))))))

-- ---- texts
abbrev pub TextMeets : JText → Parsed Value → Type 0
TextMeets d (ok v u q) = (faults d ≡ []) × (meaning d ≡ Some v)
TextMeets d (bad k p) = (3 ≤ read_number k) × ((rest : List Fault) × (faults d ≡ fault k p ∷ rest))

pub text_meets : (d : JText) (f : ℕ) → 2 * length (spell d) ≤ f → TextMeets d (text (suc f) (spell d) 0)
unfolding text spell meaning ◌>>=◌ faults ended
text_meets (jtext w d u) f l =
    white_run (TextMeets (jtext w d u)) _ w (spell_value d (spell_ws u [])) 0 N (not_white (first_value d (spell_ws u []))) (omega arith) (λ q i.
    let place : q ≡ length (spell_ws w []) = omega (arith, i, spelled_length (ws_keeps w) (spell_value d (spell_ws u []))) in
    then_law (TextMeets (jtext w d u)) (Meets (faults_value d 0 0 (length (spell_ws w []))) (value_meaning d) (spell_ws u []) N) (value (suc f) 0 0 (spell_value d (spell_ws u [])) q) _
    (subst (λ p. Meets (faults_value d 0 0 p) (value_meaning d) (spell_ws u []) N (value (suc f) 0 0 (spell_value d (spell_ws u [])) q)) place
    (value_meets d f 0 0 N (spell_ws u []) q (omega (arith, l, spelled_longer (ws_keeps w) (spell_value d (spell_ws u [])))) (stops_ws u [] tt) i))
    (λ v x p h. subst (λ z. TextMeets (jtext w d u) (white (ended v) z p)) (sym h.2) (white_run (TextMeets (jtext w d u)) (ended v) u [] p N tt h.3 (λ r j. (h.0, h.1))))
    (λ k p h. h))
  where
    N : ℕ
    N = length (spell_ws w (spell_value d (spell_ws u [])))

-- Of a text of RFC 8259 that is not over-long.
pub first_fault : (d : JText) → length (spell d) ≤ max_text_bytes → FirstFault d (read (spell d))
unfolding read answer
first_fault d l = go (ltb max_text_bytes (length (spell d))) refl
  where
    fine : (r : Parsed Value) → TextMeets d r → FirstFault d (answer r)
    fine (ok v u q) h = h
    fine (bad k p) h = h.1

    go : (b : Bool) → ltb max_text_bytes (length (spell d)) ≡ b → FirstFault d (elim b [ true ↦ refuse TooLarge max_text_bytes | false ↦ answer (text (2 * length (spell d) + 1) (spell d) 0) ])
    go true e = absurd (let x = ltb-true max_text_bytes (length (spell d)) e in omega arith)
    go false e = fine (text (2 * length (spell d) + 1) (spell d) 0) (one_more (λ z. TextMeets d (text z (spell d) 0)) (2 * length (spell d) + 1) (omega arith) (λ g i. text_meets d g (omega (arith, i))))
