-- Complete: a text of RFC 8259 with a meaning in our domain, within the limits, has no fault, and so reads as that meaning. None is refused with 2.
use Rattle.std.specs.Prelude.{◌≡◌, refl, Bool, true, false, List, [], ◌∷◌, ◌++◌, ℕ, suc, ◌+◌, ◌*◌, ◌≤◌, ◌<◌, leb, ltb, length}
use Rattle.std.proofs.Common.{sym, subst, ap, ◌∙◌, arith, leb-true, le-leb, ltb-true, lit≤}
use Rattle.std.specs.Prelude.{Option, None, Some}
use Rattle.std.proofs.lemmas.Bool.{lt-leb}
use Rattle.model.specs.Bytes.{Bytes}
use Rattle.model.proofs.Laws.Option.{none_some}
use Rattle.model.specs.Limits.{max_text_bytes, max_values, max_nesting, max_integer}
use Rattle.model.specs.Refusal.{read_number}
use Rattle.model.specs.declared.refusal.ReadFault.TheVariants.{NotJson, TooLarge}
use Rattle.model.specs.Size.{value_count, items_count, members_count, nesting, items_nesting, members_nesting}
use Rattle.model.specs.Value.{Value, scalar, array, object, string, Values, no_items, item, Members, no_members}
use Rattle.syntax.specs.declared.Unit.{Unit}
use Rattle.syntax.specs.declared.Unit.TheVariants.{Plain, High, Low}
use Rattle.syntax.specs.Faults.{Fault, fault, faults_digits, faults_int, faults_frac, faults_exp, faults_number, alone_high, alone_low, faults_chars, faults_name, many_at, deep_at, count_value, faults_value, faults_elements, faults_members, faults}
use Rattle.syntax.specs.Grammar.{Digits, no_digits, digit, Int, zero_int, int, Frac, no_frac, frac, Exp, no_exp, exp, Chars, no_chars, unescaped, escaped, code_unit_lem, JValue, jtrue, jfalse, jnull, jnumber, jstring, jempty_array, jarray, jempty_object, jobject, JElements, last_element, element, JMembers, last_member, jmember, JText, jtext, spell, digits_number, int_number, limited, plain, tail_bytes, hex_number, chars_meaning, fresh, seen_with, value_meaning, elements_meaning, members_meaning, meaning}
use Rattle.syntax.specs.Read.{Parsed, ok, bad, signed, Pending, clear, high, text, Read, done, refuse, answer, read}
use Rattle.syntax.specs.Tokens.{digit_value}
use Rattle.syntax.specs.Utf8.{utf8, unit_of, pair_of}
use Rattle.syntax.proofs.Laws.Faults.{one_more, TextMeets, text_meets}
use Rattle.syntax.proofs.Laws.FaultStrings.{unit_faults_plain, unit_faults_high, unit_faults_low, unit_means_plain, unit_means_high, unit_means_low, unit_means_nothing, plain_means_nothing, high_means_nothing, backslash_of, repeated_no}
use Rattle.syntax.proofs.Laws.Layout.{count_positive}
use Rattle.syntax.proofs.Laws.Meaning.{some_is, map_some, map₂_some, member_some, fresh_some, count_value_lem}
use Rattle.syntax.proofs.Laws.SoundStrings.{waiting}

append_none : {fs gs : List Fault} → fs ≡ [] → gs ≡ [] → fs ++ gs ≡ []
append_none {fs} {gs} h k = ap (λ l. l ++ gs) h ∙ k

-- ---- numbers
number_grows : (n : ℕ) (ds : Digits) → n ≤ digits_number n ds
unfolding digits_number
number_grows n no_digits = omega arith
number_grows n (digit b h ds) = omega (arith, number_grows (n * 10 + digit_value b) ds)

digits_faultless : (n : ℕ) (ds : Digits) (at : ℕ) → digits_number n ds ≤ max_integer → faults_digits n ds at ≡ []
unfolding digits_number faults_digits
digits_faultless n no_digits at l = refl
digits_faultless n (digit b h ds) at l =
    let m = n * 10 + digit_value b in
    rw (le-leb m max_integer (omega (arith, l, number_grows m ds)), faults_digits) (digits_faultless m ds (suc at) l)

int_faultless : (i : Int) (at : ℕ) → int_number i ≤ max_integer → faults_int i at ≡ []
unfolding int_number faults_int
int_faultless zero_int at l = refl
int_faultless (int b h ds) at l = digits_faultless (digit_value b) ds (suc at) l

limited_in : (negative : Bool) (n : ℕ) (v : Value) → limited negative n ≡ Some v → n ≤ max_integer
unfolding limited
limited_in negative n v e = go (leb n max_integer) refl e
  where
    go : (b : Bool) → leb n max_integer ≡ b → ◌≡◌ {A = Option Value} (elim b [ true ↦ Some (signed negative n) | false ↦ None ]) (Some v) → n ≤ max_integer
    go true i e = leb-true n max_integer i
    go false i e = none_some e

pub number_faultless : (negative : Bool) (i : Int) (fr : Frac) (ex : Exp) (v : Value) (at : ℕ) → plain negative (int_number i) fr ex ≡ Some v → faults_number i fr ex at ≡ []
unfolding plain faults_number faults_frac faults_exp
number_faultless negative i no_frac no_exp v at e = append_none (int_faultless i at (limited_in negative (int_number i) v e)) refl
number_faultless negative i no_frac (exp x h s b k ds) v at e = none_some e
number_faultless negative i (frac b h ds) ex v at e = none_some e

-- ---- strings
pub chars_faultless : (cs : Chars) (w : Pending) (bs : Bytes) (at : ℕ) → chars_meaning cs (waiting w) ≡ Some bs → faults_chars cs (backslash_of w) at ≡ []
unfolding chars_meaning faults_chars alone_high alone_low
chars_faultless no_chars clear bs at e = refl
chars_faultless no_chars (high v p) bs at e = none_some e
chars_faultless (unescaped b n lo hi h ts cs) clear bs at e = let x = map_some (λ s. (b ∷ tail_bytes ts) ++ s) (chars_meaning cs None) e in chars_faultless cs clear x.0 (at + suc n) x.1
chars_faultless (unescaped b n lo hi h ts cs) (high v p) bs at e = none_some e
chars_faultless (escaped b d h cs) clear bs at e = let x = map_some (λ s. (d ∷ []) ++ s) (chars_meaning cs None) e in chars_faultless cs clear x.0 (at + 2) x.1
chars_faultless (escaped b d h cs) (high v p) bs at e = none_some e
chars_faultless (code_unit_lem hs cs) clear bs at e = go (unit_of (hex_number 0 hs)) refl (λ w bs i. chars_faultless cs w bs (at + 6) i)
  where
    go : (x : Unit) → unit_of (hex_number 0 hs) ≡ x → ((w : Pending) (bs : Bytes) → chars_meaning cs (waiting w) ≡ Some bs → faults_chars cs (backslash_of w) (at + 6) ≡ []) → faults_chars (code_unit_lem hs cs) None at ≡ []
    go Plain h f = let x = map_some (λ s. utf8 (hex_number 0 hs) ++ s) (chars_meaning cs None) (sym (unit_means_plain hs cs h) ∙ e) in unit_faults_plain hs cs None at h ∙ f clear x.0 x.1
    go High h f = unit_faults_high hs cs None at h ∙ f (high (hex_number 0 hs) at) bs (sym (unit_means_high hs cs h) ∙ e)
    go Low h f = none_some (sym (unit_means_nothing hs cs h) ∙ e)
chars_faultless (code_unit_lem hs cs) (high v p) bs at e = go (unit_of (hex_number 0 hs)) refl (λ w bs i. chars_faultless cs w bs (at + 6) i)
  where
    go : (x : Unit) → unit_of (hex_number 0 hs) ≡ x → ((w : Pending) (bs : Bytes) → chars_meaning cs (waiting w) ≡ Some bs → faults_chars cs (backslash_of w) (at + 6) ≡ []) → faults_chars (code_unit_lem hs cs) (Some p) at ≡ []
    go Plain h f = none_some (sym (plain_means_nothing hs cs v h) ∙ e)
    go High h f = none_some (sym (high_means_nothing hs cs v h) ∙ e)
    go Low h f = let x = map_some (λ s. utf8 (pair_of v (hex_number 0 hs)) ++ s) (chars_meaning cs None) (sym (unit_means_low hs cs v h) ∙ e) in unit_faults_low hs cs (Some p) at h ∙ f clear x.0 x.1

pub name_faultless : (seen : List Bytes) (cs : Chars) (n : Bytes) (at : ℕ) → fresh seen (chars_meaning cs None) ≡ Some n → faults_name seen cs at ≡ []
unfolding faults_name
name_faultless seen cs n at e =
    let x = fresh_some seen (chars_meaning cs None) n e in
    append_none (chars_faultless cs clear n at x.0) (repeated_no seen (chars_meaning cs None) n _ x.0 x.1)

-- ---- values
few_faultless : (row at : ℕ) → row < max_values → many_at row at ≡ []
unfolding many_at
few_faultless row at l = rw (lt-leb max_values row l, many_at)

flat_faultless : (depth at : ℕ) → depth < max_nesting → deep_at depth at ≡ []
unfolding deep_at
flat_faultless depth at l = rw (lt-leb max_nesting depth l, deep_at)

mutual
  unfolding value_meaning faults_value value_count nesting

  value_faultless : (d : JValue) (v : Value) (row depth at : ℕ) → value_meaning d ≡ Some v → row + value_count v ≤ max_values → depth + nesting v ≤ max_nesting → faults_value d row depth at ≡ []
  value_faultless jtrue v row depth at e r s = few_faultless row at (omega (arith, r, count_positive v))
  value_faultless jfalse v row depth at e r s = few_faultless row at (omega (arith, r, count_positive v))
  value_faultless jnull v row depth at e r s = few_faultless row at (omega (arith, r, count_positive v))
  value_faultless (jnumber negative i fr ex) v row depth at e r s = append_none (few_faultless row at (omega (arith, r, count_positive v))) (number_faultless negative i fr ex v _ e)
  value_faultless (jstring cs) v row depth at e r s =
      let x = map_some (λ b. scalar (string b)) (chars_meaning cs None) e in
      append_none (few_faultless row at (omega (arith, r, count_positive v))) (chars_faultless cs clear x.0 (suc at) x.1)
  value_faultless (jempty_array w) v row depth at e r s =
      let i = ap nesting (some_is e) in
      append_none (few_faultless row at (omega (arith, r, count_positive v))) (flat_faultless depth at (omega (arith, s, i)))
  value_faultless (jarray w es) v row depth at e r s =
      let x = map_some array (elements_meaning es) e in
      let i = ap nesting x.2 in
      let j = ap value_count x.2 in
      append_none (few_faultless row at (omega (arith, r, count_positive v))) (append_none (flat_faultless depth at (omega (arith, s, i))) (elements_faultless es x.0 (suc row) (suc depth) _ x.1 (omega (arith, r, j)) (omega (arith, s, i))))
  value_faultless (jempty_object w) v row depth at e r s =
      let i = ap nesting (some_is e) in
      append_none (few_faultless row at (omega (arith, r, count_positive v))) (flat_faultless depth at (omega (arith, s, i)))
  value_faultless (jobject w ms) v row depth at e r s =
      let x = map_some object (members_meaning ms []) e in
      let i = ap nesting x.2 in
      let j = ap value_count x.2 in
      append_none (few_faultless row at (omega (arith, r, count_positive v))) (append_none (flat_faultless depth at (omega (arith, s, i))) (members_faultless ms x.0 (suc row) (suc depth) [] _ x.1 (omega (arith, r, j)) (omega (arith, s, i))))

  elements_faultless : (es : JElements) (vs : Values) (row depth at : ℕ) → elements_meaning es ≡ Some vs → row + items_count vs ≤ max_values → depth + items_nesting vs ≤ max_nesting → faults_elements es row depth at ≡ []
  elements_faultless (last_element d w) vs row depth at e r s =
      let x = map_some (λ z. item z no_items) (value_meaning d) e in
      let i = ap items_count x.2 in
      let j = ap items_nesting x.2 in
      value_faultless d x.0 row depth at x.1 (omega (arith, r, i)) (omega (arith, s, j))
  elements_faultless (element d w u es) vs row depth at e r s =
      let x = map₂_some item (value_meaning d) (elements_meaning es) e in
      let i = ap items_count x.4 in
      let j = ap items_nesting x.4 in
      append_none (value_faultless d x.0 row depth at x.2 (omega (arith, r, i)) (omega (arith, s, j)))
      (elements_faultless es x.1 (row + count_value d) depth _ x.3 (omega (arith, r, i, count_value_lem d x.0 x.2)) (omega (arith, s, j)))

  members_faultless :
      (es : JMembers) (ms : Members) (row depth : ℕ) (seen : List Bytes) (at : ℕ) → members_meaning es seen ≡ Some ms → row + members_count ms ≤ max_values
      → depth + members_nesting ms ≤ max_nesting → faults_members es row depth seen at ≡ []
  members_faultless (last_member n w u d x) ms row depth seen at e r s =
      let m = member_some (fresh seen (chars_meaning n None)) (value_meaning d) (Some no_members) e in
      let i = ap members_count m.6 in
      let j = ap members_nesting m.6 in
      append_none (name_faultless seen n m.0 (suc at) m.3) (value_faultless d m.1 row depth _ m.4 (omega (arith, r, i)) (omega (arith, s, j)))
  members_faultless (jmember n w u d x z es) ms row depth seen at e r s =
      let m = member_some (fresh seen (chars_meaning n None)) (value_meaning d) (members_meaning es (seen_with seen (chars_meaning n None))) e in
      let i = ap members_count m.6 in
      let j = ap members_nesting m.6 in
      append_none (name_faultless seen n m.0 (suc at) m.3) (append_none (value_faultless d m.1 row depth _ m.4 (omega (arith, r, i)) (omega (arith, s, j)))
      (members_faultless es m.2 (row + count_value d) depth (seen_with seen (chars_meaning n None)) _ m.5 (omega (arith, r, i, count_value_lem d m.1 m.4)) (omega (arith, s, j))))

-- ---- texts
-- A text with a meaning in our domain, within the limits, has no fault.
pub faultless : (d : JText) (v : Value) → meaning d ≡ Some v → value_count v ≤ max_values → nesting v ≤ max_nesting → faults d ≡ []
unfolding meaning faults
faultless (jtext w d u) v e few flat = value_faultless d v 0 0 _ e (omega (arith, few)) (omega (arith, flat))

abbrev ReadMeets : JText → Read → Type 0
ReadMeets d (done v) = meaning d ≡ Some v
ReadMeets d (refuse k p) = (3 ≤ read_number k) × ((length (spell d) ≤ max_text_bytes) → (rest : List Fault) × (faults d ≡ fault k p ∷ rest))

read_meets : (d : JText) → ReadMeets d (read (spell d))
unfolding read answer
read_meets d = go (ltb max_text_bytes (length (spell d))) refl
  where
    fine : (r : Parsed Value) → TextMeets d r → ReadMeets d (answer r)
    fine (ok v u q) h = h.1
    fine (bad k p) h = (h.0, λ l. h.1)

    go : (b : Bool) → ltb max_text_bytes (length (spell d)) ≡ b → ReadMeets d (elim b [ true ↦ refuse TooLarge max_text_bytes | false ↦ answer (text (2 * length (spell d) + 1) (spell d) 0) ])
    go true e = (lit≤ tt, λ l. absurd (let x = ltb-true max_text_bytes (length (spell d)) e in omega arith))
    go false e = fine (text (2 * length (spell d) + 1) (spell d) 0) (one_more (λ z. TextMeets d (text z (spell d) 0)) (2 * length (spell d) + 1) (omega arith) (λ g i. text_meets d g (omega (arith, i))))

-- A text of RFC 8259 with a meaning in our domain, within the limits, reads as it.
pub complete : (d : JText) (v : Value) → meaning d ≡ Some v → value_count v ≤ max_values → nesting v ≤ max_nesting → length (spell d) ≤ max_text_bytes → read (spell d) ≡ done v
complete d v e few flat l = go (read (spell d)) (read_meets d)
  where
    go : (r : Read) → ReadMeets d r → r ≡ done v
    go (done x) h = ap done (some_is (sym h ∙ e))
    go (refuse k p) h = absurd (let z : ◌≡◌ {A = ℕ} 0 1 = clash (sym (faultless d v e few flat) ∙ (h.1 l).1) in omega (arith, z))
      where
        clash : {x : Fault} {fs : List Fault} → [] ≡ x ∷ fs → ◌≡◌ {A = ℕ} 0 1
        clash i = cc

-- No text of RFC 8259 is refused with 2.
pub never_not_json : (d : JText) (p : ℕ) → read (spell d) ≡ refuse NotJson p → ⊥
never_not_json d p e = let h : ReadMeets d (refuse NotJson p) = subst (ReadMeets d) e (read_meets d) in omega (arith, h.0)

-- What reads reads as the meaning of every derivation of its bytes.
pub unambiguous : (d : JText) (v : Value) → read (spell d) ≡ done v → meaning d ≡ Some v
unambiguous d v e = subst (ReadMeets d) e (read_meets d)

-- A text has one meaning, however it is derived.
pub one_meaning : (c d : JText) (v w : Value) → spell c ≡ spell d → meaning c ≡ Some v → meaning d ≡ Some w → value_count v ≤ max_values → nesting v ≤ max_nesting → length (spell c) ≤ max_text_bytes → v ≡ w
one_meaning c d v w i a b few flat l = some_is (sym (unambiguous d v (ap read (sym i) ∙ complete c v a few flat l)) ∙ b)
