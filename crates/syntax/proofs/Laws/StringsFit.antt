-- StringsFit: the decoded strings of a value are no longer than the text that reads as it.
use Rattle.std.specs.Prelude.{◌≡◌, Bool, true, false, List, [], ◌∷◌, ◌++◌, ℕ, zero, suc, ◌+◌, ◌≤◌, leb, length}
use Rattle.std.proofs.Common.{ap, arith, length-append}
use Rattle.std.specs.Prelude.{Option, None, Some}
use Rattle.model.specs.Bytes.{Bytes}
use Rattle.model.proofs.Laws.Option.{All, all_some}
use Rattle.model.specs.Limits.{max_text_bytes, max_integer}
use Rattle.model.specs.Value.{Value, array, object, item, Members, no_members, member}
use Rattle.syntax.specs.declared.Unit.{Unit as CodeUnit}
use Rattle.syntax.specs.declared.Unit.TheVariants.{Plain, High, Low}
use Rattle.syntax.specs.Grammar.{Ws, Frac, no_frac, frac, Exp, no_exp, exp, Tails, no_tail, tail, Chars, no_chars, unescaped, escaped, code_unit_lem, JValue, jtrue, jfalse, jnull, jnumber, jstring, jempty_array, jarray, jempty_object, jobject, JElements, last_element, element, JMembers, last_member, jmember, JText, jtext, spell_ws, spell_tails, spell_chars, spell_value, spell_elements, spell_members, spell, int_number, limited, plain, tail_bytes, hex_number, map, chars_meaning, fresh, seen_with, member_of, value_meaning, elements_meaning, members_meaning, meaning}
use Rattle.syntax.specs.Layout.{strings_of, item_strings, member_strings}
use Rattle.syntax.specs.Read.{signed, among, done, read}
use Rattle.syntax.specs.Utf8.{utf8, unit_of, pair_of}
use Rattle.syntax.proofs.Laws.Agreement.{◌&◌, byte, spelled_longer, ws_keeps, value_keeps}
use Rattle.syntax.proofs.Laws.Characters.{hexes_length}
use Rattle.syntax.proofs.Laws.Sound.{sound}
use Rattle.syntax.proofs.Laws.Tokens.{branch}
use Rattle.syntax.proofs.Laws.Utf8.{utf8_most, all_map, all_map₂}

-- A text t, which y ends, has room for s before y.
abbrev Fits : Bytes → Bytes → Bytes → Type 0
Fits t y s = length s + length y ≤ length t

-- ---- strings
tails_length : {n lo hi : ℕ} (ts : Tails n lo hi) (y : Bytes) → length (spell_tails ts y) ≡ length (tail_bytes ts) + length y
unfolding spell_tails tail_bytes
tails_length no_tail y = omega arith
tails_length (tail b h ts) y = omega (arith, tails_length ts y)

-- What a character decodes to, in front of what the rest r does.
in_front : (x : Bytes) (o : Option Bytes) (r t y : Bytes) → length x + length r ≤ length t → All (Fits r y) o → All (Fits t y) (map (λ s. x ++ s) o)
in_front x o r t y l = all_map (Fits r y) (Fits t y) (λ s. x ++ s) o (λ s h. omega (arith, h, length-append x s))

all_unit : (P : Bytes → Type 0) (x : CodeUnit) (m h l : Option Bytes) → All P m → All P h → All P l → All P (elim x [ Plain ↦ m | High ↦ h | Low ↦ l ])
all_unit P Plain m h l f g k = f
all_unit P High m h l f g k = g
all_unit P Low m h l f g k = k

-- A character decodes to no more bytes than it has: an escape of six to at most four, and one that waits for its partner to none.
chars_fit : (cs : Chars) (o : Option ℕ) (t y : Bytes) → length (spell_chars cs y) ≤ length t → All (Fits t y) (chars_meaning cs o)
unfolding spell_chars chars_meaning
chars_fit no_chars None t y l = omega arith
chars_fit no_chars (Some h) t y l = tt
chars_fit (unescaped b n lo hi e ts cs) None t y l =
    let r = spell_chars cs y in
    in_front (b ∷ tail_bytes ts) (chars_meaning cs None) r t y (omega (arith, tails_length ts r)) (chars_fit cs None r y (omega arith))
chars_fit (unescaped b n lo hi e ts cs) (Some h) t y l = tt
chars_fit (escaped b d e cs) None t y l =
    let r = spell_chars cs y in
    in_front (d ∷ []) (chars_meaning cs None) r t y (omega arith) (chars_fit cs None r y (omega arith))
chars_fit (escaped b d e cs) (Some h) t y l = tt
chars_fit (code_unit_lem hs cs) None t y l =
    let r = spell_chars cs y in
    let u = hex_number 0 hs in
    all_unit (Fits t y) (unit_of u) _ _ None
    (in_front (utf8 u) (chars_meaning cs None) r t y (omega (arith, hexes_length hs r, utf8_most u)) (chars_fit cs None r y (omega arith)))
    (chars_fit cs (Some u) t y (omega (arith, hexes_length hs r))) tt
chars_fit (code_unit_lem hs cs) (Some h) t y l =
    let r = spell_chars cs y in
    let c = pair_of h (hex_number 0 hs) in
    all_unit (Fits t y) (unit_of (hex_number 0 hs)) None None _ tt tt
    (in_front (utf8 c) (chars_meaning cs None) r t y (omega (arith, hexes_length hs r, utf8_most c)) (chars_fit cs None r y (omega arith)))

string_fit : (cs : Chars) (y : Bytes) → All (Fits (spell_chars cs y) y) (chars_meaning cs None)
string_fit cs y = chars_fit cs None (spell_chars cs y) y (omega arith)

-- ---- numbers
signed_fit : (negative : Bool) (n : ℕ) (t y : Bytes) → length y ≤ length t → Fits t y (strings_of (signed negative n))
unfolding signed strings_of
signed_fit false n t y l = omega arith
signed_fit true zero t y l = omega arith
signed_fit true (suc n) t y l = omega arith

number_fit : (negative : Bool) (n : ℕ) (fr : Frac) (ex : Exp) (t y : Bytes) → length y ≤ length t → All (λ v. Fits t y (strings_of v)) (plain negative n fr ex)
unfolding plain limited
number_fit negative n no_frac no_exp t y l = branch (All (λ v. Fits t y (strings_of v))) (leb n max_integer) (Some (signed negative n)) None (λ h. signed_fit negative n t y l) tt
number_fit negative n no_frac (exp e h s b k ds) t y l = tt
number_fit negative n (frac b h ds) ex t y l = tt

-- ---- members
all_fresh : (P : Bytes → Type 0) (seen : List Bytes) (o : Option Bytes) → All P o → All P (fresh seen o)
unfolding fresh
all_fresh P seen None h = tt
all_fresh P seen (Some n) h = branch (All P) (among n seen) None (Some n) (λ i. tt) h

all_member :
    (P : Bytes → Type 0) (Q : Value → Type 0) (R S : Members → Type 0) (o : Option Bytes) (p : Option Value) (r : Option Members)
    → ((n : Bytes) (v : Value) (ms : Members) → P n → Q v → R ms → S (member n v ms))
    → All P o → All Q p → All R r → All S (member_of o p r)
unfolding member_of
all_member P Q R S None p r f h i j = tt
all_member P Q R S (Some n) None r f h i j = tt
all_member P Q R S (Some n) (Some v) None f h i j = tt
all_member P Q R S (Some n) (Some v) (Some ms) f h i j = f n v ms h i j

-- A member before q, at whose end o stands, with the other members.
member_fit :
    (n : Chars) (w u : Ws) (d : JValue) (q o y : Bytes) (seen : List Bytes) (others : Option Members)
    → length o ≤ length q
    → All (λ v. Fits (spell_value d q) q (strings_of v)) (value_meaning d)
    → All (λ ms. Fits o y (member_strings ms)) others
    → All (λ ms. Fits (0x22 ∷ spell_chars n (0x22 ∷ spell_ws w (0x3A ∷ spell_ws u (spell_value d q)))) y (member_strings ms)) (member_of (fresh seen (chars_meaning n None)) (value_meaning d) others)
unfolding strings_of
member_fit n w u d q o y seen others l h k =
    let r : Bytes = 0x22 ∷ spell_ws w (0x3A ∷ spell_ws u (spell_value d q)) in
    all_member (Fits (spell_chars n r) r) (λ v. Fits (spell_value d q) q (strings_of v)) (λ ms. Fits o y (member_strings ms)) _
    (fresh seen (chars_meaning n None)) (value_meaning d) others
    (λ name v ms f g i.
    omega (arith, f, g, i, spelled_longer (ws_keeps w & byte 0x3A & ws_keeps u) (spell_value d q), length-append name (strings_of v ++ member_strings ms), length-append (strings_of v) (member_strings ms)))
    (all_fresh _ seen (chars_meaning n None) (string_fit n r)) h k

-- ---- values
mutual
  unfolding spell_value value_meaning strings_of

  value_fit : (d : JValue) (y : Bytes) → All (λ v. Fits (spell_value d y) y (strings_of v)) (value_meaning d)
  value_fit jtrue y = omega arith
  value_fit jfalse y = omega arith
  value_fit jnull y = omega arith
  value_fit (jnumber negative i fr ex) y = number_fit negative (int_number i) fr ex (spell_value (jnumber negative i fr ex) y) y (spelled_longer (value_keeps (jnumber negative i fr ex)) y)
  value_fit (jstring cs) y = all_map (Fits (spell_chars cs (0x22 ∷ y)) (0x22 ∷ y)) _ _ (chars_meaning cs None) (λ s h. omega (arith, h)) (string_fit cs (0x22 ∷ y))
  value_fit (jempty_array w) y = omega (arith, spelled_longer (value_keeps (jempty_array w)) y)
  value_fit (jarray w es) y =
      all_map (λ vs. Fits (spell_elements es y) y (item_strings vs)) _ array (elements_meaning es) (λ vs h. omega (arith, h, spelled_longer (ws_keeps w) (spell_elements es y))) (elements_fit es y)
  value_fit (jempty_object w) y = omega (arith, spelled_longer (value_keeps (jempty_object w)) y)
  value_fit (jobject w ms) y =
      all_map (λ m. Fits (spell_members ms y) y (member_strings m)) _ object (members_meaning ms []) (λ m h. omega (arith, h, spelled_longer (ws_keeps w) (spell_members ms y))) (members_fit_lem ms [] y)

  elements_fit : (es : JElements) (y : Bytes) → All (λ vs. Fits (spell_elements es y) y (item_strings vs)) (elements_meaning es)
  elements_fit (last_element d w) y =
      let z = spell_ws w (0x5D ∷ y) in
      all_map (λ v. Fits (spell_value d z) z (strings_of v)) _ _ (value_meaning d)
      (λ v h. omega (arith, h, spelled_longer (ws_keeps w) (0x5D ∷ y), length-append (strings_of v) [])) (value_fit d z)
  elements_fit (element d w u es) y =
      let r = spell_elements es y in
      let z = spell_ws w (0x2C ∷ spell_ws u r) in
      all_map₂ (λ v. Fits (spell_value d z) z (strings_of v)) (λ vs. Fits r y (item_strings vs)) _ item (value_meaning d) (elements_meaning es)
      (λ v vs h k. omega (arith, h, k, spelled_longer (ws_keeps w & byte 0x2C & ws_keeps u) r, length-append (strings_of v) (item_strings vs))) (value_fit d z) (elements_fit es y)

  members_fit_lem : (ms : JMembers) (seen : List Bytes) (y : Bytes) → All (λ m. Fits (spell_members ms y) y (member_strings m)) (members_meaning ms seen)
  members_fit_lem (last_member n w u d x) seen y =
      let q = spell_ws x (0x7D ∷ y) in
      member_fit n w u d q y y seen (Some no_members) (spelled_longer (ws_keeps x & byte 0x7D) y) (value_fit d q) (omega arith)
  members_fit_lem (jmember n w u d x z ms) seen y =
      let o = spell_members ms y in
      let q = spell_ws x (0x2C ∷ spell_ws z o) in
      member_fit n w u d q o y seen _ (spelled_longer (ws_keeps x & byte 0x2C & ws_keeps z) o) (value_fit d q) (members_fit_lem ms (seen_with seen (chars_meaning n None)) y)

-- ---- texts
pub meaning_fits : (d : JText) (v : Value) → meaning d ≡ Some v → length (strings_of v) ≤ length (spell d)
unfolding meaning spell
meaning_fits (jtext w d u) v e =
    let y = spell_ws u [] in
    omega (arith, all_some (λ v. Fits (spell_value d y) y (strings_of v)) (value_fit d y) e, spelled_longer (ws_keeps w) (spell_value d y))

pub strings_fit : (s : Bytes) (v : Value) → read s ≡ done v → length (strings_of v) ≤ length s
strings_fit s v e =
    let w = (sound s v e).0 in
    omega (arith, meaning_fits w.tree v w.means, ap length w.spells)

pub strings_small : (s : Bytes) (v : Value) → read s ≡ done v → length (strings_of v) ≤ max_text_bytes
strings_small s v e = omega (arith, strings_fit s v e, (sound s v e).1)
