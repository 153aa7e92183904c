-- Agreement: bytes that stand at a place of a text; texts that begin alike; and that what a derivation spells in front of two texts keeps them so.
use Rattle.std.specs.Prelude.{◌≡◌, refl, Bool, true, false, [], ◌∷◌, ◌++◌, ℕ, zero, suc, ◌+◌, ◌≤◌, length, get_or, take, drop}
use Rattle.std.proofs.Common.{sym, subst, ap, ◌∙◌, append-nil, append_assoc, add-one, arith, length-append, drop-cons, drop-drop, take_at, drop_at}
use Rattle.std.proofs.lemmas.List.{drop-append-le}
use Rattle.model.specs.Bytes.{Bytes}
use Rattle.syntax.specs.Grammar.{Ws, no_ws, ws, Digits, no_digits, digit, Int, zero_int, int, Frac, no_frac, frac, Sign, no_sign, minus, plus, Exp, no_exp, exp, Tails, no_tail, tail, Hexes, no_hexes, hex, Chars, no_chars, unescaped, escaped, code_unit_lem, JValue, jtrue, jfalse, jnull, jnumber, jstring, jempty_array, jarray, jempty_object, jobject, JElements, last_element, element, JMembers, last_member, jmember, spell_ws, spell_digits, spell_int, spell_frac, spell_sign, spell_exp, spell_minus, spell_tails, spell_hexes, spell_chars, spell_value, spell_elements, spell_members}

-- ---- t stands at a place of s
pub data At (s : Bytes) : Bytes → ℕ → Type 0 where
  start : At s s 0
  onward : {t : Bytes} {at : ℕ} (b : ℕ) → At s (b ∷ t) at → At s t (suc at)

pub at_length : {s t : Bytes} {at : ℕ} → At s t at → at + length t ≡ length s
at_length start = omega arith
at_length (onward b h) = omega (arith, at_length h)

pub at_drop : {s t : Bytes} {at : ℕ} → At s t at → drop at s ≡ t
at_drop start = refl
at_drop {s} (onward {t = t} {at = at} b h) = ap (λ k. drop k s) (sym (add-one at)) ∙ sym (drop-drop 1 at s) ∙ ap (drop 1) (at_drop h)

pub at_place : (s : Bytes) (at : ℕ) → at ≤ length s → At s (drop at s) at
at_place s zero l = start
at_place s (suc at) l = onward (get_or s at 0) (subst (λ t. At s t at) (drop-cons s at 0 (omega arith)) (at_place s at (omega arith)))

-- ---- two texts that begin alike: past what they share, the first has r left and the second w
pub data Alike (r w : Bytes) : Bytes → Bytes → Type 0 where
  now : Alike r w r w
  next : {t u : Bytes} (b : ℕ) → Alike r w t u → Alike r w (b ∷ t) (b ∷ u)

-- What they share.
pub alike_split : {r w t u : Bytes} → Alike r w t u → (m : Bytes) × (t ≡ m ++ r) × (u ≡ m ++ w)
alike_split now = ([], refl, refl)
alike_split (next b h) = let x = alike_split h in (b ∷ x.0, ap (λ z. b ∷ z) x.1, ap (λ z. b ∷ z) x.2)

pub alike_join : (m r w : Bytes) → Alike r w (m ++ r) (m ++ w)
alike_join [] r w = now
alike_join (b ∷ m) r w = next b (alike_join m r w)

pub alike_take : {s u r w : Bytes} {n : ℕ} → At s r n → Alike r w s u → (n ≤ length s) × (u ≡ take n s ++ w)
alike_take {s} {u} {r} {w} {n} h a =
    let x = alike_split a in
    let i : length x.0 ≡ n = omega (arith, at_length h, ap length x.1, length-append x.0 r) in
    (omega (arith, at_length h), x.2 ∙ ap (λ m. m ++ w) (sym (ap (take n) x.1 ∙ take_at x.0 r n i)))

pub alike_length : {r w t u : Bytes} → Alike r w t u → length r ≤ length t
alike_length now = omega arith
alike_length (next b h) = omega (arith, alike_length h)

pub alike_lengths : {r w t u : Bytes} → Alike r w t u → length t + length w ≡ length u + length r
alike_lengths {r} {w} now = omega arith
alike_lengths (next b h) = omega (arith, alike_lengths h)

pub alike_back : {r w t u : Bytes} → Alike r w t u → Alike w r u t
alike_back now = now
alike_back (next b h) = next b (alike_back h)

-- ---- what is spelled in front of both keeps that
pub record Keeps (F : Bytes → Bytes) : Type 0 where
  pub keep : {r w t u : Bytes} → Alike r w t u → Alike r w (F t) (F u)

infixr 20 ◌&◌
pub ◌&◌ : {F G : Bytes → Bytes} → Keeps F → Keeps G → Keeps (λ y. F (G y))
◌&◌ f g = record { keep = λ s. f.keep (g.keep s) }

pub nothing : Keeps (λ y. y)
nothing = record { keep = λ s. s }

pub byte : (b : ℕ) → Keeps (λ y. b ∷ y)
byte b = record { keep = λ s. next b s }

-- So it stands there byte by byte, and is as long whatever follows.
pub spelled_append : {F : Bytes → Bytes} → Keeps F → (y z : Bytes) → F (y ++ z) ≡ F y ++ z
spelled_append {F} f y z =
    let x = alike_split (f.keep (alike_join y z [])) in
    x.1 ∙ ap (λ m. m ++ z) (sym (append-nil x.0) ∙ sym x.2 ∙ ap F (append-nil y))

pub spelled_length : {F : Bytes → Bytes} → Keeps F → (y : Bytes) → length (F y) ≡ length (F []) + length y
spelled_length f y = let n : Alike y [] y [] = now in omega (arith, alike_lengths (f.keep n))

pub spelled_longer : {F : Bytes → Bytes} → Keeps F → (y : Bytes) → length y ≤ length (F y)
spelled_longer f y = omega (arith, spelled_length f y)

-- What follows a part stands where the part ends.
pub at_after : {F : Bytes → Bytes} → Keeps F → {s y : Bytes} {at : ℕ} → At s (F y) at → At s y (at + length (F []))
at_after {F} f {s} {y} {at} h =
    let n = at + length (F []) in
    let e : drop n s ≡ y = sym (drop-drop (length (F [])) at s) ∙ ap (drop (length (F []))) (at_drop h ∙ spelled_append f [] y) ∙ drop_at (F []) y (length (F [])) refl in
    subst (λ t. At s t n) e (at_place s n (omega (arith, at_length h, spelled_length f y)))

-- From a place in the part that they share on, two texts are alike.
pub alike_from : {s u r w t : Bytes} {n at : ℕ} → At s r n → Alike r w s u → At s t at → at ≤ n → Alike r w t (drop at u)
alike_from {s} {u} {r} {w} {t} {n} {at} h a g l =
    let x = alike_split a in
    let m = drop at x.0 in
    let i : at ≤ length x.0 = omega (arith, at_length h, ap length x.1, length-append x.0 r, l) in
    let j : t ≡ m ++ r = sym (at_drop g) ∙ ap (drop at) x.1 ∙ drop-append-le at x.0 r i in
    let k : drop at u ≡ m ++ w = ap (drop at) x.2 ∙ drop-append-le at x.0 w i in
    subst (λ z. Alike r w z (drop at u)) (sym j) (subst (λ z. Alike r w (m ++ r) z) (sym k) (alike_join m r w))

-- What is spelled in the part that two texts share is spelled in both.
front_split : (a t m r : Bytes) → a ++ t ≡ m ++ r → length r ≤ length t → (n : Bytes) × (m ≡ a ++ n) × (t ≡ n ++ r)
front_split [] t m r e l = (m, refl, e)
front_split (x ∷ a) t [] r e l = absurd (omega (arith, ap length e, length-append a t, l))
front_split (x ∷ a) t (y ∷ m) r e l =
    let i : x ≡ y = cc in
    let j : a ++ t ≡ m ++ r = cc in
    let g = front_split a t m r j l in
    (g.0, ap (λ z. z ∷ m) (sym i) ∙ ap (λ z. x ∷ z) g.1, g.2)

pub alike_under : {F : Bytes → Bytes} → Keeps F → {r w t u : Bytes} → Alike r w (F t) u → length r ≤ length t → (v : Bytes) × (u ≡ F v) × Alike r w t v
alike_under {F} f {r} {w} {t} {u} e l =
    let x = alike_split e in
    let g = front_split (F []) t x.0 r (sym (spelled_append f [] t) ∙ x.1) l in
    (g.0 ++ w, x.2 ∙ ap (λ m. m ++ w) g.1 ∙ append_assoc (F []) g.0 w ∙ sym (spelled_append f [] (g.0 ++ w)), subst (λ z. Alike r w z (g.0 ++ w)) (sym g.2) (alike_join g.0 r w))

-- ---- so do all derivations
pub ws_keeps : (w : Ws) → Keeps (spell_ws w)
unfolding spell_ws
ws_keeps no_ws = nothing
ws_keeps (ws b h w) = byte b & ws_keeps w

pub digits_keeps : (ds : Digits) → Keeps (spell_digits ds)
unfolding spell_digits
digits_keeps no_digits = nothing
digits_keeps (digit b h ds) = byte b & digits_keeps ds

pub int_keeps : (i : Int) → Keeps (spell_int i)
unfolding spell_int
int_keeps zero_int = byte 0x30
int_keeps (int b h ds) = byte b & digits_keeps ds

pub frac_keeps : (x : Frac) → Keeps (spell_frac x)
unfolding spell_frac
frac_keeps no_frac = nothing
frac_keeps (frac b h ds) = byte 0x2E & byte b & digits_keeps ds

sign_keeps : (x : Sign) → Keeps (spell_sign x)
unfolding spell_sign
sign_keeps no_sign = nothing
sign_keeps minus = byte 0x2D
sign_keeps plus = byte 0x2B

pub exp_keeps : (x : Exp) → Keeps (spell_exp x)
unfolding spell_exp
exp_keeps no_exp = nothing
exp_keeps (exp e h s b k ds) = byte e & sign_keeps s & byte b & digits_keeps ds

pub minus_keeps : (negative : Bool) → Keeps (spell_minus negative)
unfolding spell_minus
minus_keeps false = nothing
minus_keeps true = byte 0x2D

pub tails_keeps : {n lo hi : ℕ} (ts : Tails n lo hi) → Keeps (spell_tails ts)
unfolding spell_tails
tails_keeps no_tail = nothing
tails_keeps (tail b h ts) = byte b & tails_keeps ts

pub hexes_keeps : {n : ℕ} (hs : Hexes n) → Keeps (spell_hexes hs)
unfolding spell_hexes
hexes_keeps no_hexes = nothing
hexes_keeps (hex b d h hs) = byte b & hexes_keeps hs

pub chars_keeps : (cs : Chars) → Keeps (spell_chars cs)
unfolding spell_chars
chars_keeps no_chars = nothing
chars_keeps (unescaped b n lo hi h ts cs) = byte b & tails_keeps ts & chars_keeps cs
chars_keeps (escaped b d h cs) = byte 0x5C & byte b & chars_keeps cs
chars_keeps (code_unit_lem hs cs) = byte 0x5C & byte 0x75 & hexes_keeps hs & chars_keeps cs

mutual
  unfolding spell_value

  pub value_keeps : (v : JValue) → Keeps (spell_value v)
  value_keeps jtrue = byte 0x74 & byte 0x72 & byte 0x75 & byte 0x65
  value_keeps jfalse = byte 0x66 & byte 0x61 & byte 0x6C & byte 0x73 & byte 0x65
  value_keeps jnull = byte 0x6E & byte 0x75 & byte 0x6C & byte 0x6C
  value_keeps (jnumber negative i fr ex) = minus_keeps negative & int_keeps i & frac_keeps fr & exp_keeps ex
  value_keeps (jstring cs) = byte 0x22 & chars_keeps cs & byte 0x22
  value_keeps (jempty_array w) = byte 0x5B & ws_keeps w & byte 0x5D
  value_keeps (jarray w es) = byte 0x5B & ws_keeps w & elements_keeps es
  value_keeps (jempty_object w) = byte 0x7B & ws_keeps w & byte 0x7D
  value_keeps (jobject w ms) = byte 0x7B & ws_keeps w & members_keeps ms

  pub elements_keeps : (es : JElements) → Keeps (spell_elements es)
  elements_keeps (last_element v w) = value_keeps v & ws_keeps w & byte 0x5D
  elements_keeps (element v w u es) = value_keeps v & ws_keeps w & byte 0x2C & ws_keeps u & elements_keeps es

  pub members_keeps : (ms : JMembers) → Keeps (spell_members ms)
  members_keeps (last_member n w u v x) =
      byte 0x22 & chars_keeps n & byte 0x22 & ws_keeps w & byte 0x3A & ws_keeps u & value_keeps v & ws_keeps x & byte 0x7D
  members_keeps (jmember n w u v x z ms) =
      byte 0x22 & chars_keeps n & byte 0x22 & ws_keeps w & byte 0x3A & ws_keeps u & value_keeps v & ws_keeps x & byte 0x2C & ws_keeps z & members_keeps ms
