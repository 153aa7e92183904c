-- FaultStrings: a string or a name that is derived is read as its meaning, or refused with its first fault.
use Rattle.std.specs.Prelude.{◌≡◌, refl, true, false, List, [], ◌∷◌, ◌++◌, ℕ, zero, suc, ◌+◌, ◌≤◌, eqb, length}
use Rattle.std.proofs.Common.{sym, ap, ◌∙◌, arith, lit≤}
use Rattle.std.specs.Prelude.{Option, None, Some}
use Rattle.model.specs.Bytes.{Bytes}
use Rattle.model.specs.declared.refusal.ReadFault.TheVariants.{NotJson, RepeatedName}
use Rattle.syntax.specs.declared.Unit.TheVariants.{Plain, High, Low}
use Rattle.syntax.specs.Faults.{Fault, fault, alone_high, alone_low, faults_chars, repeated_at, faults_name}
use Rattle.syntax.specs.Grammar.{Ws, Hexes, Chars, no_chars, unescaped, escaped, code_unit_lem, spell_ws, spell_chars, tail_bytes, hex_number, map, chars_meaning, fresh}
use Rattle.syntax.specs.Read.{Parsed, ok, bad, then, ◌>>=◌, give, fail, if, peek, eat, Pending, clear, high, on_piece, lone, grow, chars, quoted, among, name}
use Rattle.syntax.specs.Tokens.{is_white}
use Rattle.syntax.specs.Utf8.{utf8, unit_of, pair_of}
use Rattle.syntax.proofs.Laws.Agreement.{spelled_length, spelled_longer, chars_keeps}
use Rattle.syntax.proofs.Laws.Characters.{tails_length, hexes_length, char_closing, char_unescaped, char_escaped, char_unit}
use Rattle.syntax.proofs.Laws.FaultScalars.{Meets, meets_then, meets_as, white_run}
use Rattle.syntax.proofs.Laws.Parsing.{if_law, unit_law, then_ok, lone_ok}
use Rattle.syntax.proofs.Laws.SoundStrings.{waiting, fresh_name}

-- ---- a code unit by its kind
module _ (hs : Hexes 4) (cs : Chars) where
  pub unit_faults_plain : (before : Option ℕ) (at : ℕ) → unit_of (hex_number 0 hs) ≡ Plain → faults_chars (code_unit_lem hs cs) before at ≡ alone_high before ++ faults_chars cs None (at + 6)
  unfolding faults_chars
  unit_faults_plain before at h = rw (h, faults_chars)

  pub unit_faults_high : (before : Option ℕ) (at : ℕ) → unit_of (hex_number 0 hs) ≡ High → faults_chars (code_unit_lem hs cs) before at ≡ alone_high before ++ faults_chars cs (Some at) (at + 6)
  unfolding faults_chars
  unit_faults_high before at h = rw (h, faults_chars)

  pub unit_faults_low : (before : Option ℕ) (at : ℕ) → unit_of (hex_number 0 hs) ≡ Low → faults_chars (code_unit_lem hs cs) before at ≡ alone_low before at ++ faults_chars cs None (at + 6)
  unfolding faults_chars
  unit_faults_low before at h = rw (h, faults_chars)

  pub unit_means_plain : unit_of (hex_number 0 hs) ≡ Plain → chars_meaning (code_unit_lem hs cs) None ≡ map (λ s. utf8 (hex_number 0 hs) ++ s) (chars_meaning cs None)
  unfolding chars_meaning
  unit_means_plain h = rw (h, chars_meaning)

  pub unit_means_high : unit_of (hex_number 0 hs) ≡ High → chars_meaning (code_unit_lem hs cs) None ≡ chars_meaning cs (Some (hex_number 0 hs))
  unfolding chars_meaning
  unit_means_high h = rw (h, chars_meaning)

  pub unit_means_low : (v : ℕ) → unit_of (hex_number 0 hs) ≡ Low → chars_meaning (code_unit_lem hs cs) (Some v) ≡ map (λ s. utf8 (pair_of v (hex_number 0 hs)) ++ s) (chars_meaning cs None)
  unfolding chars_meaning
  unit_means_low v h = rw (h, chars_meaning)

  pub unit_means_nothing : unit_of (hex_number 0 hs) ≡ Low → chars_meaning (code_unit_lem hs cs) None ≡ None
  unfolding chars_meaning
  unit_means_nothing h = rw (h, chars_meaning)

  pub plain_means_nothing : (v : ℕ) → unit_of (hex_number 0 hs) ≡ Plain → chars_meaning (code_unit_lem hs cs) (Some v) ≡ None
  unfolding chars_meaning
  plain_means_nothing v h = rw (h, chars_meaning)

  pub high_means_nothing : (v : ℕ) → unit_of (hex_number 0 hs) ≡ High → chars_meaning (code_unit_lem hs cs) (Some v) ≡ None
  unfolding chars_meaning
  high_means_nothing v h = rw (h, chars_meaning)

-- ---- strings
-- The backslash of a high surrogate that waits.
abbrev pub backslash_of : Pending → Option ℕ
backslash_of clear = None
backslash_of (high u p) = Some p

abbrev MeetsChars : Pending → Bytes → ℕ → ℕ → Chars → Parsed Bytes → Type 0
MeetsChars w y N at cs r = Meets (faults_chars cs (backslash_of w) at) (chars_meaning cs (waiting w)) (0x22 ∷ y) N r

grow_meets : (fs : List Fault) (bs y : Bytes) (N : ℕ) (o : Option Bytes) (r : Parsed Bytes) → Meets fs o y N r → Meets fs (map (λ s. bs ++ s) o) y N (grow bs r)
unfolding grow then give map
grow_meets fs bs y N o (ok s u q) h = (h.0, ap (map (λ s. bs ++ s)) h.1, h.2, h.3)
grow_meets fs bs y N o (bad k p) h = h

chars_some : (cs : Chars) (y : Bytes) → 1 ≤ length (spell_chars cs (0x22 ∷ y))
chars_some cs y = omega (arith, spelled_longer (chars_keeps cs) (0x22 ∷ y))

pub chars_meet :
    (f : ℕ) (cs : Chars) (w : Pending) (N : ℕ) (y : Bytes) (at : ℕ) → length (spell_chars cs (0x22 ∷ y)) ≤ f → at + length (spell_chars cs (0x22 ∷ y)) ≡ N
    → MeetsChars w y N at cs (chars f w (spell_chars cs (0x22 ∷ y)) at)
unfolding chars spell_chars chars_meaning faults_chars alone_high alone_low on_piece give lone
chars_meet zero cs w N y at l e = absurd (omega (arith, chars_some cs y))
chars_meet (suc f) no_chars clear N y at l e = then_ok (MeetsChars clear y N at no_chars) _ _ _ _ _ (char_closing y at) (refl, refl, refl, e)
chars_meet (suc f) no_chars (high v p) N y at l e = lone_ok (MeetsChars (high v p) y N at no_chars) _ _ _ _ _ _ (char_closing y at) (lit≤ tt, ([], refl))
chars_meet (suc f) (unescaped b n lo hi i ts cs) clear N y at l e =
    let z = spell_chars cs (0x22 ∷ y) in
    then_ok (MeetsChars clear y N at (unescaped b n lo hi i ts cs)) _ _ _ _ _ (char_unescaped b n lo hi i ts z at)
    (grow_meets (faults_chars cs None (at + suc n)) (b ∷ tail_bytes ts) (0x22 ∷ y) N (chars_meaning cs None) (chars f clear z (at + suc n)) (chars_meet f cs clear N y (at + suc n) (omega (arith, l, tails_length ts z)) (omega (arith, e, tails_length ts z))))
chars_meet (suc f) (unescaped b n lo hi i ts cs) (high v p) N y at l e =
    lone_ok (MeetsChars (high v p) y N at (unescaped b n lo hi i ts cs)) _ _ _ _ _ _ (char_unescaped b n lo hi i ts (spell_chars cs (0x22 ∷ y)) at) (lit≤ tt, (faults_chars cs None (at + suc n), refl))
chars_meet (suc f) (escaped b d i cs) clear N y at l e =
    let z = spell_chars cs (0x22 ∷ y) in
    then_ok (MeetsChars clear y N at (escaped b d i cs)) _ _ _ _ _ (char_escaped b d i z at)
    (grow_meets (faults_chars cs None (at + 2)) (d ∷ []) (0x22 ∷ y) N (chars_meaning cs None) (chars f clear z (at + 2)) (chars_meet f cs clear N y (at + 2) (omega (arith, l)) (omega (arith, e))))
chars_meet (suc f) (escaped b d i cs) (high v p) N y at l e =
    lone_ok (MeetsChars (high v p) y N at (escaped b d i cs)) _ _ _ _ _ _ (char_escaped b d i (spell_chars cs (0x22 ∷ y)) at) (lit≤ tt, (faults_chars cs None (at + 2), refl))
chars_meet (suc f) (code_unit_lem hs cs) clear N y at l e =
    let z = spell_chars cs (0x22 ∷ y) in
    let less : length z ≤ f = omega (arith, l, hexes_length hs z) in
    let tied : at + 6 + length z ≡ N = omega (arith, e, hexes_length hs z) in
    then_ok (MeetsChars clear y N at (code_unit_lem hs cs)) _ _ _ _ _ (char_unit hs z at)
    (unit_law (MeetsChars clear y N at (code_unit_lem hs cs)) z (at + 6) (unit_of (hex_number 0 hs)) _ _ _
    (λ h. meets_as _ _ _ _ (0x22 ∷ y) N (grow (utf8 (hex_number 0 hs)) (chars f clear z (at + 6))) (unit_faults_plain hs cs None at h) (unit_means_plain hs cs h)
    (grow_meets (faults_chars cs None (at + 6)) (utf8 (hex_number 0 hs)) (0x22 ∷ y) N (chars_meaning cs None) (chars f clear z (at + 6)) (chars_meet f cs clear N y (at + 6) less tied)))
    (λ h. meets_as _ _ _ _ (0x22 ∷ y) N (chars f (high (hex_number 0 hs) at) z (at + 6)) (unit_faults_high hs cs None at h) (unit_means_high hs cs h) (chars_meet f cs (high (hex_number 0 hs) at) N y (at + 6) less tied))
    (λ h. (lit≤ tt, (faults_chars cs None (at + 6), unit_faults_low hs cs None at h))))
chars_meet (suc f) (code_unit_lem hs cs) (high v p) N y at l e =
    let z = spell_chars cs (0x22 ∷ y) in
    let less : length z ≤ f = omega (arith, l, hexes_length hs z) in
    let tied : at + 6 + length z ≡ N = omega (arith, e, hexes_length hs z) in
    lone_ok (MeetsChars (high v p) y N at (code_unit_lem hs cs)) _ _ _ _ _ _ (char_unit hs z at)
    (unit_law (MeetsChars (high v p) y N at (code_unit_lem hs cs)) z (at + 6) (unit_of (hex_number 0 hs)) _ _ _
    (λ h. (lit≤ tt, (faults_chars cs None (at + 6), unit_faults_plain hs cs (Some p) at h)))
    (λ h. (lit≤ tt, (faults_chars cs (Some at) (at + 6), unit_faults_high hs cs (Some p) at h)))
    (λ h. meets_as _ _ _ _ (0x22 ∷ y) N (grow (utf8 (pair_of v (hex_number 0 hs))) (chars f clear z (at + 6))) (unit_faults_low hs cs (Some p) at h) (unit_means_low hs cs v h)
    (grow_meets (faults_chars cs None (at + 6)) (utf8 (pair_of v (hex_number 0 hs))) (0x22 ∷ y) N (chars_meaning cs None) (chars f clear z (at + 6)) (chars_meet f cs clear N y (at + 6) less tied))))

-- ---- names
repeated_yes : (seen : List Bytes) (o : Option Bytes) (n : Bytes) (at : ℕ) → o ≡ Some n → among n seen ≡ true → repeated_at seen o at ≡ fault RepeatedName at ∷ []
unfolding repeated_at
repeated_yes seen o n at i d = ap (λ z. repeated_at seen z at) i ∙ rw (d, repeated_at)

pub repeated_no : (seen : List Bytes) (o : Option Bytes) (n : Bytes) (at : ℕ) → o ≡ Some n → among n seen ≡ false → repeated_at seen o at ≡ []
unfolding repeated_at
repeated_no seen o n at i d = ap (λ z. repeated_at seen z at) i ∙ rw (d, repeated_at)

colon_here : is_white 0x3A ≡ false
unfolding is_white
colon_here = refl

pub name_meets :
    (f : ℕ) (seen : List Bytes) (N : ℕ) (cs : Chars) (w : Ws) (z : Bytes) (at : ℕ) → length (spell_chars cs (0x22 ∷ spell_ws w (0x3A ∷ z))) ≤ f
    → suc at + length (spell_chars cs (0x22 ∷ spell_ws w (0x3A ∷ z))) ≡ N
    → Meets (faults_name seen cs (suc at)) (fresh seen (chars_meaning cs None)) z N (name f seen (0x22 ∷ spell_chars cs (0x22 ∷ spell_ws w (0x3A ∷ z))) at)
unfolding name ◌>>=◌ peek then if quoted eat fail give faults_name
name_meets f seen N cs w z at l e =
    meets_then (chars_meaning cs None) (fresh seen (chars_meaning cs None)) (0x22 ∷ x) z N (faults_chars cs None (suc at)) gs (chars f clear (spell_chars cs (0x22 ∷ x)) (suc at)) _ (chars_meet f cs clear N x (suc at) l e)
    (λ n q i j. let place : q ≡ suc at + length (spell_chars cs []) = omega (arith, e, j, spelled_length (chars_keeps cs) (0x22 ∷ x)) in
    if_law Q (0x22 ∷ x) q (among n seen) _ _
    (λ d. (lit≤ tt, ([], repeated_yes seen _ n _ i d ∙ ap (λ k. fault RepeatedName k ∷ []) (sym place))))
    (λ d. white_run Q (peek >>= λ c. if (eqb c 0x3A) (eat (give n)) (fail NotJson)) w (0x3A ∷ z) (suc q) N colon_here (omega (arith, j))
    (λ r k. (repeated_no seen _ n _ i d, fresh_name seen _ n d i, refl, omega (arith, k)))))
  where
    x : Bytes
    x = spell_ws w (0x3A ∷ z)

    gs : List Fault
    gs = repeated_at seen (chars_meaning cs None) (suc at + length (spell_chars cs []))

    Q : Parsed Bytes → Type 0
    Q = Meets gs (fresh seen (chars_meaning cs None)) z N
