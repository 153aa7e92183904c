-- Local: how two texts that begin alike are read alike. A fault turns on the bytes through its place alone; a lone surrogate turns on its whole
-- escape, and on what follows it only in that no pair begins there.
use Rattle.std.specs.Prelude.{◌≡◌, Bool, true, false, ◌⊎◌, leb, ltb, eqb, drop}
use Rattle.std.proofs.Math.Path.{refl, subst, ap}
use Rattle.std.proofs.Common.{sym, inl, inr, arith, ltb-true, ltb-false}
use mathlib.Core.List.{[], ◌∷◌}
use Prim.Native.Nat.{ℕ, zero, suc, ◌+◌, ◌*◌, ◌≤◌, ◌<◌}
use Rattle.std.proofs.Math.ListN.{length}
use Rattle.model.specs.Bytes.{Bytes}
use Rattle.model.specs.Limits.{max_integer}
use Rattle.model.specs.declared.refusal.ReadFault.{ReadFault}
use Rattle.model.specs.declared.refusal.ReadFault.TheVariants.{NotJson, RepeatedName, LoneSurrogate, BadNumber, TooLarge}
use Rattle.model.specs.Value.{Value}
use Rattle.syntax.specs.declared.Word.{Word}
use Rattle.syntax.specs.declared.Word.TheVariants.{TrueWord, FalseWord, NullWord}
use Rattle.syntax.specs.Faults.{Pair}
use Rattle.syntax.specs.Read.{Parsed, ok, bad, Parser, then, ◌>>=◌, give, fail, if, peek, eat, white, expect, literal, is_part, end_number, digits, after_zero, first_digit, int, tails, hexes, bytes, unit, escape, char}
use Rattle.syntax.specs.Tokens.{within, is_white, is_digit, digit_value, escape_of, hex_of}
use Rattle.syntax.specs.Utf8.{lead_of}
use Rattle.syntax.proofs.Laws.Agreement.{At, onward, at_length, Alike, now, next}
use Rattle.syntax.proofs.Laws.Parsing.{both_if, both_hex, both_escape, both_lead}
use Rattle.syntax.proofs.Laws.Progress.{Within, Stays, moves_stays, stays_then, stays_give, stays_fail, stays_if, stays_peek, stays_eat, stays_white, stays_map, stays_expect, moves_literal, stays_digits, stays_first, stays_tails, stays_hexes, stays_escape}

pub less_or_not : (m n : ℕ) → (m < n) ⊎ (n ≤ m)
less_or_not m n = go (ltb m n) refl
  where
    go : (b : Bool) → ltb m n ≡ b → (m < n) ⊎ (n ≤ m)
    go true e = inl (ltb-true m n e)
    go false e = inr (ltb-false m n e)

-- ---- s and s' begin alike; past what they share, s has r left and s' has w
module _ (s s' r w : Bytes) where
  -- What s and s' share decides the fault.
  abbrev pub Decides : ReadFault → ℕ → Type 0
  Decides NotJson p = p + length r < length s
  Decides RepeatedName p = p + length r < length s
  Decides LoneSurrogate p = (p + 6 + length r ≡ length s) × (Pair (drop p s') → ⊥)
  Decides BadNumber p = p + length r < length s
  Decides TooLarge p = p + length r < length s

  -- The outcome on s is x; that on s' is y.
  abbrev pub Claim : {A : Type 0} → Parsed A → Parsed A → Type 0
  Claim (ok a u q) y = length r < length u → (v : Bytes) × (y ≡ ok a v q) × Alike r w u v × At s' v q
  Claim (bad k p) y = Decides k p → y ≡ bad k p

  -- A parser that reads both alike.
  abbrev pub Agrees : {A : Type 0} → Parser A → Type 0
  Agrees m = (t u : Bytes) (at : ℕ) → At s t at → At s' u at → Alike r w t u → Claim (m t at) (m u at)

  pub record Local {A : Type 0} (m : Parser A) : Type 0 where
    pub stays : Stays s m
    pub agrees : Agrees m

  -- A fault that stands no earlier than where the two part is not decided.
  pub undecided : (k : ReadFault) (p : ℕ) → length s ≤ p + length r → Decides k p → ⊥
  undecided NotJson p l d = omega arith
  undecided RepeatedName p l d = omega arith
  undecided LoneSurrogate p l d = omega (arith, d.0)
  undecided BadNumber p l d = omega arith
  undecided TooLarge p l d = omega arith

  -- Past what they share nothing is claimed.
  pub past : {A : Type 0} (lo at : ℕ) (x y : Parsed A) → Within s lo at x → length s ≤ at + length r → length s ≤ lo + length r → Claim x y
  past lo at (ok a u q) y h l m = λ g. absurd (omega (arith, at_length h.0, h.1, g))
  past lo at (bad k p) y h l m = λ d. absurd (undecided k p (omega (arith, h.0)) d)

  pub at_once : {A : Type 0} (m : Parser A) → Stays s m → (at : ℕ) (y : Parsed A) → At s r at → Claim (m r at) y
  at_once m f at y h = past at at (m r at) y (f r at h) (omega (arith, at_length h)) (omega (arith, at_length h))

  -- ---- parsers made of parsers
  pub agree_then :
      {A B : Type 0} (x y : Parsed A) (g k : A → Parser B) (lo at : ℕ) → Within s lo at x → Claim x y
      → ((a : A) (u : Bytes) (q : ℕ) → x ≡ ok a u q → At s u q → Within s q q (g a u q))
      → ((a : A) (u v : Bytes) (q : ℕ) → x ≡ ok a u q → At s u q → At s' v q → Alike r w u v → Claim (g a u q) (k a v q)) → Claim (then x g) (then y k)
  unfolding then
  agree_then (ok a u q) y g k lo at h c f e = go (less_or_not (length r) (length u))
    where
      go : (length r < length u) ⊎ (length u ≤ length r) → Claim (g a u q) (then y k)
      go (inl l) = let z = c l in subst (λ x. Claim (g a u q) (then x k)) (sym z.1) (e a u z.0 q refl h.0 z.3 z.2)
      go (inr l) = past q q (g a u q) (then y k) (f a u q refl h.0) (omega (arith, at_length h.0)) (omega (arith, at_length h.0))
  agree_then (bad n p) y g k lo at h c f e = λ d. ap (λ z. then z k) (c d)

  pub local_then : {A B : Type 0} (m : Parser A) (g : A → Parser B) → Local m → ((a : A) → Local (g a)) → Local (m >>= g)
  unfolding ◌>>=◌
  local_then m g f k = record {
    stays = stays_then s m g f.stays (λ a. (k a).stays);
    agrees = λ t u at h i e. agree_then (m t at) (m u at) g g at at (f.stays t at h) (f.agrees t u at h i e) (λ a x q j l. (k a).stays x q l) (λ a x v q j l n o. (k a).agrees x v q l n o);
  }

  pub local_give : {A : Type 0} (a : A) → Local (give a)
  unfolding give
  local_give a = record { stays = stays_give s a; agrees = λ t u at h i e l. (u, refl, e, i) }

  pub local_fail : (A : Type 0) (k : ReadFault) → Local (fail {A = A} k)
  unfolding fail
  local_fail A k = record { stays = stays_fail s A k; agrees = λ t u at h i e d. refl }

  pub local_if : {A : Type 0} (b : Bool) (m n : Parser A) → Local m → Local n → Local (if b m n)
  local_if b m n f g = record { stays = stays_if s b m n f.stays g.stays; agrees = λ t u at h i e. both_if Claim t u at b m n m n (f.agrees t u at h i e) (g.agrees t u at h i e) }

  -- One that looks at a byte both share.
  pub by_byte : {A : Type 0} (m : Parser A) → Stays s m → ((b : ℕ) (t u : Bytes) (at : ℕ) → At s (b ∷ t) at → At s' (b ∷ u) at → Alike r w t u → Claim (m (b ∷ t) at) (m (b ∷ u) at)) → Agrees m
  by_byte m f g t u at h i now = at_once m f at (m u at) h
  by_byte m f g t u at h i (next {t = t'} {u = u'} b e) = g b t' u' at h i e

  pub local_peek : Local peek
  unfolding peek
  local_peek = record { stays = stays_peek s; agrees = by_byte peek (stays_peek s) (λ b t u at h i e l. (b ∷ u, refl, next b e, i)) }

  pub local_eat : {A : Type 0} (m : Parser A) → Local m → Local (eat m)
  unfolding eat
  local_eat m f = record { stays = stays_eat s m f.stays; agrees = by_byte (eat m) (stays_eat s m f.stays) (λ b t u at h i e. f.agrees t u (suc at) (onward b h) (onward b i) e) }

  agree_white : {A : Type 0} (m : Parser A) → Local m → Agrees (white m)
  unfolding white
  agree_white m f t u at h i now = at_once (white m) (stays_white s m f.stays) at (white m u at) h
  agree_white m f t u at h i (next {t = t'} {u = u'} b e) =
      both_if Claim (b ∷ t') (b ∷ u') at (is_white b) _ _ _ _ (agree_white m f t' u' (suc at) (onward b h) (onward b i) e) (f.agrees (b ∷ t') (b ∷ u') at h i (next b e))

  pub local_white : {A : Type 0} (m : Parser A) → Local m → Local (white m)
  local_white m f = record { stays = stays_white s m f.stays; agrees = agree_white m f }

  pub agree_map : {A B : Type 0} (x y : Parsed A) (f : A → B) → Claim x y → Claim (then x (λ a. give (f a))) (then y (λ a. give (f a)))
  unfolding then give
  agree_map (ok a u q) y f c = λ l. let z = c l in (z.0, ap (λ x. then x (λ a. give (f a))) z.1, z.2, z.3)
  agree_map (bad k p) y f c = λ d. ap (λ x. then x (λ a. give (f a))) (c d)

  pub local_map : {A B : Type 0} (m : Parser A) (f : A → B) → Local m → Local (λ t q. then (m t q) (λ a. give (f a)))
  local_map m f g = record { stays = stays_map s m f g.stays; agrees = λ t u at h i e. agree_map (m t at) (m u at) f (g.agrees t u at h i e) }

  -- ---- scalars
  agree_expect : {A : Type 0} (xs : Bytes) (a : A) → Agrees (expect xs a)
  unfolding expect fail
  agree_expect xs a t u at h i now = at_once (expect xs a) (stays_expect s xs a) at (expect xs a u at) h
  agree_expect [] a t u at h i (next {t = t'} {u = u'} b e) = λ l. (b ∷ u', refl, next b e, i)
  agree_expect (x ∷ xs) a t u at h i (next {t = t'} {u = u'} b e) =
      both_if Claim (b ∷ t') (b ∷ u') at (eqb b x) _ _ _ _ (agree_expect xs a t' u' (suc at) (onward b h) (onward b i) e) (λ d. refl)

  pub local_literal : (k : Word) → Local (literal k)
  unfolding literal
  local_literal k = record { stays = moves_stays s (literal k) (moves_literal s k); agrees = go k }
    where
      go : (k : Word) → Agrees (literal k)
      go TrueWord = agree_expect _ _
      go FalseWord = agree_expect _ _
      go NullWord = agree_expect _ _

  local_end : (negative : Bool) (n b : ℕ) → Local (end_number negative n b)
  unfolding end_number
  local_end negative n b = local_if (is_part b) _ _ (local_fail Value BadNumber) (local_give _)

  agree_digits : (negative : Bool) (n : ℕ) → Agrees (digits negative n)
  unfolding digits fail
  agree_digits negative n t u at h i now = at_once (digits negative n) (stays_digits s negative n) at (digits negative n u at) h
  agree_digits negative n t u at h i (next {t = t'} {u = u'} b e) =
      both_if Claim (b ∷ t') (b ∷ u') at (is_digit b) _ _ _ _
      (both_if Claim (b ∷ t') (b ∷ u') at (leb (n * 10 + digit_value b) max_integer) _ _ _ _ (agree_digits negative (n * 10 + digit_value b) t' u' (suc at) (onward b h) (onward b i) e) (λ d. refl))
      ((local_end negative n b).agrees (b ∷ t') (b ∷ u') at h i (next b e))

  local_first : (negative : Bool) (d : ℕ) → Local (first_digit negative d)
  unfolding first_digit after_zero
  local_first negative zero = record { stays = stays_first s negative 0; agrees = by_byte (first_digit negative 0) (stays_first s negative 0) (λ b t u at h i e. (local_end negative 0 b).agrees (b ∷ t) (b ∷ u) at h i (next b e)) }
  local_first negative (suc d) = record { stays = stays_first s negative (suc d); agrees = agree_digits negative (suc d) }

  pub local_int : (negative : Bool) → Local (int negative)
  unfolding int
  local_int negative = local_then peek _ local_peek (λ b. local_if (is_digit b) _ _ (local_eat _ (local_first negative (digit_value b))) (local_fail Value NotJson))

  -- ---- characters
  agree_tails : (n lo hi : ℕ) → Agrees (tails n lo hi)
  unfolding tails fail
  agree_tails n lo hi t u at h i now = at_once (tails n lo hi) (stays_tails s n lo hi) at (tails n lo hi u at) h
  agree_tails zero lo hi t u at h i (next {t = t'} {u = u'} b e) = λ l. (b ∷ u', refl, next b e, i)
  agree_tails (suc n) lo hi t u at h i (next {t = t'} {u = u'} b e) =
      both_if Claim (b ∷ t') (b ∷ u') at (within lo hi b) _ _ _ _ (agree_map (tails n 0x80 0xBF t' (suc at)) (tails n 0x80 0xBF u' (suc at)) (λ bs. b ∷ bs) (agree_tails n 0x80 0xBF t' u' (suc at) (onward b h) (onward b i) e)) (λ d. refl)

  agree_hexes : (n c : ℕ) → Agrees (hexes n c)
  unfolding hexes fail
  agree_hexes n c t u at h i now = at_once (hexes n c) (stays_hexes s n c) at (hexes n c u at) h
  agree_hexes zero c t u at h i (next {t = t'} {u = u'} b e) = λ l. (b ∷ u', refl, next b e, i)
  agree_hexes (suc n) c t u at h i (next {t = t'} {u = u'} b e) = both_hex Claim (b ∷ t') (b ∷ u') at (hex_of b) _ _ _ _ (λ d. agree_hexes n (c * 16 + d) t' u' (suc at) (onward b h) (onward b i) e) (λ d. refl)

  agree_escape : Agrees escape
  unfolding escape fail
  agree_escape = by_byte escape (stays_escape s) (λ b t u at h i e.
      both_escape Claim (b ∷ t) (b ∷ u) at (escape_of b) _ _ _ _ _ _ (λ d l. (u, refl, e, onward b i))
      (agree_map (hexes 4 0 t (suc at)) (hexes 4 0 u (suc at)) unit (agree_hexes 4 0 t u (suc at) (onward b h) (onward b i) e)) (λ d. refl))

  pub agree_char : Stays s char → Agrees char
  unfolding char fail give
  agree_char f = by_byte char f (λ b t u at h i e.
      both_lead Claim (b ∷ t) (b ∷ u) at (lead_of b) _ _ _ _ _ _ _ _ (λ l. (b ∷ u, refl, next b e, i)) (agree_escape t u (suc at) (onward b h) (onward b i) e) (λ d. refl)
      (λ n lo hi. agree_map (tails n lo hi t (suc at)) (tails n lo hi u (suc at)) (λ bs. bytes (b ∷ bs)) (agree_tails n lo hi t u (suc at) (onward b h) (onward b i) e)))
