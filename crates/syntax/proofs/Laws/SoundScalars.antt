-- SoundScalars: what it is that a parser reads what the grammar derives, and that white space, words and numbers are read so.
use Rattle.std.specs.Prelude.{◌≡◌, Bool, ◌⊎◌, leb, eqb, drop}
use Rattle.std.proofs.Math.Path.{refl, subst}
use Rattle.std.proofs.Common.{sym, ap, ◌∙◌, inl, inr, arith, eqb-true, leb-true, le-leb}
use mathlib.Core.List.{[], ◌∷◌, ◌++◌}
use Rattle.std.specs.Prelude.{Some}
use Prim.Native.Nat.{ℕ, zero, suc, ◌+◌, ◌*◌, ◌≤◌}
use Rattle.std.proofs.Math.Dec.{T}
use Rattle.model.specs.Bytes.{Bytes}
use Rattle.model.specs.Limits.{max_integer}
use Rattle.model.specs.declared.refusal.ReadFault.{ReadFault}
use Rattle.model.specs.declared.refusal.ReadFault.TheVariants.{NotJson, RepeatedName, LoneSurrogate, BadNumber, TooLarge}
use Rattle.model.specs.Value.{Value}
use Rattle.syntax.specs.Faults.{reach, Lone}
use Rattle.syntax.specs.Grammar.{Ws, no_ws, ws, Digits, no_digits, digit, Int, zero_int, Frac, no_frac, frac, no_sign, Exp, no_exp, exp, spell_ws, spell_digits, spell_int, spell_frac, spell_sign, spell_exp, digits_number, int_number, limited, plain}
use Rattle.syntax.specs.Grammar
use Rattle.syntax.specs.Read.{Parsed, ok, bad, Parser, ◌>>=◌, give, fail, eat, white, expect, signed, is_part, end_number, digits, after_zero, first_digit, int}
use Rattle.syntax.specs.Tokens.{within, is_white, is_digit, digit_value, is_e}
use Rattle.syntax.proofs.Laws.Agreement.{At, onward, Alike, now, next, Keeps, nothing, byte}
use Rattle.syntax.proofs.Laws.Parsing.{if_law, peek_law}
use Rattle.syntax.proofs.Laws.Tokens.{true_t, digit_zero, digit_positive, digit_small, part_says}

-- Past a lone surrogate the text that is derived goes on with a space.
abbrev pub Spaced : ReadFault → Bytes → Type 0
Spaced NotJson w = Unit {0}
Spaced RepeatedName w = Unit {0}
Spaced LoneSurrogate w = (z : Bytes) × (w ≡ 0x20 ∷ z)
Spaced BadNumber w = Unit {0}
Spaced TooLarge w = Unit {0}

-- It stands there, and begins no pair.
abbrev pub IsLone : ReadFault → Bytes → Type 0
IsLone NotJson t = Unit {0}
IsLone RepeatedName t = Unit {0}
IsLone LoneSurrogate t = Lone t
IsLone BadNumber t = Unit {0}
IsLone TooLarge t = Unit {0}

-- A fault that is seen at its place.
pub record Seen (k : ReadFault) : Type 0 where
  pub reaches : (p : ℕ) → reach k p ≡ suc p
  pub no_lone : (t : Bytes) → IsLone k t
  pub spaced : (w : Bytes) → Spaced k w

pub name_seen : Seen RepeatedName
name_seen = record { reaches = λ p. refl; no_lone = λ t. tt; spaced = λ w. tt }

pub number_seen : Seen BadNumber
number_seen = record { reaches = λ p. refl; no_lone = λ t. tt; spaced = λ w. tt }

pub large_seen : Seen TooLarge
large_seen = record { reaches = λ p. refl; no_lone = λ t. tt; spaced = λ w. tt }

-- ---- the parts of a number
-- What follows its digits; digits and what follows; a number but for its sign.
pub record Part : Type 0 where
  pub fr : Frac
  pub ex : Exp

abbrev pub spell_part : Part → Bytes → Bytes
spell_part x y = spell_frac x.fr (spell_exp x.ex y)

pub record Tail : Type 0 where
  pub ds : Digits
  pub part : Part

abbrev pub spell_tail : Tail → Bytes → Bytes
spell_tail x y = spell_digits x.ds (spell_part x.part y)

pub record Unsigned : Type 0 where
  pub whole : Int
  pub part : Part

abbrev pub spell_unsigned : Unsigned → Bytes → Bytes
spell_unsigned x y = spell_int x.whole (spell_part x.part y)

-- Their meaning, where n is the number so far.
abbrev PartMeans : Bool → ℕ → Part → Value → Type 0
PartMeans negative n x v = plain negative n x.fr x.ex ≡ Some v

abbrev TailMeans : Bool → ℕ → Tail → Value → Type 0
TailMeans negative n x v = PartMeans negative (digits_number n x.ds) x.part v

abbrev pub UnsignedMeans : Bool → Unsigned → Value → Type 0
UnsignedMeans negative x v = PartMeans negative (int_number x.whole) x.part v

abbrev no_part : Part
no_part = record { fr = no_frac; ex = no_exp }

abbrev zero_unsigned : Unsigned
zero_unsigned = record { whole = zero_int; part = no_part }

pub in_limit : (negative : Bool) (n : ℕ) → n ≤ max_integer → limited negative n ≡ Some (signed negative n)
unfolding limited
in_limit negative n l = rw (le-leb n max_integer l, limited)

-- 0, a digit that completes a fraction or an exponent.
zero_digit : T (is_digit 0x30)
unfolding is_digit within
zero_digit = tt

-- ---- s is the whole text
module _ (s : Bytes) where
  -- What stands in t through the fault stands in front of what F spells, whatever follows.
  pub record Cut (k : ReadFault) (p : ℕ) (t : Bytes) (F : Bytes → Bytes) : Type 0 where
    pub rest : Bytes
    pub place : At s rest (reach k p)
    pub alike : (y : Bytes) → (w : Bytes) × Alike rest w t (F y) × Spaced k w
    pub lone : IsLone k (drop p s)

  -- What was read of t, a derivation of it with its meaning, and what is left.
  pub record Got {A X : Type 0} (K : X → Bytes → Bytes) (R : X → A → Type 0) (t : Bytes) (a : A) (u : Bytes) (q : ℕ) : Type 0 where
    pub tree : X
    pub is : t ≡ K tree u
    pub means : R tree a
    pub stands : At s u q

  -- The outcome of a parser on t: K spells a derivation, R is its meaning.
  abbrev pub Reads : {A X : Type 0} (K : X → Bytes → Bytes) (R : X → A → Type 0) (t : Bytes) → Parsed A → Type 0
  Reads K R t (ok a u q) = Got K R t a u q
  Reads {X = X} K R t (bad k p) = (x : X) × Cut k p t (K x)

  pub cut_here : {t : Bytes} {at : ℕ} (F : Bytes → Bytes) → At s t at → Cut NotJson at t F
  cut_here {t} F h = record { rest = t; place = h; alike = λ y. (F y, now, tt); lone = tt }

  pub cut_byte : {k : ReadFault} {b : ℕ} {u : Bytes} {at : ℕ} → Seen k → (G : Bytes → Bytes) → At s (b ∷ u) at → Cut k at (b ∷ u) (λ y. b ∷ G y)
  cut_byte {k} {b} {u} {at} seen G h =
      record { rest = u; place = subst (At s u) (sym (seen.reaches at)) (onward b h); alike = λ y. (G y, next b now, seen.spaced (G y)); lone = seen.no_lone (drop at s) }

  pub cut_after : {P : Bytes → Bytes} → Keeps P → {k : ReadFault} {p : ℕ} {t t' : Bytes} {F : Bytes → Bytes} → t ≡ P t' → Cut k p t' F → Cut k p t (λ y. P (F y))
  cut_after {P} keeps {k} {p} {t} {t'} {F} e c =
      record {
        rest = c.rest;
        place = c.place;
        lone = c.lone;
        alike = λ y. let x = c.alike y in (x.0, subst (λ z. Alike c.rest x.0 z (P (F y))) (sym e) (keeps.keep x.1), x.2);
      }

  pub cut_before : {k : ReadFault} {p : ℕ} {t : Bytes} {F : Bytes → Bytes} (G : Bytes → Bytes) → Cut k p t F → Cut k p t (λ y. F (G y))
  cut_before G c = record { rest = c.rest; place = c.place; alike = λ y. c.alike (G y); lone = c.lone }

  pub cut_as : {k : ReadFault} {p : ℕ} {t : Bytes} {F : Bytes → Bytes} (G : Bytes → Bytes) → ((y : Bytes) → F y ≡ G y) → Cut k p t F → Cut k p t G
  cut_as {k} {p} {t} G e c = record { rest = c.rest; place = c.place; alike = λ y. let x = c.alike y in (x.0, subst (Alike c.rest x.0 t) (e y) x.1, x.2); lone = c.lone }

  -- The same derivations as parts of others, behind what P spells.
  pub reads_in :
      {A X Y : Type 0} {K : X → Bytes → Bytes} {R : X → A → Type 0} (K' : Y → Bytes → Bytes) (R' : Y → A → Type 0) {P : Bytes → Bytes} → Keeps P
      → (f : X → Y) → ((x : X) (y : Bytes) → P (K x y) ≡ K' (f x) y) → ((x : X) (a : A) → R x a → R' (f x) a)
      → {t t' : Bytes} → t ≡ P t' → (r : Parsed A) → Reads K R t' r → Reads K' R' t r
  reads_in K' R' {P} keeps f spells means e (ok a u q) g = record { tree = f g.tree; is = e ∙ ap P g.is ∙ spells g.tree u; means = means g.tree a g.means; stands = g.stands }
  reads_in K' R' {P} keeps f spells means e (bad k p) g = (f g.0, cut_as (K' (f g.0)) (spells g.0) (cut_after keeps e g.1))

  -- ---- white space and words
  pub white_law : {B : Type 0} (Q : Parsed B → Type 0) (m : Parser B) (t : Bytes) (at : ℕ) → At s t at → ((w : Ws) (u : Bytes) (q : ℕ) → t ≡ spell_ws w u → At s u q → Q (m u q)) → Q (white m t at)
  unfolding white spell_ws
  white_law Q m [] at h f = f no_ws [] at refl h
  white_law Q m (b ∷ t) at h f =
      if_law Q (b ∷ t) at (is_white b) _ _
      (λ i. white_law Q m t (suc at) (onward b h) (λ w u q e g. f (ws b (true_t i) w) u q (ap (λ y. b ∷ y) e) g))
      (λ i. f no_ws (b ∷ t) at refl h)

  pub expect_reads : {A : Type 0} (xs : Bytes) (a : A) (t : Bytes) (at : ℕ) → At s t at → Reads {X = Unit {0}} (λ x y. xs ++ y) (λ x b. a ≡ b) t (expect xs a t at)
  unfolding expect fail
  expect_reads [] a t at h = record { tree = tt; is = refl; means = refl; stands = h }
  expect_reads (x ∷ xs) a [] at h = (tt, cut_here _ h)
  expect_reads (x ∷ xs) a (b ∷ t) at h =
      if_law (Reads {X = Unit {0}} (λ z y. x ∷ (xs ++ y)) (λ z c. a ≡ c) (b ∷ t)) (b ∷ t) at (eqb b x) _ _
      (λ i. reads_in _ _ (byte x) (λ z. z) (λ z y. refl) (λ z c j. j) (ap (λ c. c ∷ t) (eqb-true b x i)) (expect xs a t (suc at)) (expect_reads xs a t (suc at) (onward b h)))
      (λ i. (tt, cut_here _ h))

  -- ---- numbers
  end_whole : (negative : Bool) (n : ℕ) {t : Bytes} {at : ℕ} → n ≤ max_integer → At s t at → Got spell_part (PartMeans negative n) t (signed negative n) t at
  unfolding spell_frac spell_exp plain
  end_whole negative n l h = record { tree = no_part; is = refl; means = in_limit negative n l; stands = h }

  end_reads : (negative : Bool) (n b : ℕ) (t : Bytes) (at : ℕ) → n ≤ max_integer → At s (b ∷ t) at → Reads spell_part (PartMeans negative n) (b ∷ t) (end_number negative n b (b ∷ t) at)
  unfolding end_number fail give spell_frac spell_exp spell_sign spell_digits
  end_reads negative n b t at l h =
      if_law (Reads spell_part (PartMeans negative n) (b ∷ t)) (b ∷ t) at (is_part b) _ _ (λ i. part (part_says b i)) (λ i. end_whole negative n l h)
    where
      part : (b ≡ 0x2E) ⊎ T (is_e b) → Reads spell_part (PartMeans negative n) (b ∷ t) (bad BadNumber at)
      part (inl e) = (record { fr = frac 0x30 zero_digit no_digits; ex = no_exp }, subst (λ c. Cut BadNumber at (b ∷ t) (λ y. c ∷ 0x30 ∷ y)) e (cut_byte number_seen (λ y. 0x30 ∷ y) h))
      part (inr e) = (record { fr = no_frac; ex = exp b e no_sign 0x30 zero_digit no_digits }, cut_byte number_seen (λ y. 0x30 ∷ y) h)

  digits_read : (negative : Bool) (n : ℕ) (t : Bytes) (at : ℕ) → n ≤ max_integer → At s t at → Reads spell_tail (TailMeans negative n) t (digits negative n t at)
  unfolding digits spell_digits digits_number fail
  digits_read negative n [] at l h = stop (ok (signed negative n) [] at) (end_whole negative n l h)
    where
      stop : (r : Parsed Value) → Reads spell_part (PartMeans negative n) [] r → Reads spell_tail (TailMeans negative n) [] r
      stop = reads_in _ _ nothing (λ x. record { ds = no_digits; part = x }) (λ x y. refl) (λ x a g. g) refl
  digits_read negative n (b ∷ t) at l h =
      if_law Q (b ∷ t) at (is_digit b) _ _
      (λ i. if_law Q (b ∷ t) at (leb (n * 10 + digit_value b) max_integer) _ _
      (λ g. reads_in _ _ (byte b) (λ x. record { ds = digit b (true_t i) x.ds; part = x.part }) (λ x y. refl) (λ x a e. e) refl (digits negative (n * 10 + digit_value b) t (suc at))
      (digits_read negative (n * 10 + digit_value b) t (suc at) (leb-true _ _ g) (onward b h)))
      (λ g. (record { ds = digit b (true_t i) no_digits; part = no_part }, cut_byte number_seen (spell_part no_part) h)))
      (λ i. reads_in _ _ nothing (λ x. record { ds = no_digits; part = x }) (λ x y. refl) (λ x a g. g) refl (end_number negative n b (b ∷ t) at) (end_reads negative n b t at l h))
    where
      Q : Parsed Value → Type 0
      Q = Reads spell_tail (TailMeans negative n) (b ∷ t)

  zero_reads : (negative : Bool) (t : Bytes) (at : ℕ) → At s t at → Reads spell_part (PartMeans negative 0) t (after_zero negative t at)
  unfolding after_zero
  zero_reads negative [] at h = end_whole negative 0 (omega arith) h
  zero_reads negative (b ∷ t) at h = end_reads negative 0 b t at (omega arith) h

  first_reads : (negative : Bool) (d b : ℕ) (t : Bytes) (at : ℕ) → T (is_digit b) → digit_value b ≡ d → At s t at → Reads spell_unsigned (UnsignedMeans negative) (b ∷ t) (first_digit negative d t at)
  unfolding first_digit spell_int int_number
  first_reads negative zero b t at i e h =
      reads_in _ _ (byte 0x30) (λ x. record { whole = zero_int; part = x }) (λ x y. refl) (λ x a g. g) (ap (λ c. c ∷ t) (digit_zero b i e)) (after_zero negative t at) (zero_reads negative t at h)
  first_reads negative (suc d) b t at i e h =
      reads_in _ _ (byte b) (λ x. record { whole = Grammar.int b (digit_positive b d i e) x.ds; part = x.part }) (λ x y. refl)
      (λ x a g. subst (λ n. PartMeans negative (digits_number n x.ds) x.part a) (sym e) g)
      refl (digits negative (suc d) t at) (digits_read negative (suc d) t at (omega (arith, e, digit_small b i)) h)

  pub int_reads : (negative : Bool) (t : Bytes) (at : ℕ) → At s t at → Reads spell_unsigned (UnsignedMeans negative) t (int negative t at)
  unfolding int ◌>>=◌ eat fail
  int_reads negative t at h =
      peek_law (Reads spell_unsigned (UnsignedMeans negative) t) t at _ (λ e. (zero_unsigned, cut_here _ h))
      (λ b u e. if_law (Reads spell_unsigned (UnsignedMeans negative) t) (b ∷ u) at (is_digit b) _ _
      (λ i. subst (λ x. Reads spell_unsigned (UnsignedMeans negative) x (first_digit negative (digit_value b) u (suc at))) (sym e)
      (first_reads negative (digit_value b) b u (suc at) (true_t i) refl (onward b (subst (λ x. At s x at) e h))))
      (λ i. (zero_unsigned, cut_here _ h)))
