-- FaultScalars: what it is that a parser meets the first fault of what is derived; white space and numbers.
use Rattle.std.specs.Prelude.{◌≡◌, refl, Bool, true, false, ℕ, suc, ◌+◌, ◌*◌, ◌≤◌, T, leb, length}
use Rattle.std.proofs.Common.{sym, ◌∙◌, arith, leb-true, lit≤}
use Rattle.std.proofs.Math.Path.{subst, ap}
use mathlib.Core.List.{List, [], ◌∷◌, ◌++◌}
use Rattle.std.specs.Prelude.{Option, None, Some}
use Rattle.model.specs.Bytes.{Bytes}
use Rattle.model.proofs.Laws.Logic.{T→true}
use Rattle.model.specs.Limits.{max_integer}
use Rattle.model.specs.Refusal.{read_number}
use Rattle.model.specs.declared.refusal.ReadFault.TheVariants.{BadNumber}
use Rattle.model.specs.Value.{Value}
use Rattle.syntax.specs.Faults.{Fault, fault, faults_digits, faults_int, faults_frac, faults_exp, faults_number}
use Rattle.syntax.specs.Grammar.{Ws, no_ws, ws, Digits, no_digits, digit, Int, zero_int, int, Frac, no_frac, frac, Exp, no_exp, exp, spell_ws, spell_digits, spell_int, spell_frac, spell_exp, digits_number, int_number, limited, plain}
use Rattle.syntax.specs.Read
use Rattle.syntax.specs.Read.{Parsed, ok, bad, Parser, then, ◌>>=◌, give, fail, if, peek, eat, white, signed, is_part, end_number, digits, after_zero, first_digit}
use Rattle.syntax.specs.Tokens.{within, is_white, is_digit, digit_value, is_point}
use Rattle.syntax.proofs.Laws.Agreement.{◌&◌, spelled_length, int_keeps, frac_keeps}
use Rattle.syntax.proofs.Laws.Parsing.{if_law, if_true, if_false}
use Rattle.syntax.proofs.Laws.SoundScalars.{in_limit}
use Rattle.syntax.proofs.Laws.Tokens.{positive_digit, positive_value, digit_small, EndsNumber, white_ends, exponent_part, exponent_no_digit}

-- The outcome of a parser on what is derived in front of y, in a text of N bytes: its meaning if it has no fault, and else its first fault.
abbrev pub Meets : {A : Type 0} → List Fault → Option A → Bytes → ℕ → Parsed A → Type 0
Meets fs o y N (ok a u q) = (fs ≡ []) × (o ≡ Some a) × (u ≡ y) × (q + length y ≡ N)
Meets fs o y N (bad k p) = (3 ≤ read_number k) × ((rest : List Fault) × (fs ≡ fault k p ∷ rest))

module _ {A B : Type 0} (o : Option A) (o₂ : Option B) (z y : Bytes) (N : ℕ) where
  -- One part after another, and a part after which no fault is left.
  pub meets_then : (fs gs : List Fault) (x : Parsed A) (g : A → Parser B) → Meets fs o z N x → ((a : A) (q : ℕ) → o ≡ Some a → q + length z ≡ N → Meets gs o₂ y N (g a z q)) → Meets (fs ++ gs) o₂ y N (then x g)
  unfolding then
  meets_then fs gs (ok a u q) g h f = subst (λ l. Meets (l ++ gs) o₂ y N (g a u q)) (sym h.0) (subst (λ t. Meets gs o₂ y N (g a t q)) (sym h.2) (f a q h.1 h.3))
  meets_then fs gs (bad k p) g h f = (h.0, (h.1.0 ++ gs, ap (λ l. l ++ gs) h.1.1))

  pub meets_last : (fs : List Fault) (x : Parsed A) (g : A → Parser B) → Meets fs o z N x → ((a : A) (q : ℕ) → o ≡ Some a → q + length z ≡ N → Meets [] o₂ y N (g a z q)) → Meets fs o₂ y N (then x g)
  unfolding then
  meets_last fs (ok a u q) g h f = subst (λ l. Meets l o₂ y N (g a u q)) (sym h.0) (subst (λ t. Meets [] o₂ y N (g a t q)) (sym h.2) (f a q h.1 h.3))
  meets_last fs (bad k p) g h f = h

-- The same by other names.
pub meets_as : {A : Type 0} (fs gs : List Fault) (o o₂ : Option A) (y : Bytes) (N : ℕ) (r : Parsed A) → fs ≡ gs → o ≡ o₂ → Meets gs o₂ y N r → Meets fs o y N r
meets_as fs gs o o₂ y N r i j h = subst (λ l. Meets l o y N r) (sym i) (subst (λ z. Meets gs z y N r) (sym j) h)

-- ---- white space
abbrev pub NotWhite : Bytes → Type 0
NotWhite [] = Unit {0}
NotWhite (b ∷ t) = is_white b ≡ false

pub white_run : {B : Type 0} (Q : Parsed B → Type 0) (m : Parser B) (w : Ws) (t : Bytes) (at N : ℕ) → NotWhite t → at + length (spell_ws w t) ≡ N → ((q : ℕ) → q + length t ≡ N → Q (m t q)) → Q (white m (spell_ws w t) at)
unfolding white spell_ws
white_run Q m no_ws [] at N h e f = f at e
white_run Q m no_ws (b ∷ t) at N h e f = if_false Q (b ∷ t) at (is_white b) _ _ h (f at e)
white_run Q m (ws b i w) t at N h e f = if_true Q (b ∷ spell_ws w t) at (is_white b) _ _ (T→true _ i) (white_run Q m w t (suc at) N h (omega (arith, e)) f)

-- ---- numbers
-- What follows a number ends it.
abbrev pub Stops : Bytes → Type 0
Stops [] = Unit {0}
Stops (b ∷ y) = EndsNumber b

pub stops_ws : (w : Ws) (y : Bytes) → Stops y → Stops (spell_ws w y)
unfolding spell_ws
stops_ws no_ws y h = h
stops_ws (ws b i w) y h = white_ends b i

-- A parser that ends a number, where n is what its digits make.
record Ends (negative : Bool) (n : ℕ) (m : Parser Value) : Type 0 where
  pub at_end : (at : ℕ) → m [] at ≡ ok (signed negative n) [] at
  pub at_byte : (b : ℕ) (t : Bytes) (at : ℕ) → is_digit b ≡ false → m (b ∷ t) at ≡ end_number negative n b (b ∷ t) at

digits_end : (negative : Bool) (n : ℕ) → Ends negative n (digits negative n)
unfolding digits
digits_end negative n = record { at_end = λ at. refl; at_byte = λ b t at e. if_false (λ r. r ≡ end_number negative n b (b ∷ t) at) (b ∷ t) at (is_digit b) _ _ e refl }

zero_ends : (negative : Bool) → Ends negative 0 (after_zero negative)
unfolding after_zero
zero_ends negative = record { at_end = λ at. refl; at_byte = λ b t at e. refl }

end_part : (negative : Bool) (n b : ℕ) (t : Bytes) (at : ℕ) → is_part b ≡ true → end_number negative n b (b ∷ t) at ≡ bad BadNumber at
unfolding end_number fail
end_part negative n b t at e = if_true (λ r. r ≡ bad BadNumber at) (b ∷ t) at (is_part b) _ _ e refl

end_number_lem : (negative : Bool) (n b : ℕ) (t : Bytes) (at : ℕ) → is_part b ≡ false → end_number negative n b (b ∷ t) at ≡ ok (signed negative n) (b ∷ t) at
unfolding end_number give
end_number_lem negative n b t at e = if_false (λ r. r ≡ ok (signed negative n) (b ∷ t) at) (b ∷ t) at (is_part b) _ _ e refl

dot_part : (is_digit 0x2E ≡ false) × (is_part 0x2E ≡ true)
unfolding is_digit within is_part is_point
dot_part = (refl, refl)

-- p is the place of the exponent.
part_meets :
    (negative : Bool) (n : ℕ) (m : Parser Value) → Ends negative n m → (fr : Frac) (ex : Exp) (N : ℕ) (y : Bytes) (at p : ℕ) → n ≤ max_integer → Stops y
    → at + length (spell_frac fr (spell_exp ex y)) ≡ N → p + length (spell_exp ex y) ≡ N
    → Meets (faults_frac fr at ++ faults_exp ex p) (plain negative n fr ex) y N (m (spell_frac fr (spell_exp ex y)) at)
unfolding spell_frac spell_exp faults_frac faults_exp plain
part_meets negative n m ends no_frac no_exp N [] at p l h e i = subst (Meets [] (limited negative n) [] N) (sym (ends.at_end at)) (refl, in_limit negative n l, refl, e)
part_meets negative n m ends no_frac no_exp N (b ∷ y) at p l h e i =
    subst (Meets [] (limited negative n) (b ∷ y) N) (sym (ends.at_byte b y at h.0 ∙ end_number_lem negative n b y at h.1)) (refl, in_limit negative n l, refl, e)
part_meets negative n m ends no_frac (exp x g s b k ds) N y at p l h e i =
    subst (Meets (fault BadNumber p ∷ []) None y N) (sym (ends.at_byte x _ at (exponent_no_digit x g) ∙ end_part negative n x _ at (exponent_part x g)))
    (lit≤ tt, ([], ap (λ q. fault BadNumber q ∷ []) (omega (arith, e, i))))
part_meets negative n m ends (frac b g ds) ex N y at p l h e i =
    subst (Meets (fault BadNumber at ∷ faults_exp ex p) None y N) (sym (ends.at_byte 0x2E _ at dot_part.0 ∙ end_part negative n 0x2E _ at dot_part.1)) (lit≤ tt, (faults_exp ex p, refl))

digit_in : (n b : ℕ) (h : T (is_digit b)) (ds : Digits) (at : ℕ) → leb (n * 10 + digit_value b) max_integer ≡ true → faults_digits n (digit b h ds) at ≡ faults_digits (n * 10 + digit_value b) ds (suc at)
unfolding faults_digits
digit_in n b h ds at g = rw (g, faults_digits)

digit_out : (n b : ℕ) (h : T (is_digit b)) (ds : Digits) (at : ℕ) → leb (n * 10 + digit_value b) max_integer ≡ false → faults_digits n (digit b h ds) at ≡ fault BadNumber at ∷ []
unfolding faults_digits
digit_out n b h ds at g = rw (g, faults_digits)

-- One more digit, p and q the places of the fraction and of the exponent.
digit_meets :
    (b : ℕ) (g : T (is_digit b)) (ds : Digits) (fr : Frac) (ex : Exp) (negative : Bool) (n N : ℕ) (y : Bytes) (at p q : ℕ)
    → ((m : ℕ) → m ≤ max_integer → Meets (faults_digits m ds (suc at) ++ (faults_frac fr p ++ faults_exp ex q)) (plain negative (digits_number m ds) fr ex) y N (digits negative m (spell_digits ds (spell_frac fr (spell_exp ex y))) (suc at)))
    → Meets (faults_digits n (digit b g ds) at ++ (faults_frac fr p ++ faults_exp ex q)) (plain negative (digits_number (n * 10 + digit_value b) ds) fr ex) y N (digits negative n (b ∷ spell_digits ds (spell_frac fr (spell_exp ex y))) at)
unfolding digits fail
digit_meets b g ds fr ex negative n N y at p q more =
    if_true Q _ at (is_digit b) _ _ (T→true _ g)
    (if_law Q _ at (leb (n * 10 + digit_value b) max_integer) _ _
    (λ h. subst (λ l. Meets (l ++ gs) (plain negative (digits_number (n * 10 + digit_value b) ds) fr ex) y N (digits negative (n * 10 + digit_value b) (spell_digits ds (spell_frac fr (spell_exp ex y))) (suc at))) (sym (digit_in n b g ds at h)) (more (n * 10 + digit_value b) (leb-true _ _ h)))
    (λ h. (lit≤ tt, (gs, ap (λ l. l ++ gs) (digit_out n b g ds at h)))))
  where
    gs : List Fault
    gs = faults_frac fr p ++ faults_exp ex q

    Q : Parsed Value → Type 0
    Q = Meets (faults_digits n (digit b g ds) at ++ gs) (plain negative (digits_number (n * 10 + digit_value b) ds) fr ex) y N

digits_meet :
    (ds : Digits) (fr : Frac) (ex : Exp) (negative : Bool) (n N : ℕ) (y : Bytes) (at p q : ℕ) → n ≤ max_integer → Stops y
    → at + length (spell_digits ds (spell_frac fr (spell_exp ex y))) ≡ N → p + length (spell_frac fr (spell_exp ex y)) ≡ N → q + length (spell_exp ex y) ≡ N
    → Meets (faults_digits n ds at ++ (faults_frac fr p ++ faults_exp ex q)) (plain negative (digits_number n ds) fr ex) y N (digits negative n (spell_digits ds (spell_frac fr (spell_exp ex y))) at)
unfolding spell_digits digits_number faults_digits
digits_meet no_digits fr ex negative n N y at p q l h e i j =
    subst (λ x. Meets (faults_frac fr x ++ faults_exp ex q) (plain negative n fr ex) y N (digits negative n (spell_frac fr (spell_exp ex y)) at)) (omega (arith, e, i))
    (part_meets negative n (digits negative n) (digits_end negative n) fr ex N y at q l h e j)
digits_meet (digit b g ds) fr ex negative n N y at p q l h e i j = digit_meets b g ds fr ex negative n N y at p q (λ m k. digits_meet ds fr ex negative m N y (suc at) p q k h (omega (arith, e)) i j)

-- A first digit that is not 0.
first_positive : (negative : Bool) (n d : ℕ) (t : Bytes) (at : ℕ) → n ≡ suc d → first_digit negative n t at ≡ digits negative n t at
unfolding first_digit
first_positive negative n d t at e = subst (λ m. first_digit negative m t at ≡ digits negative m t at) (sym e) refl

int_at :
    (x : Int) (fr : Frac) (ex : Exp) (negative : Bool) (N : ℕ) (y : Bytes) (at p q : ℕ) → Stops y → at + length (spell_int x (spell_frac fr (spell_exp ex y))) ≡ N
    → p + length (spell_frac fr (spell_exp ex y)) ≡ N → q + length (spell_exp ex y) ≡ N
    → Meets (faults_int x at ++ (faults_frac fr p ++ faults_exp ex q)) (plain negative (int_number x) fr ex) y N (Read.int negative (spell_int x (spell_frac fr (spell_exp ex y))) at)
unfolding spell_int int_number faults_int Read.int ◌>>=◌ then peek eat first_digit if is_digit within
int_at zero_int fr ex negative N y at p q h e i j =
    subst (λ x. Meets (faults_frac fr x ++ faults_exp ex q) (plain negative 0 fr ex) y N (after_zero negative (spell_frac fr (spell_exp ex y)) (suc at))) (omega (arith, e, i))
    (part_meets negative 0 (after_zero negative) (zero_ends negative) fr ex N y (suc at) q (omega arith) h (omega (arith, e)) j)
int_at (int b k ds) fr ex negative N y at p q h e i j =
    let t = spell_digits ds (spell_frac fr (spell_exp ex y)) in
    if_true Q (b ∷ t) at (is_digit b) _ _ (T→true _ (positive_digit b k))
    (subst Q (sym (first_positive negative (digit_value b) (positive_value b k).0 t (suc at) (positive_value b k).1))
    (digits_meet ds fr ex negative (digit_value b) N y (suc at) p q (digit_small b (positive_digit b k)) h (omega (arith, e)) i j))
  where
    Q : Parsed Value → Type 0
    Q = Meets (faults_digits (digit_value b) ds (suc at) ++ (faults_frac fr p ++ faults_exp ex q)) (plain negative (digits_number (digit_value b) ds) fr ex) y N

-- A number from after its sign on.
pub int_meets :
    (x : Int) (fr : Frac) (ex : Exp) (negative : Bool) (N : ℕ) (y : Bytes) (at : ℕ) → Stops y → at + length (spell_int x (spell_frac fr (spell_exp ex y))) ≡ N
    → Meets (faults_number x fr ex at) (plain negative (int_number x) fr ex) y N (Read.int negative (spell_int x (spell_frac fr (spell_exp ex y))) at)
unfolding faults_number
int_meets x fr ex negative N y at h e =
    int_at x fr ex negative N y at (at + length (spell_int x [])) (at + length (spell_int x (spell_frac fr []))) h e
    (omega (arith, e, spelled_length (int_keeps x) (spell_frac fr (spell_exp ex y)))) (omega (arith, e, spelled_length (int_keeps x & frac_keeps fr) (spell_exp ex y)))
