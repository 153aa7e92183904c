-- Logic: Boolean tests as facts, and tests of equality as equations.
use Rattle.std.specs.Prelude.{◌≡◌, refl, Bool, true, false, ◌&&◌, ◌||◌, cond, [], ◌∷◌, ℕ, T, eqb, ℤ, pos, negsuc}
use Rattle.std.proofs.Common.{sym, ap, ap₂, arith, eqb→eq}
use Rattle.std.proofs.Math.Bool.{or-false}
use Rattle.std.specs.Bool.{beq}
use Rattle.std.proofs.lemmas.Bool.{false≢true}
use Rattle.std.proofs.Math.Dec.{eqb_refl}
use Rattle.model.specs.Bytes.{Bytes, same_bytes}
use Rattle.model.specs.Value.{Scalar, null, boolean, integer, string, same_integer, same_scalar}

pub and_l : (a b : Bool) → T (a && b) → T a
and_l true b h = tt
and_l false b h = h

pub and_r : (a b : Bool) → T (a && b) → T b
and_r true b h = h
and_r false b h = absurd h

pub both : (a b : Bool) → a && b ≡ true → (a ≡ true) × (b ≡ true)
both true b e = (refl, e)
both false b e = absurd (false≢true e)

pub and_i : (a b : Bool) → T a → T b → T (a && b)
and_i true b x y = y
and_i false b x y = x

pub or_e : {X : Type 0} (a b : Bool) → (T a → X) → (T b → X) → T (a || b) → X
or_e true b f g h = f tt
or_e false b f g h = g h

pub or_l : (a b : Bool) → T a → T (a || b)
or_l true b h = tt
or_l false b h = absurd h

pub or_r : (a b : Bool) → T b → T (a || b)
or_r true b h = tt
or_r false b h = h

pub or_f : (a : Bool) → T (a || false) → T a
or_f true h = tt
or_f false h = h

pub or_false_l : (a b : Bool) → a || b ≡ false → a ≡ false
or_false_l true b e = e
or_false_l false b e = refl

pub or_false_r : (a b : Bool) → a || b ≡ false → b ≡ false
or_false_r true b e = cc
or_false_r false b e = e

pub T→true : (b : Bool) → T b → b ≡ true
T→true true h = refl
T→true false h = absurd h

pub true→t : (b : Bool) → b ≡ true → T b
true→t true e = tt
true→t false e = absurd (false≢true e)

-- ---- tests that are equal
pub and_left_comm : (a b c : Bool) → a && (b && c) ≡ b && (a && c)
and_left_comm true b c = refl
and_left_comm false true c = refl
and_left_comm false false c = refl

pub or_mix : (a b c d : Bool) → (a || b) || (c || d) ≡ (a || c) || (b || d)
or_mix true b c d = refl
or_mix false true true d = refl
or_mix false true false d = refl
or_mix false false c d = refl

-- Of two tests of which one rules the other out, one after the other.
pub or_else : (a b c : Bool) → (T b → a ≡ false) → a || (b && c) ≡ cond b c a
or_else a true c f = ap (λ (x : Bool). x || c) (f tt)
or_else a false c f = or-false a

-- Tests that hold together and fail together are equal.
pub same_test : (a b : Bool) → (T a → T b) → (a ≡ false → b ≡ false) → a ≡ b
same_test true b f g = sym (T→true b (f tt))
same_test false b f g = sym (g refl)

-- ---- equality: the tests hold exactly of equal things
pub bytes→≡ : (s t : Bytes) → T (same_bytes s t) → s ≡ t
bytes→≡ [] [] h = refl
bytes→≡ [] (y ∷ t) h = absurd h
bytes→≡ (x ∷ s) [] h = absurd h
bytes→≡ (x ∷ s) (y ∷ t) h = ap₂ ◌∷◌ (eqb→eq x y (and_l (eqb x y) _ h)) (bytes→≡ s t (and_r (eqb x y) _ h))

pub bytes_refl : (s : Bytes) → T (same_bytes s s)
bytes_refl [] = tt
bytes_refl (x ∷ s) = and_i (eqb x x) _ (eqb_refl x) (bytes_refl s)

integer→≡ : (y z : ℤ) → T (same_integer y z) → y ≡ z
integer→≡ (pos m) (pos n) h = ap pos (eqb→eq m n h)
integer→≡ (pos m) (negsuc n) h = absurd h
integer→≡ (negsuc m) (pos n) h = absurd h
integer→≡ (negsuc m) (negsuc n) h = ap negsuc (eqb→eq m n h)

integer_refl : (z : ℤ) → T (same_integer z z)
integer_refl (pos m) = eqb_refl m
integer_refl (negsuc m) = eqb_refl m

beq→≡ : (a b : Bool) → T (beq a b) → a ≡ b
beq→≡ true true h = refl
beq→≡ true false h = absurd h
beq→≡ false true h = absurd h
beq→≡ false false h = refl

beq_refl : (a : Bool) → T (beq a a)
beq_refl true = tt
beq_refl false = tt

-- 01, `===`: "true when kind and content are equal"
pub scalar→≡ : (x y : Scalar) → T (same_scalar x y) → x ≡ y
scalar→≡ null null h = refl
scalar→≡ null (boolean b) h = absurd h
scalar→≡ null (integer z) h = absurd h
scalar→≡ null (string s) h = absurd h
scalar→≡ (boolean a) null h = absurd h
scalar→≡ (boolean a) (boolean b) h = ap boolean (beq→≡ a b h)
scalar→≡ (boolean a) (integer z) h = absurd h
scalar→≡ (boolean a) (string s) h = absurd h
scalar→≡ (integer y) null h = absurd h
scalar→≡ (integer y) (boolean b) h = absurd h
scalar→≡ (integer y) (integer z) h = ap integer (integer→≡ y z h)
scalar→≡ (integer y) (string s) h = absurd h
scalar→≡ (string r) null h = absurd h
scalar→≡ (string r) (boolean b) h = absurd h
scalar→≡ (string r) (integer z) h = absurd h
scalar→≡ (string r) (string s) h = ap string (bytes→≡ r s h)

pub scalar_refl : (x : Scalar) → T (same_scalar x x)
scalar_refl null = tt
scalar_refl (boolean a) = beq_refl a
scalar_refl (integer z) = integer_refl z
scalar_refl (string s) = bytes_refl s

-- Two different constructors are not equal: `clash cc`, where `cc` finds 0 ≡ 1 from an equation between them.
pub clash : {X : Type 0} → ◌≡◌ {A = ℕ} 0 1 → X
clash e = absurd (omega arith)
