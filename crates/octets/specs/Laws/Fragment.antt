-- Fragment: the first fragment of a text, and the others behind its separator.
use Rattle.std.specs.Prelude.{◌≡◌, refl, Bool, true, false, cond, List, [], ◌∷◌, ℕ, suc, ◌+◌, ◌≤◌, eqb, length, take, drop}
use Rattle.std.proofs.Common.{sym, ap, ◌∙◌, arith, eqb-true, eq-eqb, ne_eqb, length-drop}
use Rattle.std.proofs.Math.Bool.{or-false}
use Rattle.std.proofs.lemmas.Bool.{eqb-false}
use Rattle.model.specs.Bytes.{Bytes, ascii, byte, cons_head, split_on}
use Rattle.model.specs.Lists.{any}
use Rattle.octets.specs.Fragment.{fragment_length}

fragment_inside : (separators s : Bytes) → fragment_length separators s ≤ length s
unfolding fragment_length
fragment_inside separators [] = omega arith
fragment_inside separators (x ∷ s) = go (any (eqb x) separators) (fragment_inside separators s)
  where
    go : (b : Bool) → fragment_length separators s ≤ length s → cond b 0 (suc (fragment_length separators s)) ≤ suc (length s)
    go true l = omega arith
    go false l = omega arith

-- From a place of a text on.
pub end_inside : (separators s : Bytes) (at : ℕ) → at ≤ length s → at + fragment_length separators (drop at s) ≤ length s
end_inside separators s at h = omega (arith, fragment_inside separators (drop at s), length-drop at s)

-- Of what follows the first fragment, a separator and the others.
abbrev pub others : (ℕ → Bool) → Bytes → List Bytes
others separator [] = []
others separator (x ∷ s) = split_on separator s

pub first_fragment : (separators : Bytes) {separator : ℕ → Bool} → ((x : ℕ) → any (eqb x) separators ≡ separator x) → (s : Bytes)
    → split_on separator s ≡ take (fragment_length separators s) s ∷ others separator (drop (fragment_length separators s) s)
unfolding fragment_length
first_fragment separators same [] = refl
first_fragment separators {separator} same (x ∷ s) = go (any (eqb x) separators) (separator x) (same x) (first_fragment separators same s)
  where
    n : ℕ
    n = fragment_length separators s

    go : (b c : Bool) → b ≡ c → split_on separator s ≡ take n s ∷ others separator (drop n s)
        → cond c ([] ∷ split_on separator s) (cons_head x (split_on separator s))
        ≡ take (cond b 0 (suc n)) (x ∷ s) ∷ others separator (drop (cond b 0 (suc n)) (x ∷ s))
    go true c f e = rw (← f)
    go false c f e = rw (← f) (ap (cons_head x) e)

-- ---- a path's separator
pub eqb_sym : (a b : ℕ) → eqb a b ≡ eqb b a
eqb_sym a b = go (eqb b a) refl
  where
    go : (t : Bool) → eqb b a ≡ t → eqb a b ≡ t
    go true e = eq-eqb a b (sym (eqb-true b a e))
    go false e = ne_eqb a b (λ f. eqb-false b a e (sym f))

pub is_dot_lem : (x : ℕ) → any (eqb x) (ascii ".") ≡ eqb (byte ".") x
is_dot_lem x = or-false (eqb x (byte ".")) ∙ eqb_sym x (byte ".")
