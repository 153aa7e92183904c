-- Laws of a name's symbols and bits.
use mathlib.Core.Path.{◌≡◌, refl, sym, ap, ◌∙◌, subst}
use mathlib.Core.List.{[], ◌∷◌}
use Prim.Native.Nat.{ℕ, zero, suc, ◌+◌, ◌*◌, ◌-◌, ◌/◌, ◌%◌, ◌^◌, ◌<◌, ◌≤◌}
use native.Mathlib.Omega.{arith}
use native.Mathlib.Nat.{div-eq_of_lt, le-div_iff_mul-le}
use native.Mathlib.Decide.{dec_lt}
use native.Mathlib.Numerals.{add-one}
use borrow.Author.Tests.{eq-eqb, eqb-true}
use lib.Dec.{eqb}
use lib.ListN.{length, get_or}
use lib.Seq.{ext_get_or}
use lib.Pow.{pow_pos, pow_mono, shr-shr}
use lib.Bits.{bit_xor, xor_shr, xor_self, xor_add_and, and_le_l, and_le_r, xor_lt}
use lib.Count.{count_leading_zeros, leading_top}
use Rattle.model.specs.Bytes.{Bytes}
use Rattle.name_index.specs.Bits.{symbol_at, bit_at, Agree, Critical}
use Rattle.name_index.specs.Inner.{Highest, Common}

-- ---- symbols

pub symbol_past : (n : Bytes) (p : ℕ) → length n ≤ p → symbol_at n p ≡ 0
unfolding symbol_at
symbol_past [] p h = refl
symbol_past (x ∷ n) zero h = absurd (none h)
  where
    none : {k : ℕ} → suc k ≤ 0 → ⊥
    none h = omega arith
symbol_past (x ∷ n) (suc p) h = symbol_past n p (omega arith)

pub symbol_in : (n : Bytes) (p : ℕ) → p < length n → symbol_at n p ≡ 256 + get_or n p 0
unfolding symbol_at
symbol_in [] p h = absurd (none h)
  where
    none : {k : ℕ} → suc k ≤ 0 → ⊥
    none h = omega arith
symbol_in (x ∷ n) zero h = refl
symbol_in (x ∷ n) (suc p) h = symbol_in n p (omega arith)

-- ---- bits

same_bit : (u v : Bytes) (i : ℕ) → symbol_at u (i / 16) / 2 ^ (15 - i % 16) ≡ symbol_at v (i / 16) / 2 ^ (15 - i % 16) → bit_at u i ≡ bit_at v i
unfolding bit_at
same_bit u v i e = ap (λ (z : ℕ). eqb (z % 2) 1) e

bit_is : (u : Bytes) (i p k x : ℕ) → i / 16 ≡ p → i % 16 ≡ k → x ≡ symbol_at u p → bit_at u i ≡ eqb (x / 2 ^ (15 - k) % 2) 1
unfolding bit_at
bit_is u i p k x q r e =
    ap (λ (z : ℕ). eqb (symbol_at u z / 2 ^ (15 - i % 16) % 2) 1) q ∙ ap (λ (z : ℕ). eqb (symbol_at u p / 2 ^ (15 - z) % 2) 1) r
    ∙ ap (λ (z : ℕ). eqb (z / 2 ^ (15 - k) % 2) 1) (sym e)

odd_same : (x y : ℕ) → x < 2 → y < 2 → eqb x 1 ≡ eqb y 1 → x ≡ y
odd_same x y hx hy e = elim (dec_lt x 1) [
  | yes h ↦ elim (dec_lt y 1) [
    | yes k ↦ omega arith
    | no k ↦ absurd (omega (arith, eqb-true x 1 (e ∙ eq-eqb y 1 (omega arith))))
  ]
  | no h ↦ sym (eqb-true y 1 (sym e ∙ eq-eqb x 1 (omega arith)) ∙ omega arith)
]

-- ---- the highest bit in which two numbers differ

xor_none : (x y : ℕ) → bit_xor x y ≡ 0 → x ≡ y
xor_none x y h = omega (arith, xor_add_and x y, and_le_l x y, and_le_r x y)

module _ (x y : ℕ) (hx : x < 512) (hy : y < 512) (ne : x ≡ y → ⊥) where
  some : 0 < bit_xor x y
  some = go (bit_xor x y) refl
    where
      go : (a : ℕ) → bit_xor x y ≡ a → 0 < a
      go zero e = absurd (ne (xor_none x y e))
      go (suc a) e = omega arith

  small : bit_xor x y < 2 ^ 16
  small = omega (arith, xor_lt 9 x y hx hy)

  -- The top bit of what they differ in.
  module _ (j : ℕ) (low : 2 ^ j ≤ bit_xor x y) (high : bit_xor x y < 2 ^ suc j) where
    top_small : j < 16
    top_small = elim (dec_lt j 16) [ yes h ↦ h | no h ↦ absurd (over (pow_mono {i = 16} {j = j} (omega (arith, h)))) ]
      where
        over : 2 ^ 16 ≤ 2 ^ j → ⊥
        over h = omega (arith, small)

    next_same : x / 2 ^ suc j ≡ y / 2 ^ suc j
    next_same = xor_none (x / 2 ^ suc j) (y / 2 ^ suc j) (sym (xor_shr x y (suc j)) ∙ div-eq_of_lt high)

    above_same : (k : ℕ) → x / 2 ^ (suc j + k) ≡ y / 2 ^ (suc j + k)
    above_same k = sym (shr-shr x (suc j) k) ∙ ap (λ (z : ℕ). z / 2 ^ k) next_same ∙ shr-shr y (suc j) k

    halves : (z : ℕ) → z / 2 ^ j / 2 ≡ z / 2 ^ suc j
    halves z = shr-shr z j 1 ∙ ap (λ (k : ℕ). z / 2 ^ k) (add-one j)

    top_differs : x / 2 ^ j % 2 ≡ y / 2 ^ j % 2 → ⊥
    top_differs e =
        let same : x / 2 ^ j ≡ y / 2 ^ j = omega (arith, halves x, halves y, next_same) in
        let none : bit_xor x y / 2 ^ j ≡ 0 = xor_shr x y j ∙ ap (λ (z : ℕ). bit_xor (x / 2 ^ j) z) (sym same) ∙ xor_self (x / 2 ^ j) in
        let one : 1 ≤ bit_xor x y / 2 ^ j = (le-div_iff_mul-le (pow_pos j)).1 (omega (arith, low)) in
        omega arith

  pub enough : 48 ≤ count_leading_zeros 64 (bit_xor x y)
  enough =
      let t = leading_top 64 (bit_xor x y) some (omega (arith, small)) in
      omega (arith, t.1, top_small t.0 t.2 t.3)

  pub highest : (r : ℕ) → r ≡ count_leading_zeros 64 (bit_xor x y) - 48 → Highest x y r
  highest r e =
      let t = leading_top 64 (bit_xor x y) some (omega (arith, small)) in
      let j = t.0 in
      let l = top_small j t.2 t.3 in
      let q : 15 - r ≡ j = omega (arith, t.1) in
      record {
        small = omega (arith, t.1);
        above = λ i h. let k : 15 - i ≡ suc j + (15 - i - suc j) = omega (arith, t.1) in
            subst (λ (z : ℕ). x / 2 ^ z ≡ y / 2 ^ z) (sym k) (above_same j t.2 t.3 (15 - i - suc j));
        differ = subst (λ (z : ℕ). x / 2 ^ z % 2 ≡ y / 2 ^ z % 2 → ⊥) (sym q) (top_differs j t.2 t.3);
      }

-- ---- comparing two names

module _ (m n : Bytes) (p : ℕ) (h : Common m n p) where
  same_before : (i : ℕ) → i < p → symbol_at m i ≡ symbol_at n i
  same_before i l = symbol_in m i (omega (arith, h.left)) ∙ ap (λ (x : ℕ). 256 + x) (h.same i l) ∙ sym (symbol_in n i (omega (arith, h.right)))

  -- Equal symbols there: both names end.
  module _ (e : symbol_at m p ≡ symbol_at n p) where
    left_ends : p ≡ length m
    left_ends = elim (dec_lt p (length m)) [
      | no g ↦ omega (arith, h.left)
      | yes g ↦ absurd (elim (dec_lt p (length n)) [
        | yes k ↦ h.parts g k (omega (arith, symbol_in m p g, symbol_in n p k, e))
        | no k ↦ omega (arith, symbol_in m p g, symbol_past n p (omega (arith, k)), e)
      ])
    ]

    right_ends : p ≡ length n
    right_ends = elim (dec_lt p (length n)) [
      | no g ↦ omega (arith, h.right)
      | yes g ↦ absurd (omega (arith, symbol_in n p g, symbol_past m p (omega (arith, left_ends)), e))
    ]

    pub names_same : m ≡ n
    names_same = ext_get_or 0 m n (sym left_ends ∙ right_ends) (λ i l. h.same i (omega (arith, left_ends)))

  -- Different symbols there: the names part at the highest bit in which they differ.
  module _ (x y k : ℕ) (ex : x ≡ symbol_at m p) (ey : y ≡ symbol_at n p) (t : Highest x y k) where
    agree_below : Agree (p * 16 + k) m n
    agree_below i l = elim (dec_lt (i / 16) p) [
      | yes g ↦ same_bit m n i (ap (λ (z : ℕ). z / 2 ^ (15 - i % 16)) (same_before (i / 16) g))
      | no g ↦
          let q : i / 16 ≡ p = omega (arith, t.small) in
          same_bit m n i
          (ap (λ (z : ℕ). symbol_at m z / 2 ^ (15 - i % 16)) q ∙ ap (λ (z : ℕ). z / 2 ^ (15 - i % 16)) (sym ex)
          ∙ t.above (i % 16) (omega arith)
          ∙ ap (λ (z : ℕ). z / 2 ^ (15 - i % 16)) ey ∙ ap (λ (z : ℕ). symbol_at n z / 2 ^ (15 - i % 16)) (sym q))
    ]

    differ_there : bit_at m (p * 16 + k) ≡ bit_at n (p * 16 + k) → ⊥
    differ_there e =
        let q : (p * 16 + k) / 16 ≡ p = omega (arith, t.small) in
        let r : (p * 16 + k) % 16 ≡ k = omega (arith, t.small) in
        t.differ (odd_same (x / 2 ^ (15 - k) % 2) (y / 2 ^ (15 - k) % 2) (omega arith) (omega arith)
        (sym (bit_is m (p * 16 + k) p k x q r ex) ∙ e ∙ bit_is n (p * 16 + k) p k y q r ey))

    pub names_part : p < 67108864 → Critical m n (p * 16 + k)
    names_part l = record { agree = agree_below; differ = differ_there; small = omega (arith, t.small) }
