-- What the loops of src/lib.rt keep. Assumes nothing.
use Rattle.std.specs.Prelude.{Option, None, Some, slice_get}
use Rattle.std.specs.Option.{option_and_then}
use Rattle.std.proofs.lemmas.Option.{slice_get-get_or, slice_get_past}
use Rattle.model.proofs.Laws.Logic.{clash}
use mathlib.Core.Bool.{Bool, true, false}
use borrow.Author.Tests.{ltb-true, ltb-false}
use lib.Dec.{ltb}
use mathlib.Core.Path.{◌≡◌, refl, sym, ap, ◌∙◌}
use mathlib.Core.List.{[], ◌∷◌, ◌++◌, append-nil}
use Prim.Native.Nat.{ℕ, suc, ◌+◌, ◌*◌, ◌-◌, ◌^◌, ◌≤◌, ◌<◌}
use native.Mathlib.Omega.{arith}
use native.Mathlib.Nat.{zero-add, add-zero, add_assoc, pow-le-pow_right}
use native.Mathlib.Numerals.{add-one}
use lib.ListN.{length, get_or, drop, take, set, length-drop}
use lib.Seq.{take-suc, get_or-drop, length-sets}
use Rattle.model.specs.Bytes.{Bytes}
use Rattle.model.specs.declared.refusal.ReadFault.TheVariants.{NotJson}
use Rattle.syntax.specs.declared.Lead.TheVariants.{Char}
use Rattle.syntax.specs.Read.{ok, bad, then, give, bytes, tails, hexes, char, grow}
use Rattle.syntax.specs.Tokens.{hex_of}
use Rattle.syntax.specs.Utf8.{lead_of}
use Rattle.chars.specs.Inner.{Taken, Tailed, UnitRead, hex_at}
use Rattle.chars.proofs.Tables.{inside, hex_as}
use Rattle.chars.proofs.Steps.{grow_none, grow_grow, chars_bytes, reads_one, taken_none, taken_then}
use Rattle.chars.proofs.Read.{char_lead, tails_in, hexes_in, hexes_end, hexes_not}

-- ---- a run of plain bytes
char_plain : (s : Bytes) (at : ℕ) → at < length s → lead_of (get_or s at 0) ≡ Char 0 128 191
    → char (drop at s) at ≡ ok (bytes (get_or s at 0 ∷ [])) (drop (at + 1) s) (at + 1)
unfolding then tails give
char_plain s at h e = char_lead s at h 0 128 191 e

taken_plain : (s : Bytes) (at used : ℕ) (A : Bytes) → at < length s → lead_of (get_or s at 0) ≡ Char 0 128 191
    → Taken s at used A (at + 1) (used + 1) (set A used (get_or s at 0))
taken_plain s at used A h e =
    record {
      bs = get_or s at 0 ∷ [];
      reads = reads_one s at _ (at + 1) (omega arith) (omega arith) (omega arith) (λ f. chars_bytes f (drop at s) at _ _ _ (char_plain s at h e));
      next = refl;
      area = refl;
    }

pub taken_length : {s A B : Bytes} {at used i to : ℕ} → Taken s at used A i to B → length B ≡ length A
taken_length {A = A} {used = used} t = ap length t.area ∙ length-sets A used t.bs

-- The same, k bytes from the start.
pub taken_start : (s : Bytes) (at used : ℕ) (A : Bytes) → at ≤ length s → Taken s at used A (at + 0) (used + 0) A
taken_start s at used A h = rw (add-zero at, add-zero used) (taken_none s at used A h)

pub taken_next : {s A B : Bytes} (at used k : ℕ) → Taken s at used A (at + k) (used + k) B → at + k < length s → lead_of (get_or s (at + k) 0) ≡ Char 0 128 191
    → Taken s at used A (at + (k + 1)) (used + (k + 1)) (set B (used + k) (get_or s (at + k) 0))
taken_next {s} {B = B} at used k t h e = rw (← add_assoc at k 1, ← add_assoc used k 1) (taken_then t (taken_plain s (at + k) (used + k) B h e))

-- ---- the bytes that follow a character's first one
pub record Tails (s : Bytes) (at n lo hi low high i : ℕ) : Type 0 where
  pub few : i ≤ n
  pub inside : at + i ≤ length s
  pub rest : (m : ℕ) → n ≡ i + m → tails n lo hi (drop at s) at ≡ grow (take i (drop at s)) (tails m low high (drop (at + i) s) (at + i))

pub tails_none : (s : Bytes) (at n lo hi : ℕ) → at ≤ length s → Tails s at n lo hi lo hi 0
tails_none s at n lo hi h =
    record {
      few = omega arith;
      inside = omega arith;
      rest = λ m e. (λ k. tails ((e ∙ zero-add m) k) lo hi (drop (sym (add-zero at) k) s) (sym (add-zero at) k)) ∙ sym (grow_none _);
    }

module _ {s : Bytes} {at n lo hi low high i : ℕ} (t : Tails s at n lo hi low high i) where
  pub tails_more : i < n → at + i < length s → low ≤ get_or s (at + i) 0 → get_or s (at + i) 0 ≤ high → Tails s at n lo hi 128 191 (i + 1)
  tails_more h l p q =
      let d = drop at s in
      let b : ℕ = get_or s (at + i) 0 in
      let k : i < length d = rw length-drop (omega arith) in
      record {
        few = omega arith;
        inside = omega arith;
        rest = λ m e.
            let r = tails m 128 191 (drop (at + i + 1) s) (at + i + 1) in
            t.rest (suc m) (omega arith) ∙ ap (grow (take i d)) (tails_in s (at + i) l m low high (inside low high b p q))
            ∙ grow_grow (take i d) (b ∷ []) r
            ∙ ap (λ z. grow (take i d ++ (z ∷ [])) r) (sym (get_or-drop at s i 0)) ∙ ap (λ z. grow z r) (sym (take-suc d i 0 k))
            ∙ (λ z. grow (take (sym (add-one i) z) d) (tails m 128 191 (drop (add_assoc at i 1 z) s) (add_assoc at i 1 z)));
      }

  pub tails_all : n ≤ i → Tailed s at n lo hi n
  unfolding tails grow then give
  tails_all h =
      let e : i ≡ n = omega (arith, t.few) in
      record {
        few = omega arith;
        inside = omega (arith, t.inside);
        all = λ _. t.rest 0 (omega arith) ∙ (λ k. ok (append-nil (take (e k) (drop at s)) k) (drop (at + e k) s) (at + e k));
        some = λ l. absurd (omega arith);
      }

  pub tails_some : i < n → ((m : ℕ) → tails (suc m) low high (drop (at + i) s) (at + i) ≡ bad NotJson (at + i)) → Tailed s at n lo hi i
  unfolding grow then
  tails_some h e =
      record {
        few = t.few;
        inside = t.inside;
        all = λ q. absurd (omega arith);
        some = λ l. let m : ℕ = n - suc i in t.rest (suc m) (omega arith) ∙ ap (grow (take i (drop at s))) (e m);
      }

-- ---- four hexadecimal digits
-- A hexadecimal digit stands at an offset.
pub record HexIn (s : Bytes) (at d : ℕ) : Type 0 where
  pub inside : at < length s
  pub is : hex_of (get_or s at 0) ≡ Some d
  pub small : d < 16

pub hex_in : {s : Bytes} {at d : ℕ} {r : Option ℕ} → r ≡ hex_at s at → r ≡ Some d → HexIn s at d
unfolding hex_at
hex_in {s} {at} {d} e g = go (ltb at (length s)) refl
  where
    go : (c : Bool) → ltb at (length s) ≡ c → HexIn s at d
    go true h =
        let l : at < length s = ltb-true at (length s) h in
        let x : hex_of (get_or s at 0) ≡ Some d = rw (slice_get-get_or s at 0 l) at (sym e ∙ g) in
        record { inside = l; is = x; small = hex_as (get_or s at 0) (Some d) x }
    go false h =
        let x : option_and_then hex_of (slice_get s at) ≡ None = rw (slice_get_past s at (ltb-false at (length s) h)) in
        clash cc

pub hex_not : (s : Bytes) (at : ℕ) {r : Option ℕ} → r ≡ hex_at s at → r ≡ None → (m u : ℕ) → hexes (suc m) u (drop at s) at ≡ bad NotJson at
unfolding hex_at
hex_not s at e g m u = go (ltb at (length s)) refl
  where
    go : (c : Bool) → ltb at (length s) ≡ c → hexes (suc m) u (drop at s) at ≡ bad NotJson at
    go true h =
        let l : at < length s = ltb-true at (length s) h in
        hexes_not s at l m u (rw (slice_get-get_or s at 0 l) at (sym e ∙ g))
    go false h = hexes_end s at (ltb-false at (length s) h) m u

pub record Hexes (s : Bytes) (at i u : ℕ) : Type 0 where
  pub few : i ≤ 4
  pub inside : at + i ≤ length s
  pub small : u < 16 ^ i
  pub rest : (m : ℕ) → 4 ≡ i + m → hexes 4 0 (drop at s) at ≡ hexes m u (drop (at + i) s) (at + i)

pub hexes_none : (s : Bytes) (at : ℕ) → at ≤ length s → Hexes s at 0 0
hexes_none s at h =
    record {
      few = omega arith;
      inside = omega arith;
      small = omega arith;
      rest = λ m e. (λ k. hexes ((e ∙ zero-add m) k) 0 (drop (sym (add-zero at) k) s) (sym (add-zero at) k));
    }

module _ {s : Bytes} {at i u : ℕ} (t : Hexes s at i u) where
  pub hexes_small : i < 4 → u < 4096
  hexes_small h = let l : 16 ^ i ≤ 16 ^ 3 = pow-le-pow_right {n = 16} (omega arith) {i = i} {j = 3} (omega arith) in omega arith

  pub hexes_more : i < 4 → {d n : ℕ} → HexIn s (at + i) d → n ≡ d → Hexes s at (i + 1) (u * 16 + n)
  hexes_more h {d} {n} x q =
      record {
        few = omega arith;
        inside = omega (arith, x.inside);
        small = rw (add-one i) (omega (arith, x.small));
        rest = λ m g.
            t.rest (suc m) (omega arith) ∙ hexes_in s (at + i) x.inside m u d x.is
            ∙ (λ z. hexes m (u * 16 + sym q z) (drop (add_assoc at i 1 z) s) (add_assoc at i 1 z));
      }

  pub hexes_all : 4 ≤ i → UnitRead s at u
  unfolding hexes
  hexes_all h =
      let e : i ≡ 4 = omega arith in
      record {
        is = t.rest 0 (omega arith) ∙ (λ k. ok u (drop (at + e k) s) (at + e k));
        inside = omega arith;
        small = let l : 16 ^ i ≤ 16 ^ 4 = pow-le-pow_right {n = 16} (omega arith) t.few in omega arith;
      }

  pub hexes_some : {r : Option ℕ} → i < 4 → r ≡ hex_at s (at + i) → r ≡ None → hexes 4 0 (drop at s) at ≡ bad NotJson (at + i)
  hexes_some h e g = t.rest (suc (3 - i)) (omega arith) ∙ hex_not s (at + i) e g (3 - i) u
