-- Searching: past the first byte of a kind; where a case's parts begin.
use mathlib.Core.Path.{◌≡◌, refl, ◌∙◌}
use mathlib.Core.Bool.{Bool, true, false, cond}
use mathlib.Core.List.{[], ◌∷◌}
use Prim.Native.Nat.{ℕ, suc, ◌+◌, ◌-◌, ◌≤◌, ◌<◌}
use native.Mathlib.Numerals.{add-one}
use native.Mathlib.Omega.{arith}
use lib.Dec.{eqb}
use lib.ListN.{length, get_or, drop, drop_of_length-le, length-drop}
use lib.Seq.{drop-cons}
use Rattle.model.specs.Bytes.{Bytes}
use Rattle.test_vectors.specs.declared.Number.{Number}
use Rattle.test_vectors.specs.Cases.{number_at, past_from, past_byte, header_at}
use Rattle.test_vectors.specs.Inner.{Past}

-- ---- where it ends
pub past_from_lem : (b i : ℕ) (s : Bytes) → (i ≤ past_from b i s) × (past_from b i s ≤ i + length s)
past_from_lem b i [] = (omega arith, omega arith)
past_from_lem b i (x ∷ s) = go (eqb x b) (past_from_lem b (suc i) s)
  where
    go : {k : ℕ} (t : Bool) → (suc i ≤ k) × (k ≤ suc i + length s) → (i ≤ cond t (suc i) k) × (cond t (suc i) k ≤ i + suc (length s))
    go true m = (omega arith, omega arith)
    go false m = (omega (arith, m.0), omega (arith, m.1))

-- ---- the loop
-- No such byte stands before place i.
pub record SeekTo (s : Bytes) (b at i : ℕ) : Type 0 where
  pub inside : at ≤ length s
  pub is : past_byte s b at ≡ past_from b i (drop i s)

pub seek_begins : (s : Bytes) (b at : ℕ) → at ≤ length s → SeekTo s b at at
unfolding past_byte
seek_begins s b at h = record { inside = h; is = refl }

found : {s : Bytes} {b at r : ℕ} → at ≤ length s → r ≡ past_byte s b at → Past s b at r
unfolding past_byte
found {s} {b} {at} h e =
    record { is = e; on = omega (arith, (past_from_lem b at (drop at s)).0); inside = omega (arith, (past_from_lem b at (drop at s)).1, length-drop at s) }

module _ {s : Bytes} {b at i : ℕ} (seek : SeekTo s b at i) where
  pub seek_stops : i < length s → eqb (get_or s i 0) b ≡ true → Past s b at (i + 1)
  seek_stops h e = found seek.inside (rw (seek.is, drop-cons s i 0 h, e, add-one))

  pub seek_goes : i < length s → eqb (get_or s i 0) b ≡ false → SeekTo s b at (i + 1)
  seek_goes h e = record { inside = seek.inside; is = rw add-one (seek.is ∙ rw (drop-cons s i 0 h, e)) }

  pub seek_ends : length s ≤ i → Past s b at i
  seek_ends h = found seek.inside (rw (seek.is, drop_of_length-le s h))

-- ---- a case's first line
pub header_read :
    (s : Bytes) (at : ℕ) {p : ℕ} {limit room refusal which place steps rule record' answer : Number}
    → Past s 32 at p
    → limit ≡ number_at s p
    → room ≡ number_at s limit.end
    → refusal ≡ number_at s room.end
    → which ≡ number_at s refusal.end
    → place ≡ number_at s which.end
    → steps ≡ number_at s place.end
    → rule ≡ number_at s steps.end
    → record' ≡ number_at s rule.end
    → answer ≡ number_at s record'.end
    → record {
      limit = limit.value;
      room = room.value;
      refusal = refusal.value;
      which = which.value;
      place = place.value;
      steps = steps.value;
      rule = rule.value;
      «record» = record'.value;
      answer = answer.value;
      end = answer.end;
    }
    ≡ header_at s at
unfolding header_at
header_read s at past e₁ e₂ e₃ e₄ e₅ e₆ e₇ e₈ e₉ = rw (e₉, e₈, e₇, e₆, e₅, e₄, e₃, e₂, e₁, past.is)
