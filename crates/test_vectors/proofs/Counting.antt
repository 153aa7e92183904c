-- Counting: each case goes further on, and what is counted at the end is the file's tally.
use mathlib.Core.Path.{◌≡◌, refl}
use mathlib.Core.Bool.{Bool, true, false, cond}
use mathlib.Core.List.{[], ◌∷◌}
use Prim.Native.Nat.{ℕ, zero, suc, ◌+◌, ◌*◌, ◌-◌, ◌≤◌, ◌<◌}
use native.Mathlib.Omega.{arith}
use borrow.Author.Tests.{leb-true, lt-ltb, le-ltb}
use lib.Dec.{eqb}
use lib.ListN.{length, get_or, drop}
use lib.Seq.{drop-cons}
use Rattle.model.specs.Bytes.{Bytes, digit_value}
use Rattle.test_vectors.specs.declared.Number.{Number}
use Rattle.test_vectors.specs.declared.Header.{Header}
use Rattle.test_vectors.specs.declared.Case.{Case}
use Rattle.test_vectors.specs.declared.Tally.{Tally}
use Rattle.test_vectors.specs.Cases.{takes_digit, digits_from, number_at, past_byte, header_at, is_whole, agrees_on, part, case_at, counted, tally_from, tally_of}
use Rattle.test_vectors.specs.Inner.{Past, Ran, Few}
use Rattle.test_vectors.proofs.Searching.{past_from_lem}

-- ---- further on
digits_on : (n i : ℕ) (s : Bytes) → i ≤ (digits_from n i s).end
digits_on n i [] = omega arith
digits_on n i (x ∷ s) = go (digits_from (n * 10 + digit_value x) (suc i) s) (takes_digit n x) (digits_on (n * 10 + digit_value x) (suc i) s)
  where
    go : (r : Number) (t : Bool) → suc i ≤ r.end → i ≤ (cond t r (record { value = n; end = suc i })).end
    go r true h = omega arith
    go r false h = omega arith

number_on : (s : Bytes) (at : ℕ) → at ≤ (number_at s at).end
unfolding number_at
number_on s at = digits_on 0 at (drop at s)

name_on : (s : Bytes) (b at : ℕ) → at < length s → at < past_byte s b at
unfolding past_byte
name_on s b at h = rw (drop-cons s at 0 h) (go (eqb (get_or s at 0) b) (past_from_lem b (suc at) (drop (suc at) s)).0)
  where
    go : {k : ℕ} (t : Bool) → suc at ≤ k → at < cond t (suc at) k
    go true l = omega arith
    go false l = omega arith

header_on : (s : Bytes) (at : ℕ) → at < length s → at < (header_at s at).end
unfolding header_at
header_on s at h =
    let p = past_byte s 32 at in
    let limit = number_at s p in
    let room = number_at s limit.end in
    let refusal = number_at s room.end in
    let which = number_at s refusal.end in
    let place = number_at s which.end in
    let steps = number_at s place.end in
    let rule = number_at s steps.end in
    let record' = number_at s rule.end in
    omega (
      arith,
      name_on s 32 at h,
      number_on s p,
      number_on s limit.end,
      number_on s room.end,
      number_on s refusal.end,
      number_on s which.end,
      number_on s place.end,
      number_on s steps.end,
      number_on s rule.end,
      number_on s record'.end,
    )

-- ---- a case
pub whole_inside : (n : ℕ) (h : Header) → is_whole n h ≡ true → h.end + h.rule + h.«record» + h.answer ≤ n
whole_inside n h e = leb-true (h.end + h.rule + h.«record» + h.answer) n e

module _ (s : Bytes) (at : ℕ) (more : at < length s) {h : Header} (e : h ≡ header_at s at) where
  pub case_cut : is_whole (length s) h ≡ false → Ran s at (record { agrees = false; end = length s })
  unfolding case_at
  case_cut f = record { is = rw (← e, f); on = more; inside = omega arith }

  further : at < h.end
  further = rw e (header_on s at more)

  abbrev rule_end : ℕ
  rule_end = h.end + h.rule

  abbrev record_end_lem : ℕ
  record_end_lem = rule_end + h.«record»

  pub case_whole :
      {r : Bool} {p : ℕ}
      → is_whole (length s) h ≡ true
      → r ≡ agrees_on h (part h.end rule_end s) (part rule_end record_end_lem s) (part record_end_lem (record_end_lem + h.answer) s)
      → Past s 10 (record_end_lem + h.answer) p
      → Ran s at (record { agrees = r; end = p })
  unfolding case_at
  case_whole f a p = record { is = rw (← e, f, a, p.is); on = omega (arith, further, p.on); inside = p.inside }

-- ---- the loop
pub record Tallies (s : Bytes) (at : ℕ) (t r : Tally) : Type 0 where
  pub is : (k : ℕ) → length s - at ≤ k → r ≡ tally_from k s at t

-- What the rest adds to the tally makes the whole one; each case has a byte at least.
pub record CountTo (s : Bytes) (at : ℕ) (t : Tally) : Type 0 where
  pub inside : at ≤ length s
  pub cases : t.cases ≤ at
  pub differ : t.differ ≤ at
  pub rest : (r : Tally) → Tallies s at t r → r ≡ tally_of s

pub count_begins : (s : Bytes) → CountTo s 0 (record { cases = 0; differ = 0 })
unfolding tally_of
count_begins s = record { inside = omega arith; cases = omega arith; differ = omega arith; rest = λ r x. x.is (length s) (omega arith) }

few : (t : Tally) (a : Bool) → ((counted t a).cases ≤ t.cases + 1) × ((counted t a).differ ≤ t.differ + 1)
few t true = (omega arith, omega arith)
few t false = (omega arith, omega arith)

one_more : {s : Bytes} {at : ℕ} {t r : Tally} {c : Case} → at < length s → c ≡ case_at s at → at < c.end → Tallies s c.end (counted t c.agrees) r → Tallies s at t r
unfolding tally_from
one_more {s} {at} {t} {r} {c} more e on x = record { is = go }
  where
    go : (k : ℕ) → length s - at ≤ k → r ≡ tally_from k s at t
    go zero h = absurd (omega arith)
    go (suc k) h = rw (lt-ltb at (length s) more, ← e) (x.is k (omega arith))

no_more : {s : Bytes} {at : ℕ} {t : Tally} → length s ≤ at → Tallies s at t t
unfolding tally_from
no_more {s} {at} {t} h = record { is = go }
  where
    go : (k : ℕ) → length s - at ≤ k → t ≡ tally_from k s at t
    go zero l = refl
    go (suc k) l = rw (le-ltb at (length s) h)

module _ {s : Bytes} {at : ℕ} {t : Tally} (to : CountTo s at t) where
  pub count_few : length s < 18446744073709551616 → at < length s → Few t
  count_few l h = record { cases = omega (arith, to.cases); differ = omega (arith, to.differ) }

  pub count_goes : {c : Case} {t' : Tally} → at < length s → Ran s at c → t' ≡ counted t c.agrees → CountTo s c.end t'
  count_goes {c} {t'} h ran e =
      rw e (record {
        inside = ran.inside;
        cases = omega (arith, (few t c.agrees).0, to.cases, ran.on);
        differ = omega (arith, (few t c.agrees).1, to.differ, ran.on);
        rest = λ r x. to.rest r (one_more h ran.is ran.on x);
      })

  pub count_ends : length s ≤ at → t ≡ tally_of s
  count_ends h = to.rest t (no_more h)
