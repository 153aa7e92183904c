-- A character or an escape as a whole: what was decoded, or the fault. Assumes nothing.
use mathlib.Core.Path.{◌≡◌, refl, ap, ◌∙◌}
use mathlib.Core.List.{[], ◌∷◌}
use Prim.Native.Nat.{ℕ, suc, ◌+◌, ◌-◌, ◌≤◌, ◌<◌}
use native.Mathlib.Omega.{arith}
use native.Mathlib.Numerals.{add-one}
use lib.ListN.{length, get_or, drop, take, length-drop}
use lib.Seq.{sets, drop-cons, length-take-le}
use Rattle.model.specs.Bytes.{Bytes}
use Rattle.model.specs.declared.refusal.ReadFault.{ReadFault}
use Rattle.model.specs.declared.refusal.ReadFault.TheVariants.{NotJson, LoneSurrogate}
use Rattle.syntax.specs.declared.Lead.TheVariants.{Backslash, Char}
use Rattle.syntax.specs.declared.Escape.TheVariants.{Letter, Unicode, NoEscape}
use Rattle.syntax.specs.declared.Unit as units
use Rattle.syntax.specs.declared.Unit.TheVariants.{Plain, High, Low}
use Rattle.syntax.proofs.Laws.Utf8.{utf8_most}
use Rattle.syntax.specs.Read.{ok, bad, then, give, bytes, unit, hexes, char, chars, clear, high}
use Rattle.syntax.specs.Tokens.{escape_of}
use Rattle.syntax.specs.Utf8.{unit_of, utf8, pair_of}
use Rattle.scan.specs.declared.Fault.{Fault}
use Rattle.scan.specs.Contract.{fault_of}
use Rattle.chars.specs.declared.Decoded.{Decoded}
use Rattle.std.specs.Prelude.{Ok, Err}
use Rattle.chars.specs.Inner.{Taken, Pieced, Leads, Tailed, UnitRead, Unicodes, Escaped, Put}
use Rattle.chars.proofs.Steps.{chars_bytes, chars_bad, chars_plain, chars_high, chars_low, chars_pair, reads_one, taken_then}
use Rattle.chars.proofs.Read.{char_escape, char_lead, escape_end, escape_letter, escape_not, escape_unicode}

-- ---- a piece that was read, and one that was not
pub gives : {s : Bytes} {at used : ℕ} {A : Bytes} {d : Decoded} {B : Bytes} → Taken s at used A d.at d.used B → at < d.at → Pieced s at used A (Ok d) B
gives t h = record { meets = record { taken = t; on = h } }

pub taken_piece : {s A B C : Bytes} {at used i to : ℕ} {d : Decoded} → Taken s at used A i to B → Pieced s i to B (Ok d) C → Taken s at used A d.at d.used C
taken_piece t p = taken_then t p.meets.taken

module _ {s : Bytes} {at used : ℕ} {A : Bytes} where
  pub stops_at : {x : Fault} → at ≤ length s → char (drop at s) at ≡ bad x.reason x.at → Pieced s at used A (Err x) A
  stops_at {x} l e =
      record {
        meets = record {
          run = λ f h.
              let z : f ≡ suc (f - 1) = omega arith in
              ap (λ g. chars g clear (drop at s) at) z ∙ chars_bad (f - 1) (drop at s) at x.reason x.at e;
          same = refl;
        };
      }

  -- A surrogate without a partner: a second half, or a first one that no second half follows.
  pub stops_low : {u : ℕ} → Escaped s at u Low → Pieced s at used A (Err (fault_of LoneSurrogate at)) A
  stops_low {u} x =
      record {
        meets = record {
          run = λ f h.
              let z : f ≡ suc (f - 1) = omega arith in
              ap (λ g. chars g clear (drop at s) at) z ∙ chars_low (f - 1) (drop at s) at u _ _ x.is x.of;
          same = refl;
        };
      }

  pub stops_high : {u : ℕ} → Escaped s at u High → ((h p f : ℕ) → chars (suc f) (high h p) (drop (at + 6) s) (at + 6) ≡ bad LoneSurrogate p)
      → Pieced s at used A (Err (fault_of LoneSurrogate at)) A
  stops_high {u} x a =
      record {
        meets = record {
          run = λ f h.
              let z : f ≡ suc (suc (f - 2)) = omega arith in
              ap (λ g. chars g clear (drop at s) at) z ∙ chars_high (suc (f - 2)) (drop at s) at u _ _ x.is x.of ∙ a u at (f - 2);
          same = refl;
        };
      }

-- ---- a character of several bytes
module _ (s : Bytes) (at n lo hi : ℕ) (d : Leads s at (Char n lo hi)) {found : ℕ} (t : Tailed s (at + 1) n lo hi found) where
  pub char_short : found < n → char (drop at s) at ≡ bad NotJson (at + 1 + found)
  unfolding then
  char_short h = char_lead s at d.here n lo hi d.is ∙ ap (λ r. then r (λ bs. give (bytes (get_or s at 0 ∷ bs)))) (t.some h)

  front : get_or s at 0 ∷ take n (drop (at + 1) s) ≡ take (n + 1) (drop at s)
  front = rw (add-one n, add-one at, drop-cons s at 0 d.here)

  char_whole : n ≤ found → char (drop at s) at ≡ ok (bytes (take (n + 1) (drop at s))) (drop (at + 1 + n) s) (at + 1 + n)
  unfolding then give
  char_whole h =
      let e : found ≡ n = omega arith in
      char_lead s at d.here n lo hi d.is ∙ ap (λ r. then r (λ bs. give (bytes (get_or s at 0 ∷ bs)))) (t.all e)
      ∙ ap (λ bs. ok (bytes bs) (drop (at + 1 + n) s) (at + 1 + n)) front

  pub taken_char : (used : ℕ) (A B : Bytes) → n ≤ found → B ≡ sets A used (take (n + 1) (drop at s)) → Taken s at used A (at + 1 + n) (used + 1 + n) B
  taken_char used A B h e =
      let l : length (take (n + 1) (drop at s)) ≡ n + 1 = length-take-le (n + 1) (drop at s) (rw length-drop (omega arith)) in
      record {
        bs = take (n + 1) (drop at s);
        reads = reads_one s at _ (at + 1 + n) (omega arith) (omega arith) (omega arith) (λ f. chars_bytes f (drop at s) at _ _ _ (char_whole h));
        next = omega arith;
        area = e;
      }

-- ---- escapes of one letter
module _ (s : Bytes) (at : ℕ) (d : Leads s at Backslash) where
  pub letter_end : length s ≤ at + 1 → char (drop at s) at ≡ bad NotJson (at + 1)
  letter_end h = char_escape s at d.here d.is ∙ escape_end s (at + 1) h

  pub letter_not : at + 1 < length s → escape_of (get_or s (at + 1) 0) ≡ NoEscape → char (drop at s) at ≡ bad NotJson (at + 1)
  letter_not h e = char_escape s at d.here d.is ∙ escape_not s (at + 1) h e

  pub taken_letter : (used : ℕ) (A : Bytes) (x : ℕ) → at + 1 < length s → escape_of (get_or s (at + 1) 0) ≡ Letter x
      → Taken s at used A (at + 2) (used + 1) (sets A used (x ∷ []))
  taken_letter used A x h e =
      let z : at + 1 + 1 ≡ at + 2 = omega arith in
      record {
        bs = x ∷ [];
        reads = reads_one s at _ (at + 2) (omega arith) (omega arith) (omega arith)
            (λ f. chars_bytes f (drop at s) at (x ∷ []) _ _
            (char_escape s at d.here d.is ∙ escape_letter s (at + 1) h x e ∙ (λ k. ok (bytes (x ∷ [])) (drop (z k) s) (z k))));
        next = refl;
        area = refl;
      }

  pub letter_u : at + 1 < length s → escape_of (get_or s (at + 1) 0) ≡ Unicode → Unicodes s at
  letter_u h e =
      let z : at + 1 + 1 ≡ at + 2 = omega arith in
      record {
        here = omega arith;
        is = char_escape s at d.here d.is ∙ escape_unicode s (at + 1) h e ∙ (λ k. then (hexes 4 0 (drop (z k) s) (z k)) (λ u. give (unit u)));
      }

-- ---- escapes of a code unit
module _ {s : Bytes} {at : ℕ} (x : Unicodes s at) where
  pub unit_not : {k : ReadFault} {p : ℕ} → hexes 4 0 (drop (at + 2) s) (at + 2) ≡ bad k p → char (drop at s) at ≡ bad k p
  unfolding then
  unit_not e = x.is ∙ ap (λ r. then r (λ u. give (unit u))) e

  pub escaped : {u : ℕ} → UnitRead s (at + 2) u → Escaped s at u (unit_of u)
  unfolding then give
  escaped {u} c =
      let z : at + 2 + 4 ≡ at + 6 = omega arith in
      record {
        is = x.is ∙ ap (λ r. then r (λ u. give (unit u))) c.is ∙ (λ k. ok (unit u) (drop (z k) s) (z k));
        inside = omega arith;
        of = refl;
      }

pub of_kind : {s : Bytes} {at u : ℕ} {k l : units.Unit} → Escaped s at u k → k ≡ l → Escaped s at u l
of_kind x e = record { is = x.is; inside = x.inside; of = x.of ∙ e }

pub taken_unit : {s A B : Bytes} {at used u end : ℕ} → Escaped s at u Plain → Put A used u end B → Taken s at used A (at + 6) end B
taken_unit {s} {at = at} {u = u} x p =
    record {
      bs = utf8 u;
      reads = reads_one s at _ (at + 6) (omega arith) (omega (arith, utf8_most u)) x.inside (λ f. chars_plain f (drop at s) at u _ _ x.is x.of);
      next = p.end;
      area = p.area;
    }

pub taken_pair : {s A B : Bytes} {at used h l end : ℕ} → Escaped s at h High → Escaped s (at + 6) l Low → Put A used (pair_of h l) end B
    → Taken s at used A (at + 6 + 6) end B
taken_pair {s} {at = at} {h = h} {l = l} x y p =
    record {
      bs = utf8 (pair_of h l);
      reads = record {
        steps = 2;
        few = omega arith;
        short = omega (arith, utf8_most (pair_of h l));
        inside = y.inside;
        run = λ f.
            let e : 2 + f ≡ suc (suc f) = omega arith in
            ap (λ g. chars g clear (drop at s) at) e ∙ chars_high (suc f) (drop at s) at h _ _ x.is x.of
            ∙ chars_pair f (drop (at + 6) s) (at + 6) h at l _ _ y.is y.of;
      };
      next = p.end;
      area = p.area;
    }
