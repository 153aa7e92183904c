-- What one byte decides.
use mathlib.Core.Path.{◌≡◌, refl, ◌∙◌, subst⁻¹}
use mathlib.Core.Bool.{Bool, true, false, false≢true}
use Prim.Native.Nat.{ℕ, ◌≤◌, ◌<◌}
use borrow.Author.Tests.{eq-eqb, ne_eqb, lt-ltb, le-ltb, leb-false}
use lib.Dec.{eqb, leb}
use lib.ListN.{length, get_or}
use Rattle.model.specs.Bytes.{Bytes}
use Rattle.model.specs.Limits.{max_values, max_nesting}
use Rattle.syntax.specs.declared.Start.{Start}
use Rattle.syntax.specs.declared.Start.TheVariants.{NoValue, TooMuch, Literal, Minus, Digit, Quote, Bracket, Brace}
use Rattle.syntax.specs.declared.Word.TheVariants.{TrueWord, FalseWord, NullWord}
use Rattle.syntax.specs.declared.Separator.TheVariants.{Comma, Close, Neither}
use Rattle.syntax.specs.Tokens.{is_digit, counted, nested, start_of, separator_of}
use Rattle.scan.specs.Contract.{start_at, StartRoom, Started, separator_at, Separated, stands_at, Stands}

-- ---- the start of a value
module _ (P : Start → Type 0) where
  either : (c : Bool) {x y : Start} → P x → P y → P (elim c [ true ↦ x | false ↦ y ])
  either true p q = p
  either false p q = q

  counted_room : (row : ℕ) (x : Start) → P TooMuch → (row < max_values → P x) → P (counted row x)
  unfolding counted
  counted_room row x z h = go (leb max_values row) refl
    where
      go : (c : Bool) → leb max_values row ≡ c → P (elim c [ true ↦ TooMuch | false ↦ x ])
      go true e = z
      go false e = h (leb-false max_values row e)

  nested_room : (depth : ℕ) (x : Start) → P TooMuch → (depth < max_nesting → P x) → P (nested depth x)
  unfolding nested
  nested_room depth x z h = go (leb max_nesting depth) refl
    where
      go : (c : Bool) → leb max_nesting depth ≡ c → P (elim c [ true ↦ TooMuch | false ↦ x ])
      go true e = z
      go false e = h (leb-false max_nesting depth e)

module _ (s : Bytes) (row depth at : ℕ) where
  abbrev Room : Start → Type 0
  Room = StartRoom s row depth at

  start_room : (b : ℕ) → at < length s → Room (start_of row depth b)
  unfolding start_of
  start_room b l =
      either Room (eqb b 0x22) (counted_room Room row Quote tt (λ r. (l, r)))
      (either Room (eqb b 0x5B) (counted_room Room row (nested depth Bracket) tt (λ r. nested_room Room depth Bracket tt (λ d. (l, r, d))))
      (either Room (eqb b 0x7B) (counted_room Room row (nested depth Brace) tt (λ r. nested_room Room depth Brace tt (λ d. (l, r, d))))
      (either Room (is_digit b) (counted_room Room row Digit tt (λ r. (l, r)))
      (either Room (eqb b 0x2D) (counted_room Room row Minus tt (λ r. (l, r)))
      (either Room (eqb b 0x74) (counted_room Room row (Literal TrueWord) tt (λ r. (l, r)))
      (either Room (eqb b 0x66) (counted_room Room row (Literal FalseWord) tt (λ r. (l, r)))
      (either Room (eqb b 0x6E) (counted_room Room row (Literal NullWord) tt (λ r. (l, r))) tt)))))))

pub start_end : (s : Bytes) (row depth at : ℕ) → length s ≤ at → Started s row depth at NoValue
unfolding start_at
start_end s row depth at l = record { is = simp (start_at, le-ltb at (length s) l); room = tt }

pub start_at_lem : {s : Bytes} {row depth at : ℕ} {r : Start} → r ≡ start_of row depth (get_or s at 0) → at < length s → Started s row depth at r
unfolding start_at
start_at_lem {s} {row} {depth} {at} e l =
    record { is = e ∙ simp (start_at, lt-ltb at (length s) l); room = subst⁻¹ (StartRoom s row depth at) e (start_room s row depth at (get_or s at 0) l) }

-- ---- after an item or a member
module _ (s : Bytes) (close at : ℕ) where
  pub separator_end : length s ≤ at → Separated s close at Neither
  unfolding separator_at
  separator_end l = record { is = simp (separator_at, le-ltb at (length s) l); room = tt }

  module _ (l : at < length s) where
    pub separator_comma : get_or s at 0 ≡ 44 → Separated s close at Comma
    unfolding separator_at separator_of
    separator_comma e = record { is = simp (separator_at, separator_of, lt-ltb at (length s) l, eq-eqb (get_or s at 0) 44 e); room = l }

    pub separator_close : (get_or s at 0 ≡ 44 → ⊥) → get_or s at 0 ≡ close → Separated s close at Close
    unfolding separator_at separator_of
    separator_close n e =
        record { is = simp (separator_at, separator_of, lt-ltb at (length s) l, ne_eqb (get_or s at 0) 44 n, eq-eqb (get_or s at 0) close e); room = l }

    pub separator_neither : (get_or s at 0 ≡ 44 → ⊥) → (get_or s at 0 ≡ close → ⊥) → Separated s close at Neither
    unfolding separator_at separator_of
    separator_neither n m =
        record { is = simp (separator_at, separator_of, lt-ltb at (length s) l, ne_eqb (get_or s at 0) 44 n, ne_eqb (get_or s at 0) close m); room = tt }

-- ---- one byte
module _ (s : Bytes) (at b : ℕ) where
  pub stands_end : length s ≤ at → Stands s at b false
  unfolding stands_at
  stands_end l = record { is = simp (stands_at, le-ltb at (length s) l); room = λ e. absurd (false≢true e) }

  pub stands_at_lem : at < length s → Stands s at b (eqb (get_or s at 0) b)
  unfolding stands_at
  stands_at_lem l = record { is = simp (stands_at, lt-ltb at (length s) l); room = λ e. l }
