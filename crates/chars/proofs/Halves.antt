-- After the first half of a pair: what is no second half. Assumes nothing.
use mathlib.Core.Path.{◌≡◌, refl, sym, ap, ◌∙◌, subst⁻¹}
use mathlib.Core.Bool.{Bool, true, false}
use mathlib.Core.List.{◌∷◌}
use Prim.Native.Nat.{ℕ, suc, ◌+◌, ◌≤◌, ◌<◌}
use borrow.Author.Tests.{eqb-true, eqb-false, ltb-true, ltb-false, lt-ltb}
use lib.Dec.{ltb}
use lib.ListN.{length, get_or, drop}
use Rattle.model.specs.Bytes.{Bytes}
use Rattle.model.specs.declared.refusal.ReadFault.{ReadFault}
use Rattle.model.specs.declared.refusal.ReadFault.TheVariants.{LoneSurrogate}
use Rattle.syntax.specs.declared.Lead.{Lead}
use Rattle.syntax.specs.declared.Lead.TheVariants.{Closing, Backslash, Never, Char}
use Rattle.syntax.specs.declared.Escape.{Escape}
use Rattle.syntax.specs.declared.Escape.TheVariants.{Letter, Unicode, NoEscape}
use Rattle.syntax.specs.declared.Unit.TheVariants.{Plain, High}
use Rattle.syntax.specs.Read.{Parsed, ok, bad, then, give, Piece, closing, bytes, unit, char, escape, chars, clear, high, grow, or_lone, on_piece, on_unit, lone}
use Rattle.syntax.specs.Tokens.{escape_of}
use Rattle.syntax.specs.Utf8.{lead_of, unit_of, utf8, pair_of}
use Rattle.scan.specs.Contract.{stands_at, Stands}
use Rattle.chars.specs.Inner.{Leads, Unicodes, Escaped}
use Rattle.chars.proofs.Tables.{lead_as, escape_as}
use Rattle.chars.proofs.Read.{char_end, char_closing, char_never, char_escape, char_lead, escape_end, escape_letter, escape_not}
use Rattle.chars.proofs.Pieces.{letter_u}

-- ---- the byte at an offset
module _ {s : Bytes} {at b : ℕ} {r : Bool} (t : Stands s at b r) where
  pub stands_is : r ≡ true → get_or s at 0 ≡ b
  unfolding stands_at
  stands_is e = eqb-true (get_or s at 0) b (simp (stands_at, lt-ltb at (length s) (t.room e)) at (sym t.is ∙ e))

  pub stands_not : at < length s → r ≡ false → get_or s at 0 ≡ b → ⊥
  unfolding stands_at
  stands_not h e = eqb-false (get_or s at 0) b (simp (stands_at, lt-ltb at (length s) h) at (sym t.is ∙ e))

  unless : (P : Type 0) → r ≡ false → (length s ≤ at → P) → (at < length s → (get_or s at 0 ≡ b → ⊥) → P) → P
  unless P e f g = go (ltb at (length s)) refl
    where
      go : (x : Bool) → ltb at (length s) ≡ x → P
      go true h = let l : at < length s = ltb-true at (length s) h in g l (stands_not l e)
      go false h = f (ltb-false at (length s) h)

pub backslash : {s : Bytes} {at : ℕ} {r : Bool} → Stands s at 92 r → r ≡ true → Leads s at Backslash
unfolding lead_of
backslash t e = record { here = t.room e; is = ap lead_of (stands_is t e) }

pub backslash_u : {s : Bytes} {at : ℕ} {r q : Bool} → Stands s at 92 r → r ≡ true → Stands s (at + 1) 117 q → q ≡ true → Unicodes s at
unfolding escape_of
backslash_u {s} {at} t e x i = letter_u s at (backslash t e) (x.room i) (ap escape_of (stands_is x i))

-- ---- pieces that are no code unit
abbrev NoUnit : Parsed Piece → Type 0
NoUnit (ok closing t q) = Unit {0}
NoUnit (ok (bytes bs) t q) = Unit {0}
NoUnit (ok (unit u) t q) = ⊥
NoUnit (bad k p) = Unit {0}

no_unit : (r : Parsed Bytes) (b : ℕ) → NoUnit (then r (λ bs. give (bytes (b ∷ bs))))
unfolding then give
no_unit (ok bs t q) b = tt
no_unit (bad k p) b = tt

-- A first half with the unit h at p is left alone.
abbrev Alone : Bytes → ℕ → Type 0
Alone t at = (h p f : ℕ) → chars (suc f) (high h p) t at ≡ bad LoneSurrogate p

alone : (t : Bytes) (at : ℕ) → NoUnit (char t at) → Alone t at
unfolding chars or_lone on_piece lone
alone t at n h p f = go (char t at) n
  where
    go : (r : Parsed Piece) → NoUnit r
        → or_lone r p (λ x. on_piece x (lone p) (λ bs. lone p)
        (λ u. on_unit (unit_of u) (lone p) (lone p) (λ t' q. grow (utf8 (pair_of h u)) (chars f clear t' q)))) ≡ bad LoneSurrogate p
    go (ok closing t q) n = refl
    go (ok (bytes bs) t q) n = refl
    go (ok (unit u) t q) n = absurd n
    go (bad k q) n = refl

pub alone_bad : (t : Bytes) (at : ℕ) {k : ReadFault} {p : ℕ} → char t at ≡ bad k p → Alone t at
alone_bad t at e = alone t at (subst⁻¹ NoUnit e tt)

-- No backslash stands there.
pub alone_lead : {s : Bytes} {at : ℕ} {r : Bool} → Stands s at 92 r → r ≡ false → Alone (drop at s) at
alone_lead {s} {at} t n =
    unless t (Alone (drop at s) at) n (λ h. alone_bad (drop at s) at (char_end s at h))
    (λ h m. alone (drop at s) at (go h m (lead_of (get_or s at 0)) refl))
  where
    go : at < length s → (get_or s at 0 ≡ 92 → ⊥) → (l : Lead) → lead_of (get_or s at 0) ≡ l → NoUnit (char (drop at s) at)
    go h m Closing e = subst⁻¹ NoUnit (char_closing s at h e) tt
    go h m Backslash e = absurd (m (lead_as (get_or s at 0) Backslash e))
    go h m Never e = subst⁻¹ NoUnit (char_never s at h e) tt
    go h m (Char k lo hi) e = subst⁻¹ NoUnit (char_lead s at h k lo hi e) (no_unit _ (get_or s at 0))

-- No u stands after the backslash.
pub alone_letter : {s : Bytes} {at : ℕ} {r : Bool} → Leads s at Backslash → Stands s (at + 1) 117 r → r ≡ false → Alone (drop at s) at
alone_letter {s} {at} d t n =
    unless t (Alone (drop at s) at) n
    (λ h. alone_bad (drop at s) at (char_escape s at d.here d.is ∙ escape_end s (at + 1) h))
    (λ h m. alone (drop at s) at (subst⁻¹ NoUnit (char_escape s at d.here d.is) (go h m (escape_of (get_or s (at + 1) 0)) refl)))
  where
    go : at + 1 < length s → (get_or s (at + 1) 0 ≡ 117 → ⊥) → (x : Escape) → escape_of (get_or s (at + 1) 0) ≡ x → NoUnit (escape (drop (at + 1) s) (at + 1))
    go h m (Letter x) e = subst⁻¹ NoUnit (escape_letter s (at + 1) h x e) tt
    go h m Unicode e = absurd (m (escape_as (get_or s (at + 1) 0) Unicode e))
    go h m NoEscape e = subst⁻¹ NoUnit (escape_not s (at + 1) h e) tt

pub alone_plain : {s : Bytes} {at u : ℕ} → Escaped s at u Plain → Alone (drop at s) at
unfolding chars or_lone on_piece on_unit lone
alone_plain {s} {at} {u} x h p f = rw (x.is, x.of)

pub alone_high_lem : {s : Bytes} {at u : ℕ} → Escaped s at u High → Alone (drop at s) at
unfolding chars or_lone on_piece on_unit lone
alone_high_lem {s} {at} {u} x h p f = rw (x.is, x.of)
