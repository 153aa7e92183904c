-- The definitions of a character, its bytes and its escapes, at an offset of the text and by the byte there. Assumes nothing.
use Rattle.std.specs.Prelude.{None, Some}
use mathlib.Core.Path.{◌≡◌}
use mathlib.Core.Bool.{true, false}
use mathlib.Core.List.{[], ◌∷◌}
use Prim.Native.Nat.{ℕ, suc, ◌+◌, ◌*◌, ◌≤◌, ◌<◌}
use native.Mathlib.Numerals.{add-one}
use lib.ListN.{length, get_or, drop, drop_of_length-le}
use lib.Seq.{drop-cons}
use Rattle.model.specs.Bytes.{Bytes}
use Rattle.model.specs.declared.refusal.ReadFault.TheVariants.{NotJson}
use Rattle.syntax.specs.declared.Lead.TheVariants.{Closing, Backslash, Never, Char}
use Rattle.syntax.specs.declared.Escape.TheVariants.{Letter, Unicode, NoEscape}
use Rattle.syntax.specs.Read.{ok, bad, then, give, fail, if, closing, bytes, unit, tails, hexes, escape, char, grow, on_hex, on_escape, on_lead}
use Rattle.syntax.specs.Tokens.{within, escape_of, hex_of}
use Rattle.syntax.specs.Utf8.{lead_of}

-- Where the text ends.
module _ (s : Bytes) (at : ℕ) (h : length s ≤ at) where
  pub char_end : char (drop at s) at ≡ bad NotJson at
  unfolding char
  char_end = rw (drop_of_length-le s h)

  pub escape_end : escape (drop at s) at ≡ bad NotJson at
  unfolding escape
  escape_end = rw (drop_of_length-le s h)

  pub hexes_end : (n u : ℕ) → hexes (suc n) u (drop at s) at ≡ bad NotJson at
  unfolding hexes
  hexes_end n u = rw (drop_of_length-le s h)

  pub tails_end : (n lo hi : ℕ) → tails (suc n) lo hi (drop at s) at ≡ bad NotJson at
  unfolding tails
  tails_end n lo hi = rw (drop_of_length-le s h)

-- By the byte there.
module _ (s : Bytes) (at : ℕ) (h : at < length s) where
  pub char_closing : lead_of (get_or s at 0) ≡ Closing → char (drop at s) at ≡ ok closing (drop at s) at
  unfolding char on_lead give
  char_closing e = rw (drop-cons s at 0 h, char, e)

  pub char_escape : lead_of (get_or s at 0) ≡ Backslash → char (drop at s) at ≡ escape (drop (at + 1) s) (at + 1)
  unfolding char on_lead
  char_escape e = rw (add-one, drop-cons s at 0 h, char, e)

  pub char_never : lead_of (get_or s at 0) ≡ Never → char (drop at s) at ≡ bad NotJson at
  unfolding char on_lead fail
  char_never e = rw (drop-cons s at 0 h, char, e)

  pub char_lead : (n lo hi : ℕ) → lead_of (get_or s at 0) ≡ Char n lo hi
      → char (drop at s) at ≡ then (tails n lo hi (drop (at + 1) s) (at + 1)) (λ bs. give (bytes (get_or s at 0 ∷ bs)))
  unfolding char on_lead
  char_lead n lo hi e = rw (add-one, drop-cons s at 0 h, char, e)

  pub escape_letter : (d : ℕ) → escape_of (get_or s at 0) ≡ Letter d → escape (drop at s) at ≡ ok (bytes (d ∷ [])) (drop (at + 1) s) (at + 1)
  unfolding escape on_escape
  escape_letter d e = rw (add-one, drop-cons s at 0 h, escape, e)

  pub escape_unicode : escape_of (get_or s at 0) ≡ Unicode → escape (drop at s) at ≡ then (hexes 4 0 (drop (at + 1) s) (at + 1)) (λ u. give (unit u))
  unfolding escape on_escape
  escape_unicode e = rw (add-one, drop-cons s at 0 h, escape, e)

  pub escape_not : escape_of (get_or s at 0) ≡ NoEscape → escape (drop at s) at ≡ bad NotJson at
  unfolding escape on_escape fail
  escape_not e = rw (drop-cons s at 0 h, escape, e)

  pub hexes_not : (n u : ℕ) → hex_of (get_or s at 0) ≡ None → hexes (suc n) u (drop at s) at ≡ bad NotJson at
  unfolding hexes on_hex fail
  hexes_not n u e = rw (drop-cons s at 0 h, hexes, e)

  pub hexes_in : (n u d : ℕ) → hex_of (get_or s at 0) ≡ Some d → hexes (suc n) u (drop at s) at ≡ hexes n (u * 16 + d) (drop (at + 1) s) (at + 1)
  unfolding hexes on_hex
  hexes_in n u d e = rw (add-one, drop-cons s at 0 h, hexes, e)

  pub tails_not : (n lo hi : ℕ) → within lo hi (get_or s at 0) ≡ false → tails (suc n) lo hi (drop at s) at ≡ bad NotJson at
  unfolding tails if fail
  tails_not n lo hi e = rw (drop-cons s at 0 h, tails, e)

  pub tails_in : (n lo hi : ℕ) → within lo hi (get_or s at 0) ≡ true
      → tails (suc n) lo hi (drop at s) at ≡ grow (get_or s at 0 ∷ []) (tails n 128 191 (drop (at + 1) s) (at + 1))
  unfolding tails if grow
  tails_in n lo hi e = rw (add-one, drop-cons s at 0 h, tails, e)
