-- What the private functions of src/lib.rt promise, by the definition `chars` of the crate syntax.
use Rattle.std.specs.Prelude.{◌≡◌, ℕ, suc, ◌+◌, ◌≤◌, ◌<◌, length, get_or, drop, take, slice_get, Option, None, Some, Result, Ok, Err}
use Rattle.std.specs.Option.{option_and_then}
use Rattle.std.proofs.lemmas.List.Edits.{sets}
use Rattle.model.specs.Bytes.{Bytes}
use Rattle.model.specs.declared.refusal.ReadFault.TheVariants.{NotJson, LoneSurrogate}
use Rattle.syntax.specs.declared.Lead.{Lead}
use Rattle.syntax.specs.declared.Unit as units
use Rattle.syntax.specs.declared.Unit.TheVariants.{Low}
use Rattle.syntax.specs.Read.{ok, bad, then, give, unit, hexes, tails, char, chars, clear, high, grow}
use Rattle.syntax.specs.Tokens.{hex_of}
use Rattle.syntax.specs.Utf8.{lead_of, unit_of, utf8}
use Rattle.scan.specs.declared.Fault.{Fault}
use Rattle.chars.specs.declared.Decoded.{Decoded}

-- ---- places
-- The text s is read from `at` on into the area A from `used` on, which is never ahead of the text.
pub record Room (s : Bytes) (at used : ℕ) (A : Bytes) : Type 0 where
  pub inside : at ≤ length s
  pub behind : used ≤ at
  pub fits : length s ≤ length A

-- From `at` up to i the definition reads the bytes bs, in no more steps than there are bytes.
pub record Reads (s : Bytes) (at : ℕ) (bs : Bytes) (i : ℕ) : Type 0 where
  pub steps : ℕ
  pub few : at + steps ≤ i
  pub short : at + length bs ≤ i
  pub inside : i ≤ length s
  pub run : (f : ℕ) → chars (steps + f) clear (drop at s) at ≡ grow bs (chars f clear (drop i s) i)

-- What stands from `at` up to i is decoded into the area from `used` up to `to`.
pub record Taken (s : Bytes) (at used : ℕ) (A : Bytes) (i to : ℕ) (A' : Bytes) : Type 0 where
  pub bs : Bytes
  pub reads : Reads s at bs i
  pub next : to ≡ used + length bs
  pub area : A' ≡ sets A used bs

-- What stands at `at` ends the reading in the fault x, and leaves the area as it was.
pub record Stopped (s : Bytes) (at : ℕ) (A : Bytes) (x : Fault) (A' : Bytes) : Type 0 where
  pub run : (f : ℕ) → length s < at + f → chars f clear (drop at s) at ≡ bad x.reason x.at
  pub same : A' ≡ A

-- One character or escape at `at`, up to d.
pub record Advanced (s : Bytes) (at used : ℕ) (A : Bytes) (d : Decoded) (A' : Bytes) : Type 0 where
  pub taken : Taken s at used A d.at d.used A'
  pub on : at < d.at

abbrev pub PieceMeets : Bytes → ℕ → ℕ → Bytes → Result Decoded Fault → Bytes → Type 0
PieceMeets s at used A (Ok d) A' = Advanced s at used A d A'
PieceMeets s at used A (Err x) A' = Stopped s at A x A'

pub record Pieced (s : Bytes) (at used : ℕ) (A : Bytes) (r : Result Decoded Fault) (A' : Bytes) : Type 0 where
  pub meets : PieceMeets s at used A r A'

-- ---- characters
-- What stands at `at`, by its first byte.
pub record Leads (s : Bytes) (at : ℕ) (lead : Lead) : Type 0 where
  pub here : at < length s
  pub is : lead_of (get_or s at 0) ≡ lead

-- r of the n bytes at `at` can follow a character's first one.
pub record Tailed (s : Bytes) (at n lo hi r : ℕ) : Type 0 where
  pub few : r ≤ n
  pub inside : at + r ≤ length s
  pub all : r ≡ n → tails n lo hi (drop at s) at ≡ ok (take n (drop at s)) (drop (at + n) s) (at + n)
  pub some : r < n → tails n lo hi (drop at s) at ≡ bad NotJson (at + r)

-- ---- escapes
-- The number of the hexadecimal digit at an offset, if one stands there.
unfoldable pub hex_at : Bytes → ℕ → Option ℕ
hex_at s at = option_and_then hex_of (slice_get s at)

-- Four hexadecimal digits at `at`.
pub record UnitRead (s : Bytes) (at u : ℕ) : Type 0 where
  pub is : hexes 4 0 (drop at s) at ≡ ok u (drop (at + 4) s) (at + 4)
  pub inside : at + 4 ≤ length s
  pub small : u < 65536

abbrev pub Coded : Bytes → ℕ → Result ℕ Fault → Type 0
Coded s at (Ok u) = UnitRead s at u
Coded s at (Err x) = hexes 4 0 (drop at s) at ≡ bad x.reason x.at

-- The letters \u stand at `at`.
pub record Unicodes (s : Bytes) (at : ℕ) : Type 0 where
  pub here : at + 2 ≤ length s
  pub is : char (drop at s) at ≡ then (hexes 4 0 (drop (at + 2) s) (at + 2)) (λ u. give (unit u))

-- The escape at `at` is the code unit u, of the given kind.
pub record Escaped (s : Bytes) (at u : ℕ) (kind : units.Unit) : Type 0 where
  pub is : char (drop at s) at ≡ ok (unit u) (drop (at + 6) s) (at + 6)
  pub inside : at + 6 ≤ length s
  pub of : unit_of u ≡ kind

-- The second half of a pair at `at`, after a first half at p.
abbrev pub Halved : Bytes → ℕ → Option ℕ → Type 0
Halved s at (Some l) = Escaped s at l Low
Halved s at None = (h p f : ℕ) → chars (suc f) (high h p) (drop at s) at ≡ bad LoneSurrogate p

-- The UTF-8 of u is put into the area A at `used`.
pub record Put (A : Bytes) (used u r : ℕ) (A' : Bytes) : Type 0 where
  pub end : r ≡ used + length (utf8 u)
  pub area : A' ≡ sets A used (utf8 u)
