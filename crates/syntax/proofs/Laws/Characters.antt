-- Characters: each character that the grammar derives is read as what it stands for; and when no pair of surrogates begins.
use Rattle.std.specs.Prelude.{◌≡◌, refl, [], ◌∷◌, ℕ, suc, ◌+◌, ◌*◌, length, drop}
use Rattle.std.proofs.Common.{sym, ap, ◌∙◌, arith}
use Rattle.model.specs.Bytes.{Bytes}
use Rattle.model.proofs.Laws.Logic.{T→true, clash}
use Rattle.model.specs.declared.refusal.ReadFault.TheVariants.{NotJson}
use Rattle.syntax.specs.declared.Lead.TheVariants.{Char}
use Rattle.syntax.specs.declared.Escape.TheVariants.{Letter}
use Rattle.syntax.specs.declared.Unit.{Unit}
use Rattle.syntax.specs.declared.Unit.TheVariants.{Plain, High, Low}
use Rattle.syntax.specs.Faults.{spell_unit, Pair}
use Rattle.syntax.specs.Grammar.{Tails, no_tail, tail, Hexes, no_hexes, hex, spell_tails, spell_hexes, tail_bytes, hex_number}
use Rattle.syntax.specs.Read.{Parsed, ok, bad, then, give, fail, tails, on_hex, hexes, Piece, closing, bytes, unit, on_escape, escape, on_lead, char}
use Rattle.syntax.specs.Tokens.{within, escape_of}
use Rattle.syntax.specs.Utf8.{lead_of, unit_of}
use Rattle.syntax.proofs.Laws.Parsing.{if_true}

pub tails_length : {n lo hi : ℕ} (ts : Tails n lo hi) (y : Bytes) → length (spell_tails ts y) ≡ n + length y
unfolding spell_tails
tails_length no_tail y = omega arith
tails_length (tail b h ts) y = omega (arith, tails_length ts y)

pub hexes_length : {n : ℕ} (hs : Hexes n) (y : Bytes) → length (spell_hexes hs y) ≡ n + length y
unfolding spell_hexes
hexes_length no_hexes y = omega arith
hexes_length (hex b d h hs) y = omega (arith, hexes_length hs y)

pub drop_hexes : {n : ℕ} (hs : Hexes n) (y : Bytes) → drop n (spell_hexes hs y) ≡ y
unfolding spell_hexes
drop_hexes no_hexes y = refl
drop_hexes (hex b d h hs) y = drop_hexes hs y

pub tails_run : {n lo hi : ℕ} (ts : Tails n lo hi) (z : Bytes) (at : ℕ) → tails n lo hi (spell_tails ts z) at ≡ ok (tail_bytes ts) z (at + n)
unfolding tails spell_tails tail_bytes then give
tails_run no_tail z at = ap (ok [] z) (omega arith)
tails_run (tail {n = n} {lo = lo} {hi = hi} b h ts) z at =
    if_true (λ x. x ≡ ok (b ∷ tail_bytes ts) z (at + suc n)) (b ∷ spell_tails ts z) at (within lo hi b) _ _ (T→true _ h)
    (ap (λ x. then x (λ bs. give (b ∷ bs))) (tails_run ts z (suc at)) ∙ ap (ok (b ∷ tail_bytes ts) z) (omega arith))

pub hexes_run : {n : ℕ} (hs : Hexes n) (u : ℕ) (z : Bytes) (at : ℕ) → hexes n u (spell_hexes hs z) at ≡ ok (hex_number u hs) z (at + n)
unfolding hexes spell_hexes hex_number on_hex
hexes_run no_hexes u z at = ap (ok u z) (omega arith)
hexes_run (hex {n = n} b d h hs) u z at =
    ap (λ x. on_hex x (λ d t' q. hexes n (u * 16 + d) (spell_hexes hs z) (suc at)) (fail NotJson) (b ∷ spell_hexes hs z) at) h
    ∙ hexes_run hs (u * 16 + d) z (suc at)
    ∙ ap (ok (hex_number (u * 16 + d) hs) z) (omega arith)

pub char_closing : (y : Bytes) (at : ℕ) → char (0x22 ∷ y) at ≡ ok closing (0x22 ∷ y) at
unfolding char on_lead lead_of give
char_closing y at = refl

pub char_unescaped : (b n lo hi : ℕ) → lead_of b ≡ Char n lo hi → (ts : Tails n lo hi) (z : Bytes) (at : ℕ) → char (b ∷ spell_tails ts z) at ≡ ok (bytes (b ∷ tail_bytes ts)) z (at + suc n)
unfolding char on_lead then give
char_unescaped b n lo hi h ts z at =
    ap (λ x. on_lead x (give closing) (λ t' q. escape (spell_tails ts z) (suc at)) (fail NotJson) (λ n lo hi t' q. then (tails n lo hi (spell_tails ts z) (suc at)) (λ bs. give (bytes (b ∷ bs)))) (b ∷ spell_tails ts z) at) h
    ∙ ap (λ x. then x (λ bs. give (bytes (b ∷ bs)))) (tails_run ts z (suc at))
    ∙ ap (ok (bytes (b ∷ tail_bytes ts)) z) (omega arith)

pub char_escaped : (b d : ℕ) → escape_of b ≡ Letter d → (z : Bytes) (at : ℕ) → char (0x5C ∷ b ∷ z) at ≡ ok (bytes (d ∷ [])) z (at + 2)
unfolding char on_lead escape on_escape lead_of
char_escaped b d h z at =
    ap (λ x. on_escape x (λ d t' q. ok (bytes (d ∷ [])) z (suc (suc at))) (λ t' q. then (hexes 4 0 z (suc (suc at))) (λ u. give (unit u))) (fail NotJson) (b ∷ z) (suc at)) h
    ∙ ap (ok (bytes (d ∷ [])) z) (omega arith)

pub char_unit : (hs : Hexes 4) (z : Bytes) (at : ℕ) → char (spell_unit hs z) at ≡ ok (unit (hex_number 0 hs)) z (at + 6)
unfolding char on_lead escape on_escape lead_of escape_of then give
char_unit hs z at = ap (λ x. then x (λ u. give (unit u))) (hexes_run hs 0 z (suc (suc at))) ∙ ap (ok (unit (hex_number 0 hs)) z) (omega arith)

-- ---- surrogates
-- A complete low surrogate escape begins here.
pub record StartsLow (t : Bytes) : Type 0 where
  pub low : Hexes 4
  pub rest : Bytes
  pub begins : t ≡ spell_unit low rest
  pub is_low : unit_of (hex_number 0 low) ≡ Low

low_runs : (t : Bytes) (at : ℕ) → (h : StartsLow t) → char t at ≡ ok (unit (hex_number 0 h.low)) h.rest (at + 6)
low_runs t at h = ap (λ z. char z at) h.begins ∙ char_unit h.low h.rest at

-- What is read here is no low surrogate escape.
abbrev pub NoLow : Parsed Piece → Type 0
NoLow (ok closing u q) = Prim.Unit {0}
NoLow (ok (bytes bs) u q) = Prim.Unit {0}
NoLow (ok (unit c) u q) = unit_of c ≡ Low → ⊥
NoLow (bad k p) = Prim.Unit {0}

pub not_low : (t : Bytes) (at : ℕ) (r : Parsed Piece) → char t at ≡ r → NoLow r → StartsLow t → ⊥
not_low t at r e h l = go r h (sym e ∙ low_runs t at l)
  where
    go : (r : Parsed Piece) → NoLow r → r ≡ ok (unit (hex_number 0 l.low)) l.rest (at + 6) → ⊥
    go (ok closing u q) h i = clash cc
    go (ok (bytes bs) u q) h i = clash cc
    go (ok (unit c) u q) h i = let z : c ≡ hex_number 0 l.low = cc in h (ap unit_of z ∙ l.is_low)
    go (bad k p) h i = clash cc

-- A pair begins with a high one, and a low one begins what follows.
pub pair_high : (t : Bytes) (at c : ℕ) (u : Bytes) (q : ℕ) → char t at ≡ ok (unit c) u q → Pair t → (unit_of c ≡ High) × StartsLow u
pair_high t at c u q e p =
    let i : ok (unit c) u q ≡ ok (unit (hex_number 0 p.high)) (spell_unit p.low p.rest) (at + 6) = sym e ∙ ap (λ z. char z at) p.begins ∙ char_unit p.high _ at in
    let j : c ≡ hex_number 0 p.high = cc in
    let k : u ≡ spell_unit p.low p.rest = cc in
    (ap unit_of j ∙ p.is_high, record { low = p.low; rest = p.rest; begins = k; is_low = p.is_low })

-- What follows the first escape of a pair.
pub pair_low : {t : Bytes} → Pair t → StartsLow (drop 6 t)
pair_low {t} p = record { low = p.low; rest = p.rest; begins = ap (drop 6) p.begins ∙ drop_hexes p.high _; is_low = p.is_low }

pub high_low : (c : ℕ) → unit_of c ≡ High → unit_of c ≡ Low → ⊥
high_low c h l = clash cc

pub plain_low : (c : ℕ) → unit_of c ≡ Plain → unit_of c ≡ Low → ⊥
plain_low c h l = clash cc

pub plain_high : (c : ℕ) → unit_of c ≡ Plain → unit_of c ≡ High → ⊥
plain_high c h l = clash cc
