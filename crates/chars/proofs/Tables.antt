-- The tables of bytes and code units in strings, by the tests that the code makes. Assumes nothing.
use Rattle.std.specs.Prelude.{Option, None, Some}
use mathlib.Core.Path.{◌≡◌, refl, sym, subst}
use mathlib.Core.Bool.{Bool, true, false, ◌&&◌, true≢false}
use lib.Dec.{leb, eqb}
use Prim.Native.Nat.{ℕ, ◌≤◌, ◌<◌}
use native.Mathlib.Omega.{arith}
use borrow.Author.Tests.{le-leb, lt-leb, leb-true, eqb-true}
use Rattle.syntax.specs.declared.Lead.{Lead}
use Rattle.syntax.specs.declared.Lead.TheVariants.{Closing, Backslash, Never, Char}
use Rattle.syntax.specs.declared.Escape.{Escape}
use Rattle.syntax.specs.declared.Escape.TheVariants.{Letter, Unicode, NoEscape}
use Rattle.syntax.specs.declared.Unit as units
use Rattle.syntax.specs.declared.Unit.TheVariants.{Plain, High, Low}
use Rattle.syntax.specs.Tokens.{within, escape_of, hex_of}
use Rattle.syntax.specs.Utf8.{lead_of, unit_of}

-- ---- tests of a number that is at least m, or below m
pub inside : (lo hi b : ℕ) → lo ≤ b → b ≤ hi → within lo hi b ≡ true
unfolding within
inside lo hi b h l = rw (le-leb lo b h, le-leb b hi l)

pub under : (lo hi b : ℕ) → b < lo → within lo hi b ≡ false
unfolding within
under lo hi b h = rw (lt-leb lo b h)

pub over : (lo hi b : ℕ) → lo ≤ b → hi < b → within lo hi b ≡ false
unfolding within
over lo hi b h l = rw (le-leb lo b h, lt-leb b hi l)

-- ---- the tables backwards: what an answer says of the byte or the unit
step : {A : Type 0} (P : A → Type 0) (c : Bool) (x y : A) → (c ≡ true → P x) → P y → P (elim c [ true ↦ x | false ↦ y ])
step P true x y f g = f refl
step P false x y f g = g

bounds : (lo hi b : ℕ) → within lo hi b ≡ true → (lo ≤ b) × (b ≤ hi)
unfolding within
bounds lo hi b = go (leb lo b) (leb b hi) refl refl
  where
    go : (x y : Bool) → leb lo b ≡ x → leb b hi ≡ y → x && y ≡ true → (lo ≤ b) × (b ≤ hi)
    go true true p q e = (leb-true lo b p, leb-true b hi q)
    go true false p q e = absurd (true≢false (sym e))
    go false y p q e = absurd (true≢false (sym e))

abbrev LeadFits : ℕ → Lead → Type 0
LeadFits b Closing = b ≡ 34
LeadFits b Backslash = b ≡ 92
LeadFits b Never = Unit {0}
LeadFits b (Char n lo hi) = Unit {0}

pub lead_as : (b : ℕ) (l : Lead) → lead_of b ≡ l → LeadFits b l
unfolding lead_of
lead_as b l e =
    subst (LeadFits b) e
    (step (LeadFits b) (eqb b 34) _ _ (eqb-true b 34)
    (step (LeadFits b) (eqb b 92) _ _ (eqb-true b 92)
    (step (LeadFits b) (within 32 127 b) _ _ (λ h. tt)
    (step (LeadFits b) (within 194 223 b) _ _ (λ h. tt)
    (step (LeadFits b) (eqb b 224) _ _ (λ h. tt)
    (step (LeadFits b) (within 225 236 b) _ _ (λ h. tt)
    (step (LeadFits b) (eqb b 237) _ _ (λ h. tt)
    (step (LeadFits b) (within 238 239 b) _ _ (λ h. tt)
    (step (LeadFits b) (eqb b 240) _ _ (λ h. tt)
    (step (LeadFits b) (within 241 243 b) _ _ (λ h. tt)
    (step (LeadFits b) (eqb b 244) _ _ (λ h. tt) tt)))))))))))

abbrev EscapeFits : ℕ → Escape → Type 0
EscapeFits b (Letter d) = Unit {0}
EscapeFits b Unicode = b ≡ 117
EscapeFits b NoEscape = Unit {0}

pub escape_as : (b : ℕ) (x : Escape) → escape_of b ≡ x → EscapeFits b x
unfolding escape_of
escape_as b x e =
    subst (EscapeFits b) e
    (step (EscapeFits b) (eqb b 34) _ _ (λ h. tt)
    (step (EscapeFits b) (eqb b 92) _ _ (λ h. tt)
    (step (EscapeFits b) (eqb b 47) _ _ (λ h. tt)
    (step (EscapeFits b) (eqb b 98) _ _ (λ h. tt)
    (step (EscapeFits b) (eqb b 102) _ _ (λ h. tt)
    (step (EscapeFits b) (eqb b 110) _ _ (λ h. tt)
    (step (EscapeFits b) (eqb b 114) _ _ (λ h. tt)
    (step (EscapeFits b) (eqb b 116) _ _ (λ h. tt)
    (step (EscapeFits b) (eqb b 117) _ _ (eqb-true b 117) tt)))))))))

abbrev HexFits : Option ℕ → Type 0
HexFits (Some d) = d < 16
HexFits None = Unit {0}

pub hex_as : (b : ℕ) (x : Option ℕ) → hex_of b ≡ x → HexFits x
unfolding hex_of
hex_as b x e =
    subst HexFits e
    (step HexFits (within 48 57 b) _ _ (λ h. omega (arith, bounds 48 57 b h))
    (step HexFits (within 65 70 b) _ _ (λ h. omega (arith, bounds 65 70 b h))
    (step HexFits (within 97 102 b) _ _ (λ h. omega (arith, bounds 97 102 b h)) tt)))

abbrev UnitFits : ℕ → units.Unit → Type 0
UnitFits u Plain = Unit {0}
UnitFits u High = (55296 ≤ u) × (u ≤ 56319)
UnitFits u Low = (56320 ≤ u) × (u ≤ 57343)

pub unit_as : (u : ℕ) (x : units.Unit) → unit_of u ≡ x → UnitFits u x
unfolding unit_of
unit_as u x e =
    subst (UnitFits u) e
    (step (UnitFits u) (within 55296 56319 u) _ _ (bounds 55296 56319 u)
    (step (UnitFits u) (within 56320 57343 u) _ _ (bounds 56320 57343 u) tt))
