-- Inner: what the private functions give.
use Rattle.std.specs.Prelude.{Bool, true, false, ◌&&◌, not, cond, [], ◌∷◌, eqb}
use Rattle.model.specs.Bytes.{Bytes, byte}

-- ---- src/path.rt
-- Every fragment between the dots has a byte; the first has one before these bytes, unless it is empty so far.
abbrev pub fragments : Bool → Bytes → Bool
fragments empty [] = not empty
fragments empty (x ∷ s) = cond (eqb (byte ".") x) (not empty && fragments true s) (fragments false s)
