-- Fragment: where a fragment of a text ends.
use Rattle.std.specs.Prelude.{cond, [], ◌∷◌, ℕ, suc, eqb}
use Rattle.model.specs.Bytes.{Bytes}
use Rattle.model.specs.Lists.{any}

-- How many bytes stand before the first separator, or in all.
unfoldable pub fragment_length : Bytes → Bytes → ℕ
fragment_length separators [] = 0
fragment_length separators (x ∷ s) = cond (any (eqb x) separators) 0 (suc (fragment_length separators s))
