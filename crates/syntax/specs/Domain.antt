-- Domain: two decisions of document 01 that the meaning of a derivation and the parser share.
use Rattle.std.specs.Prelude.{Bool, true, false, List, ℕ, zero, suc, pos, negsuc}
use Rattle.model.specs.Bytes.{Bytes, same_bytes}
use Rattle.model.specs.Lists.{any}
use Rattle.model.specs.Value.{Value, scalar, integer}

-- "-0 reads as 0."
unfoldable pub signed : Bool → ℕ → Value
signed false n = scalar (integer (pos n))
signed true zero = scalar (integer (pos 0))
signed true (suc n) = scalar (integer (negsuc n))

-- "Names and strings are equal when their decoded UTF-8 bytes are."
unfoldable pub among : Bytes → List Bytes → Bool
among n seen = any (same_bytes n) seen
