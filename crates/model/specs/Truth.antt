-- Truth: 01, Evaluation: "Falsy: false, null, "", 0, [], {}. Truthy: true and every other string, integer, array and object.
-- An instant is neither."
use Rattle.std.specs.Prelude.{true, false, [], ◌∷◌, zero, suc, pos, negsuc}
use Rattle.model.specs.Value.{Value, scalar, instant, array, object, null, boolean, integer, string, no_items, item, no_members, member}

pub data Truth : Type 0 where
  truthy falsy neither : Truth

abbrev pub truth : Value → Truth
truth (scalar null) = falsy
truth (scalar (boolean false)) = falsy
truth (scalar (boolean true)) = truthy
truth (scalar (integer (pos zero))) = falsy
truth (scalar (integer (pos (suc n)))) = truthy
truth (scalar (integer (negsuc n))) = truthy
truth (scalar (string [])) = falsy
truth (scalar (string (x ∷ s))) = truthy
truth (instant t) = neither
truth (array no_items) = falsy
truth (array (item v vs)) = truthy
truth (object no_members) = falsy
truth (object (member name v ms)) = truthy
