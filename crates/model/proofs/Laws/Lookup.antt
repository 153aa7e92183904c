-- Lookup: what the parts of a value inherit from the whole holds of the value at each path; so a path leads from a value with no instant in it to another such value.
use Rattle.std.specs.Prelude.{◌≡◌, [], ◌∷◌, ℕ, zero, suc, T}
use Rattle.std.specs.Prelude.{Option, None, Some}
use Rattle.model.specs.Bytes.{Bytes, same_bytes}
use Rattle.model.specs.Option.{or_else}
use Rattle.model.specs.Path.{Path, member_named, index_of, item_at, part, lookup, value_at}
use Rattle.model.specs.Value.{Value, scalar, instant, array, object, null, Values, no_items, item, Members, no_members, member, instant_free}
use Rattle.model.proofs.Laws.Logic.{and_l, and_r}
use Rattle.model.proofs.Laws.Option.{All, all_some, all_bind, all_then, all_cond}

-- Where P holds of an array, it holds of the first item and of the array of the others; likewise of an object.
pub record Inherited (P : Value → Type 0) : Type 0 where
  pub by_items : (v : Value) (vs : Values) → P (array (item v vs)) → P v × P (array vs)
  pub by_members : (name : Bytes) (v : Value) (ms : Members) → P (object (member name v ms)) → P v × P (object ms)

module _ (P : Value → Type 0) (inherited : Inherited P) where
  all_item : (vs : Values) (k : ℕ) → P (array vs) → All P (item_at vs k)
  all_item no_items k h = tt
  all_item (item v vs) zero h = (inherited.by_items v vs h).0
  all_item (item v vs) (suc k) h = all_item vs k (inherited.by_items v vs h).1

  all_member : (f : Bytes) (ms : Members) → P (object ms) → All P (member_named f ms)
  all_member f no_members h = tt
  all_member f (member name v ms) h =
      let (here, later) = inherited.by_members name v ms h in
      all_cond P (same_bytes f name) (Some v) (member_named f ms) here (all_member f ms later)

  all_part : (f : Bytes) (c : Value) → P c → All P (part f c)
  all_part f (scalar x) h = tt
  all_part f (instant t) h = tt
  all_part f (array vs) h = all_then P (index_of f) (item_at vs) (λ k. all_item vs k h)
  all_part f (object ms) h = all_member f ms h

  all_lookup : (q : Path) (c : Value) → P c → All P (lookup q c)
  all_lookup [] c h = h
  all_lookup (f ∷ q) c h = all_bind P P (part f c) (lookup q) (all_part f c h) (all_lookup q)

  -- What a path leads to,
  pub lookup_inherits : (q : Path) (c v : Value) → P c → lookup q c ≡ Some v → P v
  lookup_inherits q c v h e = all_some P (all_lookup q c h) e

  -- and null, which stands for what is absent.
  pub value_at_inherits : P (scalar null) → (q : Path) (c : Value) → P c → P (value_at q c)
  value_at_inherits z q c h = go (lookup q c) (all_lookup q c h)
    where
      go : (o : Option Value) → All P o → P (or_else o (scalar null))
      go None h = z
      go (Some v) h = h

-- ---- no instant
instant_free_inherited : Inherited (λ v. T (instant_free v))
unfolding instant_free
instant_free_inherited = record {
  by_items = λ v vs h. (and_l (instant_free v) _ h, and_r (instant_free v) _ h);
  by_members = λ name v ms h. (and_l (instant_free v) _ h, and_r (instant_free v) _ h);
}

-- What a path leads to in a record has no instant in it,
pub lookup_instant_free : (q : Path) (c v : Value) → T (instant_free c) → lookup q c ≡ Some v → T (instant_free v)
lookup_instant_free = lookup_inherits (λ v. T (instant_free v)) instant_free_inherited

-- nor has null, which stands for what is absent.
pub value_at_instant_free : (q : Path) (c : Value) → T (instant_free c) → T (instant_free (value_at q c))
unfolding instant_free
value_at_instant_free = value_at_inherits (λ v. T (instant_free v)) instant_free_inherited tt
