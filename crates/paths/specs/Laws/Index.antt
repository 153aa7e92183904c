-- Index: what an index says of the number that a fragment is.
use Rattle.std.specs.Prelude.{Bool, true, false, cond, ◌≡◌, refl, ℕ, ◌≤◌, ltb}
use Rattle.std.specs.Prelude.{Option, None, Some}
use Rattle.std.proofs.Common.{ltb-false}
use Rattle.model.specs.Bytes.{Bytes}
use Rattle.model.proofs.Laws.Logic.{clash}
use Rattle.model.specs.Path.{index_of}
use Rattle.paths.specs.Contract.{limit, below_limit, index_in}

pub data IndexIs (f : Bytes) : Option ℕ → Type 0 where
  outside : ((k : ℕ) → index_of f ≡ Some k → limit ≤ k) → IndexIs f None
  inside : {k : ℕ} → index_of f ≡ Some k → IndexIs f (Some k)

pub index_is : (f : Bytes) {r : Option ℕ} → r ≡ index_in f → IndexIs f r
index_is f {r} e = rw e (go (index_of f) refl)
  where
    at : (k : ℕ) → index_of f ≡ Some k → (b : Bool) → ltb k limit ≡ b → IndexIs f (cond b (Some k) None)
    at k e true l = inside e
    at k e false l = outside (λ j g. let same : k ≡ j = cc in rw (← same) (ltb-false k limit l))

    go : (o : Option ℕ) → index_of f ≡ o → IndexIs f (below_limit o)
    go None e = outside (λ k g. clash cc)
    go (Some k) e = at k e (ltb k limit) refl
