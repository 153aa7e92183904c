-- Branches: for proofs of code. The branch of a definition that a test of the code decides, where r is what a call answered and b what that means.
use Rattle.std.specs.Prelude.{◌≡◌, Bool, true, false, cond, not, T}
use Rattle.std.proofs.Common.{sym, ◌∙◌, ap}
use Rattle.std.proofs.lemmas.Bool.{not-true, not-false}
use Rattle.model.proofs.Laws.Logic.{true→t}

-- A test that the code negates.
pub answered_true : {r b : Bool} → r ≡ b → not r ≡ false → b ≡ true
answered_true {r} e n = sym e ∙ not-false r n

pub answered_false : {r b : Bool} → r ≡ b → not r ≡ true → b ≡ false
answered_false {r} e n = sym e ∙ not-true r n

pub answered : {r b : Bool} → r ≡ b → r ≡ true → T b
answered e t = true→t _ (sym e ∙ t)

-- The first branch is taken, or passed by.
pub taken : {A : Type 0} {r b : Bool} (x y : A) {z : A} → r ≡ b → r ≡ true → z ≡ x → z ≡ cond b x y
taken x y e t h = h ∙ ap (λ c. cond c x y) (sym t ∙ e)

pub passed : {A : Type 0} {r b : Bool} (x y : A) {z : A} → r ≡ b → r ≡ false → z ≡ y → z ≡ cond b x y
passed x y e t h = h ∙ ap (λ c. cond c x y) (sym t ∙ e)
