-- Keyword: keywords in the code's terms and in the model's, there and back; what holds of every entry of a table.
use Rattle.std.specs.Prelude.{Bool, true, false, List, [], ◌∷◌, ◌≡◌, refl, ℕ, ◌-◌, leb, pos, negsuc}
use Rattle.std.specs.Prelude.{Option, None, Some}
use Rattle.std.proofs.Common.{ap, arith, leb-true, leb-false}
use Rattle.model.specs.Bytes.{Bytes, same_bytes}
use Rattle.model.proofs.Laws.Option.{All, all_cond}
use Rattle.model.specs.Lists.{find}
use Rattle.model.specs.Shape.{Keyword as ModelKeyword, keywords, keyword_named}
use Rattle.syntax.specs.Layout.{biased, unbiased}
use Rattle.keywords.specs.declared.Keyword.{Keyword}
use Rattle.keywords.specs.declared.Keyword.TheVariants as Keywords
use Rattle.keywords.specs.declared.Op.{Op}
use Rattle.keywords.specs.declared.Op.TheVariants as Ops
use Rattle.keywords.specs.Contract.{operation_of, keyword_of, op_for, keyword_for}

-- ---- from the code's terms, and back
biased_unbiased : (n : ℕ) → biased (unbiased n) ≡ n
unfolding biased unbiased
biased_unbiased n = go (leb 9007199254740992 n) refl
  where
    go : (b : Bool) → leb 9007199254740992 n ≡ b → biased (elim b [ true ↦ pos (n - 9007199254740992) | false ↦ negsuc (9007199254740991 - n) ]) ≡ n
    go true e = omega (arith, leb-true 9007199254740992 n e)
    go false e = omega (arith, leb-false 9007199254740992 n e)

op_for_lem : (op : Op) → op_for (operation_of op) ≡ op
op_for_lem Ops.Array = refl
op_for_lem Ops.Equal = refl
op_for_lem Ops.MemberOf = refl
op_for_lem Ops.Plus = refl
op_for_lem Ops.Not = refl
op_for_lem Ops.DateOfBirth = refl
op_for_lem (Ops.Compare d c) = refl
op_for_lem (Ops.PlusTime n u) = ap (λ m. Ops.PlusTime m u) (biased_unbiased n)
op_for_lem (Ops.ExtractFromUvci n) = ap Ops.ExtractFromUvci (biased_unbiased n)

-- A keyword is the only one of its model's: what is promised of `keyword_named` leaves it no choice.
pub keyword_for_lem : (k : Option Keyword) → keyword_for (keyword_of k) ≡ k
keyword_for_lem None = refl
keyword_for_lem (Some Keywords.Var) = refl
keyword_for_lem (Some Keywords.If) = refl
keyword_for_lem (Some Keywords.Reduce) = refl
keyword_for_lem (Some Keywords.And) = refl
keyword_for_lem (Some Keywords.PlusTime) = refl
keyword_for_lem (Some Keywords.ExtractFromUvci) = refl
keyword_for_lem (Some (Keywords.Counted least most op)) = ap (λ o. Some (Keywords.Counted least most o)) (op_for_lem op)

-- ---- from the model's terms, and back
-- Every entry of a table has what is found in it.
abbrev pub Each : {A : Type 0} → (A → Type 0) → List (Bytes × A) → Type 0
Each P [] = Unit {0}
Each P (e ∷ l) = P e.1 × Each P l

pub each_found : {A : Type 0} (P : A → Type 0) (f : Bytes → Bool) (l : List (Bytes × A)) → Each P l → All P (find f l)
each_found P f [] h = tt
each_found P f (e ∷ l) h = all_cond P (f e.0) (Some e.1) (find f l) h.0 (each_found P f l h.1)

abbrev There : ModelKeyword → Type 0
There m = keyword_of (keyword_for (Some m)) ≡ Some m

-- Of every keyword of 01's table.
pub keyword_named_lem : (s : Bytes) → keyword_of (keyword_for (keyword_named s)) ≡ keyword_named s
keyword_named_lem s = go (keyword_named s) (each_found There (same_bytes s) keywords
    (refl, (refl, (refl, (refl, (refl, (refl, (refl, (refl, (refl, (refl, (refl, (refl, (refl, (refl, (refl, (refl, (refl, (refl, (refl, tt))))))))))))))))))))
  where
    go : (o : Option ModelKeyword) → All There o → keyword_of (keyword_for o) ≡ o
    go None h = refl
    go (Some m) h = h
