-- Paths: two paths are the same when their texts are; which texts a sheet's names may be.
use mathlib.Core.Path.{◌≡◌, refl, sym, ap, ap₂, ◌∙◌, subst}
use mathlib.Core.Bool.{Bool, true, false, cond}
use mathlib.Core.List.{[], ◌∷◌, ◌++◌}
use Rattle.std.specs.Prelude.{Some}
use Prim.Native.Nat.{ℕ, ◌≤◌}
use native.Mathlib.Omega.{arith}
use borrow.Author.Tests.{eqb-true}
use lib.Dec.{T, eqb}
use lib.ListN.{length}
use Rattle.model.specs.Bytes.{Bytes, byte, same_bytes, cons_head, split_on}
use Rattle.model.specs.Lists.{all}
use Rattle.model.specs.Option.{◌>>=◌, is_some, when}
use Rattle.model.specs.Path.{Path, path_of, same_path}
use Rattle.model.specs.Sheet.{non_empty, entry_path}
use Rattle.model.proofs.Laws.Logic.{and_l, and_r, and_i, T→true, bytes→≡, bytes_refl, clash}
use Rattle.model.proofs.Laws.Option.{when_some}

-- ---- the text of a path
-- What path_of asks of each fragment.
abbrev is_full : Bytes → Bool
is_full [] = false
is_full (x ∷ s) = true

abbrev fragments : Bytes → Path
fragments = split_on (eqb (byte "."))

-- Each fragment after a dot.
abbrev dotted : Path → Bytes
dotted [] = []
dotted (f ∷ q) = byte "." ∷ (f ++ dotted q)

abbrev undotted : Bytes → Bytes
undotted [] = []
undotted (x ∷ s) = s

dotted_cons : (x : ℕ) (s : Bytes) (q : Path) → dotted q ≡ byte "." ∷ s → dotted (cons_head x q) ≡ byte "." ∷ x ∷ s
dotted_cons x s [] e = clash cc
dotted_cons x s (f ∷ q) e = ap (λ (t : Bytes). byte "." ∷ x ∷ undotted t) e

dotted_fragments : (s : Bytes) → dotted (fragments s) ≡ byte "." ∷ s
dotted_fragments [] = refl
dotted_fragments (x ∷ s) = go (eqb (byte ".") x) refl (dotted_fragments s)
  where
    go : (b : Bool) → eqb (byte ".") x ≡ b → dotted (fragments s) ≡ byte "." ∷ s → dotted (cond b ([] ∷ fragments s) (cons_head x (fragments s))) ≡ byte "." ∷ x ∷ s
    go true d e = ap₂ (λ (y : ℕ) (t : Bytes). byte "." ∷ t) (eqb-true (byte ".") x d) (e ∙ ap (λ (y : ℕ). y ∷ s) (eqb-true (byte ".") x d))
    go false d e = dotted_cons x s (fragments s) e

text_of_lem : (s : Bytes) (q : Path) → path_of s ≡ Some q → s ≡ undotted (dotted q)
text_of_lem [] q e = let f : [] ≡ q = cc in ap (λ (r : Path). undotted (dotted r)) f
text_of_lem (x ∷ s) q e =
    let (n, f) = when_some (all is_full (fragments (x ∷ s))) (Some (fragments (x ∷ s))) e in
    let g : fragments (x ∷ s) ≡ q = cc in
    sym (ap undotted (dotted_fragments (x ∷ s))) ∙ ap (λ (r : Path). undotted (dotted r)) g

-- ---- the same path
same_path_lem : (q r : Path) → T (same_path q r) → q ≡ r
same_path_lem [] [] h = refl
same_path_lem [] (g ∷ r) h = absurd h
same_path_lem (f ∷ q) [] h = absurd h
same_path_lem (f ∷ q) (g ∷ r) h = ap₂ ◌∷◌ (bytes→≡ f g (and_l (same_bytes f g) _ h)) (same_path_lem q r (and_r (same_bytes f g) _ h))

same_path_refl : (q : Path) → T (same_path q q)
same_path_refl [] = tt
same_path_refl (f ∷ q) = and_i (same_bytes f f) _ (bytes_refl f) (same_path_refl q)

equal_tests : (a b : Bool) → (T a → T b) → (T b → T a) → a ≡ b
equal_tests true b f g = sym (T→true b (f tt))
equal_tests false true f g = absurd (g tt)
equal_tests false false f g = refl

pub same_texts : (s t : Bytes) (q r : Path) → path_of s ≡ Some q → path_of t ≡ Some r → same_path q r ≡ same_bytes s t
same_texts s t q r e f = equal_tests (same_path q r) (same_bytes s t) to from
  where
    to : T (same_path q r) → T (same_bytes s t)
    to h =
        let g : s ≡ t = text_of_lem s q e ∙ ap (λ (x : Path). undotted (dotted x)) (same_path_lem q r h) ∙ sym (text_of_lem t r f) in
        subst (λ (x : Bytes). T (same_bytes s x)) g (bytes_refl s)

    from : T (same_bytes s t) → T (same_path q r)
    from h =
        let d = bytes→≡ s t h in
        let g : Some q ≡ Some r = sym e ∙ ap path_of d ∙ f in
        let i : q ≡ r = cc in
        subst (λ (x : Path). T (same_path q x)) i (same_path_refl q)

-- ---- "a non-empty `var` path"
pub no_name : (s : Bytes) → length s ≡ 0 → is_some (entry_path s) ≡ false
no_name [] e = refl
no_name (x ∷ s) e = absurd (omega arith)

pub a_name : (s : Bytes) → 1 ≤ length s → is_some (entry_path s) ≡ is_some (path_of s)
a_name [] h = absurd (omega arith)
a_name (x ∷ s) h = go (fragments (x ∷ s)) (dotted_fragments (x ∷ s)) (all is_full (fragments (x ∷ s)))
  where
    go : (q : Path) → dotted q ≡ byte "." ∷ x ∷ s → (b : Bool) → is_some (when b (Some q) >>= non_empty) ≡ is_some (when b (Some q))
    go [] e b = clash cc
    go (f ∷ q) e true = refl
    go (f ∷ q) e false = refl
