-- Paths: where the first fragment of a path ends, and the types of a variable.
use mathlib.Core.Bool.{Bool, true, false, cond}
use mathlib.Core.List.{[], ◌∷◌}
use Rattle.std.specs.Prelude.{Some}
use mathlib.Core.Path.{◌≡◌, refl, sym, ap, ◌∙◌}
use Prim.Native.Nat.{ℕ, ◌+◌, ◌-◌, ◌≤◌}
use native.Mathlib.Omega.{arith}
use borrow.Author.Tests.{eq-eqb, ne_eqb}
use lib.Dec.{eqb}
use lib.ListN.{length, take, drop, length-drop}
use Rattle.model.specs.Bytes.{Bytes, ascii, byte, same_bytes, split_on}
use Rattle.model.specs.Eval.{current, accumulator}
use Rattle.model.proofs.Laws.Logic.{clash}
use Rattle.model.proofs.Laws.Option.{when_some}
use Rattle.model.specs.Lists.{all}
use Rattle.model.specs.Path.{Path, path_of}
use Rattle.model.specs.TypeCheck.{Env as ModelEnv, part_types, lambda_types, var_types}
use Rattle.model.specs.Types.{Types}
use Rattle.model.specs.declared.Ty.TheVariants as Ty
use Rattle.octets.specs.Fragment.{fragment_length}
use Rattle.octets.specs.Laws.Fragment.{end_inside, is_dot_lem, others, first_fragment}
use Rattle.sheet.specs.Contract.{ListsFor}
use Rattle.type_set.specs.declared.set.TypeSet.{TypeSet}
use Rattle.type_set.specs.Contract.{set_of}
use Rattle.type_check.specs.declared.env.Env.{Env}
use Rattle.type_check.specs.declared.env.Env.TheVariants.{Outside, Lambda}
use Rattle.type_check.specs.ByRows.{part_by, first_by, lambda_by, var_by}
use Rattle.type_check.specs.Inner.{Stands, stands_outside, stands_in_lambda, VarTypes}

-- ---- the first fragment, and the others
-- Where the first one ends.
abbrev pub size : Bytes → ℕ
size = fragment_length (ascii ".")

abbrev fragments : Bytes → Path
fragments = split_on (eqb (byte "."))

abbrev rest : Bytes → Path
rest = others (eqb (byte "."))

-- ---- a variable in a lambda
-- Of a path that ends with its first fragment after n bytes, or goes on.
part_is : (t : Bytes) (n : ℕ) (ts : Types) → n ≤ length t → part_by (eqb n (length t)) (set_of ts) ≡ set_of (part_types ts (rest (drop n t)))
part_is t n ts l = go (drop n t) (length-drop n t)
  where
    go : (u : Bytes) → length u ≡ length t - n → part_by (eqb n (length t)) (set_of ts) ≡ set_of (part_types ts (rest u))
    go [] e = rw (eq-eqb n (length t) (omega arith))
    go (y ∷ u) e = rw (ne_eqb n (length t) (omega arith), first_fragment (ascii ".") is_dot_lem u)

-- What the code asks of a path.
pub no_fragment : (p : Bytes) (cur acc : TypeSet) {r : TypeSet} → length p ≡ 0 → r ≡ set_of (Ty.Object ∷ []) → r ≡ lambda_by p cur acc
no_fragment p cur acc e f = rw (eq-eqb (length p) 0 e) f

pub a_fragment : (p : Bytes) (cur acc : TypeSet) {r : TypeSet} {end : ℕ} → (length p ≡ 0 → ⊥) → end ≡ 0 + size (drop 0 p) → r ≡ first_by (take end p) (eqb end (length p)) cur acc → r ≡ lambda_by p cur acc
a_fragment p cur acc {end = end} e f g =
    let n : end ≡ size p = omega (arith, f) in
    rw (ne_eqb (length p) 0 e, ← n) g

by_name : (b c : Bool) {x y z : TypeSet} (ts us vs : Types) → x ≡ set_of ts → y ≡ set_of us → z ≡ set_of vs → cond b x (cond c y z) ≡ set_of (cond b ts (cond c us vs))
by_name true c ts us vs e f g = e
by_name false true ts us vs e f g = f
by_name false false ts us vs e f g = g

-- What path_of asks of each fragment.
abbrev non_empty : Bytes → Bool
non_empty [] = false
non_empty (x ∷ s) = true

path_is : (x : ℕ) (s : Bytes) (q : Path) → path_of (x ∷ s) ≡ Some q → q ≡ fragments (x ∷ s)
path_is x s q e =
    let (n, f) = when_some (all non_empty (fragments (x ∷ s))) (Some (fragments (x ∷ s))) e in
    cc

lambda_is : (p : Bytes) (q : Path) (cur acc : Types) → path_of p ≡ Some q → lambda_by p (set_of cur) (set_of acc) ≡ set_of (lambda_types cur acc q)
lambda_is [] q cur acc e =
    let f : q ≡ [] = cc in
    rw f
lambda_is (x ∷ s) q cur acc e =
    rw (path_is x s q e, first_fragment (ascii ".") is_dot_lem (x ∷ s), ne_eqb (length (x ∷ s)) 0 (omega arith))
    (by_name (same_bytes first current) (same_bytes first accumulator) (part_types cur later) (part_types acc later) (Ty.Null ∷ []) (part_is (x ∷ s) n cur within) (part_is (x ∷ s) n acc within) refl)
  where
    n : ℕ
    n = size (x ∷ s)

    first : Bytes
    first = take n (x ∷ s)

    later : Path
    later = rest (drop n (x ∷ s))

    within : n ≤ length (x ∷ s)
    within = omega (arith, end_inside (ascii ".") (x ∷ s) 0 (omega arith))

-- ---- a variable
module _ {S Z p : Bytes} {env : Env} {r : TypeSet} where
  pub var_outside : env ≡ Outside → ListsFor S Z p r → VarTypes S Z p env r
  var_outside e l = record { by_rows = l.by_rows ∙ ap (var_by S Z p) (sym e); is = λ m q s h. go e m q s h }
    where
      go : {env : Env} → env ≡ Outside → (m : ModelEnv) (q : Path) → Stands S Z env m → path_of p ≡ Some q → r ≡ set_of (var_types m q)
      go e m q (stands_outside {s = sheet} k) h = l.is sheet q k h
      go e m q (stands_in_lambda c a) h = clash cc

  pub var_in_lambda : {c a : TypeSet} → env ≡ Lambda c a → r ≡ lambda_by p c a → VarTypes S Z p env r
  var_in_lambda {c} {a} e l = record { by_rows = l ∙ ap (var_by S Z p) (sym e); is = λ m q s h. go e m q s h }
    where
      go : {env : Env} → env ≡ Lambda c a → (m : ModelEnv) (q : Path) → Stands S Z env m → path_of p ≡ Some q → r ≡ set_of (var_types m q)
      go e m q (stands_outside k) h = clash cc
      go e m q (stands_in_lambda {cur = cur} {acc = acc} {c = c₁} {a = a₁} f g) h =
          let x : c ≡ set_of cur = cc in
          let y : a ≡ set_of acc = cc in
          l ∙ (rw (x, y) (lambda_is p q cur acc h))
