-- Fragments: the first fragment of a text and those behind it; of a path's text they are the path.
use Rattle.std.specs.Prelude.{◌≡◌, refl, Bool, true, false, cond, ◌&&◌, List, [], ◌∷◌, ℕ, suc, ◌+◌, ◌≤◌, eqb, length, take, drop}
use Rattle.std.proofs.Common.{ap, ◌∙◌, arith, drop-drop}
use Rattle.std.proofs.lemmas.Bool.{false≢true}
use Rattle.std.specs.Prelude.{Option, None, Some}
use Rattle.model.specs.Bytes.{Bytes, ascii, byte, cons_head, split_on}
use Rattle.model.specs.Lists.{all, any}
use Rattle.model.specs.Option.{◌>>=◌}
use Rattle.model.specs.Path.{Path, lookup, part, path_of, value_at}
use Rattle.model.specs.Value.{Value}
use Rattle.model.proofs.Laws.Logic.{clash}
use Rattle.model.proofs.Laws.Option.{when_some}
use Rattle.octets.specs.Fragment.{fragment_length}
use Rattle.octets.specs.Laws.Fragment.{is_dot_lem, others, first_fragment}
use Rattle.paths.specs.Contract.{fragments}
use Rattle.paths.specs.Inner.{or_null}

-- How many bytes stand before a dot, or in all.
abbrev pub size : Bytes → ℕ
size = fragment_length (ascii ".")

abbrev is_dot : ℕ → Bool
is_dot = eqb (byte ".")

-- ---- any text
-- The first fragment, and those behind it.
abbrev on : Bytes → List Bytes
on t = take (size t) t ∷ fragments (drop (size t + 1) t)

longer : (x : ℕ) (s : Bytes) → (1 ≤ length s → fragments s ≡ on s) → cons_head x (fragments s) ≡ cons_head x (on s)
unfolding fragment_length
longer x [] e = refl
longer x (y ∷ s) e = ap (cons_head x) (e (omega arith))

pub fragments_on : (t : Bytes) → 1 ≤ length t → fragments t ≡ on t
unfolding fragment_length
fragments_on [] l = absurd (omega arith)
fragments_on (x ∷ s) l = go (any (eqb x) (ascii ".")) (is_dot x) (is_dot_lem x) (longer x s (λ k. fragments_on s k))
  where
    n : ℕ
    n = size s

    go : (b c : Bool) → b ≡ c → cons_head x (fragments s) ≡ cons_head x (on s)
        → cond c ([] ∷ fragments s) (cons_head x (fragments s)) ≡ take (cond b 0 (suc n)) (x ∷ s) ∷ fragments (drop (cond b 0 (suc n) + 1) (x ∷ s))
    go true c f e = rw (← f)
    go false c f e = let m : suc n + 1 ≡ suc (n + 1) = omega arith in rw (← f, m) e

-- ---- a path's text
-- What path_of asks of each fragment.
abbrev non_empty : Bytes → Bool
non_empty [] = false
non_empty (x ∷ s) = true

pub record First (t : Bytes) (q : Path) : Type 0 where
  pub rest : Path
  pub is : q ≡ take (size t) t ∷ rest
  pub behind : path_of (drop (size t + 1) t) ≡ Some rest

and_true : (a b : Bool) → a && b ≡ true → b ≡ true
and_true true b e = e
and_true false b e = clash cc

-- Behind the first fragment: nothing, or a dot and the other fragments.
path_behind : (u : Bytes) → all non_empty (others is_dot u) ≡ true → path_of (drop 1 u) ≡ Some (others is_dot u)
path_behind [] e = refl
path_behind (x ∷ []) e = absurd (false≢true e)
path_behind (x ∷ y ∷ u) e = rw e

pub first : (t : Bytes) (q : Path) → 1 ≤ length t → path_of t ≡ Some q → First t q
first [] q l e = absurd (omega arith)
first (x ∷ s) q l e =
    let t = x ∷ s in
    let (n, f) = when_some (all non_empty (split_on is_dot t)) (Some (split_on is_dot t)) e in
    let g : q ≡ split_on is_dot t = cc in
    let is = first_fragment (ascii ".") is_dot_lem t in
    record {
      rest = others is_dot (drop (size t) t);
      is = g ∙ is;
      behind = rw (← drop-drop 1 (size t) t) (path_behind (drop (size t) t) (and_true (non_empty (take (size t) t)) _ (rw is at n)));
    }

pub path_fragments : (q : Path) (t : Bytes) → path_of t ≡ Some q → fragments t ≡ q
path_fragments [] [] e = refl
path_fragments (f ∷ q) [] e = clash cc
path_fragments [] (x ∷ s) e = let y = first (x ∷ s) [] (omega arith) e in let z = y.is in clash cc
path_fragments (f ∷ q) (x ∷ s) e =
    let y = first (x ∷ s) (f ∷ q) (omega arith) e in
    let z = y.is in
    let head : take (size (x ∷ s)) (x ∷ s) ≡ f = cc in
    let rest : y.rest ≡ q = cc in
    fragments_on (x ∷ s) (omega arith) ∙ rw (head, path_fragments q (drop (size (x ∷ s) + 1) (x ∷ s)) (rw rest at y.behind))

-- ---- the value at a path, fragment by fragment
pub value_on : (f : Bytes) (q : Path) (v : Value) → value_at (f ∷ q) v ≡ value_at q (or_null (part f v))
value_on f q v = go q (part f v)
  where
    go : (q : Path) (o : Option Value) → or_null (o >>= lookup q) ≡ value_at q (or_null o)
    go q (Some u) = refl
    go [] None = refl
    go (g ∷ q) None = refl
