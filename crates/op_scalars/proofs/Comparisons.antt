-- Comparisons: numbers in handles are ordered as the integers or the instants are, whatever the domain and the comparison.
use mathlib.Core.Path.{◌≡◌, refl, sym, ap, ap₂, subst, ◌∙◌}
use mathlib.Core.Bool.{Bool, true, ◌&&◌, and-true}
use mathlib.Core.List.{List, [], ◌∷◌}
use Rattle.std.specs.Prelude.{Option, None, Result as Answer, Ok, Err}
use Prim.Native.Nat.{ℕ}
use lib.IntN.{ℤ}
use Rattle.model.proofs.Laws.Logic.{clash}
use Rattle.model.specs.Operations.{bool, as_number, compares, chain}
use Rattle.model.specs.declared.refusal.Fault.{Fault}
use Rattle.model.specs.declared.refusal.Fault.TheVariants.{WrongKind}
use Rattle.model.specs.Result.{Result, ok, ◌>>=◌, required}
use Rattle.model.specs.Value.{Value, as_integer, as_instant}
use Rattle.model.specs.declared.Comparison.{Comparison}
use Rattle.model.specs.declared.Comparison.TheVariants.{Greater, Less, GreaterOrEqual, LessOrEqual}
use Rattle.model.specs.declared.Domain.{Domain}
use Rattle.model.specs.declared.Domain.TheVariants.{OnIntegers, OnInstants}
use Rattle.heap.specs.declared.handle.Handle.{Handle}
use Rattle.heap.specs.declared.handle.Handle.TheVariants.{Integer, Instant}
use Rattle.heap.specs.Means.{Means, means_integer, means_instant}
use Rattle.heap.specs.Unfold.{Areas}
use Rattle.op_result.specs.Contract.{Answered, Gives, gives_fault}
use Rattle.op_scalars.specs.Contract.{Compared, ComparedThree}
use Rattle.op_scalars.specs.Inner.{boolean_handle, Raised, NumberIs, is_number, is_none, Numbered, ordered}
use Rattle.op_scalars.proofs.Answers.{gives_bool}
use Rattle.op_scalars.proofs.Operands.{NotInteger, NotInstant, no_integer, no_instant}
use Rattle.op_scalars.proofs.Raised.{le_raised, lt_raised, biased_raised, since_raised}

-- ---- the number of a handle
abbrev Counted : Type 0
Counted = Answer ℕ Fault

abbrev counted : ℕ → Counted
counted n = Ok n

abbrev uncounted : Fault → Counted
uncounted f = Err f

abbrev denied : Fault → Answered
denied f = Err f

same_fault : {f g : Fault} → uncounted f ≡ uncounted g → denied f ≡ denied g
same_fault {f} {g} e = let q : f ≡ g = cc in ap denied q

none_is : {d : Domain} {o : Option ℤ} {r : Counted} → o ≡ None → r ≡ Err WrongKind → NumberIs d o r
none_is {d} {r = r} e w = subst (λ (q : Option ℤ). NumberIs d q r) (sym e) (is_none w)

pub integer_number : (n : ℕ) → Numbered OnIntegers (Integer n) (Ok n)
integer_number n = record { is = λ a top v m. go m }
  where
    go : {a : Areas} {top : ℕ} {v : Value} → Means a top v (Integer n) → NumberIs OnIntegers (as_integer v) (Ok n)
    go (means_integer {z = z} w e) = is_number {z = z} {n = n} refl (rw e (biased_raised z w))

pub instant_number_lem : (n : ℕ) → Numbered OnInstants (Instant n) (Ok n)
instant_number_lem n = record { is = λ a top v m. go m }
  where
    go : {a : Areas} {top : ℕ} {v : Value} → Means a top v (Instant n) → NumberIs OnInstants (as_instant v) (Ok n)
    go (means_instant {t = t} w e) = is_number {z = t} {n = n} refl (rw e (since_raised t w))

pub integer_none : {h : Handle} → NotInteger h → Numbered OnIntegers h (Err WrongKind)
integer_none k = record { is = λ a top v m. none_is (no_integer m k) refl }

pub instant_none : {h : Handle} → NotInstant h → Numbered OnInstants h (Err WrongKind)
instant_none k = record { is = λ a top v m. none_is (no_instant m k) refl }

-- ---- the order
pub same_order : (c : Comparison) {k m n : ℕ} {y z : ℤ} → Raised k y m → Raised k z n → compares c y z ≡ ordered c m n
same_order Greater r s = lt_raised s r
same_order Less r s = lt_raised r s
same_order GreaterOrEqual r s = le_raised s r
same_order LessOrEqual r s = le_raised r s

-- ---- all numbers of a comparison, or 7
abbrev collected : List (Option ℤ) → Result (List ℤ)
collected [] = ok []
collected (o ∷ os) = required WrongKind o >>= (λ n. collected os >>= (λ ns. ok (n ∷ ns)))

abbrev chained : Comparison → List (Option ℤ) → Result Value
chained c os = collected os >>= (λ ns. ok (bool (chain (compares c) ns)))

module _ {a : Areas} {top : ℕ} (d : Domain) (c : Comparison) {f : Fault} where
  chained_first : {o : Option ℤ} (os : List (Option ℤ)) → NumberIs d o (Err f) → Gives a top (chained c (o ∷ os)) (Err f)
  chained_first os (is_number e s) = clash cc
  chained_first os (is_none e) = gives_fault (same_fault e)

  chained_second : {o p : Option ℤ} {m : ℕ} (os : List (Option ℤ)) → NumberIs d o (Ok m) → NumberIs d p (Err f) → Gives a top (chained c (o ∷ p ∷ os)) (Err f)
  chained_second os (is_number e s) (is_number g t) = clash cc
  chained_second os (is_number e s) (is_none g) = gives_fault (same_fault g)
  chained_second os (is_none e) q = clash cc

  chained_third : {o p q : Option ℤ} {l m : ℕ} → NumberIs d o (Ok l) → NumberIs d p (Ok m) → NumberIs d q (Err f) → Gives a top (chained c (o ∷ p ∷ q ∷ [])) (Err f)
  chained_third (is_number e s) (is_number g t) (is_number i u) = clash cc
  chained_third (is_number e s) (is_number g t) (is_none i) = gives_fault (same_fault i)
  chained_third (is_number e s) (is_none g) q = clash cc
  chained_third (is_none e) p q = clash cc

-- A number is what its answer says.
same_number : {k m n : ℕ} {z : ℤ} → counted m ≡ counted n → Raised k z n → Raised k z m
same_number {m = m} {n = n} e s = let q : m ≡ n = cc in rw q s

module _ {a : Areas} {top : ℕ} (d : Domain) (c : Comparison) {h : Handle} where
  chained_two : {o p : Option ℤ} {m n : ℕ} {b : Bool} → NumberIs d o (Ok m) → NumberIs d p (Ok n) → h ≡ boolean_handle b → b ≡ ordered c m n → Gives a top (chained c (o ∷ p ∷ [])) (Ok h)
  chained_two (is_number {z = y} e s) (is_number {z = z} f t) w g =
      gives_bool (compares c y z && true) (w ∙ ap boolean_handle (g ∙ sym (and-true (compares c y z) ∙ same_order c (same_number e s) (same_number f t))))
  chained_two (is_number e s) (is_none f) w g = clash cc
  chained_two (is_none e) p w g = clash cc

  chained_three : {o p q : Option ℤ} {l m n : ℕ} {b : Bool} → NumberIs d o (Ok l) → NumberIs d p (Ok m) → NumberIs d q (Ok n) → h ≡ boolean_handle b → b ≡ ordered c l m && ordered c m n
      → Gives a top (chained c (o ∷ p ∷ q ∷ [])) (Ok h)
  chained_three (is_number {z = x} e s) (is_number {z = y} f t) (is_number {z = z} g u) w k =
      gives_bool (compares c x y && (compares c y z && true))
      (w ∙ ap boolean_handle (k ∙ sym (ap₂ ◌&&◌ (same_order c (same_number e s) (same_number f t)) (and-true (compares c y z) ∙ same_order c (same_number f t) (same_number g u)))))
  chained_three (is_number e s) (is_number f t) (is_none g) w k = clash cc
  chained_three (is_number e s) (is_none f) q w k = clash cc
  chained_three (is_none e) p q w k = clash cc

-- ---- two operands
module _ {d : Domain} (c : Comparison) {x y : Handle} where
  pub two_first : {f : Fault} → Numbered d x (Err f) → Compared d c x y (Err f)
  two_first k = record { gives = λ a top v u m n. chained_first d c (as_number d u ∷ []) (k.is a top v m) }

  pub two_second : {m : ℕ} {f : Fault} → Numbered d x (Ok m) → Numbered d y (Err f) → Compared d c x y (Err f)
  two_second k l = record { gives = λ a top v u m n. chained_second d c [] (k.is a top v m) (l.is a top u n) }

  pub two_ordered : {m n : ℕ} {h : Handle} {b : Bool} → Numbered d x (Ok m) → Numbered d y (Ok n) → h ≡ boolean_handle b → b ≡ ordered c m n → Compared d c x y (Ok h)
  two_ordered k l w g = record { gives = λ a top v u m n. chained_two d c (k.is a top v m) (l.is a top u n) w g }

-- ---- three operands
module _ {d : Domain} (c : Comparison) {x y z : Handle} where
  pub three_first : {f : Fault} → Numbered d x (Err f) → ComparedThree d c x y z (Err f)
  three_first g = record { gives = λ a top t u v l m n. chained_first d c (as_number d u ∷ as_number d v ∷ []) (g.is a top t l) }

  pub three_second : {m : ℕ} {f : Fault} → Numbered d x (Ok m) → Numbered d y (Err f) → ComparedThree d c x y z (Err f)
  three_second g h = record { gives = λ a top t u v l m n. chained_second d c (as_number d v ∷ []) (g.is a top t l) (h.is a top u m) }

  pub three_third : {l m : ℕ} {f : Fault} → Numbered d x (Ok l) → Numbered d y (Ok m) → Numbered d z (Err f) → ComparedThree d c x y z (Err f)
  three_third g h k = record { gives = λ a top t u v l m n. chained_third d c (g.is a top t l) (h.is a top u m) (k.is a top v n) }

  pub three_ordered : {l m n : ℕ} {i : Handle} {b : Bool} → Numbered d x (Ok l) → Numbered d y (Ok m) → Numbered d z (Ok n) → i ≡ boolean_handle b → b ≡ ordered c l m && ordered c m n → ComparedThree d c x y z (Ok i)
  three_ordered g h k w b = record { gives = λ a top t u v l m n. chained_three d c (g.is a top t l) (h.is a top u m) (k.is a top v n) w b }
