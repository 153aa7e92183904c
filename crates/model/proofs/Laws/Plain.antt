-- Plain: evaluation without names has the same outcome and takes the same steps as the evaluation that names them.
use Rattle.std.specs.Prelude.{◌≡◌, refl, List, [], ◌∷◌, ℕ, zero, suc, ◌+◌, length}
use Rattle.std.proofs.Common.{ap, add-zero, arith, length-append}
use Rattle.model.specs.Eval.{run, value, refusal, outcome}
use Rattle.model.specs.EvalPlain as Plain
use Rattle.model.specs.EvalPlain.{Plain, gives, denies, PlainRun, step, eval_plain, plain_outcome, left}
use Rattle.model.specs.Rule.{Rule}
use Rattle.model.specs.Run.{Name, Ended, got, failed, Run, steps, log, begin, continue}
use Rattle.model.specs.Value.{Value}
use Rattle.model.proofs.Laws.Induction.{Closed, holds_of_eval}

-- From n steps left, the two end alike, and the steps taken and left are n.
abbrev Agree : {A : Type 0} → ℕ → Ended A → Plain A → Type 0
Agree n (got a k t) (gives b j) = (a ≡ b) × (k ≡ j) × (j + length t ≡ n)
Agree n (got a k t) (denies e j) = ⊥
Agree n (failed e t) (gives b j) = ⊥
Agree n (failed e t) (denies f j) = (e ≡ f) × (j + length t ≡ n)

-- The steps of t leave k of n.
agree_log : {A : Type 0} (n k : ℕ) (t : List Name) (r : Ended A) (s : Plain A) → k + length t ≡ n → Agree k r s → Agree n (log t r) s
agree_log n k t (got a i u) (gives b j) e h = (h.0, h.1, omega (arith, length-append t u))
agree_log n k t (got a i u) (denies f j) e h = h
agree_log n k t (failed f u) (gives b j) e h = h
agree_log n k t (failed f u) (denies g j) e h = (h.0, omega (arith, length-append t u))

agree_begin : {A : Type 0} (p : Name) (m : Run A) (l : PlainRun A) → ((n : ℕ) → Agree n (m n) (l n)) → (n : ℕ) → Agree n (begin p m n) (step l n)
agree_begin p m l h zero = (refl, refl)
agree_begin p m l h (suc n) = agree_log (suc n) n (p ∷ []) (m n) (l n) (omega arith) (h n)

agree_continue : {A B : Type 0} (n : ℕ) (r : Ended A) (s : Plain A) (f : A → Run B) (g : A → PlainRun B) → Agree n r s → ((a : A) (k : ℕ) → Agree k (f a k) (g a k)) → Agree n (continue r f) (Plain.continue s g)
agree_continue n (got a k t) (gives b j) f g h e = agree_log n j t (f a k) (g b j) h.2 (rw (h.0, h.1) (e b j))
agree_continue n (got a k t) (denies x j) f g h e = absurd h
agree_continue n (failed x t) (gives b j) f g h e = absurd h
agree_continue n (failed x t) (denies y j) f g h e = h

agree_closed : Closed (λ A m l. (n : ℕ) → Agree n (m n) (l n)) (λ p. Unit {0})
agree_closed = record {
  returns = λ a n. (refl, refl, add-zero n);
  refuses = λ e n. (refl, add-zero n);
  begins = λ p {m} {l} u h. agree_begin p m l h;
  chains = λ {A} {B} {m} {l} {f} {g} h k n. agree_continue n (m n) (l n) f g (h n) k;
}

agree_ends : (n : ℕ) (r : Ended Value) (s : Plain Value) → Agree n r s → (outcome r ≡ plain_outcome s) × (left s + steps r ≡ n)
agree_ends n (got a k t) (gives b j) h = (ap value h.0, h.2)
agree_ends n (got a k t) (denies e j) h = absurd h
agree_ends n (failed e t) (gives b j) h = absurd h
agree_ends n (failed e t) (denies f j) h = (ap refusal h.0, h.1)

-- Equal value or refusal, and the steps taken and left are the limit.
pub plain_agrees : (r : Rule) (c : Value) (n : ℕ) → (outcome (run r c n) ≡ plain_outcome (eval_plain r c n)) × (left (eval_plain r c n) + steps (run r c n) ≡ n)
plain_agrees r c n = agree_ends n (run r c n) (eval_plain r c n) (holds_of_eval agree_closed r [] c (λ q s e. tt) n)
