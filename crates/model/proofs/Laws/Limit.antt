-- Limit: a run is one list of names and one end, cut off where the limit is met; so what the limit does to it (02, P14).
use Rattle.std.specs.Prelude.{◌≡◌, refl, List, [], ◌∷◌, ◌++◌, ℕ, zero, suc, ◌+◌, ◌≤◌, ◌<◌, length}
use Rattle.std.proofs.Common.{sym, subst, ◌∙◌, add-zero, le_of_suc-le-suc, not-suc-le-zero, arith}
use Rattle.std.proofs.Math.Path.{ap, fun_ext}
use Rattle.std.proofs.Math.Decide.{dec_le}
use Rattle.model.specs.Eval.{run, Outcome, value, refusal, outcome}
use Rattle.model.proofs.Laws.Induction.{Closed, holds_of_eval}
use Rattle.model.specs.declared.refusal.Fault.{Fault}
use Rattle.model.specs.declared.refusal.EvalFault.TheVariants.{Operation, OutOfSteps}
use Rattle.model.specs.Rule.{Rule}
use Rattle.model.specs.Run.{Name, Ended, got, failed, Run, steps, log, return, refused, begin, continue, ◌>>=◌}
use Rattle.model.specs.Value.{Value}

-- ---- what a run is
-- The end of a run that no limit stops.
pub data End (A : Type 0) : Type 0 where
  ends : A → End A
  faulty : Fault → End A

-- The run that takes no step and ends so.
abbrev pub finish : {A : Type 0} → End A → Run A
finish (ends a) = return a
finish (faulty e) = refused (Operation e)

-- The run that begins the rules of these names, one after another, and then ends so.
abbrev pub cut : {A : Type 0} → End A → List Name → Run A
cut o [] = finish o
cut o (x ∷ t) = begin x (cut o t)

abbrev pub Cut : {A : Type 0} → Run A → Type 0
Cut {A} m = (o : End A) × (t : List Name) × (m ≡ cut o t)

pub log_nil : {A : Type 0} (r : Ended A) → log [] r ≡ r
log_nil (got a n t) = refl
log_nil (failed e t) = refl

log_cons : {A : Type 0} (x : Name) (t : List Name) (r : Ended A) → log (x ∷ t) r ≡ log (x ∷ []) (log t r)
log_cons x t (got a n u) = refl
log_cons x t (failed e u) = refl

continue_log : {A B : Type 0} (x : Name) (r : Ended A) (f : A → Run B) → continue (log (x ∷ []) r) f ≡ log (x ∷ []) (continue r f)
continue_log x (got a n t) f = log_cons x t (f a n)
continue_log x (failed e t) f = refl

bind_return : {A B : Type 0} (a : A) (f : A → Run B) → (return a >>= f) ≡ f a
bind_return a f = fun_ext (λ n. log_nil (f a n))

bind_begin : {A B : Type 0} (x : Name) (m : Run A) (f : A → Run B) → (begin x m >>= f) ≡ begin x (m >>= f)
bind_begin x m f = fun_ext go
  where
    go : (n : ℕ) → (begin x m >>= f) n ≡ begin x (m >>= f) n
    go zero = refl
    go (suc n) = continue_log x (m n) f

-- The second run follows on the first one's names, where that one gives a value.
bind_ends : {A B : Type 0} (a : A) (t : List Name) (f : A → Run B) (o : End B) (u : List Name) → f a ≡ cut o u → (cut (ends a) t >>= f) ≡ cut o (t ++ u)
bind_ends a [] f o u h = bind_return a f ∙ h
bind_ends a (x ∷ t) f o u h = bind_begin x (cut (ends a) t) f ∙ ap (begin x) (bind_ends a t f o u h)

bind_faulty : {A B : Type 0} (e : Fault) (t : List Name) (f : A → Run B) → (cut (faulty e) t >>= f) ≡ cut (faulty e) t
bind_faulty e [] f = refl
bind_faulty e (x ∷ t) f = bind_begin x (cut (faulty e) t) f ∙ ap (begin x) (bind_faulty e t f)

cut_bind : {A B : Type 0} {m : Run A} {f : A → Run B} → Cut m → ((a : A) → Cut (f a)) → Cut (m >>= f)
cut_bind {A} {m} {f} h k = go h.0 h.2
  where
    go : (o : End A) → m ≡ cut o h.1 → Cut (m >>= f)
    go (ends a) e = ((k a).0, h.1 ++ (k a).1, ap (λ l. l >>= f) e ∙ bind_ends a h.1 f (k a).0 (k a).1 (k a).2)
    go (faulty x) e = (faulty x, h.1, ap (λ l. l >>= f) e ∙ bind_faulty x h.1 f)

cut_closed : Closed (λ A m l. Cut m) (λ p. Unit {0})
cut_closed = record {
  returns = λ a. (ends a, [], refl);
  refuses = λ e. (faulty e, [], refl);
  begins = λ p h k. (k.0, p ∷ k.1, ap (begin p) k.2);
  chains = cut_bind;
}

pub cut_run : (r : Rule) (c : Value) → Cut (run r c)
cut_run r c = holds_of_eval cut_closed r [] c (λ q s e. tt)

-- ---- what the limit does
abbrev pub end_of : End Value → Outcome
end_of (ends v) = value v
end_of (faulty e) = refusal (Operation e)

log_outcome : (x : Name) (r : Ended Value) → outcome (log (x ∷ []) r) ≡ outcome r
log_outcome x (got v n t) = refl
log_outcome x (failed e t) = refl

log_steps : (x : Name) (r : Ended Value) → steps (log (x ∷ []) r) ≡ suc (steps r)
log_steps x (got v n t) = refl
log_steps x (failed e t) = refl

-- Steps enough: the run comes to its end, with a step for each name.
enough : (o : End Value) (t : List Name) (n : ℕ) → length t ≤ n → (outcome (cut o t n) ≡ end_of o) × (steps (cut o t n) ≡ length t)
enough (ends v) [] n h = (refl, refl)
enough (faulty e) [] n h = (refl, refl)
enough o (x ∷ t) zero h = absurd (not-suc-le-zero h)
enough o (x ∷ t) (suc n) h =
    let e = enough o t n (le_of_suc-le-suc h) in
    (log_outcome x (cut o t n) ∙ e.0, log_steps x (cut o t n) ∙ ap suc e.1)

-- Too few: refusal 10, with a step for each that there was.
short : (o : End Value) (t : List Name) (n : ℕ) → n < length t → (outcome (cut o t n) ≡ refusal OutOfSteps) × (steps (cut o t n) ≡ n)
short o [] n h = absurd (not-suc-le-zero h)
short o (x ∷ t) zero h = (refl, refl)
short o (x ∷ t) (suc n) h =
    let e = short o t n (le_of_suc-le-suc h) in
    (log_outcome x (cut o t n) ∙ e.0, log_steps x (cut o t n) ∙ ap suc e.1)

-- The steps taken, and left where there is a value, against the steps there were.
abbrev Counts : ℕ → Ended Value → Type 0
Counts n (got v k t) = k + length t ≡ n
Counts n (failed (Operation e) t) = length t ≤ n
Counts n (failed OutOfSteps t) = length t ≡ n

log_counts : (n : ℕ) (x : Name) (r : Ended Value) → Counts n r → Counts (suc n) (log (x ∷ []) r)
log_counts n x (got v k t) h = omega arith
log_counts n x (failed (Operation e) t) h = omega arith
log_counts n x (failed OutOfSteps t) h = ap suc h

counts : (o : End Value) (t : List Name) (n : ℕ) → Counts n (cut o t n)
counts (ends v) [] n = add-zero n
counts (faulty e) [] n = omega arith
counts o (x ∷ t) zero = refl
counts o (x ∷ t) (suc n) = log_counts n x (cut o t n) (counts o t n)

-- ---- the laws, of the run of a rule on a record
module _ (r : Rule) (c : Value) where
  -- Its end, and the names of its steps, where no limit stops it.
  whole : End Value
  whole = (cut_run r c).0

  names : List Name
  names = (cut_run r c).1

  run_is : (n : ℕ) → run r c n ≡ cut whole names n
  unfolding whole names
  run_is n = ap (λ m. m n) (cut_run r c).2

  run_enough : (n : ℕ) → length names ≤ n → (outcome (run r c n) ≡ end_of whole) × (steps (run r c n) ≡ length names)
  run_enough n h = rw (run_is n) (enough whole names n h)

  run_short : (n : ℕ) → n < length names → (outcome (run r c n) ≡ refusal OutOfSteps) × (steps (run r c n) ≡ n)
  run_short n h = rw (run_is n) (short whole names n h)

  run_counts : (n : ℕ) → Counts n (run r c n)
  run_counts n = rw (run_is n) (counts whole names n)

  -- A run that does not end in 10 had steps enough.
  had_enough : (n : ℕ) → ¬ (outcome (run r c n) ≡ refusal OutOfSteps) → length names ≤ n
  had_enough n no-ten = go (dec_le (length names) n)
    where
      go : Dec (length names ≤ n) → length names ≤ n
      go (yes h) = h
      go (no h) = absurd (no-ten (run_short n (omega arith)).0)

  -- 02, P14: "if a run with a permitted limit ends with s steps in anything but 10, then, all else equal, every permitted limit of s or more gives
  -- the same value or refusal and s,
  pub same_end : (n m : ℕ) → ¬ (outcome (run r c n) ≡ refusal OutOfSteps) → steps (run r c n) ≤ m → (outcome (run r c m) ≡ outcome (run r c n)) × (steps (run r c m) ≡ steps (run r c n))
  same_end n m no-ten h =
      let e = run_enough n (had_enough n no-ten) in
      let f = run_enough m (rw e.1 at h) in
      (f.0 ∙ sym e.0, f.1 ∙ sym e.1)

  -- and every limit below s gives 10."
  pub same_end_below : (n m : ℕ) → ¬ (outcome (run r c n) ≡ refusal OutOfSteps) → m < steps (run r c n) → (outcome (run r c m) ≡ refusal OutOfSteps) × (steps (run r c m) ≡ m)
  same_end_below n m no-ten h = run_short m (rw (run_enough n (had_enough n no-ten)).1 at h)

  -- 01: "Refusal 10 reports the limit"
  pub out_of_steps_reports_limit : (n : ℕ) → outcome (run r c n) ≡ refusal OutOfSteps → steps (run r c n) ≡ n
  out_of_steps_reports_limit n = go (run r c n) (run_counts n)
    where
      go : (e : Ended Value) → Counts n e → outcome e ≡ refusal OutOfSteps → steps e ≡ n
      go (got v k t) h e = cc
      go (failed (Operation f) t) h e = cc
      go (failed OutOfSteps t) h e = h

  pub steps_within_limit : (n : ℕ) → steps (run r c n) ≤ n
  steps_within_limit n = go (run r c n) (run_counts n)
    where
      go : (e : Ended Value) → Counts n e → steps e ≤ n
      go (got v k t) h = omega arith
      go (failed (Operation f) t) h = h
      go (failed OutOfSteps t) h = omega arith

  -- Of a run that gives a value with k steps left.
  pub steps_and_left : (n k : ℕ) (v : Value) (t : List Name) → run r c n ≡ got v k t → k + steps (run r c n) ≡ n
  steps_and_left n k v t e = rw e (subst (Counts n) e (run_counts n))
