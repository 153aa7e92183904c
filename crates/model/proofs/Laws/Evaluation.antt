-- Evaluation: what evaluation does, construct by construct, in the sentences of 01, Evaluation. `eval r p c n` is the run of the rule r of the name p in
-- the context c, from n steps; `run` is that of the root. Each case of each construct has its law. That the first step begins the root is Trace's `root-first`.
use Rattle.std.specs.Prelude.{◌≡◌, refl, ◌⊎◌, ℕ, zero, suc}
use Rattle.std.proofs.Common.{sym, ap, ◌∙◌, inl, inr, ⊎_elim, arith}
use mathlib.Core.List.Memᴰ
use mathlib.Core.List.{List, [], ◌∷◌, ◌++◌, append-nil, append_assoc, cons-ne-nil, reverse, reverse-reverse, Memᴰ}
use Rattle.std.specs.Prelude.{None, Some}
use Rattle.model.specs.Eval.{branch, context, fold, body, body_all, body_and, eval, run}
use Rattle.model.proofs.Laws.Induction.{holds_of_eval}
use Rattle.model.proofs.Laws.Limit.{log_nil}
use Rattle.model.proofs.Laws.Trace.{all_closed}
use Rattle.model.proofs.Laws.Unbegun.{Unbegun}
use Rattle.model.specs.Operations.{operate}
use Rattle.model.specs.Path.{Path, value_at}
use Rattle.model.specs.declared.refusal.Fault.TheVariants.{WrongKind}
use Rattle.model.specs.declared.refusal.EvalFault.{EvalFault}
use Rattle.model.specs.declared.refusal.EvalFault.TheVariants.{Operation as fault, OutOfSteps}
use Rattle.model.specs.Rule.{Literal, Rule, literal, var, if, and, reduce, apply, Operation, Rules, no_rules, rule, literal_value}
use Rattle.model.specs.Run.{Place, Name, Ended, got, failed, Run, trace, log, lift, continue, ◌>>=◌}
use Rattle.model.specs.Truth.{Truth, truthy, falsy, neither, truth}
use Rattle.model.specs.Value.{Value, Values, no_items, item, as_array}

log_log : {A : Type 0} (t u : List Name) (r : Ended A) → log t (log u r) ≡ log (t ++ u) r
log_log t u (got a n s) = ap (got a n) (sym (append_assoc t u s))
log_log t u (failed e s) = ap (failed e) (sym (append_assoc t u s))

-- ---- steps
-- Refusal 10: "one step more than the limit would be needed"
pub no_step_left : (r : Rule) (p : Name) (c : Value) → eval r p c 0 ≡ failed OutOfSteps []
no_step_left r p c = refl

-- "Beginning to evaluate a rule, literals included, is one step."
pub literal_one_step : (l : Literal) (p : Name) (c : Value) (n : ℕ) → eval (literal l) p c (suc n) ≡ got (literal_value l) n (p ∷ [])
unfolding body
literal_one_step l p c n = refl

pub var_one_step : (q : Path) (p : Name) (c : Value) (n : ℕ) → eval (var q) p c (suc n) ≡ got (value_at q c) n (p ∷ [])
unfolding body
var_one_step q p c n = refl

-- ---- `if`
module _ (guard second third : Rule) (p : Name) (c : Value) (n : ℕ) where
  -- "a truthy guard evaluates the second operand only;
  pub if_truthy : {v : Value} {k : ℕ} {t : List Name} → eval guard (0 ∷ p) c n ≡ got v k t → truth v ≡ truthy → eval (if guard second third) p c (suc n) ≡ log (p ∷ t) (eval second (1 ∷ p) c k)
  unfolding body
  if_truthy {k} {t} e h = rw (e, h) (log_log (p ∷ []) t (eval second (1 ∷ p) c k))

  -- otherwise the third only."
  pub if_otherwise : {v : Value} {k : ℕ} {t : List Name} → eval guard (0 ∷ p) c n ≡ got v k t → ¬ (truth v ≡ truthy) → eval (if guard second third) p c (suc n) ≡ log (p ∷ t) (eval third (2 ∷ p) c k)
  unfolding body
  if_otherwise {v} {k} {t} e h = rw e (go (truth v) h)
    where
      go : (w : Truth) → ¬ (w ≡ truthy) → log (p ∷ []) (log t (branch w (eval second (1 ∷ p) c) (eval third (2 ∷ p) c) k)) ≡ log (p ∷ t) (eval third (2 ∷ p) c k)
      go truthy no-truthy = absurd (no-truthy refl)
      go falsy no-truthy = log_log (p ∷ []) t (eval third (2 ∷ p) c k)
      go neither no-truthy = log_log (p ∷ []) t (eval third (2 ∷ p) c k)

  pub if_refused : {e : EvalFault} {t : List Name} → eval guard (0 ∷ p) c n ≡ failed e t → eval (if guard second third) p c (suc n) ≡ failed e (p ∷ t)
  unfolding body
  if_refused h = rw h

-- So no run begins rules of both branches. First, runs that do not begin the rule of the name x:
module _ (x : Name) where
  unbegun_log : {A : Type 0} (t : List Name) (r : Ended A) → (Memᴰ x t → ⊥) → Unbegun x r → Unbegun x (log t r)
  unbegun_log t (got a n u) h k m = ⊎_elim h k (Memᴰ.append_cases t m)
  unbegun_log t (failed e u) h k m = ⊎_elim h k (Memᴰ.append_cases t m)

-- The places in one operand are not those in another, and not the root,
apart : (j k : ℕ) (q q' : Place) → ¬ (j ≡ k) → ¬ (reverse (j ∷ q) ≡ reverse (k ∷ q'))
apart j k q q' h e = h (cc (ap reverse e, reverse-reverse (j ∷ q), reverse-reverse (k ∷ q')))

not_root : (j : ℕ) (q : Place) → ¬ (reverse (j ∷ q) ≡ [])
not_root j q e = cons-ne-nil j q (sym (reverse-reverse (j ∷ q)) ∙ ap reverse e)

-- so an operand's run begins no rule in another operand.
other_operand : (r : Rule) (j k : ℕ) (q : Place) (c : Value) (n : ℕ) → ¬ (j ≡ k) → Unbegun (reverse (j ∷ q)) (eval r (k ∷ []) c n)
other_operand r j k q c n h m = holds_of_eval (all_closed (λ y. ¬ (reverse (j ∷ q) ≡ y))) r (k ∷ []) c (λ q' s e. apart j k q q' h) n (reverse (j ∷ q)) m refl

-- Nor do the root's step and the guard's, with such a run after them.
root_and_guard : (j : ℕ) (q : Place) (t : List Name) (r : Ended Value) → (Memᴰ (reverse (j ∷ q)) t → ⊥) → Unbegun (reverse (j ∷ q)) r → Unbegun (reverse (j ∷ q)) (log ([] ∷ []) (log t r))
root_and_guard j q t r h k = unbegun_log _ ([] ∷ []) (log t r) (λ m. not_root j q (Memᴰ.eq_of_singleton m)) (unbegun_log _ t r h k)

pub if_one_branch :
    (guard second third : Rule) (c : Value) (n : ℕ) (q q' : Place)
    → Memᴰ (reverse (1 ∷ q)) (trace (run (if guard second third) c n))
    → Memᴰ (reverse (2 ∷ q')) (trace (run (if guard second third) c n))
    → ⊥
unfolding body
if_one_branch guard second third c zero q q' = λ x y. Memᴰ.not-nil x
if_one_branch guard second third c (suc n) q q' = go (eval guard (0 ∷ []) c n) (other_operand guard 1 0 q c n (omega arith)) (other_operand guard 2 0 q' c n (omega arith))
  where
    taken : Truth → Run Value
    taken w = branch w (eval second (1 ∷ []) c) (eval third (2 ∷ []) c)

    one : (w : Truth) (k : ℕ) → Unbegun (reverse (1 ∷ q)) (taken w k) ⊎ Unbegun (reverse (2 ∷ q')) (taken w k)
    one truthy k = inr (other_operand second 2 1 q' c k (omega arith))
    one falsy k = inl (other_operand third 1 2 q c k (omega arith))
    one neither k = inl (other_operand third 1 2 q c k (omega arith))

    whole : Ended Value → List Name
    whole r = trace (log ([] ∷ []) (continue r (λ v. taken (truth v))))

    go : (r : Ended Value) → Unbegun (reverse (1 ∷ q)) r → Unbegun (reverse (2 ∷ q')) r → Memᴰ (reverse (1 ∷ q)) (whole r) → Memᴰ (reverse (2 ∷ q')) (whole r) → ⊥
    go (failed e t) a b x y = root_and_guard 1 q [] (failed e t) Memᴰ.not-nil a x
    go (got v k t) a b x y = ⊎_elim (λ h. root_and_guard 1 q t (taken (truth v) k) a h x) (λ h. root_and_guard 2 q' t (taken (truth v) k) b h y) (one (truth v) k)

-- ---- `and`
-- From its operand r at position k on, with the operands rs after that; the whole is this from position 0.
abbrev pub and_from : Rule → Rules → ℕ → Name → Value → Run Value
and_from r rs k p c = eval r (k ∷ p) c >>= body_and rs (suc k) p c

pub and_from_first : (r : Rule) (rs : Rules) (p : Name) (c : Value) (n : ℕ) → eval (and r rs) p c (suc n) ≡ log (p ∷ []) (and_from r rs 0 p c n)
unfolding body
and_from_first r rs p c n = refl

met_falsy : (rs : Rules) (k : ℕ) (p : Name) (c v : Value) (n : ℕ) → truth v ≡ falsy → body_and rs k p c v n ≡ got v n []
unfolding body_and
met_falsy no_rules k p c v n h = rw h
met_falsy (rule r rs) k p c v n h = rw h

met_neither : (rs : Rules) (k : ℕ) (p : Name) (c v : Value) (n : ℕ) → truth v ≡ neither → body_and rs k p c v n ≡ failed (fault WrongKind) []
unfolding body_and
met_neither no_rules k p c v n h = rw h
met_neither (rule r rs) k p c v n h = rw h

module _ (r : Rule) (k : ℕ) (p : Name) (c : Value) (n : ℕ) where
  -- "operands one by one;
  pub and_truthy : (s : Rule) (rs : Rules) {v : Value} {j : ℕ} {t : List Name} → eval r (k ∷ p) c n ≡ got v j t → truth v ≡ truthy → and_from r (rule s rs) k p c n ≡ log t (and_from s rs (suc k) p c j)
  unfolding body_and
  and_truthy s rs e h = rw (e, h)

  -- the first falsy value,
  pub and_falsy : (rs : Rules) {v : Value} {j : ℕ} {t : List Name} → eval r (k ∷ p) c n ≡ got v j t → truth v ≡ falsy → and_from r rs k p c n ≡ got v j t
  and_falsy rs {v} {j} {t} e h = rw (e, met_falsy rs (suc k) p c v j h) (ap (got v j) (append-nil t))

  -- or the last value.
  pub and_last : {v : Value} {j : ℕ} {t : List Name} → eval r (k ∷ p) c n ≡ got v j t → truth v ≡ truthy → and_from r no_rules k p c n ≡ got v j t
  unfolding body_and
  and_last {v} {j} {t} e h = rw (e, h) (ap (got v j) (append-nil t))

  -- An instant is 7 when met."
  pub and_neither : (rs : Rules) {v : Value} {j : ℕ} {t : List Name} → eval r (k ∷ p) c n ≡ got v j t → truth v ≡ neither → and_from r rs k p c n ≡ failed (fault WrongKind) t
  and_neither rs {v} {j} {t} e h = rw (e, met_neither rs (suc k) p c v j h) (ap (failed (fault WrongKind)) (append-nil t))

  pub and_refused : (rs : Rules) {e : EvalFault} {t : List Name} → eval r (k ∷ p) c n ≡ failed e t → and_from r rs k p c n ≡ failed e t
  and_refused rs h = rw h

-- ---- `reduce`
-- The lambda for each of these items, from this value of the accumulator.
abbrev pub folding : Rule → Name → Values → Value → Run Value
folding lambda p = fold (λ cur acc. eval lambda (1 ∷ p) (context cur acc))

module _ (r lambda initial : Rule) (p : Name) (c : Value) (n : ℕ) where
  -- "operand, then initial;
  pub reduce_refused : {e : EvalFault} {t : List Name} → eval r (0 ∷ p) c n ≡ failed e t → eval (reduce r lambda initial) p c (suc n) ≡ failed e (p ∷ t)
  unfolding body
  reduce_refused h = rw h

  module _ {v : Value} {k : ℕ} {t : List Name} (operand : eval r (0 ∷ p) c n ≡ got v k t) where
    pub reduce_initial_refused : {e : EvalFault} {u : List Name} → eval initial (2 ∷ p) c k ≡ failed e u → eval (reduce r lambda initial) p c (suc n) ≡ failed e (p ∷ t ++ u)
    unfolding body
    reduce_initial_refused h = rw (operand, h)

    module _ {i : Value} {m : ℕ} {u : List Name} (initially : eval initial (2 ∷ p) c k ≡ got i m u) where
      -- operand not an array is 7;
      pub reduce_no_array : as_array v ≡ None → eval (reduce r lambda initial) p c (suc n) ≡ failed (fault WrongKind) (p ∷ t ++ u)
      unfolding body
      reduce_no_array h = rw (operand, initially, h, append-nil)

      -- then the lambda for each item, in order,
      pub reduce_array : {vs : Values} → as_array v ≡ Some vs → eval (reduce r lambda initial) p c (suc n) ≡ log (p ∷ t ++ u) (folding lambda p vs i m)
      unfolding body
      reduce_array {vs} h = rw (operand, initially, h) (simp (log_nil, log_log))

-- over an object with `current` and `accumulator`": the item, and what the lambda gave for the item before.
module _ (lambda : Rule) (p : Name) (acc : Value) (n : ℕ) where
  pub reduce_no_item : folding lambda p no_items acc n ≡ got acc n []
  reduce_no_item = refl

  pub reduce_item : (v : Value) (vs : Values) {a : Value} {k : ℕ} {t : List Name} → eval lambda (1 ∷ p) (context v acc) n ≡ got a k t → folding lambda p (item v vs) acc n ≡ log t (folding lambda p vs a k)
  reduce_item v vs h = rw h

  pub reduce_item_refused : (v : Value) (vs : Values) {e : EvalFault} {t : List Name} → eval lambda (1 ∷ p) (context v acc) n ≡ failed e t → folding lambda p (item v vs) acc n ≡ failed e t
  reduce_item_refused v vs h = rw h

-- ---- the other operations: "Operands go left to right, and all are evaluated before kinds are tested"
pub no_operand : (k : ℕ) (p : Name) (c : Value) (n : ℕ) → body_all no_rules k p c n ≡ got no_items n []
unfolding body_all
no_operand k p c n = refl

-- The operand r at position k, and the operands rs after it.
module _ (r : Rule) (rs : Rules) (k : ℕ) (p : Name) (c : Value) (n : ℕ) where
  -- An operand's refusal ends them all;
  pub operand_refused : {e : EvalFault} {t : List Name} → eval r (k ∷ p) c n ≡ failed e t → body_all (rule r rs) k p c n ≡ failed e t
  unfolding body_all
  operand_refused h = rw h

  -- after a value, whatever it is, the others are evaluated;
  module _ {v : Value} {j : ℕ} {t : List Name} (operand : eval r (k ∷ p) c n ≡ got v j t) where
    pub operands_refused : {e : EvalFault} {u : List Name} → body_all rs (suc k) p c j ≡ failed e u → body_all (rule r rs) k p c n ≡ failed e (t ++ u)
    unfolding body_all
    operands_refused h = rw (operand, h)

    pub operands_give : {vs : Values} {m : ℕ} {u : List Name} → body_all rs (suc k) p c j ≡ got vs m u → body_all (rule r rs) k p c n ≡ got (item v vs) m (t ++ u)
    unfolding body_all
    operands_give h = rw (operand, h, append-nil)

-- and the operation is that of all the values.
module _ (o : Operation) (rs : Rules) (p : Name) (c : Value) (n : ℕ) where
  pub apply_refused : {e : EvalFault} {t : List Name} → body_all rs 0 p c n ≡ failed e t → eval (apply o rs) p c (suc n) ≡ failed e (p ∷ t)
  unfolding body
  apply_refused h = rw h

  pub apply_operates : {vs : Values} {k : ℕ} {t : List Name} → body_all rs 0 p c n ≡ got vs k t → eval (apply o rs) p c (suc n) ≡ log (p ∷ t) (lift (operate o vs) k)
  unfolding body
  apply_operates {vs} {k} {t} h = rw h (log_log (p ∷ []) t (lift (operate o vs) k))
