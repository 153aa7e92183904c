-- Unbegun: a run that never begins the rule at a place goes alike, whatever rule stands there (01, Evaluation).
use Rattle.std.specs.Prelude.{◌≡◌, refl, ℕ, zero, suc, ◌+◌}
use Rattle.std.proofs.Common.{subst, ap, ◌∙◌, arith}
use mathlib.Core.List.Memᴰ
use mathlib.Core.List.{List, [], ◌∷◌, reverse, reverse_aux, Memᴰ}
use Rattle.model.specs.Eval.{branch, go_on, context, fold, body, body_all, body_and, eval, run, outcome}
use Rattle.model.specs.Place.{map_rule, map_operand, replace}
use Rattle.model.specs.declared.refusal.Fault.TheVariants.{WrongKind}
use Rattle.model.specs.Result.{required}
use Rattle.model.specs.Rule.{Rule, literal, var, if, and, reduce, apply, Rules, no_rules, rule}
use Rattle.model.specs.Run.{Place, Name, Ended, got, failed, Run, trace, steps, log, lift, begin, continue, ◌>>=◌}
use Rattle.model.specs.Truth.{Truth, truthy, falsy, neither, truth}
use Rattle.model.specs.Value.{Value, Values, no_items, item, as_array}

-- The rule of this name is not begun: the trace does not have it.
abbrev pub Unbegun : {A : Type 0} → Name → Ended A → Type 0
Unbegun x r = Memᴰ x (trace r) → ⊥

-- Two runs that end alike, unless the first begins the rule of this name.
abbrev Alike : {A : Type 0} → Name → Run A → Run A → Type 0
Alike x m l = (n : ℕ) → Unbegun x (m n) → l n ≡ m n

-- ---- the parts of a run
unbegun_before : {A : Type 0} (x : Name) (t : List Name) (r : Ended A) → Unbegun x (log t r) → Memᴰ x t → ⊥
unbegun_before x t (got a n u) h m = h (Memᴰ.append_left u m)
unbegun_before x t (failed e u) h m = h (Memᴰ.append_left u m)

unbegun_after : {A : Type 0} (x : Name) (t : List Name) (r : Ended A) → Unbegun x (log t r) → Unbegun x r
unbegun_after x t (got a n u) h m = h (Memᴰ.append_right t m)
unbegun_after x t (failed e u) h m = h (Memᴰ.append_right t m)

unbegun_first : {A B : Type 0} (x : Name) (r : Ended A) (f : A → Run B) → Unbegun x (continue r f) → Unbegun x r
unbegun_first x (got a n t) f h = unbegun_before x t (f a n) h
unbegun_first x (failed e t) f h = h

begun_here : {A : Type 0} (p : Name) (r : Ended A) → Memᴰ p (trace (log (p ∷ []) r))
begun_here p (got a n t) = Memᴰ.head refl
begun_here p (failed e t) = Memᴰ.head refl

-- ---- runs that are alike in their parts are alike
alike_refl : {A : Type 0} (x : Name) (m : Run A) → Alike x m m
alike_refl x m n h = refl

alike_begin : {A : Type 0} (x p : Name) (m l : Run A) → Alike x m l → Alike x (begin p m) (begin p l)
alike_begin x p m l k zero h = refl
alike_begin x p m l k (suc n) h = ap (log (p ∷ [])) (k n (unbegun_after x (p ∷ []) (m n) h))

-- The rule itself gives way: it is begun, unless no step is left.
alike_here : {A : Type 0} (p : Name) (m l : Run A) → Alike p (begin p m) (begin p l)
alike_here p m l zero h = refl
alike_here p m l (suc n) h = absurd (h (begun_here p (m n)))

alike_continue : {A B : Type 0} (x : Name) (r : Ended A) (f g : A → Run B) → ((a : A) → Alike x (f a) (g a)) → Unbegun x (continue r f) → continue r g ≡ continue r f
alike_continue x (got a n t) f g k h = ap (log t) (k a n (unbegun_after x t (f a n) h))
alike_continue x (failed e t) f g k h = refl

alike_bind : {A B : Type 0} (x : Name) (m l : Run A) (f g : A → Run B) → Alike x m l → ((a : A) → Alike x (f a) (g a)) → Alike x (m >>= f) (l >>= g)
alike_bind x m l f g e k n h = ap (λ r. continue r g) (e n (unbegun_first x (m n) f h)) ∙ alike_continue x (m n) f g k h

alike_branch : (x : Name) (t : Truth) (m m' l l' : Run Value) → Alike x m m' → Alike x l l' → Alike x (branch t m l) (branch t m' l')
alike_branch x truthy m m' l l' a b = a
alike_branch x falsy m m' l l' a b = b
alike_branch x neither m m' l l' a b = b

alike_go_on : (x : Name) (t : Truth) (v : Value) (m l : Run Value) → Alike x m l → Alike x (go_on t v m) (go_on t v l)
alike_go_on x truthy v m l a = a
alike_go_on x falsy v m l a = λ n h. refl
alike_go_on x neither v m l a = λ n h. refl

alike_fold : (x : Name) (f g : Value → Value → Run Value) → ((a b : Value) → Alike x (f a b) (g a b)) → (vs : Values) (acc : Value) → Alike x (fold f vs acc) (fold g vs acc)
alike_fold x f g k no_items acc = λ n h. refl
alike_fold x f g k (item v vs) acc = alike_bind x (f v acc) (g v acc) (fold f vs) (fold g vs) (k v acc) (alike_fold x f g k vs)

-- ---- one operand changed
-- The rule of the name p may be changed by f.
abbrev Changes : Name → (Rule → Rule) → Name → Type 0
Changes x f p = (r : Rule) (c : Value) → Alike x (eval r p c) (eval (f r) p c)

changes_at : (x : Name) (f : Rule → Rule) (p : Name) (i j : ℕ) → i ≡ j → Changes x f (i ∷ p) → Changes x f (j ∷ p)
changes_at x f p i j e h = subst (λ (k : ℕ). Changes x f (k ∷ p)) e h

-- Of these operands, the first of which stands at position j, the one at position j + k changes.
alike_all : (x : Name) (f : Rule → Rule) (p : Name) (c : Value) (i : ℕ) → Changes x f (i ∷ p) → (rs : Rules) (j k : ℕ) → i ≡ j + k → Alike x (body_all rs j p c) (body_all (map_rule rs k f) j p c)
unfolding body_all
alike_all x f p c i h no_rules j k e = λ n g. refl
alike_all x f p c i h (rule r rs) j zero e = alike_bind x (eval r (j ∷ p) c) _ _ _ (changes_at x f p i j (omega arith) h r c) (λ v. alike_refl x _)
alike_all x f p c i h (rule r rs) j (suc k) e =
    alike_bind x (eval r (j ∷ p) c) _ _ _ (alike_refl x _) (λ v. alike_bind x (body_all rs (suc j) p c) _ _ _ (alike_all x f p c i h rs (suc j) k (omega arith)) (λ vs. alike_refl x _))

alike_and : (x : Name) (f : Rule → Rule) (p : Name) (c : Value) (i : ℕ) → Changes x f (i ∷ p) → (rs : Rules) (j k : ℕ) → i ≡ j + k → (v : Value) → Alike x (body_and rs j p c v) (body_and (map_rule rs k f) j p c v)
unfolding body_and
alike_and x f p c i h no_rules j k e v = λ n g. refl
alike_and x f p c i h (rule r rs) j zero e v = alike_go_on x (truth v) v _ _ (alike_bind x (eval r (j ∷ p) c) _ _ _ (changes_at x f p i j (omega arith) h r c) (λ w. alike_refl x _))
alike_and x f p c i h (rule r rs) j (suc k) e v = alike_go_on x (truth v) v _ _ (alike_bind x (eval r (j ∷ p) c) _ _ _ (alike_refl x _) (alike_and x f p c i h rs (suc j) k (omega arith)))

alike_operand : (x : Name) (f : Rule → Rule) (p : Name) (r : Rule) (k : ℕ) → Changes x f (k ∷ p) → (c : Value) → Alike x (body r p c) (body (map_operand r k f) p c)
unfolding body
alike_operand x f p (literal l) k h c = λ n g. refl
alike_operand x f p (var q) k h c = λ n g. refl
alike_operand x f p (if guard second third) zero h c = alike_bind x (eval guard (0 ∷ p) c) _ _ _ (h guard c) (λ v. alike_refl x _)
alike_operand x f p (if guard second third) (suc zero) h c = alike_bind x (eval guard (0 ∷ p) c) _ _ _ (alike_refl x _) (λ v. alike_branch x (truth v) _ _ _ _ (h second c) (alike_refl x _))
alike_operand x f p (if guard second third) (suc (suc zero)) h c = alike_bind x (eval guard (0 ∷ p) c) _ _ _ (alike_refl x _) (λ v. alike_branch x (truth v) _ _ _ _ (alike_refl x _) (h third c))
alike_operand x f p (if guard second third) (suc (suc (suc k))) h c = λ n g. refl
alike_operand x f p (and r rs) zero h c = alike_bind x (eval r (0 ∷ p) c) _ _ _ (h r c) (λ v. alike_refl x _)
alike_operand x f p (and r rs) (suc k) h c = alike_bind x (eval r (0 ∷ p) c) _ _ _ (alike_refl x _) (alike_and x f p c (suc k) h rs 1 k (omega arith))
alike_operand x f p (reduce r lambda initial) zero h c = alike_bind x (eval r (0 ∷ p) c) _ _ _ (h r c) (λ v. alike_refl x _)
alike_operand x f p (reduce r lambda initial) (suc zero) h c =
    alike_bind x (eval r (0 ∷ p) c) _ _ _ (alike_refl x _) λ v.
    alike_bind x (eval initial (2 ∷ p) c) _ _ _ (alike_refl x _) λ i.
    alike_bind x (lift (required WrongKind (as_array v))) _ _ _ (alike_refl x _) λ vs.
    alike_fold x _ _ (λ cur acc. h lambda (context cur acc)) vs i
alike_operand x f p (reduce r lambda initial) (suc (suc zero)) h c =
    alike_bind x (eval r (0 ∷ p) c) _ _ _ (alike_refl x _) (λ v. alike_bind x (eval initial (2 ∷ p) c) _ _ _ (h initial c) (λ i. alike_refl x _))
alike_operand x f p (reduce r lambda initial) (suc (suc (suc k))) h c = λ n g. refl
alike_operand x f p (apply o rs) k h c = alike_bind x (body_all rs 0 p c) _ _ _ (alike_all x f p c k h rs 0 k (omega arith)) (λ vs. alike_refl x _)

alike_replace : (q : Place) (new : Rule) (p : Name) → Changes (reverse_aux q p) (replace q new) p
alike_replace [] new p = λ r c. alike_here p (body r p c) (body new p c)
alike_replace (k ∷ q) new p = λ r c.
    alike_begin (reverse_aux q (k ∷ p)) p (body r p c) (body (map_operand r k (replace q new)) p c) (alike_operand (reverse_aux q (k ∷ p)) (replace q new) p r k (alike_replace q new (k ∷ p)) c)

-- ---- a whole rule
-- If the rule at a place is not begun, another in its place changes nothing: the same value or refusal, steps left and trace.
pub unbegun_same_run : (q : Place) (new r : Rule) (c : Value) (n : ℕ) → Unbegun (reverse q) (run r c n) → run (replace q new r) c n ≡ run r c n
unbegun_same_run q new r c n h = alike_replace q new [] r c n h

pub unbegun_same : (q : Place) (new r : Rule) (c : Value) (n : ℕ) → Unbegun (reverse q) (run r c n) → (outcome (run (replace q new r) c n) ≡ outcome (run r c n)) × (steps (run (replace q new r) c n) ≡ steps (run r c n))
unbegun_same q new r c n h =
    let e = unbegun_same_run q new r c n h in
    (ap outcome e, ap steps e)
