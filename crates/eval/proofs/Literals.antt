-- Literals: an operand that is a literal has its value by its row, and takes one step.
use mathlib.Core.Bool.{Bool, true, false, cond}
use Rattle.std.specs.Prelude.{Option, None, Some}
use mathlib.Core.Path.{◌≡◌, refl, sym, ap, ◌∙◌}
use Prim.Native.Nat.{ℕ, zero, suc, ◌+◌, ◌-◌, ◌≤◌, ◌<◌}
use native.Mathlib.Omega.{arith}
use borrow.Author.Tests.{eqb-false}
use lib.Dec.{eqb}
use Rattle.model.specs.Bytes.{Bytes}
use Rattle.model.specs.EvalPlain.{Plain, gives, continue, plain_body, eval_plain}
use Rattle.model.proofs.Laws.Logic.{clash}
use Rattle.model.specs.Rule.{Literal as ModelLiteral, Rule, literal, literal_value}
use Rattle.model.specs.Shape.{shape}
use Rattle.model.specs.Value.{Value}
use Rattle.heap.specs.declared.handle.Handle.{Handle}
use Rattle.heap.specs.declared.handle.Handle.TheVariants as Handles
use Rattle.heap.specs.Cells.{stored}
use Rattle.heap.specs.Means.{Means, means_false, means_true, means_integer, means_string}
use Rattle.heap.specs.Unfold.{areas}
use Rattle.operations.specs.declared.ended.State.{State}
use Rattle.operations.specs.Laws.Cells.{same_all}
use Rattle.rule.specs.declared.view.Literal.TheVariants as Literals
use Rattle.rule.specs.Holds.{Holds}
use Rattle.table.specs.declared.node.Node.{Node}
use Rattle.table.specs.Denotes.{Denotes, denotes_null, denotes_false, denotes_true, denotes_integer, denotes_string, denotes_array, denotes_object}
use Rattle.table.specs.Node.{node_at, next_row}
use Rattle.eval.specs.declared.task.Frame.TheVariants.{Argument}
use Rattle.eval.specs.declared.task.Next.{Next}
use Rattle.eval.specs.declared.task.Pending.{Pending}
use Rattle.eval.specs.declared.task.Task.{Task}
use Rattle.eval.specs.Inner.{Room, literal_handle, literal_of, literal_next, one_step, one_begun, Asked, Follows, Argues, Takes, task}
use Rattle.eval.proofs.Arguments.{pushed, one_done, asks_next, pushed_room, takes_argument}
use Rattle.eval.proofs.Frames.{Moved, frame_kept}

-- ---- the value
-- The rule is a literal, and the handle means its value.
record IsLiteral (A : Bytes) (ρ : Rule) (h : Handle) : Type 0 where
  spelled : ModelLiteral
  is : ρ ≡ literal spelled
  means : (R B C : Bytes) (top : ℕ) → Means (areas A B R C) top (literal_value spelled) h

literal_denoted : {T A : Bytes} {v : Value} {n : Node} (ρ : Rule) (h : Handle) → Denotes T A v n → shape v ≡ Some ρ → literal_of n ≡ Some h → IsLiteral A ρ h
unfolding shape
literal_denoted ρ h denotes_null s e = clash cc
literal_denoted ρ h denotes_false s e = let f : ρ ≡ literal (ModelLiteral.boolean false) = cc in record { spelled = ModelLiteral.boolean false; is = f; means = λ R B C top. let g : h ≡ Handles.False = cc in rw g means_false }
literal_denoted ρ h denotes_true s e = let f : ρ ≡ literal (ModelLiteral.boolean true) = cc in record { spelled = ModelLiteral.boolean true; is = f; means = λ R B C top. let g : h ≡ Handles.True = cc in rw g means_true }
literal_denoted ρ h (denotes_integer {z = z} {n = n} w q) s e = let f : ρ ≡ literal (ModelLiteral.integer z) = cc in record { spelled = ModelLiteral.integer z; is = f; means = λ R B C top. let g : h ≡ Handles.Integer n = cc in rw g (means_integer w q) }
literal_denoted ρ h (denotes_string {s = x} {p = p} l) s e = let f : ρ ≡ literal (ModelLiteral.string x) = cc in record { spelled = ModelLiteral.string x; is = f; means = λ R B C top. let g : h ≡ literal_handle (Literals.String p) = cc in rw g (means_string l) }
literal_denoted ρ h (denotes_array a b c) s e = clash cc
literal_denoted ρ h (denotes_object a b c) s e = clash cc

literal_held : {T A : Bytes} {deep row : ℕ} {ρ : Rule} (h : Handle) → Holds T A deep row ρ → literal_of (node_at T row) ≡ Some h → IsLiteral A ρ h
literal_held h k e = literal_denoted _ h k.denotes k.shaped e

-- One step, where one is left.
literal_run : (l : ModelLiteral) (κ : Value) (left : ℕ) → 1 ≤ left → eval_plain (literal l) κ left ≡ gives (literal_value l) (left - 1)
unfolding plain_body
literal_run l κ zero k = absurd (omega arith)
literal_run l κ (suc n) k = let e : n ≡ suc n - 1 = omega arith in ap (gives (literal_value l)) e

-- ---- what a literal that was found says
pub record FoundLiteral (T : Bytes) (t : Task) (p : Pending) (h : Handle) : Type 0 where
  pub some_left : 1 ≤ t.state.left
  pub some_rest : 1 ≤ p.rest
  pub is : literal_of (node_at T t.row) ≡ Some h

pub literal_found : (T : Bytes) (t : Task) (p : Pending) (h : Handle) {r : Option Handle} → r ≡ literal_next T t p → r ≡ Some h → FoundLiteral T t p h
literal_found T t p h e f = go (eqb p.rest 0) (eqb t.state.left 0) refl refl (sym e ∙ f)
  where
    go : (a b : Bool) → eqb p.rest 0 ≡ a → eqb t.state.left 0 ≡ b → cond a None (cond b None (literal_of (node_at T t.row))) ≡ Some h → FoundLiteral T t p h
    go true b x y q = clash cc
    go false true x y q = clash cc
    go false false x y q = let k = eqb-false p.rest 0 x in let l = eqb-false t.state.left 0 y in record { some_left = omega arith; some_rest = omega arith; is = q }

-- ---- the literal is the operand that is asked for next
literal_room : {T C : Bytes} (t : Task) (p : Pending) (h : Handle) → FoundLiteral T t p h → Room C (2 + p.done) p.done t.state → Room C (4 + (one_begun p).done) (one_begun p).done (one_step t).state
literal_room t p h found r = record { fits = omega (arith, r.fits, found.some_left); within = r.within; enough = r.enough }

module _ {T A R B C : Bytes} (t : Task) (p : Pending) (h : Handle) (found : FoundLiteral T t p h) where
  pub argues_literal : {n : Next} {C₂ : Bytes} → Takes T A R B C (one_step t) (Argument (one_begun p)) h n C₂ → Argues T A R B C t p n C₂
  argues_literal {n} {C₂} x = record {
    same = x.same;
    steps = omega (arith, x.steps);
    within = λ s c. x.within s (record { grows = c.grows; spends = omega (arith, c.spends, found.some_left); stack = c.stack; deep = c.deep });
    follows = λ m a. go m (((asks_next {A = A} {R = R} {B = B} {C = C} {t = t} {p = p} (one_begun p) found.some_rest refl).argues T).follows m a);
  }
    where
      moved : Moved C C t (one_step t)
      moved = record { row = refl; context = refl; same = same_all C _ _; grows = omega arith; bottom = refl; deep = refl }

      go : (m : Plain Value) → Asked T A R B C m t (Argument (one_begun p)) → Follows T A R B C₂ m n
      go m a =
          let l = literal_held h a.holds found.is in
          let q : eval_plain a.asked a.given t.state.left ≡ gives (literal_value l.spelled) (t.state.left - 1) =
          ap (λ (ρ : Rule). eval_plain ρ a.given t.state.left) l.is ∙ literal_run l.spelled a.given t.state.left found.some_left in
          let e : m ≡ a.next (literal_value l.spelled) (t.state.left - 1) = a.run ∙ ap (λ (r : Plain Value). continue r a.next) q in
          rw e (x.follows a.next (literal_value l.spelled) (frame_kept moved T A R B (Argument (one_begun p)) a.next a.frame) (l.means R B C t.state.top))

-- ---- the loop: a value goes on the stack, and then that of the literal after it
pub record Pushing (T A R B C₀ : Bytes) (t₀ : Task) (p₀ : Pending) (h₀ : Handle) (C : Bytes) (t : Task) (p : Pending) (h : Handle) : Type 0 where
  pub room : Room C (4 + p.done) p.done t.state
  pub takes : (n : Next) (C₂ : Bytes) → Takes T A R B C t (Argument p) h n C₂ → Takes T A R B C₀ t₀ (Argument p₀) h₀ n C₂

pub pushing_begins : {T A R B C : Bytes} {t : Task} {p : Pending} {h : Handle} → Room C (4 + p.done) p.done t.state → Pushing T A R B C t p h C t p h
pushing_begins r = record { room = r; takes = λ n C₂ x. x }

module _ {T A R B C₀ : Bytes} {t₀ : Task} {p₀ : Pending} {h₀ : Handle} {C : Bytes} {t : Task} {p : Pending} {h : Handle} (i : Pushing T A R B C₀ t₀ p₀ h₀ C t p h) where
  module _ {C₁ : Bytes} (row : ℕ) (t' : Task) (s : State) (p' : Pending) (puts : C₁ ≡ stored C (t.state.bottom - 1) h) (is_row : row ≡ next_row T t.row) (is_state : s ≡ pushed t) (is-task : t' ≡ task row t.context s) (is-more : p' ≡ one_done p) where
    pub pushing_room : Room C₁ (2 + p'.done) p'.done t'.state
    pushing_room = pushed_room t p h C₁ row t' s p' i.room puts is_state is-task is-more

    pub pushing_ends : {n : Next} {C₂ : Bytes} → Argues T A R B C₁ t' p' n C₂ → Takes T A R B C₀ t₀ (Argument p₀) h₀ n C₂
    pushing_ends {n} {C₂} d = i.takes n C₂ (takes_argument row t' s p' i.room puts is_row is_state is-task is-more d)

    module _ (h' : Handle) (found : FoundLiteral T t' p' h') (q : Pending) (is-begun : q ≡ one_begun p') where
      pub fewer_rest : q.rest < p.rest
      fewer_rest = let f = found.some_rest in rw is-begun (omega (arith, f, ap (λ (x : Pending). x.rest) is-more))

      pub pushing_on : (u : Task) → u ≡ one_step t' → Pushing T A R B C₀ t₀ p₀ h₀ C₁ u q h'
      pushing_on u is-stepped = rw (is-stepped, is-begun) (record { room = literal_room t' p' h' found pushing_room; takes = λ n C₂ x. pushing_ends (argues_literal t' p' h' found x) })
