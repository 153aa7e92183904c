-- Stopping: a stage that is refused, and what is told of it.
use mathlib.Core.Path.{◌≡◌, sym, ap, ◌∙◌}
use Prim.Native.Nat.{ℕ}
use Rattle.model.specs.Refusal.{number}
use Rattle.model.specs.declared.refusal.Refusal.{Refusal}
use Rattle.pipeline.specs.declared.text.Stop.{Stop}
use Rattle.pipeline.specs.Laws.Stages.{number_some, Stopped}
use Rattle.pipeline.specs.Stage.{Stage, refused}
use Rattle.jehvrukam.specs.Entry.{Entry}
use Rattle.jehvrukam.specs.Inner.{Judges}

-- The refusal of a stage x is that of all stages y; so it is that of the whole answer, which tells the text and the place.
module _ {N A Y : Type 0} (tidy clear : A → A) (answer : Stage Y → Entry N A) (a : A) (tell : ℕ → ℕ → N)
    (its-refusal : (e : Refusal) (w p : ℕ) → (answer (refused e w p)).refusal ≡ number e) (its-numbers : (e : Refusal) (w p : ℕ) → (answer (refused e w p)).numbers ≡ tell w p) where
  pub stops : {X : Type 0} (x : Stage X) (y : Stage Y) {s : Stop} {a' : A}
      → ((p : Stopped x s) → y ≡ refused p.refusal p.which p.place)
      → Stopped x s
      → clear a' ≡ clear a
      → Judges tidy clear (answer y) a (number s.refusal) (tell s.which s.place) a'
  stops x y same p z =
      let f : y ≡ refused p.refusal p.which p.place = same p in
      record {
        refusal = ap (λ (w : Stop). number w.refusal) p.tells ∙ sym (ap (λ (w : Stage Y). (answer w).refusal) f ∙ its-refusal p.refusal p.which p.place);
        numbers = ap (λ (w : Stop). tell w.which w.place) p.tells ∙ sym (ap (λ (w : Stage Y). (answer w).numbers) f ∙ its-numbers p.refusal p.which p.place);
        areas = λ h. absurd (number_some p.refusal (sym (ap (λ (w : Stop). number w.refusal) p.tells) ∙ h));
        sizes = z;
      }
