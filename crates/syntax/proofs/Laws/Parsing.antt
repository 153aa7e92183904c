-- Parsing: a law for each way in which parsers are made of parsers. What holds of every outcome of the parts holds of the whole;
-- what relates the outcomes of two parsers part by part relates the two; and which part it is where the decision is known.
use Rattle.std.specs.Prelude.{Option, None, Some}
use Rattle.std.specs.Prelude.{◌≡◌, Bool, ℕ}
use Rattle.std.proofs.Math.Path.{refl, subst}
use Rattle.std.proofs.Common.{sym}
use Rattle.std.proofs.Math.Bool.{true, false}
use mathlib.Core.List.{[], ◌∷◌}
use Rattle.model.specs.Bytes.{Bytes}
use Rattle.model.specs.declared.refusal.ReadFault.{ReadFault}
use Rattle.model.specs.declared.refusal.ReadFault.TheVariants.{NotJson, LoneSurrogate, TooLarge}
use Rattle.syntax.specs.declared.Start.{Start}
use Rattle.syntax.specs.declared.Start.TheVariants.{NoValue, TooMuch, Literal, Minus, Digit, Quote, Bracket, Brace}
use Rattle.syntax.specs.declared.Word.{Word}
use Rattle.syntax.specs.declared.Separator.{Separator}
use Rattle.syntax.specs.declared.Separator.TheVariants.{Comma, Close, Neither}
use Rattle.syntax.specs.declared.Lead.{Lead}
use Rattle.syntax.specs.declared.Lead.TheVariants.{Closing, Backslash, Never, Char}
use Rattle.syntax.specs.declared.Escape.{Escape}
use Rattle.syntax.specs.declared.Escape.TheVariants.{Letter, Unicode, NoEscape}
use Rattle.syntax.specs.declared.Unit.{Unit}
use Rattle.syntax.specs.declared.Unit.TheVariants.{Plain, High, Low}
use Rattle.syntax.specs.Read.{Parsed, ok, bad, Parser, then, fail, if, peek, on_hex, on_escape, on_lead, Piece, closing, bytes, unit, on_piece, on_unit, or_lone, on_start, on_separator}

-- ---- of every outcome
module _ {A B : Type 0} (Q : Parsed B → Type 0) where
  pub then_law : (P : Parsed A → Type 0) (r : Parsed A) (g : A → Parser B) → P r → ((a : A) (t : Bytes) (q : ℕ) → P (ok a t q) → Q (g a t q)) → ((k : ReadFault) (p : ℕ) → P (bad k p) → Q (bad k p)) → Q (then r g)
  unfolding then
  then_law P (ok a t q) g h f e = f a t q h
  then_law P (bad k p) g h f e = e k p h

  pub lone_law :
      (P : Parsed A → Type 0) (r : Parsed A) (p : ℕ) (g : A → Parser B) → P r → ((a : A) (t : Bytes) (q : ℕ) → P (ok a t q) → Q (g a t q))
      → ((k : ReadFault) (q : ℕ) → P (bad k q) → Q (bad LoneSurrogate p)) → Q (or_lone r p g)
  unfolding or_lone
  lone_law P (ok a t q) p g h f e = f a t q h
  lone_law P (bad k q) p g h f e = e k q h

module _ {B : Type 0} (Q : Parsed B → Type 0) (t : Bytes) (at : ℕ) where
  pub if_law : (b : Bool) (m n : Parser B) → (b ≡ true → Q (m t at)) → (b ≡ false → Q (n t at)) → Q (if b m n t at)
  unfolding if
  if_law true m n f g = f refl
  if_law false m n f g = g refl

  pub peek_law : (g : ℕ → Parser B) → (t ≡ [] → Q (bad NotJson at)) → ((b : ℕ) (u : Bytes) → t ≡ b ∷ u → Q (g b (b ∷ u) at)) → Q (then (peek t at) g)
  unfolding then peek
  peek_law g = elim t as (λ x. (x ≡ [] → Q (bad NotJson at)) → ((b : ℕ) (u : Bytes) → x ≡ b ∷ u → Q (g b (b ∷ u) at)) → Q (then (peek x at) g)) [ [] ↦ λ e f. e refl | b ∷ u ↦ λ e f. f b u refl ]

  pub hex_law : (x : Option ℕ) (f : ℕ → Parser B) (m : Parser B) → ((d : ℕ) → x ≡ Some d → Q (f d t at)) → Q (m t at) → Q (on_hex x f m t at)
  unfolding on_hex
  hex_law (Some d) f m h k = h d refl
  hex_law None f m h k = k

  pub escape_law : (x : Escape) (f : ℕ → Parser B) (m n : Parser B) → ((d : ℕ) → x ≡ Letter d → Q (f d t at)) → (x ≡ Unicode → Q (m t at)) → Q (n t at) → Q (on_escape x f m n t at)
  unfolding on_escape
  escape_law (Letter d) f m n h k j = h d refl
  escape_law Unicode f m n h k j = k refl
  escape_law NoEscape f m n h k j = j

  pub lead_law :
      (x : Lead) (c b n : Parser B) (r : ℕ → ℕ → ℕ → Parser B) → (x ≡ Closing → Q (c t at)) → (x ≡ Backslash → Q (b t at)) → Q (n t at)
      → ((k lo hi : ℕ) → x ≡ Char k lo hi → Q (r k lo hi t at)) → Q (on_lead x c b n r t at)
  unfolding on_lead
  lead_law Closing c b n r h₁ h₂ h₃ h₄ = h₁ refl
  lead_law Backslash c b n r h₁ h₂ h₃ h₄ = h₂ refl
  lead_law Never c b n r h₁ h₂ h₃ h₄ = h₃
  lead_law (Char k lo hi) c b n r h₁ h₂ h₃ h₄ = h₄ k lo hi refl

  pub piece_law : (x : Piece) (m : Parser B) (f : Bytes → Parser B) (g : ℕ → Parser B) → (x ≡ closing → Q (m t at)) → ((bs : Bytes) → x ≡ bytes bs → Q (f bs t at)) → ((u : ℕ) → x ≡ unit u → Q (g u t at)) → Q (on_piece x m f g t at)
  unfolding on_piece
  piece_law closing m f g h₁ h₂ h₃ = h₁ refl
  piece_law (bytes bs) m f g h₁ h₂ h₃ = h₂ bs refl
  piece_law (unit u) m f g h₁ h₂ h₃ = h₃ u refl

  pub unit_law : (x : Unit) (m h l : Parser B) → (x ≡ Plain → Q (m t at)) → (x ≡ High → Q (h t at)) → (x ≡ Low → Q (l t at)) → Q (on_unit x m h l t at)
  unfolding on_unit
  unit_law Plain m h l h₁ h₂ h₃ = h₁ refl
  unit_law High m h l h₁ h₂ h₃ = h₂ refl
  unit_law Low m h l h₁ h₂ h₃ = h₃ refl

  pub separator_law : (x : Separator) (m c : Parser B) → (x ≡ Comma → Q (m t at)) → (x ≡ Close → Q (c t at)) → Q (bad NotJson at) → Q (on_separator x m c t at)
  unfolding on_separator fail
  separator_law Comma m c h₁ h₂ h₃ = h₁ refl
  separator_law Close m c h₁ h₂ h₃ = h₂ refl
  separator_law Neither m c h₁ h₂ h₃ = h₃

  pub start_law :
      (x : Start) (w : Word → Parser B) (s n x₁ x₂ x₃ : Parser B) → Q (bad NotJson at) → (x ≡ TooMuch → Q (bad TooLarge at)) → ((k : Word) → x ≡ Literal k → Q (w k t at))
      → (x ≡ Minus → Q (s t at)) → (x ≡ Digit → Q (n t at)) → (x ≡ Quote → Q (x₁ t at)) → (x ≡ Bracket → Q (x₂ t at)) → (x ≡ Brace → Q (x₃ t at))
      → Q (on_start x w s n x₁ x₂ x₃ t at)
  unfolding on_start fail
  start_law NoValue w s n x₁ x₂ x₃ h₁ h₂ h₃ h₄ h₅ h₆ h₇ h₈ = h₁
  start_law TooMuch w s n x₁ x₂ x₃ h₁ h₂ h₃ h₄ h₅ h₆ h₇ h₈ = h₂ refl
  start_law (Literal k) w s n x₁ x₂ x₃ h₁ h₂ h₃ h₄ h₅ h₆ h₇ h₈ = h₃ k refl
  start_law Minus w s n x₁ x₂ x₃ h₁ h₂ h₃ h₄ h₅ h₆ h₇ h₈ = h₄ refl
  start_law Digit w s n x₁ x₂ x₃ h₁ h₂ h₃ h₄ h₅ h₆ h₇ h₈ = h₅ refl
  start_law Quote w s n x₁ x₂ x₃ h₁ h₂ h₃ h₄ h₅ h₆ h₇ h₈ = h₆ refl
  start_law Bracket w s n x₁ x₂ x₃ h₁ h₂ h₃ h₄ h₅ h₆ h₇ h₈ = h₇ refl
  start_law Brace w s n x₁ x₂ x₃ h₁ h₂ h₃ h₄ h₅ h₆ h₇ h₈ = h₈ refl

-- ---- of two parsers that decide alike
module _ {A : Type 0} (G : Parsed A → Parsed A → Type 0) (t u : Bytes) (at : ℕ) where
  pub both_if : (b : Bool) (m n m' n' : Parser A) → G (m t at) (m' u at) → G (n t at) (n' u at) → G (if b m n t at) (if b m' n' u at)
  unfolding if
  both_if true m n m' n' h k = h
  both_if false m n m' n' h k = k

  pub both_hex : (x : Option ℕ) (f f' : ℕ → Parser A) (m m' : Parser A) → ((d : ℕ) → G (f d t at) (f' d u at)) → G (m t at) (m' u at) → G (on_hex x f m t at) (on_hex x f' m' u at)
  unfolding on_hex
  both_hex (Some d) f f' m m' h k = h d
  both_hex None f f' m m' h k = k

  pub both_escape : (x : Escape) (f f' : ℕ → Parser A) (m n m' n' : Parser A) → ((d : ℕ) → G (f d t at) (f' d u at)) → G (m t at) (m' u at) → G (n t at) (n' u at) → G (on_escape x f m n t at) (on_escape x f' m' n' u at)
  unfolding on_escape
  both_escape (Letter d) f f' m n m' n' h₁ h₂ h₃ = h₁ d
  both_escape Unicode f f' m n m' n' h₁ h₂ h₃ = h₂
  both_escape NoEscape f f' m n m' n' h₁ h₂ h₃ = h₃

  pub both_lead :
      (x : Lead) (c b n c' b' n' : Parser A) (r r' : ℕ → ℕ → ℕ → Parser A) → G (c t at) (c' u at) → G (b t at) (b' u at) → G (n t at) (n' u at)
      → ((k lo hi : ℕ) → G (r k lo hi t at) (r' k lo hi u at)) → G (on_lead x c b n r t at) (on_lead x c' b' n' r' u at)
  unfolding on_lead
  both_lead Closing c b n c' b' n' r r' h₁ h₂ h₃ h₄ = h₁
  both_lead Backslash c b n c' b' n' r r' h₁ h₂ h₃ h₄ = h₂
  both_lead Never c b n c' b' n' r r' h₁ h₂ h₃ h₄ = h₃
  both_lead (Char k lo hi) c b n c' b' n' r r' h₁ h₂ h₃ h₄ = h₄ k lo hi

  pub both_separator : (x : Separator) (m c m' c' : Parser A) → G (m t at) (m' u at) → G (c t at) (c' u at) → G (bad NotJson at) (bad NotJson at) → G (on_separator x m c t at) (on_separator x m' c' u at)
  unfolding on_separator fail
  both_separator Comma m c m' c' h₁ h₂ h₃ = h₁
  both_separator Close m c m' c' h₁ h₂ h₃ = h₂
  both_separator Neither m c m' c' h₁ h₂ h₃ = h₃

  pub both_start :
      (x : Start) (w w' : Word → Parser A) (s n x₁ x₂ x₃ s' n' y₁ y₂ y₃ : Parser A) → ((k : ReadFault) → G (bad k at) (bad k at))
      → ((k : Word) → G (w k t at) (w' k u at)) → G (s t at) (s' u at) → G (n t at) (n' u at) → G (x₁ t at) (y₁ u at) → G (x₂ t at) (y₂ u at) → G (x₃ t at) (y₃ u at)
      → G (on_start x w s n x₁ x₂ x₃ t at) (on_start x w' s' n' y₁ y₂ y₃ u at)
  unfolding on_start fail
  both_start NoValue w w' s n x₁ x₂ x₃ s' n' y₁ y₂ y₃ h₁ h₂ h₃ h₄ h₅ h₆ h₇ = h₁ NotJson
  both_start TooMuch w w' s n x₁ x₂ x₃ s' n' y₁ y₂ y₃ h₁ h₂ h₃ h₄ h₅ h₆ h₇ = h₁ TooLarge
  both_start (Literal k) w w' s n x₁ x₂ x₃ s' n' y₁ y₂ y₃ h₁ h₂ h₃ h₄ h₅ h₆ h₇ = h₂ k
  both_start Minus w w' s n x₁ x₂ x₃ s' n' y₁ y₂ y₃ h₁ h₂ h₃ h₄ h₅ h₆ h₇ = h₃
  both_start Digit w w' s n x₁ x₂ x₃ s' n' y₁ y₂ y₃ h₁ h₂ h₃ h₄ h₅ h₆ h₇ = h₄
  both_start Quote w w' s n x₁ x₂ x₃ s' n' y₁ y₂ y₃ h₁ h₂ h₃ h₄ h₅ h₆ h₇ = h₅
  both_start Bracket w w' s n x₁ x₂ x₃ s' n' y₁ y₂ y₃ h₁ h₂ h₃ h₄ h₅ h₆ h₇ = h₆
  both_start Brace w w' s n x₁ x₂ x₃ s' n' y₁ y₂ y₃ h₁ h₂ h₃ h₄ h₅ h₆ h₇ = h₇

-- ---- where the decision is known
module _ {A B : Type 0} (Q : Parsed B → Type 0) where
  pub then_ok : (r : Parsed A) (g : A → Parser B) (a : A) (t : Bytes) (q : ℕ) → r ≡ ok a t q → Q (g a t q) → Q (then r g)
  unfolding then
  then_ok r g a t q e h = subst (λ z. Q (then z g)) (sym e) h

  pub lone_ok : (r : Parsed A) (p : ℕ) (g : A → Parser B) (a : A) (t : Bytes) (q : ℕ) → r ≡ ok a t q → Q (g a t q) → Q (or_lone r p g)
  unfolding or_lone
  lone_ok r p g a t q e h = subst (λ z. Q (or_lone z p g)) (sym e) h

module _ {B : Type 0} (Q : Parsed B → Type 0) (t : Bytes) (at : ℕ) where
  pub if_true : (b : Bool) (m n : Parser B) → b ≡ true → Q (m t at) → Q (if b m n t at)
  unfolding if
  if_true b m n e h = subst (λ z. Q (if z m n t at)) (sym e) h

  pub if_false : (b : Bool) (m n : Parser B) → b ≡ false → Q (n t at) → Q (if b m n t at)
  unfolding if
  if_false b m n e h = subst (λ z. Q (if z m n t at)) (sym e) h

  pub peek_at : (b : ℕ) (u : Bytes) (g : ℕ → Parser B) → t ≡ b ∷ u → Q (g b t at) → Q (then (peek t at) g)
  unfolding then peek
  peek_at b u g e = subst (λ z. Q (g b z at) → Q (then (peek z at) g)) (sym e) (λ h. h)
