-- Agreement: whether the entry gives what a case expects, test by test.
use mathlib.Core.Path.{◌≡◌, refl, sym, ap, ◌∙◌, subst}
use mathlib.Core.Bool.{Bool, true, false}
use mathlib.Core.List.{◌∷◌}
use Prim.Native.Nat.{ℕ, zero, suc, ◌+◌, ◌-◌, ◌≤◌, ◌<◌}
use native.Mathlib.Omega.{arith}
use borrow.Author.Tests.{leb-true, leb-false, le-leb, lt-leb}
use lib.Dec.{leb}
use lib.ListN.{length, take, replicate, length-replicate}
use Rattle.model.specs.Bytes.{Bytes}
use Rattle.model.specs.Limits.{max_text_bytes}
use Rattle.model.specs.Judgement.{Judged, done, refuses, answer_of}
use Rattle.syntax.specs.Layout.{table_bytes, strings_bytes}
use Rattle.pipeline.specs.Stage.{Stage, passed, refused}
use Rattle.pipeline.specs.Texts.{TextsRead, evaluate_stage}
use Rattle.jehvrukam.specs.Contract.{entry, areas_of, numbers_of}
use Rattle.jehvrukam.specs.Entry.{untouched, cells_bytes}
use Rattle.jehvrukam.specs.Evaluate.{Areas, Evaluated, is_invalid, answered, evaluate_answer, evaluate_entry}
use Rattle.test_vectors.specs.declared.Header.{Header}
use Rattle.test_vectors.specs.declared.Outcome.{Outcome}
use Rattle.test_vectors.specs.Cases.{lent, untold, is_whole, is_expected, is_text, agrees_with, agrees_in, agrees_on}
use Rattle.test_vectors.specs.Inner.{Gives}

-- ---- whole texts
pub not_whole : (n : ℕ) (h : Header) → n < h.end + h.rule + h.«record» + h.answer → false ≡ is_whole n h
not_whole n h l = sym (lt-leb (h.end + h.rule + h.«record» + h.answer) n l)

pub whole : (n : ℕ) (h : Header) → h.end + h.rule + h.«record» ≤ n → leb h.answer (n - h.end - h.rule - h.«record») ≡ is_whole n h
whole n h l = go (leb h.answer (n - h.end - h.rule - h.«record»)) refl
  where
    go : (t : Bool) → leb h.answer (n - h.end - h.rule - h.«record») ≡ t → leb h.answer (n - h.end - h.rule - h.«record») ≡ is_whole n h
    go true e = e ∙ sym (le-leb (h.end + h.rule + h.«record» + h.answer) n (omega (arith, leb-true h.answer (n - h.end - h.rule - h.«record») e)))
    go false e = e ∙ not_whole n h (omega (arith, leb-false h.answer (n - h.end - h.rule - h.«record») e))

-- ---- what the entry gives
-- Work areas of their stated sizes.
pub record Sized (T A R B C : Bytes) : Type 0 where
  pub rule_rows : length T ≡ table_bytes
  pub rule_text_lem : length A ≡ strings_bytes
  pub record_rows : length R ≡ table_bytes
  pub record_text_lem : length B ≡ strings_bytes
  pub heap : length C ≡ cells_bytes

-- All but the work areas is the same.
record Same (e f : Evaluated) : Type 0 where
  refusal : e.refusal ≡ f.refusal
  numbers : e.numbers ≡ f.numbers
  output : e.areas.work.output ≡ f.areas.work.output

-- What the entry gives depends on the work areas' sizes only.
module _ {T A R B C : Bytes} (O : Bytes) (limit : ℕ) (sized : Sized T A R B C) where
  abbrev some : Areas
  some = areas_of T A R B C O

  valid_same : is_invalid limit some ≡ is_invalid limit (lent O)
  valid_same = rw (
    sized.rule_rows,
    sized.rule_text_lem,
    sized.record_rows,
    sized.record_text_lem,
    sized.heap,
    length-replicate {A = ℕ} table_bytes 0,
    length-replicate {A = ℕ} strings_bytes 0,
    length-replicate {A = ℕ} cells_bytes 0,
  )

  answered_same : (t : TextsRead) (j : Judged Bytes) (steps : ℕ) → Same (answered some t j steps) (answered (lent O) t j steps)
  answered_same t (done x) steps = record { refusal = refl; numbers = refl; output = refl }
  answered_same t (refuses k) steps = record { refusal = refl; numbers = refl; output = refl }

  stage_same : (x : Stage TextsRead) → Same (evaluate_answer some limit x) (evaluate_answer (lent O) limit x)
  stage_same (refused k which place) = record { refusal = refl; numbers = refl; output = refl }
  stage_same (passed t) = let x = answer_of t.rule.content t.«record» limit (length O) in answered_same t x.result x.steps_begun

  abbrev by : Bool → Areas → Stage TextsRead → Evaluated
  by v a x = elim v [ true ↦ untouched untold a | false ↦ evaluate_answer a limit x ]

  by_same : (v : Bool) (x : Stage TextsRead) → Same (by v some x) (by v (lent O) x)
  by_same true x = record { refusal = refl; numbers = refl; output = refl }
  by_same false x = stage_same x

  entry_same : (rule record' : Bytes) → Same (evaluate_entry rule record' limit some untold) (evaluate_entry rule record' limit (lent O) untold)
  entry_same rule record' =
      let x = evaluate_stage rule record' in
      subst (λ (v : Bool). Same (by (is_invalid limit some) some x) (by v (lent O) x)) valid_same (by_same (is_invalid limit some) x)

pub entry_gives :
    (rule record' : Bytes) (limit : ℕ) (O : Bytes) {T A R B C : Bytes} {k which place steps size : ℕ} {a : Areas}
    → Sized T A R B C
    → entry k (numbers_of which place steps size) a ≡ evaluate_entry rule record' limit (areas_of T A R B C O) untold
    → Gives (evaluate_entry rule record' limit (lent O) untold) (record { refusal = k; which = which; place = place; steps = steps; size = size }) a.work.output
entry_gives rule record' limit O sized e =
    let same = entry_same O limit sized rule record' in
    record {
      refusal = ap (λ (x : Evaluated). x.refusal) e ∙ same.refusal;
      numbers = ap (λ (x : Evaluated). x.numbers) e ∙ same.numbers;
      output = ap (λ (x : Evaluated). x.areas.work.output) e ∙ same.output;
    }

module _ (h : Header) (answer : Bytes) {e : Evaluated} {o : Outcome} {O : Bytes} (g : Gives e o O) where
  expected_same : is_expected h o.refusal o.which o.place o.steps ≡ is_expected h e.refusal e.numbers.which e.numbers.place e.numbers.steps
  expected_same = rw (g.refusal, ← g.numbers)

  text_same : is_text O o.size answer ≡ is_text e.areas.work.output e.numbers.size answer
  text_same = rw (← g.output, ← g.numbers)

  pub unexpected : is_expected h o.refusal o.which o.place o.steps ≡ false → false ≡ agrees_with h e answer
  unexpected f = rw (sym expected_same ∙ f)

  pub as_expected : {r : Bool} → is_expected h o.refusal o.which o.place o.steps ≡ true → r ≡ is_text O o.size answer → r ≡ agrees_with h e answer
  as_expected f t = t ∙ (text_same ∙ rw (sym expected_same ∙ f))

-- ---- the output
pub take_zeros : (n m : ℕ) → n ≤ m → take n (replicate {A = ℕ} m 0) ≡ replicate n 0
take_zeros zero m h = refl
take_zeros (suc n) zero h = absurd (omega arith)
take_zeros (suc n) (suc m) h = ap (λ (l : Bytes). 0 ∷ l) (take_zeros n m (omega arith))

pub zeros_fit : (n m : ℕ) → n ≤ m → n ≤ length (replicate {A = ℕ} m 0)
zeros_fit n m h = rw (length-replicate {A = ℕ} m 0) h

pub zeros_size : (n m : ℕ) → n ≤ m → n ≡ length (take n (replicate {A = ℕ} m 0))
zeros_size n m h = sym (ap length (take_zeros n m h) ∙ length-replicate {A = ℕ} n 0)

module _ (h : Header) (rule record' answer : Bytes) where
  pub no_room : max_text_bytes < h.room → false ≡ agrees_on h rule record' answer
  unfolding agrees_on
  no_room l = rw (lt-leb h.room max_text_bytes l)

  pub with_room : {r : Bool} → h.room ≤ max_text_bytes → r ≡ agrees_in h rule record' answer (take h.room (replicate max_text_bytes 0)) → r ≡ agrees_on h rule record' answer
  unfolding agrees_on
  with_room l e = rw (le-leb h.room max_text_bytes l, ← take_zeros h.room max_text_bytes l) e
