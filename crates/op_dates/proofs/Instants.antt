-- Instants: an operation that gives an instant, by its operand's handle.
use mathlib.Core.Path.{◌≡◌, refl, sym, ap, ◌∙◌}
use Rattle.std.specs.Prelude.{None, Err, Ok, IsErrAnd}
use Prim.Native.Nat.{ℕ}
use lib.Dec.{T}
use lib.IntN.{ℤ}
use mir.Facts.{to_z-of_z}
use mir.Syntax.{w64}
use mir.Val.{SFits, of_z, to_z}
use Rattle.model.specs.Bytes.{Bytes}
use Rattle.model.specs.DateText.{date_text, day_text}
use Rattle.model.specs.Instant.{in_range}
use Rattle.model.specs.declared.refusal.Fault.{Fault}
use Rattle.model.specs.declared.refusal.Fault.TheVariants.{WrongKind}
use Rattle.model.specs.Result.{Result, ok, refuse, ◌>>=◌}
use Rattle.model.specs.Shift.{shift}
use Rattle.model.specs.Value.{Value, scalar, instant, string, as_string}
use Rattle.model.proofs.Laws.DateText.{date_in_range, day_in_range}
use Rattle.model.proofs.Laws.Logic.{clash}
use Rattle.model.proofs.Laws.Shift.{shift_in_range}
use Rattle.model.specs.declared.TimeUnit.{TimeUnit}
use Rattle.calendar.specs.Contract.{fault_of, shifted}
use Rattle.calendar.proofs.Laws.Answer.{own_in}
use Rattle.calendar.specs.declared.instant.DateFault.{DateFault}
use Rattle.heap.specs.declared.handle.Handle.{Handle}
use Rattle.heap.specs.declared.handle.Handle.TheVariants.{String}
use Rattle.heap.specs.declared.handle.Span.{Span}
use Rattle.heap.specs.Means.{Means, means_null, means_false, means_true, means_integer, means_instant, means_string, means_items, means_members, means_list, means_context}
use Rattle.heap.specs.Strings.{span_bytes}
use Rattle.heap.specs.Unfold.{Areas}
use Rattle.op_result.specs.Contract.{Answered, Gives, gives_value, gives_fault}
use Rattle.op_dates.specs.Inner.{operated, Unbiased, Moves}
use Rattle.op_dates.specs.Contract.{Shifts, Born}

-- ---- the operand
string_is : {a : Areas} {top : ℕ} {v : Value} {s : Span} → Means a top v (String s) → v ≡ scalar (string (span_bytes a.rule a.strings s))
string_is (means_string l) = ap (λ (x : Bytes). scalar (string x)) l.is

-- The handle is none of a string.
abbrev pub NoString : Handle → Type 0
NoString h = (s : Span) → h ≡ String s → ⊥

no_string : {a : Areas} {top : ℕ} {v : Value} {h : Handle} → Means a top v h → NoString h → as_string v ≡ None
no_string means_null k = refl
no_string means_false k = refl
no_string means_true k = refl
no_string (means_integer w e) k = refl
no_string (means_instant w e) k = refl
no_string (means_string l) k = absurd (k _ refl)
no_string (means_items e f r) k = refl
no_string (means_members e f r) k = refl
no_string (means_list e b r) k = refl
no_string (means_context b i m n) k = refl

-- ---- the answer
answers : {a : Areas} {top : ℕ} (q : Result ℤ) {r : Answered} → r ≡ operated q → ((t : ℤ) → q ≡ ok t → T (in_range t)) → Gives a top (q >>= λ t. ok (instant t)) r
answers (ok t) e h = gives_value e (means_instant (h t refl) refl)
answers (refuse f) e h = gives_fault e

-- What `?` gives back.
pub error_is : {r : Answered} {f : Fault} → IsErrAnd r (λ e. e ≡ f) → r ≡ Err f
error_is {r = Ok x} h = absurd h
error_is {r = Err e} h = ap Err h

-- By what `shift` gives for the amount: q.
module _ {t z : ℤ} {amount : ℕ} {unit : TimeUnit} (u : Unbiased amount z) (f : SFits w64 z) {q : Result ℤ} (e : q ≡ shifted t (to_z w64 (of_z w64 z)) unit) where
  pub moves : {r : Answered} → r ≡ operated q → Moves t amount unit r
  moves h = record { is = λ k w i. h ∙ ap operated (e ∙ ap (λ (x : ℤ). shifted t x unit) (to_z-of_z f ∙ u.is k w i)) }

module _ {A B : Bytes} {h : Handle} where
  pub born_no_string : NoString h → Born A B h (Err WrongKind)
  born_no_string k = record { gives = λ R C top v m. rw (no_string m k) (gives_fault refl) }

  pub shifts_no_string : {amount : ℕ} {unit : TimeUnit} → NoString h → Shifts A B amount unit h (Err WrongKind)
  shifts_no_string k = record { gives = λ R C top z v w e m. rw (no_string m k) (gives_fault refl) }

  -- The string's bytes are b.
  module _ {s : Span} {b : Bytes} (is-string : h ≡ String s) (lies : b ≡ span_bytes A B s) where
    born_by : (q : Result ℤ) → q ≡ day_text b → Born A B h (operated q)
    born_by q e = record {
      gives = λ R C top v m. rw (string_is (rw is-string at m), ← lies) (answers (day_text b) (ap operated e) (day_in_range b));
    }

    pub born : {t : ℤ} {r : Answered} → ok t ≡ day_text b → r ≡ operated (ok t) → Born A B h r
    born {t} e g = rw g (born_by (ok t) e)

    pub born_refused : (f : DateFault) {r : Answered} → refuse (fault_of f) ≡ day_text b → IsErrAnd r (λ e. e ≡ fault_of f) → Born A B h r
    born_refused f e g = rw (error_is g) (born_by (refuse (fault_of f)) e)

    -- The text's own instant, shifted.
    pub shifts : {amount : ℕ} {unit : TimeUnit} {t : ℤ} {r : Answered} → ok t ≡ date_text b → Moves t amount unit r → Shifts A B amount unit h r
    shifts {unit = unit} {t} e p = record {
      gives = λ R C top k v w i m.
          rw (string_is (rw is-string at m), ← lies, ← e)
          (answers (shift t k unit)
          (p.is k w i ∙ ap operated (own_in t k unit (date_in_range b t (sym e))))
          (shift_in_range t k unit));
    }

    pub shifts_refused : {amount : ℕ} {unit : TimeUnit} (f : DateFault) {r : Answered} → refuse (fault_of f) ≡ date_text b → IsErrAnd r (λ e. e ≡ fault_of f) → Shifts A B amount unit h r
    shifts_refused f e g = record {
      gives = λ R C top k v w i m. rw (string_is (rw is-string at m), ← lies, ← e) (answers (refuse (fault_of f)) (error_is g) (λ t x. clash cc));
    }
