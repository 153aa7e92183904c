-- Answers: what evaluation gives, on texts that read, is well formed.
use Rattle.std.specs.Prelude.{◌≡◌, refl, Bool, true, false, ◌||◌, not, cond, List, [], ◌∷◌, ◌++◌, ℕ, ◌≤◌, ◌<◌, T, ltb, eqb}
use Rattle.std.proofs.Common.{sym, subst, arith, eqb→eq}
use Rattle.std.specs.Prelude.{Some}
use Rattle.model.specs.Bytes.{Bytes, cons_head, split_on}
use Rattle.model.specs.Eval.{current, accumulator, run, value, outcome}
use Rattle.model.proofs.Laws.Bounds.{answer_bounded}
use Rattle.model.proofs.Laws.Kept.{Each, each_of, Kept, answer_kept}
use Rattle.model.proofs.Laws.Logic.{and_l, and_r, and_i, or_e, true→t}
use Rattle.model.specs.Operations.{is_uvci_separator}
use Rattle.model.specs.Rule.{Rule}
use Rattle.model.specs.Shape.{shape}
use Rattle.model.specs.Value.{Value, scalar, string}
use Rattle.syntax.specs.Read.{among}
use Rattle.syntax.specs.Utf8.{utf8, WellFormed, nothing, character}
use Rattle.syntax.specs.WellFormed.{AllStrings, are_bytes, names, distinct_names, WellFormedValue, WellFormedAnswer}
use Rattle.syntax.proofs.Laws.Tokens.{branch}
use Rattle.syntax.proofs.Laws.Utf8.{utf8_1, ascii_well_formed, well_formed_bytes}
use Rattle.syntax.proofs.Laws.WellFormed.{strings_map}

-- ---- fragments
-- Q holds of the first fragment, P of the others. There is a first one: where none is, it is the empty one.
abbrev First : (Bytes → Type 0) → (Bytes → Type 0) → List Bytes → Type 0
First Q P [] = Q []
First Q P (f ∷ l) = Q f × Each P l

first-cons : (Q P : Bytes → Type 0) (x : ℕ) (l : List Bytes) → First (λ f. Q (x ∷ f)) P l → First Q P (cons_head x l)
first-cons Q P x [] h = (h, tt)
first-cons Q P x (f ∷ l) h = h

first-each : (P : Bytes → Type 0) (l : List Bytes) → First P P l → Each P l
first-each P [] h = tt
first-each P (f ∷ l) h = h

each_first : (Q P : Bytes → Type 0) (l : List Bytes) → Q [] → ((f : Bytes) → P f → Q f) → Each P l → First Q P l
each_first Q P [] z k h = z
each_first Q P (f ∷ l) z k h = (k f h.0, h.1)

not-cond : {A : Type 0} (P : A → Type 0) (b : Bool) (x y : A) → (T b → ⊥) → P y → P (cond b x y)
not-cond P true x y n h = absurd (n tt)
not-cond P false x y n h = h

module _ (separator : ℕ → Bool) (in_ascii : (x : ℕ) → T (separator x) → x < 0x80) where
  -- None of the bytes is a separator.
  abbrev Whole : Bytes → Type 0
  Whole s = Each (λ x. T (separator x) → ⊥) s

  -- Bytes without a separator stand in the first fragment.
  in-first : (Q P : Bytes → Type 0) (t s : Bytes) → Whole t → First (λ f. Q (t ++ f)) P (split_on separator s) → First Q P (split_on separator (t ++ s))
  in-first Q P [] s h k = k
  in-first Q P (x ∷ t) s h k = not-cond (First Q P) (separator x) _ _ h.0 (first-cons Q P x (split_on separator (t ++ s)) (in-first (λ f. Q (x ∷ f)) P t s h.1 k))

  -- No byte from 80 on is a separator.
  high : (x : ℕ) → 0x80 ≤ x → T (separator x) → ⊥
  high x h k = let l = in_ascii x k in omega arith

  -- The bytes of a character of several bytes are from 80 on.
  character-whole : (u : ℕ) → (T (separator u) → ⊥) → Whole (utf8 u)
  unfolding utf8
  character-whole u h =
      branch Whole (ltb u 0x80) _ _ (λ k. (h, tt))
      (branch Whole (ltb u 0x800) _ _ (λ k. (high _ (omega arith), (high _ (omega arith), tt)))
      (branch Whole (ltb u 0x10000) _ _ (λ k. (high _ (omega arith), (high _ (omega arith), (high _ (omega arith), tt))))
      (high _ (omega arith), (high _ (omega arith), (high _ (omega arith), (high _ (omega arith), tt))))))

  -- The fragments of well-formed UTF-8 between separators in ASCII are well-formed UTF-8.
  fragments-well-formed : (s : Bytes) → WellFormed s → Each WellFormed (split_on separator s)
  fragments-well-formed s nothing = (nothing, tt)
  fragments-well-formed s (character u {s = t} below no_surrogate h) = go (separator u) refl (fragments-well-formed t h)
    where
      go : (b : Bool) → separator u ≡ b → Each WellFormed (split_on separator t) → Each WellFormed (split_on separator (utf8 u ++ t))
      go true e k =
          subst (λ c. Each WellFormed (split_on separator (c ++ t))) (sym (utf8_1 u (in_ascii u (true→t _ e))))
          (subst (λ b. Each WellFormed (cond b ([] ∷ split_on separator t) (cons_head u (split_on separator t)))) (sym e) (nothing, k))
      go false e k =
          first-each WellFormed (split_on separator (utf8 u ++ t)) (in-first WellFormed WellFormed (utf8 u) t (character-whole u (subst T e))
          (each_first (λ f. WellFormed (utf8 u ++ f)) WellFormed (split_on separator t) (character u below no_surrogate nothing) (λ f. character u below no_surrogate) k))

uvci-ascii : (x : ℕ) → T (is_uvci_separator x) → x < 0x80
uvci-ascii x =
    or_e (eqb x 0x2F || eqb x 0x23) (eqb x 0x3A)
    (or_e (eqb x 0x2F) (eqb x 0x23) (λ h. let e = eqb→eq x 0x2F h in omega arith) (λ h. let e = eqb→eq x 0x23 h in omega arith))
    (λ h. let e = eqb→eq x 0x3A h in omega arith)

-- ---- strings and names
utf8-kept : Kept (AllStrings WellFormed)
unfolding AllStrings
utf8-kept = record {
  inherited = record { by_items = λ v vs h. h; by_members = λ name v ms h. (h.1, h.2) };
  of_null = tt;
  of_boolean = λ b. tt;
  of_integer = λ z h. tt;
  of_instant = λ t h. tt;
  of_no_items = tt;
  of_item = λ v vs h k. (h, k);
  of_context = λ cur acc h k. (ascii_well_formed current tt, h, (ascii_well_formed accumulator tt, k, tt));
  of_fragments = fragments-well-formed is_uvci_separator uvci-ascii;
}

-- The lambda's context has two names that differ.
names-kept : Kept (λ v. T (distinct_names v))
unfolding distinct_names among
names-kept = record {
  inherited = record {
    by_items = λ v vs h. (and_l (distinct_names v) _ h, and_r (distinct_names v) _ h);
    by_members = λ name v ms h.
        let k = and_r (not (among name (names ms))) _ h in
        (and_l (distinct_names v) _ k, and_r (distinct_names v) _ k);
  };
  of_null = tt;
  of_boolean = λ b. tt;
  of_integer = λ z h. tt;
  of_instant = λ t h. tt;
  of_no_items = tt;
  of_item = λ v vs h k. and_i (distinct_names v) _ h k;
  of_context = λ cur acc h k. and_i (distinct_names cur) _ h (and_i (distinct_names acc) _ k tt);
  of_fragments = λ s h. each_of (λ f. T (distinct_names (scalar (string f)))) (λ f. tt) (split_on is_uvci_separator s);
}

-- ---- answers
pub answer_well_formed : (rule c : Value) (r : Rule) (n : ℕ) (v : Value) → WellFormedValue rule → WellFormedValue c → shape rule ≡ Some r → outcome (run r c n) ≡ value v → WellFormedAnswer v
answer_well_formed rule c r n v h k is-rule ends =
    let strings = answer_kept (AllStrings WellFormed) utf8-kept rule c r n v is-rule h.formed.utf8_strings k.formed.utf8_strings ends in
    record {
      utf8_strings = strings;
      byte_strings = strings_map WellFormed (λ s. T (are_bytes s)) well_formed_bytes v strings;
      distinct_names_lem = answer_kept (λ w. T (distinct_names w)) names-kept rule c r n v is-rule h.formed.distinct_names_lem k.formed.distinct_names_lem ends;
      within_limits_lem = answer_bounded rule c r n v is-rule h.formed.within_limits_lem k.formed.within_limits_lem ends;
    }
