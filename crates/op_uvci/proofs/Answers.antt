-- Answers: the fragment that an index names, and the answer from where it lies.
use Rattle.std.specs.Prelude.{Ok, Err}
use mathlib.Core.Path.{◌≡◌, refl, sym, ap, ◌∙◌}
use mathlib.Core.List.{[], ◌∷◌}
use Prim.Native.Nat.{ℕ, zero, suc, ◌+◌, ◌-◌, ◌≤◌, ◌<◌}
use native.Mathlib.Omega.{arith}
use borrow.Author.Tests.{le-leb, lt-leb}
use lib.IntN.{ℤ}
use lib.ListN.{length, take, drop, length-take, length-drop}
use lib.Seq.{length-take-le, take-take, drop-drop}
use mir.Syntax.{w64}
use mir.Val.{Fits}
use Rattle.model.specs.Bytes.{Bytes}
use Rattle.model.specs.Operations.{extract_from_uvci, nth_string}
use Rattle.model.specs.declared.refusal.Fault.TheVariants.{WrongKind}
use Rattle.model.specs.Result.{ok, refuse}
use Rattle.model.specs.Value.{Value, scalar, null, string}
use Rattle.model.proofs.Laws.Logic.{clash}
use Rattle.syntax.specs.Layout.{unbiased}
use Rattle.heap.specs.declared.handle.Area.{Area}
use Rattle.heap.specs.declared.handle.Area.TheVariants.{Rule, Record}
use Rattle.heap.specs.declared.handle.Handle.{Handle}
use Rattle.heap.specs.declared.handle.Handle.TheVariants.{Null, String}
use Rattle.heap.specs.declared.handle.Span.{Span}
use Rattle.heap.specs.Handles.{span}
use Rattle.table.specs.Denotes.{Lies}
use Rattle.heap.specs.Means.{Means, means_null, means_false, means_true, means_integer, means_instant, means_string, means_items, means_members, means_list, means_context}
use Rattle.table.specs.Strings.{part}
use Rattle.heap.specs.Strings.{area_bytes, span_bytes}
use Rattle.heap.specs.Unfold.{Areas}
use Rattle.syntax.proofs.Laws.Biased.{unbiased_biased}
use Rattle.op_result.specs.Contract.{Answered, Gives, gives_value, gives_fault}
use Rattle.std.specs.Prelude.{Option, None, Some}
use Rattle.table.specs.declared.row.Span.{Span as Part}
use Rattle.op_uvci.specs.Inner.{At, fragments_from, numbered, named, Finds, finds_none, finds_part}
use Rattle.op_uvci.specs.Contract.{Extracts}

-- ---- the index
pub below_zero : {s : Bytes} {index : ℕ} → index < 9007199254740992 → Finds s (named s index) None
unfolding unbiased
below_zero {s} {index} h = rw (unbiased, lt-leb 9007199254740992 index h) (finds_none refl)

pub from_zero : {s : Bytes} {index : ℕ} {r : Option Part} (from : ℕ) → 9007199254740992 ≤ index → fragments_from s from ≡ numbered s
    → Finds s (nth_string (fragments_from s from) (index - 9007199254740992)) r → Finds s (named s index) r
unfolding unbiased
from_zero {s} {index} from h e f = rw (unbiased, le-leb 9007199254740992 index h, ← e) f

-- ---- a part of a part
inside_take : (from n size : ℕ) (l : Bytes) → from + n ≤ size → take n (drop from (take size l)) ≡ take n (drop from l)
inside_take zero n size l h = take-take n size l (omega arith)
inside_take (suc from) n zero l h = absurd (omega arith)
inside_take (suc from) n (suc size) [] h = refl
inside_take (suc from) n (suc size) (x ∷ l) h = inside_take from n size l (omega arith)

lies_part : {A s : Bytes} {start size : ℕ} (from n : ℕ) → Lies A start size s → from + n ≤ length s → Lies A (start + from) n (part s from n)
lies_part {A} {s} {start} {size} from n l h =
    let e : length s ≡ size = ap length l.is ∙ length-take-le size (drop start A) (omega (arith, length-drop start A, l.inside)) in
    record {
      is = ap (λ (x : Bytes). part x from n) l.is ∙ (inside_take from n size (drop start A) (omega arith) ∙ ap (take n) (drop-drop from start A));
      inside = omega (arith, l.inside);
      short = omega (arith, l.short);
    }

-- ---- a string
-- The answer, by where its fragment lies.
abbrev fragment_handle : Span → Option Part → Answered
fragment_handle s None = Ok Null
fragment_handle s (Some p) = Ok (String (span s.area (s.start + p.start) p.size))

abbrev start_of : Option Part → ℕ
start_of None = 0
start_of (Some p) = p.start

abbrev size_of : Option Part → ℕ
size_of None = 0
size_of (Some p) = p.size

found_inside : {s : Bytes} {v : Value} {r : Option Part} {start size : ℕ} → Finds s v r → r ≡ At start size → start + size ≤ length s
found_inside (finds_none e) f = clash cc
found_inside {s} {start = start} {size = size} (finds_part {start = i} {size = n} e h) f =
    let p : start ≡ i = ap start_of (sym f ∙ e) in
    let q : size ≡ n = ap size_of (sym f ∙ e) in
    omega arith

-- The place of a fragment in the area.
pub place_fits : {s : Bytes} {v : Value} {r : Option Part} {start size : ℕ} (A B : Bytes) (x : Span) → Fits w64 (length A) → Fits w64 (length B) → Fits w64 x.start
    → s ≡ span_bytes A B x → Finds s v r → r ≡ At start size → Fits w64 (x.start + start)
place_fits {start = start} {size = size} A B x a b k e f g = go x.area x.start x.size start size (rw e at (found_inside f g)) k
  where
    go : (area : Area) (i n start size : ℕ) → start + size ≤ length (part (area_bytes A B area) i n) → Fits w64 i → Fits w64 (i + start)
    go Rule i n start size h l = omega (arith, length-take n (drop i A), length-drop i A)
    go Record i n start size h l = omega (arith, length-take n (drop i B), length-drop i B)

string_is : {a : Areas} {top : ℕ} {v : Value} {s : Span} → Means a top v (String s) → v ≡ scalar (string (span_bytes a.rule a.strings s))
string_is (means_string l) = ap (λ (x : Bytes). scalar (string x)) l.is

string_lies : {a : Areas} {top : ℕ} {s : Span} → Means a top (scalar (string (span_bytes a.rule a.strings s))) (String s) → Lies (area_bytes a.rule a.strings s.area) s.start s.size (span_bytes a.rule a.strings s)
string_lies (means_string l) = l

found : {a : Areas} {top : ℕ} {v : Value} {r : Answered} (s : Span) (q : Option Part)
    → Lies (area_bytes a.rule a.strings s.area) s.start s.size (span_bytes a.rule a.strings s)
    → Finds (span_bytes a.rule a.strings s) v q
    → r ≡ fragment_handle s q
    → Gives a top (ok v) r
found s q l (finds_none e) f = gives_value (f ∙ ap (fragment_handle s) e) means_null
found s q l (finds_part {start = start} {size = n} e h) f = gives_value (f ∙ ap (fragment_handle s) e) (means_string (lies_part start n l h))

-- ---- null and other kinds
null_is : {a : Areas} {top : ℕ} {v : Value} → Means a top v Null → v ≡ scalar null
null_is means_null = refl

-- The handle is neither null's nor a string's.
record Other (h : Handle) : Type 0 where
  no_null : h ≡ Null → ⊥
  no_string : (s : Span) → h ≡ String s → ⊥

other_is : {a : Areas} {top : ℕ} {v : Value} {h : Handle} (k : ℤ) → Means a top v h → Other h → extract_from_uvci k v ≡ refuse WrongKind
other_is k means_null o = absurd (o.no_null refl)
other_is k means_false o = refl
other_is k means_true o = refl
other_is k (means_integer w e) o = refl
other_is k (means_instant w e) o = refl
other_is k (means_string l) o = absurd (o.no_string _ refl)
other_is k (means_items e f r) o = refl
other_is k (means_members e f r) o = refl
other_is k (means_list e b r) o = refl
other_is k (means_context b i m n) o = refl

-- ---- all of them
module _ {A B : Bytes} {index : ℕ} where
  -- p is what was found in the text of the string s.
  pub extracts_part : {text : Bytes} {p q : Option Part} {r : Answered} (s : Span) → text ≡ span_bytes A B s → Finds text (named text index) p → p ≡ q → r ≡ fragment_handle s q
      → Extracts A B index (String s) r
  extracts_part {q = q} s e f g h = record {
    gives = λ R C top k v w i m.
        let n : unbiased index ≡ k = ap unbiased i ∙ unbiased_biased k w in
        let l = string_lies (rw (string_is m) at m) in
        rw (string_is m) (found s q l (rw (e, n, g) at f) h);
  }

  module _ {h : Handle} where
    pub extracts_string : {s : Span} {r : Answered} → h ≡ String s → Extracts A B index (String s) r → Extracts A B index h r
    extracts_string e x = rw e x

    pub extracts_null : h ≡ Null → Extracts A B index h (Ok Null)
    extracts_null e = record { gives = λ R C top k v w i m. rw (null_is (rw e at m)) (gives_value refl means_null) }

    pub extracts_other : (h ≡ Null → ⊥) → ((s : Span) → h ≡ String s → ⊥) → Extracts A B index h (Err WrongKind)
    extracts_other n s = record { gives = λ R C top k v w i m. rw (other_is k m (record { no_null = n; no_string = s })) (gives_fault refl) }
