-- Reading: a text read into its areas, and judged.
use mathlib.Core.Bool.{Bool, true, false, cond}
use Rattle.std.specs.Prelude.{Option, None, Some, Result, Ok, Err, ⊤}
use mathlib.Core.Path.{◌≡◌, refl, sym, ap, ◌∙◌}
use Prim.Native.Nat.{ℕ}
use Rattle.json_reader.specs.Contract.{RowsRead, answer_of}
use Rattle.json_reader.specs.declared.NotRead.{NotRead}
use Rattle.model.specs.Bytes.{Bytes}
use Rattle.model.specs.Judgement.{Judged, done, refuses, or_refuse, rule_in, sheet_in}
use Rattle.model.proofs.Laws.Logic.{clash}
use Rattle.model.specs.Option.{is_some}
use Rattle.model.specs.declared.refusal.Refusal.{Refusal}
use Rattle.model.specs.declared.refusal.Refusal.TheVariants.{InvalidArgument, NotRule, NotSheet, Reading as ofReading}
use Rattle.model.specs.Rule.{Rule}
use Rattle.model.specs.Shape.{shape}
use Rattle.model.specs.Sheet.{Sheet, sheet_of}
use Rattle.model.specs.Value.{Value}
use Rattle.syntax.specs.Entry.{too_short}
use Rattle.syntax.specs.Layout.{table_of, strings_area_of}
use Rattle.syntax.specs.Read as readings
use Rattle.syntax.specs.Read.{Read, read}
use Rattle.shape.specs.Contract.{Checks}
use Rattle.sheet.specs.Contract.{ChecksSheet}
use Rattle.table.specs.WasRead.{WasRead}
use Rattle.table.specs.Laws.Standing.{was_read_denotes}
use Rattle.table.specs.Laws.WasRead.{SameRows, was_read_same}
use Rattle.pipeline.specs.declared.text.Stop.{Stop}
use Rattle.pipeline.specs.Areas.{TextAreas, text_areas, is_short, zeroed, holding, left_by, tidied, HoldsIndexed, HoldsMarked}
use Rattle.pipeline.specs.Contract.{stop, result_of, stop_of, lent, left_in, tidied_in, Reads, ReadsRule, ReadsSheet}
use Rattle.pipeline.specs.Inner.{told_of}
use Rattle.pipeline.specs.Laws.Stages.{text_held, read_held, left_holding}
use Rattle.pipeline.specs.Laws.LongAreas.{Long, lent_long, left_long, tidied_long, lent_passed, ReadsLong, text_long}
use Rattle.pipeline.specs.Laws.Tidied.{tidied_same, tidied_holding, tidied_zeroed}
use Rattle.pipeline.specs.Stage.{Stage, passed, refused, as_read, read_as, rule_text, sheet_text}
use Rattle.pipeline.specs.Texts.{TextRead, text_stage, rule_stage, sheet_stage}

-- ---- areas that are too short, or not
module _ {X : Type 0} (a : TextAreas) (which : ℕ) (x : Stage X) {r : Result ⊤ Stop} (is : r ≡ stop_of (lent a which x)) where
  -- What is not refused has areas that are long enough.
  pub ok_long : r ≡ Ok tt → Long a
  ok_long e = go (is_short a) refl
    where
      go : (b : Bool) → is_short a ≡ b → Long a
      go false f = record { long = f }
      go true f = let q : r ≡ Err (stop InvalidArgument which 0) = is ∙ rw f in clash cc

  -- Refusal 1 of a stage is that of a stage that comes after it.
  pub onward : {Y : Type 0} (y : Stage Y) → (r ≡ stop_of x → r ≡ stop_of y) → r ≡ stop_of (lent a which y)
  onward y k = go (is_short a) refl
    where
      go : (b : Bool) → is_short a ≡ b → r ≡ stop_of (lent a which y)
      go false f = k (is ∙ rw f) ∙ rw f
      go true f = is ∙ rw f

-- ---- one text
told_is : (which : ℕ) (b : Bool) (g : Read) → told_of which (answer_of b g) ≡ stop_of (cond b (refused InvalidArgument which 0) (as_read which g))
told_is which true g = refl
told_is which false (readings.done v) = refl
told_is which false (readings.refuse k p) = refl

pub text_read : (which : ℕ) {s T A T' A' : Bytes} {x : Result ℕ NotRead} {r : Result ⊤ Stop} → RowsRead s T A x T' A' → r ≡ told_of which x → Reads which s (text_areas T A) r (text_areas T' A')
text_read which {s} {T} {A} {T'} {A'} {x} {r} h e = record {
  stop = e ∙ ap (told_of which) h.answer ∙ told_is which (too_short T A) (read s);
  areas = by_size (too_short T A) refl;
  holds = λ v f.
      let l = lent_passed (text_areas T A) which (read_as which s) v f in
      let g = read_held which s v l.is in
      record { was_read = h.was_read v l.long.long g; indexed = h.indexed v l.long.long g };
}
  where
    by_text : (g : Read) → too_short T A ≡ false → read s ≡ g → tidied (text_areas T' A') ≡ left_by s (text_areas T A)
    by_text (readings.done v) f g =
        let same : holding v (text_areas T' A') ≡ holding v (text_areas T A) = λ i. text_areas (table_of v (h.sizes.0 i)) (strings_area_of v (h.sizes.1 i)) in
        tidied_holding (h.was_read v f g) ∙ same ∙ sym (left_holding s v (text_areas T A) g)
    by_text (readings.refuse k p) f g =
        let z = h.refused k p f g in
        let left : left_by s (text_areas T A) ≡ zeroed (text_areas T A) = rw g in
        (λ i. tidied (text_areas (z.0 i) (z.1 i))) ∙ tidied_zeroed (text_areas T A) ∙ sym left

    by_size : (b : Bool) → too_short T A ≡ b → tidied_in (text_areas T A) (text_areas T' A') ≡ left_in s (text_areas T A)
    by_size true f = let z = h.untouched f in rw f (λ i. text_areas (z.0 i) (z.1 i))
    by_size false f = rw f (by_text (read s) f refl)

-- ---- a text and what it has to be, with areas that are long enough
module _ {X : Type 0} (which : ℕ) (judge : Value → Judged X) (s : Bytes) {r : Result ⊤ Stop} (h : r ≡ stop_of (read_as which s)) where
  -- It does not read.
  pub unread : {q : Stop} → r ≡ Err q → r ≡ stop_of (text_stage which judge s)
  unread {q} e = go (read s) refl
    where
      go : (g : Read) → read s ≡ g → r ≡ stop_of (text_stage which judge s)
      go (readings.done v) f = let g : r ≡ Ok tt = h ∙ rw f in clash cc
      go (readings.refuse k p) f = h ∙ rw f

  -- It reads.
  pub record ReadsAs : Type 0 where
    pub value : Value
    pub reads : read s ≡ readings.done value

  pub reads_as : r ≡ Ok tt → ReadsAs
  reads_as e = go (read s) refl
    where
      go : (g : Read) → read s ≡ g → ReadsAs
      go (readings.done v) f = record { value = v; reads = f }
      go (readings.refuse k p) f = let q : r ≡ Err (stop (ofReading k) which p) = h ∙ rw f in clash cc

  -- And is not, or is, what it has to be.
  pub refused_as : (v : Value) (e : Refusal) → read s ≡ readings.done v → judge v ≡ refuses e → Err (stop e 0 0) ≡ stop_of (text_stage which judge s)
  refused_as v e f g = rw (f, g)

  pub passed_as : (v : Value) (x : X) → read s ≡ readings.done v → judge v ≡ done x → r ≡ stop_of (text_stage which judge s)
  passed_as v x f g = h ∙ rw (f, g)

-- By a test of whether the value is one.
module _ {X : Type 0} (e : Refusal) (o : Option X) where
  pub none_refused : is_some o ≡ false → or_refuse e o ≡ refuses e
  none_refused f = go o f
    where
      go : (p : Option X) → is_some p ≡ false → or_refuse e p ≡ refuses e
      go None g = refl
      go (Some x) g = clash cc

  pub record Is : Type 0 where
    pub content : X
    pub is : or_refuse e o ≡ done content

  pub some_done : is_some o ≡ true → Is
  some_done f = go o refl f
    where
      go : (p : Option X) → o ≡ p → is_some p ≡ true → Is
      go None k g = clash cc
      go (Some x) k g = record { content = x; is = ap (or_refuse e) k }

module _ {X : Type 0} (which : ℕ) (e : Refusal) (f : Value → Option X) (s : Bytes) {r : Result ⊤ Stop} (h : r ≡ stop_of (read_as which s)) (is_ok : r ≡ Ok tt) (b : Bool)
    (tested : (v : Value) → read s ≡ readings.done v → b ≡ is_some (f v)) where
  abbrev judge : Value → Judged X
  judge v = or_refuse e (f v)

  pub tested_not : b ≡ false → Err (stop e 0 0) ≡ stop_of (text_stage which judge s)
  tested_not g =
      let w = reads_as which judge s h is_ok in
      refused_as which judge s h w.value e w.reads (none_refused e (f w.value) (sym (tested w.value w.reads) ∙ g))

  pub tested_is : b ≡ true → r ≡ stop_of (text_stage which judge s)
  tested_is g =
      let w = reads_as which judge s h is_ok in
      let y = some_done e (f w.value) (sym (tested w.value w.reads) ∙ g) in
      passed_as which judge s h w.value y.content w.reads y.is

-- A stage with a refusal is not passed.
pub not_passed : {A B : Type 0} (f : A → B) {x : Stage A} {y : A} {q : Stop} {r : Result B Stop} → r ≡ result_of f x → r ≡ Err q → x ≡ passed y → ⊥
not_passed f {y = y} {r = r} is n e = let g : r ≡ Ok (f y) = is ∙ ap (result_of f) e in clash cc

-- ---- a rule
module _ {s T A T' A' : Bytes} {r : Result ⊤ Stop} (h : Reads rule_text s (text_areas T A) r (text_areas T' A')) where
  pub rule_unread : {q : Stop} {r' : Result ⊤ Stop} → r ≡ Err q → r' ≡ Err q → ReadsRule s (text_areas T A) r' (text_areas T' A')
  rule_unread {r' = r'} n n' = record { stop = stop_is; areas = h.areas; holds = λ x e. absurd (not_passed _ stop_is n' e) }
    where
      stop_is : r' ≡ stop_of (lent (text_areas T A) rule_text (rule_stage s))
      stop_is = n' ∙ sym n ∙ onward (text_areas T A) rule_text (read_as rule_text s) h.stop (rule_stage s) (λ k. unread rule_text rule_in s k n)

  module _ (is_ok : r ≡ Ok tt) (b : Bool) {T'' : Bytes} (c : Checks T' A' b T'') where
    rule_areas_long : Long (text_areas T A)
    rule_areas_long = ok_long (text_areas T A) rule_text (read_as rule_text s) h.stop is_ok

    rule_read : ReadsLong HoldsIndexed (read_as rule_text s) s (text_areas T A) r (text_areas T' A')
    rule_read = text_long rule_areas_long h

    value_read : (v : Value) → read s ≡ readings.done v → WasRead T' A' v
    value_read v e = (rule_read.holds v (ap (as_read rule_text) e)).was_read

    is_tested : (v : Value) → read s ≡ readings.done v → b ≡ is_some (shape v)
    is_tested v e = c.is v (value_read v e)

    -- The marks lie behind the rows.
    same_rows : SameRows T'' T'
    same_rows = record { rows = c.rows; size = c.size }

    rule_left : tidied_in (text_areas T A) (text_areas T'' A') ≡ left_in s (text_areas T A)
    rule_left = tidied_long (text_areas T'' A') rule_areas_long ∙ tidied_same A' same_rows ∙ rule_read.areas ∙ sym (left_long s rule_areas_long)

    rule_stop : {x : Result ⊤ Stop} → x ≡ stop_of (rule_stage s) → x ≡ stop_of (lent (text_areas T A) rule_text (rule_stage s))
    rule_stop e = e ∙ sym (ap stop_of (lent_long rule_text (rule_stage s) rule_areas_long))

    pub no_rule : {x : Stop} → b ≡ false → x ≡ stop NotRule 0 0 → ReadsRule s (text_areas T A) (Err x) (text_areas T'' A')
    no_rule {x} e f = record { stop = stop_is; areas = rule_left; holds = λ y g. absurd (not_passed _ stop_is refl g) }
      where
        stop_is : Err x ≡ stop_of (lent (text_areas T A) rule_text (rule_stage s))
        stop_is = rule_stop (ap Err f ∙ tested_not rule_text NotRule shape s rule_read.stop is_ok b is_tested e)

    pub a_rule : b ≡ true → ReadsRule s (text_areas T A) (Ok tt) (text_areas T'' A')
    a_rule e = record { stop = rule_stop (sym is_ok ∙ tested_is rule_text NotRule shape s rule_read.stop is_ok b is_tested e); areas = rule_left; holds = held }
      where
        held : (x : TextRead Rule) → lent (text_areas T A) rule_text (rule_stage s) ≡ passed x → HoldsMarked x.value (text_areas T'' A')
        held x f =
            let l = lent_passed (text_areas T A) rule_text (rule_stage s) x f in
            let w = value_read x.value (text_held rule_text rule_in s x l.is).reads in
            record { was_read = was_read_same w same_rows; marked = c.marked x.value w e }

-- ---- a sheet
module _ {s T A T' A' : Bytes} {r : Result ⊤ Stop} (h : Reads sheet_text s (text_areas T A) r (text_areas T' A')) where
  pub sheet_unread : {q : Stop} {r' : Result ⊤ Stop} → r ≡ Err q → r' ≡ Err q → ReadsSheet s (text_areas T A) r' (text_areas T' A')
  sheet_unread {r' = r'} n n' = record { stop = stop_is; areas = h.areas; holds = λ x e. absurd (not_passed _ stop_is n' e) }
    where
      stop_is : r' ≡ stop_of (lent (text_areas T A) sheet_text (sheet_stage s))
      stop_is = n' ∙ sym n ∙ onward (text_areas T A) sheet_text (read_as sheet_text s) h.stop (sheet_stage s) (λ k. unread sheet_text sheet_in s k n)

  module _ (is_ok : r ≡ Ok tt) (b : Bool) (c : ChecksSheet T' A' b) where
    sheet_areas_long : Long (text_areas T A)
    sheet_areas_long = ok_long (text_areas T A) sheet_text (read_as sheet_text s) h.stop is_ok

    sheet_read : ReadsLong HoldsIndexed (read_as sheet_text s) s (text_areas T A) r (text_areas T' A')
    sheet_read = text_long sheet_areas_long h

    sheet_value : (v : Value) → read s ≡ readings.done v → HoldsIndexed v (text_areas T' A')
    sheet_value v e = sheet_read.holds v (ap (as_read sheet_text) e)

    sheet_tested : (v : Value) → read s ≡ readings.done v → b ≡ is_some (sheet_of v)
    sheet_tested v e = c.is v (was_read_denotes (sheet_value v e).was_read)

    sheet_stop : {x : Result ⊤ Stop} → x ≡ stop_of (sheet_stage s) → x ≡ stop_of (lent (text_areas T A) sheet_text (sheet_stage s))
    sheet_stop e = e ∙ sym (ap stop_of (lent_long sheet_text (sheet_stage s) sheet_areas_long))

    pub no_sheet : {x : Stop} → b ≡ false → x ≡ stop NotSheet 0 0 → ReadsSheet s (text_areas T A) (Err x) (text_areas T' A')
    no_sheet {x} e f = record { stop = stop_is; areas = h.areas; holds = λ y g. absurd (not_passed _ stop_is refl g) }
      where
        stop_is : Err x ≡ stop_of (lent (text_areas T A) sheet_text (sheet_stage s))
        stop_is = sheet_stop (ap Err f ∙ tested_not sheet_text NotSheet sheet_of s sheet_read.stop is_ok b sheet_tested e)

    pub a_sheet : b ≡ true → ReadsSheet s (text_areas T A) (Ok tt) (text_areas T' A')
    a_sheet e = record { stop = sheet_stop (sym is_ok ∙ tested_is sheet_text NotSheet sheet_of s sheet_read.stop is_ok b sheet_tested e); areas = h.areas; holds = held }
      where
        held : (x : TextRead Sheet) → lent (text_areas T A) sheet_text (sheet_stage s) ≡ passed x → HoldsIndexed x.value (text_areas T' A')
        held x f =
            let l = lent_passed (text_areas T A) sheet_text (sheet_stage s) x f in
            sheet_value x.value (text_held sheet_text sheet_in s x l.is).reads
