-- Mark: the view of an object is what its mark and its content tell.
use Rattle.std.proofs.Common.{ap}
use Rattle.std.specs.Prelude.{◌≡◌, refl, Bool, true, false, cond, ℕ, eqb, ltb}
use Rattle.std.specs.Prelude.{Option, None, Some}
use Rattle.model.specs.Bytes.{Bytes}
use Rattle.model.proofs.Laws.Option.{All}
use Rattle.model.specs.Option.{◌>>=◌, when}
use Rattle.model.specs.Rule.{Operation}
use Rattle.model.specs.Shape.{Keyword as ModelKeyword, var, if, reduce, and, plus_time, extract_from_uvci, counted, keyword_named}
use Rattle.model.specs.declared.Comparison.TheVariants.{Greater, Less, GreaterOrEqual, LessOrEqual}
use Rattle.model.specs.declared.Domain.TheVariants.{OnIntegers, OnInstants}
use Rattle.model.specs.declared.TimeUnit.{TimeUnit}
use Rattle.model.specs.declared.TimeUnit.TheVariants.{Year, Month, Day, Hour}
use Rattle.keywords.specs.Contract.{op_for, keyword_for}
use Rattle.table.specs.declared.node.Node.{Node}
use Rattle.table.specs.declared.node.Node.TheVariants.{Null, False, True, Integer, String, Array, Object}
use Rattle.table.specs.declared.node.Rows.{Rows}
use Rattle.table.specs.declared.row.Span.{Span}
use Rattle.table.specs.Node.{node_at, next_row, name_at}
use Rattle.table.specs.Strings.{bytes_of}
use Rattle.rule.specs.declared.view.View.{View}
use Rattle.rule.specs.declared.view.View.TheVariants.{If, And, Reduce, Apply}
use Rattle.rule.specs.View.{counted_on, integer_of, unit_at, plus_time_by, extract_by, path_on, operands_on, content_on, member_on, object_on, view_of}
use Rattle.rule.specs.Mark.{shape_mark, marked_view}
use Rattle.rule.specs.Laws.Chains.{bind_none}
use Rattle.rule.specs.Laws.Table.{Allowed, Listed, listed}

-- Where the content is h, the view of a shape is that of its mark.
abbrev Told : Bytes → Node → Option View → Type 0
Told R h s = view_of s ≡ marked_view R (shape_mark s) h

module _ (R B : Bytes) where
  told_none : (h : Node) → Told R h None
  told_none Null = refl
  told_none False = refl
  told_none True = refl
  told_none (Integer n) = refl
  told_none (String s) = refl
  told_none (Array q) = refl
  told_none (Object q) = refl

  told_cond : (b : Bool) (h : Node) (s : Option View) → Told R h s → Told R h (cond b None s)
  told_cond true h s t = told_none h
  told_cond false h s t = t

  told_exact : (b : Bool) (h : Node) (s : Option View) → Told R h s → Told R h (when b s)
  told_exact true h s t = t
  told_exact false h s t = told_none h

  module _ (q : Rows) where
    told_counted : (least most : ℕ) (w : View) → Told R (Array q) (Some w) → Told R (Array q) (counted_on least most w q)
    told_counted least most w t = told_cond (ltb q.count least) (Array q) _ (told_cond (ltb most q.count) (Array q) (Some w) t)

    told_extract : (o : Option ℕ) → integer_of (node_at R (next_row R q.first)) ≡ o → Told R (Array q) (extract_by o q)
    told_extract None e = told_none (Array q)
    told_extract (Some n) e = rw e

    told_plus_time : (o : Option ℕ) (u : Option TimeUnit) → integer_of (node_at R (next_row R q.first)) ≡ o → Told R (Array q) (plus_time_by o u q)
    told_plus_time None u e = told_none (Array q)
    told_plus_time (Some n) None e = told_none (Array q)
    told_plus_time (Some n) (Some Year) e = rw e
    told_plus_time (Some n) (Some Month) e = rw e
    told_plus_time (Some n) (Some Day) e = rw e
    told_plus_time (Some n) (Some Hour) e = rw e

    -- An operation of 01's table.
    told_apply : (least most : ℕ) (o : Operation) → Allowed least most o → Told R (Array q) (Some (Apply (op_for o) q))
    told_apply least most Operation.array a = absurd a
    told_apply least most Operation.equal a = refl
    told_apply least most Operation.member_of a = refl
    told_apply least most Operation.plus a = refl
    told_apply least most Operation.not a = refl
    told_apply least most Operation.date_of_birth a = refl
    told_apply least most (Operation.compare OnIntegers Greater) a = refl
    told_apply least most (Operation.compare OnIntegers Less) a = refl
    told_apply least most (Operation.compare OnIntegers GreaterOrEqual) a = refl
    told_apply least most (Operation.compare OnIntegers LessOrEqual) a = refl
    told_apply least most (Operation.compare OnInstants Greater) a = refl
    told_apply least most (Operation.compare OnInstants Less) a = refl
    told_apply least most (Operation.compare OnInstants GreaterOrEqual) a = refl
    told_apply least most (Operation.compare OnInstants LessOrEqual) a = refl
    told_apply least most (Operation.plus_time z u) a = absurd a
    told_apply least most (Operation.extract_from_uvci z) a = absurd a

    told_operands : (o : Option ModelKeyword) → All Listed o → Told R (Array q) (keyword_for o >>= λ k. operands_on R B k q)
    told_operands None a = told_none (Array q)
    told_operands (Some var) a = told_none (Array q)
    told_operands (Some if) a = told_counted 3 3 (If q) refl
    told_operands (Some reduce) a = told_counted 3 3 (Reduce q) refl
    told_operands (Some and) a = told_cond (ltb q.count 2) (Array q) (Some (And q)) refl
    told_operands (Some plus_time) a =
        told_exact (eqb q.count 3) (Array q) _ (told_plus_time (integer_of (node_at R (next_row R q.first))) (unit_at B (node_at R (next_row R (next_row R q.first)))) refl)
    told_operands (Some extract_from_uvci) a = told_exact (eqb q.count 2) (Array q) _ (told_extract (integer_of (node_at R (next_row R q.first))) refl)
    told_operands (Some (counted least most o)) a = told_counted least most (Apply (op_for o) q) (told_apply least most o a)

  told_path : (s : Span) (o : Option ModelKeyword) → Told R (String s) (keyword_for o >>= λ k. path_on k s)
  told_path s None = refl
  told_path s (Some var) = refl
  told_path s (Some if) = refl
  told_path s (Some reduce) = refl
  told_path s (Some and) = refl
  told_path s (Some plus_time) = refl
  told_path s (Some extract_from_uvci) = refl
  told_path s (Some (counted least most o)) = refl

  told_content : (h : Node) (o : Option ModelKeyword) → All Listed o → Told R h (keyword_for o >>= λ k. content_on R B k h)
  told_content Null o a = ap view_of (bind_none (keyword_for o))
  told_content False o a = ap view_of (bind_none (keyword_for o))
  told_content True o a = ap view_of (bind_none (keyword_for o))
  told_content (Integer n) o a = ap view_of (bind_none (keyword_for o))
  told_content (String s) o a = told_path s o
  told_content (Array q) o a = told_operands q o a
  told_content (Object q) o a = ap view_of (bind_none (keyword_for o))

  pub object_told : (q : Rows) → view_of (object_on R B q) ≡ marked_view R (shape_mark (object_on R B q)) (node_at R q.first)
  object_told q = go (eqb q.count 1)
    where
      go : (b : Bool) → Told R (node_at R q.first) (member_on R B (when b (Some (name_at R q.first, node_at R q.first))))
      go true = let name = bytes_of B (name_at R q.first) in told_content (node_at R q.first) (keyword_named name) (listed name)
      go false = told_none (node_at R q.first)
