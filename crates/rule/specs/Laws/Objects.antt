-- Objects: an object of one member is seen as it is shaped; any other is no rule.
use Rattle.std.specs.Prelude.{◌≡◌, Bool, true, false, ℕ, eqb}
use Rattle.std.proofs.Math.Path.{refl, ap}
use Rattle.std.proofs.Common.{sym, ◌∙◌, arith}
use Rattle.std.specs.Prelude.{Option, None, Some}
use borrow.Author.Tests.{eqb-true, eq-eqb}
use Rattle.model.specs.Bytes.{Bytes}
use Rattle.model.proofs.Laws.Logic.{clash}
use Rattle.model.specs.Option.{◌>>=◌, when}
use Rattle.model.specs.Path.{path_of}
use Rattle.model.specs.Rule.{Rule}
use Rattle.model.specs.Shape.{keyword_named, content_of, build, other, shape}
use Rattle.model.specs.Value.{Value, scalar, string, object, Members, no_members, member}
use Rattle.keywords.specs.declared.Keyword.{Keyword}
use Rattle.keywords.specs.declared.Keyword.TheVariants as Keywords
use Rattle.keywords.specs.Contract.{keyword_of, keyword_for}
use Rattle.keywords.specs.Laws.Keyword.{keyword_for_lem, keyword_named_lem}
use Rattle.table.specs.declared.node.Node.{Node}
use Rattle.table.specs.declared.node.Node.TheVariants.{Object}
use Rattle.table.specs.declared.node.Rows.{Rows}
use Rattle.table.specs.declared.row.Span.{Span}
use Rattle.table.specs.Denotes.{Denotes, denotes_null, denotes_false, denotes_true, denotes_integer, denotes_string, denotes_array, denotes_object, row_member}
use Rattle.table.specs.Node.{node_at}
use Rattle.table.specs.Strings.{bytes_of}
use Rattle.rule.specs.declared.view.View.{View}
use Rattle.rule.specs.View.{single_of, path_on, content_on, member_on, object_on}
use Rattle.rule.specs.Contract.{Shaped, shaped_none, shaped_var}
use Rattle.rule.specs.Laws.Chains.{bind_none}
use Rattle.rule.specs.Laws.Operands.{of, keyword_shape, operands_views_lem}

-- ---- an operation by its content
other_views : {T B : Bytes} (k : Keyword) (name : Bytes) (v : Value) → keyword_of (Some k) ≡ keyword_named name → content_of v ≡ other → Shaped T B (of name v) None
other_views k name v e f = shaped_none (keyword_shape name v e ∙ ap (λ c. keyword_of (Some k) >>= build c) f ∙ bind_none (keyword_of (Some k)))

module _ {T B : Bytes} where
  path_views : (p : Span) {s : Bytes} (k : Keyword) (name : Bytes) → keyword_of (Some k) ≡ keyword_named name → s ≡ bytes_of B p → Shaped T B (of name (scalar (string s))) (path_on k p)
  unfolding content_of
  path_views p {s} Keywords.Var name e l = shaped_var {p = p} refl (keyword_shape name (scalar (string s)) e ∙ ap (λ (x : Bytes). path_of x >>= λ q. Some (Rule.var q)) l)
  path_views p {s} Keywords.If name e l = shaped_none (keyword_shape name (scalar (string s)) e)
  path_views p {s} Keywords.Reduce name e l = shaped_none (keyword_shape name (scalar (string s)) e)
  path_views p {s} Keywords.And name e l = shaped_none (keyword_shape name (scalar (string s)) e)
  path_views p {s} Keywords.PlusTime name e l = shaped_none (keyword_shape name (scalar (string s)) e)
  path_views p {s} Keywords.ExtractFromUvci name e l = shaped_none (keyword_shape name (scalar (string s)) e)
  path_views p {s} (Keywords.Counted least most op) name e l = shaped_none (keyword_shape name (scalar (string s)) e)

  content_views : {v : Value} {h : Node} (k : Keyword) (name : Bytes) → keyword_of (Some k) ≡ keyword_named name → Denotes T B v h → Shaped T B (of name v) (content_on T B k h)
  unfolding content_of
  content_views k name e denotes_null = other_views k name _ e refl
  content_views k name e denotes_false = other_views k name _ e refl
  content_views k name e denotes_true = other_views k name _ e refl
  content_views k name e (denotes_integer w f) = other_views k name _ e refl
  content_views k name e (denotes_string {p = p} l) = path_views p k name e l.is
  content_views k name e (denotes_array f g r) = operands_views_lem k name e (denotes_array f g r)
  content_views k name e (denotes_object f g r) = other_views k name _ e refl

  -- By the keyword that a name is, or by none.
  keyed_views : {v : Value} {h : Node} (k : Option Keyword) (name : Bytes) → keyword_of k ≡ keyword_named name → Denotes T B v h → Shaped T B (of name v) (k >>= λ k. content_on T B k h)
  keyed_views {v} None name e m = shaped_none (keyword_shape name v e)
  keyed_views (Some k) name e m = content_views k name e m

-- ---- the single member
one_member : (count : ℕ) (m : Span × Node) {n : Span × Node} → when (eqb count 1) (Some m) ≡ Some n → count ≡ 1
one_member count m {n} e = go (eqb count 1) refl e
  where
    go : (t : Bool) → eqb count 1 ≡ t → when t (Some m) ≡ Some n → count ≡ 1
    go true f e = eqb-true count 1 f
    go false f e = clash cc

member_inj : {m n : Span × Node} → Some m ≡ Some n → m ≡ n
member_inj e = cc

module _ {T B : Bytes} {q : Rows} where
  -- No single member.
  none_single : (ms : Members) → single_of T q ≡ None → Denotes T B (object ms) (Object q) → shape (object ms) ≡ None
  unfolding shape
  none_single no_members e d = refl
  none_single (member n v no_members) e (denotes_object c b r) = let x = eq-eqb q.count 1 c in clash cc
  none_single (member n v (member n₂ v₂ ms)) e d = refl

  single_views : {m : Span × Node} {r : Option View} (ms : Members) (k : Option Keyword) → single_of T q ≡ Some m → keyword_of k ≡ keyword_named (bytes_of B m.0)
      → r ≡ (k >>= λ k. content_on T B k m.1) → Denotes T B (object ms) (Object q) → Shaped T B (object ms) r
  single_views no_members k e g w (denotes_object c b r) = absurd (omega (arith, one_member q.count _ e))
  single_views {m = m} (member n v no_members) k e g w (denotes_object c b (row_member l t x d r)) =
      let y = eq-eqb q.count 1 c in
      let z = member_inj (rw y at e) in
      let name : n ≡ bytes_of B m.0 = x ∙ ap (λ (p : Span × Node). bytes_of B p.0) z in
      let content : node_at T q.first ≡ m.1 = ap (λ (p : Span × Node). p.1) z in
      rw (w, ← content) (keyed_views k n (g ∙ ap keyword_named (sym name)) d)
  single_views (member n v (member n₂ v₂ ms)) k e g w (denotes_object c b r) = absurd (omega (arith, one_member q.count _ e))

  -- An object is seen as it is shaped.
  pub object_views : {ms : Members} → Denotes T B (object ms) (Object q) → Shaped T B (object ms) (object_on T B q)
  object_views {ms} d = go (single_of T q) refl
    where
      go : (s : Option (Span × Node)) → single_of T q ≡ s → Shaped T B (object ms) (member_on T B s)
      go None e = shaped_none (none_single ms e d)
      go (Some m) e = single_views ms (keyword_for (keyword_named (bytes_of B m.0))) e (keyword_named_lem (bytes_of B m.0)) refl d

-- ---- what `operation` gives
pub not_single : (T B : Bytes) (q : Rows) {s : Option (Span × Node)} → s ≡ single_of T q → s ≡ None → None ≡ object_on T B q
not_single T B q g e = ap (member_on T B) (sym e ∙ g)

pub single : (T B : Bytes) (q : Rows) {m : Span × Node} {s : Option (Span × Node)} {r : Option View} (k : Option Keyword) → s ≡ single_of T q → s ≡ Some m → keyword_of k ≡ keyword_named (bytes_of B m.0)
    → r ≡ (k >>= λ k. content_on T B k m.1) → r ≡ object_on T B q
single T B q {m = m} k g e w x =
    x ∙ ap (λ (j : Option Keyword). j >>= λ k. content_on T B k m.1) (sym (keyword_for_lem k) ∙ ap keyword_for w) ∙ ap (member_on T B) (sym e ∙ g)
