-- Contents: the types of an array, collected from its first item on.
use mathlib.Core.Path.{◌≡◌, refl, sym, ap, ap₂, ◌∙◌}
use mathlib.Core.Bool.{Bool, true, false, ◌||◌, not, cond, or_assoc, or-false, or_comm}
use mathlib.Core.List.{[], ◌∷◌, ◌++◌, append-nil}
use Rattle.std.specs.Prelude.{Option, None, Some}
use Prim.Native.Nat.{suc, ◌-◌, ◌≤◌}
use native.Mathlib.Omega.{arith}
use borrow.Author.Tests.{ne_eqb}
use Rattle.model.specs.Bytes.{Bytes}
use Rattle.model.specs.Lists.{any}
use Rattle.model.specs.Option.{◌>>=◌, when}
use Rattle.model.specs.Sheet.{type_named, types_of, non_empty, content_types}
use Rattle.model.specs.Types.{Types, same_ty, ty_number, is_in}
use Rattle.model.specs.Value.{Value, scalar, instant, array, object, null, boolean, integer, string, Values, item, as_string}
use Rattle.model.specs.declared.Ty.{Ty}
use Rattle.model.proofs.Laws.Logic.{or_mix}
use Rattle.octets.specs.Laws.Fragment.{eqb_sym}
use Rattle.paths.specs.Laws.Loops.{no_item, some_item}
use Rattle.table.specs.declared.node.Node.{Node}
use Rattle.table.specs.declared.node.Node.TheVariants.{String, Array}
use Rattle.table.specs.declared.node.Rows.{Rows}
use Rattle.table.specs.declared.row.Span.{Span}
use Rattle.table.specs.Denotes.{Denotes, denotes_string, denotes_array}
use Rattle.table.specs.Laws.Denotes.{ArrayParts}
use Rattle.table.specs.Node.{node_at, next_row, tail_of}
use Rattle.table.specs.Strings.{bytes_of}
use Rattle.type_set.specs.declared.set.TypeSet.{TypeSet}
use Rattle.type_set.specs.Laws.Set.{same_set, set_of_types, types_of_set, is_in_append}
use Rattle.type_set.specs.Contract.{set_of, types_in}
use Rattle.sheet.specs.ByRows.{type_in, with_type, collect_in}
use Rattle.sheet.specs.Contract.{content_of, Contains}
use Rattle.sheet.specs.Inner.{NamesType, joined, Collects, ListsWords}
use Rattle.sheet.proofs.Nodes.{NoString, NoArray, no_string, no_array, names_no_type, lists_no_types}

-- ---- the type that an item names
pub string_names : {Z : Bytes} {s : Span} {r : Option Ty} → r ≡ type_named (bytes_of Z s) → NamesType Z (String s) r
string_names {Z} {s} {r} e = record { by_rows = e; is = λ S. go }
  where
    go : {S : Bytes} (v : Value) → Denotes S Z v (String s) → r ≡ (as_string v >>= type_named)
    go v (denotes_string l) = e ∙ ap type_named (sym l.is)

pub names_none : {Z : Bytes} (n : Node) → NoString n → NamesType Z n None
names_none {Z} n k = record { by_rows = names_no_type Z n k; is = λ S. go }
  where
    go : {S : Bytes} (v : Value) → Denotes S Z v n → None ≡ (as_string v >>= type_named)
    go (scalar null) d = refl
    go (scalar (boolean b)) d = refl
    go (scalar (integer z)) d = refl
    go (scalar (string s)) d = no_string k d
    go (instant t) d = refl
    go (array vs) d = refl
    go (object ms) d = refl

-- ---- one type more
abbrev more : TypeSet → Ty → TypeSet
more s a = set_of (types_in s ++ types_in (set_of (a ∷ [])))

in_more : (s : TypeSet) (a k : Ty) → is_in (types_in (more s a)) k ≡ (is_in (types_in s) k || same_ty k a)
in_more s a k =
    (types_of_set (types_in s ++ types_in (set_of (a ∷ [])))).is k
    ∙ is_in_append (types_in s) (types_in (set_of (a ∷ []))) k
    ∙ ap (λ (b : Bool). is_in (types_in s) k || b) ((types_of_set (a ∷ [])).is k ∙ or-false (same_ty k a))

any_more : (s : TypeSet) (a : Ty) (ts : Types) → any (is_in (types_in (more s a))) ts ≡ (is_in ts a || any (is_in (types_in s)) ts)
any_more s a [] = refl
any_more s a (k ∷ ts) =
    ap₂ ◌||◌ (in_more s a k ∙ or_comm (is_in (types_in s) k) (same_ty k a) ∙ ap (λ (b : Bool). b || is_in (types_in s) k) (eqb_sym (ty_number k) (ty_number a))) (any_more s a ts)
    ∙ or_mix (same_ty a k) (is_in (types_in s) k) (is_in ts a) (any (is_in (types_in s)) ts)

set_more : (s : TypeSet) (a : Ty) (ts : Types) → set_of (types_in (more s a) ++ ts) ≡ set_of (types_in s ++ a ∷ ts)
set_more s a ts =
    same_set (types_in (more s a) ++ ts) (types_in s ++ a ∷ ts)
    (record {
      is = λ k. is_in_append (types_in (more s a)) ts k
          ∙ ap (λ (b : Bool). b || is_in ts k) (in_more s a k)
          ∙ or_assoc (is_in (types_in s) k) (same_ty k a) (is_in ts k)
          ∙ sym (is_in_append (types_in s) (a ∷ ts) k);
    })

-- ---- the types of a set and of the items that follow
-- The types of a first item, if it names one, and of those that follow.
abbrev first_and : Option Ty → Option Types → Option Types
first_and o later = o >>= (λ a. later >>= (λ ts. when (not (is_in ts a)) (Some (a ∷ ts))))

repeated : (s : TypeSet) (a : Ty) (later : Option Types) → is_in (types_in s) a ≡ true → None ≡ joined s (first_and (Some a) later)
repeated s a None e = refl
repeated s a (Some ts) e = go (is_in ts a)
  where
    go : (b : Bool) → None ≡ joined s (when (not b) (Some (a ∷ ts)))
    go true = refl
    go false = rw e

distinct : (s : TypeSet) (a : Ty) (later : Option Types) → is_in (types_in s) a ≡ false → joined (more s a) later ≡ joined s (first_and (Some a) later)
distinct s a None e = refl
distinct s a (Some ts) e = go (is_in ts a) (any_more s a ts)
  where
    go : (b : Bool) → any (is_in (types_in (more s a))) ts ≡ (b || any (is_in (types_in s)) ts) → joined (more s a) (Some ts) ≡ joined s (when (not b) (Some (a ∷ ts)))
    go true f = rw f
    go false f = rw (f, e, set_more s a ts)

one_more : (s : TypeSet) (o : Option Ty) (later : Option Types) → (o >>= (λ k. with_type s k >>= (λ t. joined t later))) ≡ joined s (first_and o later)
one_more s None later = refl
one_more s (Some a) later = go (is_in (types_in s) a) refl
  where
    go : (b : Bool) → is_in (types_in s) a ≡ b → (cond b None (Some (more s a)) >>= (λ t. joined t later)) ≡ joined s (first_and (Some a) later)
    go true e = repeated s a later e
    go false e = distinct s a later e

-- ---- the loop over the items
bind_on : {A B C : Type 0} (o : Option A) (f : A → Option B) (g : B → Option C) → (o >>= f) >>= g ≡ o >>= (λ a. f a >>= g)
bind_on None f g = refl
bind_on (Some a) f g = refl

module _ (S Z : Bytes) (s : TypeSet) (q : Rows) where
  pub collect_end : q.count ≡ 0 → Collects S Z s q (Some s)
  collect_end e = record { by_rows = rw e; is = no_item (λ vs. Some s ≡ joined s (types_of vs)) e (ap Some (sym (set_of_types s) ∙ ap set_of (sym (append-nil (types_in s))))) }

  module _ (more_items : 1 ≤ q.count) {n : Node} {a : Option Ty} (is-node : n ≡ node_at S q.first) (is-type : NamesType Z n a) where
    -- By the first row and the others.
    by_first : (a >>= (λ k. with_type s k >>= (λ t. collect_in S Z t (next_row S q.first) (q.count - 1)))) ≡ collect_in S Z s q.first q.count
    by_first =
        let m : q.count ≡ suc (q.count - 1) = omega arith in
        ap (λ (x : Option Ty). x >>= (λ k. with_type s k >>= (λ t. collect_in S Z t (next_row S q.first) (q.count - 1)))) (is-type.by_rows ∙ ap (type_in Z) is-node)
        ∙ sym (ap (collect_in S Z s q.first) m)

    by_word : (v : Value) (vs : Values) → ArrayParts S Z v vs q → (a >>= (λ k. with_type s k >>= (λ t. joined t (types_of vs)))) ≡ joined s (types_of (item v vs))
    by_word v vs p =
        ap (λ (x : Option Ty). x >>= (λ k. with_type s k >>= (λ t. joined t (types_of vs)))) (is-type.is S v (rw is-node p.head))
        ∙ one_more s (as_string v >>= type_named) (types_of vs)
        ∙ ap (joined s) (bind_on (as_string v) type_named (λ k. first_and (Some k) (types_of vs)))

    pub no_word : a ≡ None → Collects S Z s q None
    no_word e = record { by_rows = rw e at by_first; is = some_item (λ vs. None ≡ joined s (types_of vs)) more_items (λ v vs p. rw e at (by_word v vs p)) }

    module _ {k : Ty} (named : a ≡ Some k) {o : Option TypeSet} (with_word : o ≡ with_type s k) where
      pub word_again : o ≡ None → Collects S Z s q None
      word_again e = record { by_rows = rw (named, ← with_word, e) at by_first; is = some_item (λ vs. None ≡ joined s (types_of vs)) more_items (λ v vs p. rw (named, ← with_word, e) at (by_word v vs p)) }

      pub collect_on : {t : Rows} (next : TypeSet) → o ≡ Some next → t ≡ tail_of S q → (r : Option TypeSet) → Collects S Z next t r → Collects S Z s q r
      collect_on next e f r x = record { by_rows = rw f at x.by_rows ∙ rw (named, ← with_word, e) at by_first; is = some_item (λ vs. r ≡ joined s (types_of vs)) more_items (λ v vs p. x.is vs (rw f p.rest) ∙ rw (named, ← with_word, e) at (by_word v vs p)) }

-- ---- none, or some
none_in : (ts : Types) → any (is_in []) ts ≡ false
none_in [] = refl
none_in (k ∷ ts) = none_in ts

joined_none : (o : Option Types) → joined (set_of []) o ≡ content_of o
joined_none None = refl
joined_none (Some ts) = rw (none_in ts)

some_types : (v : Value) (vs : Values) → (types_of (item v vs) >>= non_empty) ≡ types_of (item v vs)
some_types v vs = go (as_string v)
  where
    last : (a : Ty) (ts : Types) (b : Bool) → (when b (Some (a ∷ ts)) >>= non_empty) ≡ when b (Some (a ∷ ts))
    last a ts true = refl
    last a ts false = refl

    then : (o : Option Ty) (later : Option Types) → (first_and o later >>= non_empty) ≡ first_and o later
    then None later = refl
    then (Some a) None = refl
    then (Some a) (Some ts) = last a ts (not (is_in ts a))

    go : (o : Option Bytes) → ((o >>= (λ t. first_and (type_named t) (types_of vs))) >>= non_empty) ≡ (o >>= (λ t. first_and (type_named t) (types_of vs)))
    go None = refl
    go (Some t) = then (type_named t) (types_of vs)

module _ {S Z : Bytes} {q : Rows} where
  pub no_words : q.count ≡ 0 → ListsWords S Z q None
  no_words e = record { by_rows = rw e; is = no_item (λ vs. None ≡ content_of (content_types (array vs))) e refl }

  pub some_words : {r : Option TypeSet} → 1 ≤ q.count → Collects S Z (set_of []) q r → ListsWords S Z q r
  some_words {r} l x = record { by_rows = rw (ne_eqb q.count 0 (λ e. omega arith)) x.by_rows; is = λ vs d. some_item (λ vs. r ≡ joined (set_of []) (types_of vs) → r ≡ content_of (content_types (array vs))) l go vs d (x.is vs d) }
    where
      go : (v : Value) (vs : Values) → ArrayParts S Z v vs q → r ≡ joined (set_of []) (types_of (item v vs)) → r ≡ content_of (content_types (array (item v vs)))
      go v vs p e = e ∙ joined_none (types_of (item v vs)) ∙ ap content_of (sym (some_types v vs))

  pub words_content : {r : Option TypeSet} → ListsWords S Z q r → Contains S Z (Array q) r
  words_content {r} x = record { by_rows = x.by_rows; is = go }
    where
      go : (v : Value) → Denotes S Z v (Array q) → r ≡ content_of (content_types v)
      go v (denotes_array {vs = vs} c m d) = x.is vs (denotes_array c m d)

-- Only an array lists types.
pub no_content : {S Z : Bytes} (n : Node) → NoArray n → Contains S Z n None
no_content {S} {Z} n k = record { by_rows = lists_no_types S Z n k; is = go }
  where
    go : (v : Value) → Denotes S Z v n → None ≡ content_of (content_types v)
    go (scalar x) d = refl
    go (instant t) d = refl
    go (array vs) d = no_array k d
    go (object ms) d = refl
