-- Found: the kind check finds at least one type for every rule, under any sheet that is one. (What a lambda finds does not count: "the initial's words
-- are the result".)
use Rattle.std.specs.Prelude.{◌≡◌, Bool, true, false, cond, List, [], ◌∷◌, ◌++◌, leb}
use Rattle.std.proofs.Common.{subst}
use Rattle.std.specs.Prelude.{Option, None, Some}
use Rattle.model.specs.DateText.{is_date, is_day}
use Rattle.model.specs.Limits.{max_sheet_members}
use Rattle.model.specs.Lists.{find}
use Rattle.model.specs.Option.{◌>>=◌, or_else}
use Rattle.model.specs.Path.{Path, same_path}
use Rattle.model.specs.Rule.{Literal, Operation, Rule, literal, var, if, and, reduce, apply}
use Rattle.model.specs.Sheet.{Sheet, non_empty, types_of, content_types, entry_path, entries_of, sheet_of}
use Rattle.model.specs.TypeCheck.{outside, literal_types, every_operand, given, types_for, types_for_all, accepts, check}
use Rattle.model.specs.Types.{Types, any_of_record}
use Rattle.model.specs.Value.{Value, scalar, instant, array, object, Members, no_members, member, as_array, member_count}
use Rattle.model.specs.declared.Ty.TheVariants as Ty
use Rattle.model.proofs.Laws.Option.{none_some, when_some, All, all_some, all_then}

-- ---- lists that have an element
abbrev HasElement : {A : Type 0} → List A → Type 0
HasElement [] = ⊥
HasElement (a ∷ l) = Unit {0}

some_append : {A : Type 0} (l m : List A) → HasElement l → HasElement (l ++ m)
some_append [] m h = absurd h
some_append (a ∷ l) m h = tt

some_cond : {A : Type 0} (b : Bool) (l m : List A) → HasElement l → HasElement m → HasElement (cond b l m)
some_cond true l m h k = h
some_cond false l m h k = k

not_empty : {A : Type 0} (l : List A) → HasElement l → ¬ (l ≡ [])
not_empty l h e = subst HasElement e h

-- ---- sheets: "each content a non-empty array of distinct words"
non_empty_some : {A : Type 0} (l : List A) → All HasElement (non_empty l)
non_empty_some [] = tt
non_empty_some (a ∷ l) = tt

content_some : (v : Value) → All HasElement (content_types v)
content_some v = all_then HasElement (as_array v) _ (λ vs. all_then HasElement (types_of vs) _ (λ ts. non_empty_some ts))

-- What a sheet has for a path.
abbrev Lists : Sheet → Type 0
Lists s = (f : Path → Bool) → All HasElement (find f s)

entries_some : (ms : Members) → All Lists (entries_of ms)
entries_some no_members = λ f. tt
entries_some (member name v ms) = go (entry_path name) (content_types v) (content_some v) (entries_of ms) (entries_some ms)
  where
    listed : (q : Path) (ts : Types) (s : Sheet) → HasElement ts → Lists s → Lists ((q, ts) ∷ s)
    listed q ts s h k f = here (f q) (k f)
      where
        here : (b : Bool) → All HasElement (find f s) → All HasElement (cond b (Some ts) (find f s))
        here true l = h
        here false l = l

    go : (p : Option Path) (o : Option Types) → All HasElement o → (e : Option Sheet) → All Lists e → All Lists (p >>= λ q. o >>= λ ts. e >>= λ entries. Some ((q, ts) ∷ entries))
    go None o h e k = tt
    go (Some q) None h e k = tt
    go (Some q) (Some ts) h None k = tt
    go (Some q) (Some ts) h (Some s) k = listed q ts s h k

sheet_some : (v : Value) (s : Sheet) → sheet_of v ≡ Some s → Lists s
unfolding sheet_of
sheet_some (scalar x) s e = none_some e
sheet_some (instant t) s e = none_some e
sheet_some (array vs) s e = none_some e
sheet_some (object ms) s e = all_some Lists (entries_some ms) (when_some (leb (member_count ms) max_sheet_members) (entries_of ms) e).1

-- ---- rules
literal_some : (l : Literal) → HasElement (literal_types l)
literal_some (Literal.boolean b) = tt
literal_some (Literal.integer z) = tt
literal_some (Literal.string s) = some_cond (is_day s) _ _ tt (some_cond (is_date s) _ _ tt tt)

given_some : (o : Operation) (l : List Types) → HasElement (given o l)
given_some Operation.array l = some_cond (every_operand (Ty.Integer ∷ []) l) _ _ tt (some_cond (every_operand (Ty.String ∷ []) l) (Ty.Strings ∷ []) (Ty.Array ∷ []) tt tt)
given_some Operation.equal l = tt
given_some Operation.member_of l = tt
given_some Operation.plus l = tt
given_some Operation.not l = tt
given_some Operation.date_of_birth l = tt
given_some (Operation.compare d c) l = tt
given_some (Operation.plus_time amount unit) l = tt
given_some (Operation.extract_from_uvci k) l = tt

or_some : (o : Option Types) → All HasElement o → HasElement (or_else o any_of_record)
or_some None h = tt
or_some (Some ts) h = h

types_some : (s : Sheet) → Lists s → (r : Rule) → HasElement (types_for r (outside s))
unfolding types_for
types_some s h (literal l) = literal_some l
types_some s h (var q) = or_some (find (same_path q) s) (h (same_path q))
types_some s h (if guard second third) = some_append (types_for second (outside s)) _ (types_some s h second)
types_some s h (and r rs) = some_append (types_for r (outside s)) _ (types_some s h r)
types_some s h (reduce r lambda initial) = types_some s h initial
types_some s h (apply o rs) = given_some o (types_for_all rs (outside s))

pub found_some : (sheet : Value) (r : Rule) (s : Sheet) (ts : Types) → sheet_of sheet ≡ Some s → check r s ≡ Some ts → ¬ (ts ≡ [])
found_some sheet r s ts e c = not_empty ts (all_some HasElement {o = Some (types_for r (outside s))} (types_some s (sheet_some sheet s e) r) (when_some (accepts r (outside s)) _ c).1)
