-- OnePlace: in a text that reads, a value stands at one place: however the text is derived, the bytes before it, its own and those after it
-- are the same.
use Rattle.std.specs.Prelude.{◌≡◌, refl, false, ℕ, zero, suc, ◌*◌, ◌≤◌, T, length}
use Rattle.std.proofs.Common.{sym, subst, subst₂, ap, ◌∙◌, arith}
use mathlib.Core.List.{List, [], ◌∷◌, ◌++◌, tail-eq_of_cons-eq, head-eq_of_cons-eq, append_cancel_right, append_assoc}
use Rattle.std.specs.Prelude.{Option, None, Some}
use Rattle.std.proofs.lemmas.Option.{same_Some}
use Rattle.model.specs.Bytes.{Bytes}
use Rattle.model.proofs.Laws.Option.{none_some, All, all_bind}
use Rattle.model.specs.Limits.{max_values, max_nesting}
use Rattle.model.specs.Option.{◌>>=◌}
use Rattle.model.specs.Size.{value_count, items_count, members_count, nesting, items_nesting, members_nesting}
use Rattle.model.specs.Value.{Value, scalar, array, object, string, Values, item, Members, no_members, member}
use Rattle.model.proofs.Laws.Logic.{clash}
use Rattle.model.proofs.Laws.Widths.{two_values}
use Rattle.syntax.specs.Faults.{Fault, faults_value, faults}
use Rattle.syntax.specs.Grammar.{Ws, no_ws, ws, Chars, JValue, jtrue, jfalse, jnull, jnumber, jstring, jempty_array, jarray, jempty_object, jobject, JElements, last_element, element, JMembers, last_member, jmember, JText, jtext, spell_ws, spell_value, spell_elements, spell_members, spell, map, chars_meaning, fresh, seen_with, member_of, value_meaning, elements_meaning, members_meaning, meaning}
use Rattle.syntax.specs.Locate.{Positions, child_at, Site, behind, inside, element_at, spell_name, member_at, child_site, value_site, site, StandsAt}
use Rattle.syntax.specs.Read.{Parsed, ok, bad, value, done, read, is_part}
use Rattle.syntax.specs.Tokens.{within, is_white, is_digit, is_point, is_e}
use Rattle.syntax.proofs.Laws.Derivations.{ws_append, value_append, members_append}
use Rattle.syntax.proofs.Laws.Faults.{first_value, not_white, value_meets}
use Rattle.syntax.proofs.Laws.Meaning.{map_some, map₂_some, member_some, fresh_some}
use Rattle.syntax.proofs.Laws.FaultScalars.{Meets, NotWhite, Stops, stops_ws}
use Rattle.syntax.proofs.Laws.Locate.{elements_split, children_part, in_text}
use Rattle.syntax.proofs.Laws.Complete.{faultless, unambiguous}
use Rattle.syntax.proofs.Laws.Sound.{sound}
use Rattle.syntax.proofs.Laws.Substitution.{child_within, part_within}

-- ---- within the limits
abbrev Fits : Value → Type 0
Fits v = (value_count v ≤ max_values) × (nesting v ≤ max_nesting)

abbrev FitItems : Values → Type 0
FitItems vs = (items_count vs ≤ max_values) × (items_nesting vs ≤ max_nesting)

abbrev FitMembers : Members → Type 0
FitMembers ms = (members_count ms ≤ max_values) × (members_nesting ms ≤ max_nesting)

-- ---- white space
-- Where what follows does not begin with white space, all of it is taken.
ws_once : (w u : Ws) (y z : Bytes) → NotWhite y → NotWhite z → spell_ws w y ≡ spell_ws u z → y ≡ z
unfolding spell_ws
ws_once no_ws no_ws y z h k e = e
ws_once no_ws (ws b i u) y z h k e = absurd (subst T (subst NotWhite e h) i)
ws_once (ws b i w) no_ws y z h k e = absurd (subst T (subst NotWhite (sym e) k) i)
ws_once (ws b i w) (ws c j u) y z h k e = ws_once w u y z h k (tail-eq_of_cons-eq e)

-- Two runs of it around a byte.
parted : (b : ℕ) (w u w' u' : Ws) (y z : Bytes) → is_white b ≡ false → NotWhite y → NotWhite z → spell_ws w (b ∷ spell_ws u y) ≡ spell_ws w' (b ∷ spell_ws u' z) → y ≡ z
parted b w u w' u' y z i h k e = ws_once u u' y z h k (tail-eq_of_cons-eq (ws_once w w' (b ∷ spell_ws u y) (b ∷ spell_ws u' z) i i e))

value_not_white : (d : JValue) (y : Bytes) → NotWhite (spell_value d y)
value_not_white d y = not_white (first_value d y)

elements_not_white : (es : JElements) (y : Bytes) → NotWhite (spell_elements es y)
unfolding spell_elements
elements_not_white (last_element d w) y = value_not_white d _
elements_not_white (element d w u es) y = value_not_white d _

members_not_white : (ms : JMembers) (y : Bytes) → NotWhite (spell_members ms y)
unfolding spell_members is_white
members_not_white (last_member n w u d x) y = refl
members_not_white (jmember n w u d x z ms) y = refl

-- What follows a value or a name, white space and then a comma, a closing bracket or a colon, ends a number.
stops_comma : (w : Ws) (y : Bytes) → Stops (spell_ws w (0x2C ∷ y))
unfolding is_digit within is_part is_point is_e
stops_comma w y = stops_ws w (0x2C ∷ y) (refl, refl)

stops_bracket : (w : Ws) (y : Bytes) → Stops (spell_ws w (0x5D ∷ y))
unfolding is_digit within is_part is_point is_e
stops_bracket w y = stops_ws w (0x5D ∷ y) (refl, refl)

stops_brace : (w : Ws) (y : Bytes) → Stops (spell_ws w (0x7D ∷ y))
unfolding is_digit within is_part is_point is_e
stops_brace w y = stops_ws w (0x7D ∷ y) (refl, refl)

stops_colon : (w : Ws) (y : Bytes) → Stops (spell_ws w (0x3A ∷ y))
unfolding is_digit within is_part is_point is_e
stops_colon w y = stops_ws w (0x3A ∷ y) (refl, refl)

comma_not_white : is_white 0x2C ≡ false
unfolding is_white
comma_not_white = refl

colon_not_white : is_white 0x3A ≡ false
unfolding is_white
colon_not_white = refl

-- ---- the bytes from a site on
abbrev rest : Site → Bytes → Bytes
rest s y = spell_value s.value (s.after ++ y)

-- Two sites from which on the bytes are the same.
abbrev Once : Bytes → Bytes → Option Site → Option Site → Type 0
Once y z None None = Unit {0}
Once y z None (Some t) = Unit {0}
Once y z (Some s) None = Unit {0}
Once y z (Some s) (Some t) = rest s y ≡ rest t z

once_none : (y z : Bytes) (o : Option Site) → Once y z o None
once_none y z None = tt
once_none y z (Some s) = tt

none_once : (y z : Bytes) (o : Option Site) → Once y z None o
none_once y z None = tt
none_once y z (Some s) = tt

behind_once : (y z a b : Bytes) (o p : Option Site) → Once y z o p → Once y z (o >>= λ s. Some (behind a s)) (p >>= λ s. Some (behind b s))
behind_once y z a b None None h = tt
behind_once y z a b None (Some t) h = tt
behind_once y z a b (Some s) None h = tt
behind_once y z a b (Some s) (Some t) h = h

first_once : (y z m n : Bytes) (o p : Option Site) → All (λ s. m ≡ rest s y) o → All (λ t. n ≡ rest t z) p → m ≡ n → Once y z o p
first_once y z m n None None h k e = tt
first_once y z m n None (Some t) h k e = tt
first_once y z m n (Some s) None h k e = tt
first_once y z m n (Some s) (Some t) h k e = sym h ∙ e ∙ k

-- The first element is what the elements begin with.
first_element : (es : JElements) (y : Bytes) → All (λ s. spell_elements es y ≡ rest s y) (element_at es 0)
unfolding element_at
first_element (last_element v w) y = elements_split (last_element v w) 0 y
first_element (element v w u es) y = elements_split (element v w u es) 0 y

-- The first member as its name, its content and what follows that.
record First (ms : JMembers) (y : Bytes) : Type 0 where
  name : Chars
  before_colon : Ws
  after_colon : Ws
  content : JValue
  more : Bytes
  is : spell_members ms y ≡ spell_name name before_colon after_colon (spell_value content more)
  there : All (λ s. spell_value content more ≡ rest s y) (member_at ms 0)
  means : (seen : List Bytes) (us : Members) → members_meaning ms seen ≡ Some us → (m : Bytes) × (chars_meaning name None ≡ Some m)

name_means : (seen : List Bytes) (o : Option Bytes) (p : Option Value) (r : Option Members) {us : Members} → member_of (fresh seen o) p r ≡ Some us → (m : Bytes) × (o ≡ Some m)
name_means seen o p r e = let (m, v, rs, i, j, k, l) = member_some (fresh seen o) p r e in (m, (fresh_some seen o m i).0)

first_member : (ms : JMembers) (y : Bytes) → First ms y
unfolding spell_members member_at members_meaning
first_member (last_member n w u v x) y = record {
  name = n;
  before_colon = w;
  after_colon = u;
  content = v;
  more = spell_ws x (0x7D ∷ y);
  is = refl;
  there = ap (spell_value v) (ws_append x (0x7D ∷ []) y);
  means = λ seen us e. name_means seen (chars_meaning n None) (value_meaning v) (Some no_members) e;
}
first_member (jmember n w u v x z ms) y = record {
  name = n;
  before_colon = w;
  after_colon = u;
  content = v;
  more = spell_ws x (0x2C ∷ spell_ws z (spell_members ms y));
  is = refl;
  there = ap (spell_value v) (ap (λ t. spell_ws x (0x2C ∷ t)) (ap (spell_ws z) (members_append ms [] y) ∙ ws_append z (spell_members ms []) y) ∙ ws_append x (0x2C ∷ spell_ws z (spell_members ms [])) y);
  means = λ seen us e. name_means seen (chars_meaning n None) (value_meaning v) (members_meaning ms (seen_with seen (chars_meaning n None))) e;
}

-- ---- what follows a site ends a number
abbrev Ends : Site → Type 0
Ends s = (y : Bytes) → Stops y → Stops (s.after ++ y)

elements_end : (es : JElements) (k : ℕ) → All Ends (element_at es k)
unfolding element_at
elements_end (last_element v w) zero = λ y h. subst Stops (ws_append w (0x5D ∷ []) y) (stops_bracket w y)
elements_end (last_element v w) (suc k) = tt
elements_end (element v w u es) zero = λ y h. subst Stops (ws_append w (0x2C ∷ spell_ws u (spell_elements es [])) y) (stops_comma w _)
elements_end (element v w u es) (suc k) = all_bind Ends Ends (element_at es k) _ (elements_end es k) (λ s h. h)

members_end : (ms : JMembers) (k : ℕ) → All Ends (member_at ms k)
unfolding member_at
members_end (last_member n w u v x) zero = λ y h. subst Stops (ws_append x (0x7D ∷ []) y) (stops_brace x y)
members_end (last_member n w u v x) (suc k) = tt
members_end (jmember n w u v x z ms) zero = λ y h. subst Stops (ws_append x (0x2C ∷ spell_ws z (spell_members ms [])) y) (stops_comma x _)
members_end (jmember n w u v x z ms) (suc k) = all_bind Ends Ends (member_at ms k) _ (members_end ms k) (λ s h. h)

children_end : (d : JValue) (k : ℕ) → All Ends (child_site d k)
unfolding child_site
children_end jtrue k = tt
children_end jfalse k = tt
children_end jnull k = tt
children_end (jnumber negative i fr ex) k = tt
children_end (jstring cs) k = tt
children_end (jempty_array w) k = tt
children_end (jarray w es) k = all_bind Ends Ends (element_at es k) _ (elements_end es k) (λ s h. h)
children_end (jempty_object w) k = tt
children_end (jobject w ms) k = all_bind Ends Ends (member_at ms k) _ (members_end ms k) (λ s h. h)

parts_end : (q : Positions) (d : JValue) → All Ends (value_site q d)
unfolding value_site
parts_end [] d = λ y h. h
parts_end (k ∷ q) d =
    all_bind Ends Ends (child_site d k) _ (children_end d k) λ s h.
    all_bind Ends Ends (value_site q s.value) _ (parts_end q s.value) λ t g.
    λ y i. subst Stops (sym (append_assoc t.after s.after y)) (g (s.after ++ y) (h y i))

-- ---- one value
-- A parser ends where the value ends.
parsed : (d : JValue) (v : Value) (y : Bytes) (f : ℕ) → value_meaning d ≡ Some v → Fits v → Stops y → 2 * length (spell_value d y) ≤ f → (a : Value) × (q : ℕ) × (value (suc f) 0 0 (spell_value d y) 0 ≡ ok a y q)
unfolding faults meaning spell_ws
parsed d v y f e h s l = go (value (suc f) 0 0 (spell_value d y) 0) (value_meets d f 0 0 (length (spell_value d y)) y 0 l s (omega arith))
  where
    go : (r : Parsed Value) → Meets (faults_value d 0 0 0) (value_meaning d) y (length (spell_value d y)) r → (a : Value) × (q : ℕ) × (r ≡ ok a y q)
    go (ok a u q) m = (a, q, ap (λ t. ok a t q) m.2)
    go (bad k p) m = absurd (nil_cons (sym (faultless (jtext no_ws d no_ws) v e h.0 h.1) ∙ m.1.1))
      where
        nil_cons : {x : Fault} {l : List Fault} → [] ≡ x ∷ l → ⊥
        nil_cons i = clash cc

abbrev rest_of : Parsed Value → Bytes
rest_of (ok a t q) = t
rest_of (bad k p) = []

-- So two derivations of the same bytes leave the same bytes.
once : (d e : JValue) (v w : Value) (y z : Bytes) → value_meaning d ≡ Some v → value_meaning e ≡ Some w → Fits v → Fits w → Stops y → Stops z → spell_value d y ≡ spell_value e z → y ≡ z
once d e v w y z i j h k s t x =
    let long = ap length x in
    let f = 2 * length (spell_value d y) in
    let (a, q, r) = parsed d v y f i h s (omega arith) in
    let (b, p, r') = parsed e w z f j k t (omega arith) in
    ap rest_of (sym r ∙ ap (λ m. value (suc f) 0 0 m 0) x ∙ r')

-- ---- elements and members
elements_once : (k : ℕ) (es fs : JElements) (y z : Bytes) (vs us : Values) → elements_meaning es ≡ Some vs → elements_meaning fs ≡ Some us → FitItems vs → FitItems us
    → spell_elements es y ≡ spell_elements fs z → Once y z (element_at es k) (element_at fs k)
unfolding element_at elements_meaning spell_elements items_count items_nesting
elements_once zero es fs y z vs us i j h k e = first_once y z _ _ (element_at es 0) (element_at fs 0) (first_element es y) (first_element fs z) e
elements_once (suc n) (last_element d w) fs y z vs us i j h k e = none_once y z (element_at fs (suc n))
elements_once (suc n) (element d w u es) (last_element d' w') y z vs us i j h k e = once_none y z (element_at (element d w u es) (suc n))
elements_once (suc n) (element d w u es) (element d' w' u' fs) y z vs us i j h k e =
    let (v, xs, i₁, i₂, i₃) = map₂_some item (value_meaning d) (elements_meaning es) i in
    let (v', xs', j₁, j₂, j₃) = map₂_some item (value_meaning d') (elements_meaning fs) j in
    let f : FitItems (item v xs) = subst FitItems (sym i₃) h in
    let f' : FitItems (item v' xs') = subst FitItems (sym j₃) k in
    let c = once d d' v v' _ _ i₁ j₁ (omega (arith, f.0), omega (arith, f.1)) (omega (arith, f'.0), omega (arith, f'.1)) (stops_comma w _) (stops_comma w' _) e in
    let r = parted 0x2C w u w' u' _ _ comma_not_white (elements_not_white es y) (elements_not_white fs z) c in
    behind_once y z (spell_value d (spell_ws w (0x2C ∷ spell_ws u []))) (spell_value d' (spell_ws w' (0x2C ∷ spell_ws u' []))) (element_at es n) (element_at fs n)
    (elements_once n es fs y z xs xs' i₂ j₂ (omega (arith, f.0), omega (arith, f.1)) (omega (arith, f'.0), omega (arith, f'.1)) r)

name_once : (n n' : Chars) (w u w' u' : Ws) (y z m m' : Bytes) → chars_meaning n None ≡ Some m → chars_meaning n' None ≡ Some m' → NotWhite y → NotWhite z → spell_name n w u y ≡ spell_name n' w' u' z → y ≡ z
unfolding value_meaning spell_value map value_count nesting
name_once n n' w u w' u' y z m m' i j h k e =
    parted 0x3A w u w' u' y z colon_not_white h k
    (once (jstring n) (jstring n') (scalar (string m)) (scalar (string m')) _ _ (ap (map (λ s. scalar (string s))) i) (ap (map (λ s. scalar (string s))) j) (omega (arith, two_values), omega arith) (omega (arith, two_values), omega arith) (stops_colon w _) (stops_colon w' _) e)

member_means : (seen : List Bytes) (o : Option Bytes) (p : Option Value) (r : Option Members) (us : Members) → member_of (fresh seen o) p r ≡ Some us → FitMembers us
    → (m : Bytes) × (o ≡ Some m) × (v : Value) × (p ≡ Some v) × Fits v × (rs : Members) × (r ≡ Some rs) × FitMembers rs
unfolding members_count members_nesting
member_means seen o p r us e h =
    let (m, v, rs, i, j, k, l) = member_some (fresh seen o) p r e in
    let f : FitMembers (member m v rs) = subst FitMembers (sym l) h in
    (m, (fresh_some seen o m i).0, v, j, (omega (arith, f.0), omega (arith, f.1)), rs, k, (omega (arith, f.0), omega (arith, f.1)))

members_once : (k : ℕ) (ms ns : JMembers) (y z : Bytes) (seen seen' : List Bytes) (vs us : Members) → members_meaning ms seen ≡ Some vs → members_meaning ns seen' ≡ Some us → FitMembers vs → FitMembers us
    → spell_members ms y ≡ spell_members ns z → Once y z (member_at ms k) (member_at ns k)
unfolding member_at members_meaning spell_members
members_once zero ms ns y z seen seen' vs us i j h k e =
    let f = first_member ms y in
    let g = first_member ns z in
    let (m, i₁) = f.means seen vs i in
    let (m', j₁) = g.means seen' us j in
    first_once y z _ _ (member_at ms 0) (member_at ns 0) f.there g.there
    (name_once f.name g.name f.before_colon f.after_colon g.before_colon g.after_colon _ _ m m' i₁ j₁ (value_not_white f.content f.more) (value_not_white g.content g.more) (sym f.is ∙ e ∙ g.is))
members_once (suc k) (last_member n w u d x) ns y z seen seen' vs us i j h l e = none_once y z (member_at ns (suc k))
members_once (suc k) (jmember n w u d x o ms) (last_member n' w' u' d' x') y z seen seen' vs us i j h l e = once_none y z (member_at (jmember n w u d x o ms) (suc k))
members_once (suc k) (jmember n w u d x o ms) (jmember n' w' u' d' x' o' ns) y z seen seen' vs us i j h l e =
    let (m, i₁, v, i₂, i₃, rs, i₄, i₅) = member_means seen (chars_meaning n None) (value_meaning d) (members_meaning ms (seen_with seen (chars_meaning n None))) vs i h in
    let (m', j₁, v', j₂, j₃, rs', j₄, j₅) = member_means seen' (chars_meaning n' None) (value_meaning d') (members_meaning ns (seen_with seen' (chars_meaning n' None))) us j l in
    let a = name_once n n' w u w' u' _ _ m m' i₁ j₁ (value_not_white d _) (value_not_white d' _) e in
    let c = once d d' v v' _ _ i₂ j₂ i₃ j₃ (stops_comma x _) (stops_comma x' _) a in
    let r = parted 0x2C x o x' o' _ _ comma_not_white (members_not_white ms y) (members_not_white ns z) c in
    behind_once y z (spell_name n w u (spell_value d (spell_ws x (0x2C ∷ spell_ws o [])))) (spell_name n' w' u' (spell_value d' (spell_ws x' (0x2C ∷ spell_ws o' [])))) (member_at ms k) (member_at ns k)
    (members_once k ms ns y z (seen_with seen (chars_meaning n None)) (seen_with seen' (chars_meaning n' None)) rs rs' i₄ j₄ i₅ j₅ r)

children_once : (k : ℕ) (d e : JValue) (y z : Bytes) (v u : Value) → value_meaning d ≡ Some v → value_meaning e ≡ Some u → Fits v → Fits u → spell_value d y ≡ spell_value e z → Once y z (child_site d k) (child_site e k)
unfolding child_site value_meaning spell_value value_count nesting
children_once k jtrue e y z v u i j h l x = none_once y z (child_site e k)
children_once k jfalse e y z v u i j h l x = none_once y z (child_site e k)
children_once k jnull e y z v u i j h l x = none_once y z (child_site e k)
children_once k (jnumber negative n fr ex) e y z v u i j h l x = none_once y z (child_site e k)
children_once k (jstring cs) e y z v u i j h l x = none_once y z (child_site e k)
children_once k (jempty_array w) e y z v u i j h l x = none_once y z (child_site e k)
children_once k (jempty_object w) e y z v u i j h l x = none_once y z (child_site e k)
children_once k (jarray w es) jtrue y z v u i j h l x = once_none y z (child_site (jarray w es) k)
children_once k (jarray w es) jfalse y z v u i j h l x = once_none y z (child_site (jarray w es) k)
children_once k (jarray w es) jnull y z v u i j h l x = once_none y z (child_site (jarray w es) k)
children_once k (jarray w es) (jnumber negative n fr ex) y z v u i j h l x = once_none y z (child_site (jarray w es) k)
children_once k (jarray w es) (jstring cs) y z v u i j h l x = once_none y z (child_site (jarray w es) k)
children_once k (jarray w es) (jempty_array w') y z v u i j h l x = once_none y z (child_site (jarray w es) k)
children_once k (jarray w es) (jempty_object w') y z v u i j h l x = once_none y z (child_site (jarray w es) k)
children_once k (jarray w es) (jarray w' fs) y z v u i j h l x =
    let (vs, i₁, i₂) = map_some array (elements_meaning es) i in
    let (us, j₁, j₂) = map_some array (elements_meaning fs) j in
    let f : Fits (array vs) = subst Fits (sym i₂) h in
    let g : Fits (array us) = subst Fits (sym j₂) l in
    behind_once y z (0x5B ∷ spell_ws w []) (0x5B ∷ spell_ws w' []) (element_at es k) (element_at fs k)
    (elements_once k es fs y z vs us i₁ j₁ (omega (arith, f.0), omega (arith, f.1)) (omega (arith, g.0), omega (arith, g.1)) (ws_once w w' _ _ (elements_not_white es y) (elements_not_white fs z) (tail-eq_of_cons-eq x)))
children_once k (jarray w es) (jobject w' ms) y z v u i j h l x = let b : ◌≡◌ {A = ℕ} 0x5B 0x7B = head-eq_of_cons-eq x in absurd (omega arith)
children_once k (jobject w ms) jtrue y z v u i j h l x = once_none y z (child_site (jobject w ms) k)
children_once k (jobject w ms) jfalse y z v u i j h l x = once_none y z (child_site (jobject w ms) k)
children_once k (jobject w ms) jnull y z v u i j h l x = once_none y z (child_site (jobject w ms) k)
children_once k (jobject w ms) (jnumber negative n fr ex) y z v u i j h l x = once_none y z (child_site (jobject w ms) k)
children_once k (jobject w ms) (jstring cs) y z v u i j h l x = once_none y z (child_site (jobject w ms) k)
children_once k (jobject w ms) (jempty_array w') y z v u i j h l x = once_none y z (child_site (jobject w ms) k)
children_once k (jobject w ms) (jempty_object w') y z v u i j h l x = once_none y z (child_site (jobject w ms) k)
children_once k (jobject w ms) (jarray w' es) y z v u i j h l x = let b : ◌≡◌ {A = ℕ} 0x7B 0x5B = head-eq_of_cons-eq x in absurd (omega arith)
children_once k (jobject w ms) (jobject w' ns) y z v u i j h l x =
    let (vs, i₁, i₂) = map_some object (members_meaning ms []) i in
    let (us, j₁, j₂) = map_some object (members_meaning ns []) j in
    let f : Fits (object vs) = subst Fits (sym i₂) h in
    let g : Fits (object us) = subst Fits (sym j₂) l in
    behind_once y z (0x7B ∷ spell_ws w []) (0x7B ∷ spell_ws w' []) (member_at ms k) (member_at ns k)
    (members_once k ms ns y z [] [] vs us i₁ j₁ (omega (arith, f.0), omega (arith, f.1)) (omega (arith, g.0), omega (arith, g.1)) (ws_once w w' _ _ (members_not_white ms y) (members_not_white ns z) (tail-eq_of_cons-eq x)))

parts_once : (q : Positions) (d e : JValue) (y z : Bytes) (v u : Value) → value_meaning d ≡ Some v → value_meaning e ≡ Some u → Fits v → Fits u → spell_value d y ≡ spell_value e z → Once y z (value_site q d) (value_site q e)
unfolding value_site
parts_once [] d e y z v u i j h l x = x
parts_once (k ∷ q) d e y z v u i j h l x = go (child_site d k) (child_site e k) (children_part d k) (children_part e k) (children_once k d e y z v u i j h l x) (parts_once q)
  where
    inside_once : (s t : Site) (o p : Option Site) → Once (s.after ++ y) (t.after ++ z) o p → Once y z (o >>= λ a. Some (inside s a)) (p >>= λ a. Some (inside t a))
    inside_once s t None None h = tt
    inside_once s t None (Some b) h = tt
    inside_once s t (Some a) None h = tt
    inside_once s t (Some a) (Some b) h = ap (spell_value a.value) (append_assoc a.after s.after y) ∙ h ∙ ap (spell_value b.value) (sym (append_assoc b.after t.after z))

    go : (o p : Option Site) → All (λ s. (v : Value) → value_meaning d ≡ Some v → (u : Value) × (child_at v k ≡ Some u) × (value_meaning s.value ≡ Some u)) o
        → All (λ s. (v : Value) → value_meaning e ≡ Some v → (u : Value) × (child_at v k ≡ Some u) × (value_meaning s.value ≡ Some u)) p
        → Once y z o p
        → ((d e : JValue) (y z : Bytes) (v u : Value) → value_meaning d ≡ Some v → value_meaning e ≡ Some u → Fits v → Fits u → spell_value d y ≡ spell_value e z → Once y z (value_site q d) (value_site q e))
        → Once y z (o >>= λ s. value_site q s.value >>= λ a. Some (inside s a)) (p >>= λ s. value_site q s.value >>= λ a. Some (inside s a))
    go None p a b c f = none_once y z (p >>= λ s. value_site q s.value >>= λ a. Some (inside s a))
    go (Some s) None a b c f = once_none y z (value_site q s.value >>= λ a. Some (inside s a))
    go (Some s) (Some t) a b c f =
        let (v', i₁, i₂) = a v i in
        let (u', j₁, j₂) = b u j in
        let m = child_within v k v' i₁ in
        let n = child_within u k u' j₁ in
        inside_once s t (value_site q s.value) (value_site q t.value)
        (f s.value t.value (s.after ++ y) (t.after ++ z) v' u' i₂ j₂ (omega (arith, h.0, m.0), omega (arith, h.1, m.1)) (omega (arith, l.0, n.0), omega (arith, l.1, n.1)) c)

-- ---- texts
-- From the value on, two derivations of a text have the same bytes.
sites_rest : (q : Positions) (d e : JText) (v u : Value) → meaning d ≡ Some v → meaning e ≡ Some u → Fits v → Fits u → spell d ≡ spell e → (s t : Site) → site q d ≡ Some s → site q e ≡ Some t
    → (spell_value s.value s.after ≡ spell_value t.value t.after) × Stops s.after × Stops t.after
unfolding site spell meaning
sites_rest q (jtext w d x) (jtext w' e x') v u i j h l is s t a b =
    let values = ws_once w w' _ _ (value_not_white d (spell_ws x [])) (value_not_white e (spell_ws x' [])) is in
    go (value_site q d) (value_site q e) (parts_end q d) (parts_end q e) (parts_once q d e (spell_ws x []) (spell_ws x' []) v u i j h l values) a b
  where
    go : (o p : Option Site) → All Ends o → All Ends p → Once (spell_ws x []) (spell_ws x' []) o p
        → (o >>= λ s. Some (inside (record { before = spell_ws w []; value = d; after = spell_ws x [] }) s)) ≡ Some s
        → (p >>= λ s. Some (inside (record { before = spell_ws w' []; value = e; after = spell_ws x' [] }) s)) ≡ Some t
        → (spell_value s.value s.after ≡ spell_value t.value t.after) × Stops s.after × Stops t.after
    go None p f g c a b = none_some a
    go (Some m) None f g c a b = none_some b
    go (Some m) (Some n) f g c a b =
        subst₂ (λ s t. (spell_value s.value s.after ≡ spell_value t.value t.after) × Stops s.after × Stops t.after) (same_Some _ s a) (same_Some _ t b)
        (c, f (spell_ws x []) (stops_ws x [] tt), g (spell_ws x' []) (stops_ws x' [] tt))

-- So the same bytes stand before it, in it and after it.
pub stands_once : {text : Bytes} {q : Positions} {a m c a' m' c' : Bytes} → StandsAt text q a m c → StandsAt text q a' m' c' → (v : Value) → read text ≡ done v → (a ≡ a') × (m ≡ m') × (c ≡ c')
stands_once {q} {a} {m} {c} {a'} {m'} {c'} s t v e =
    let w = (sound _ v e).0 in
    let i = unambiguous s.tree v (ap read s.spells ∙ e) in
    let j = unambiguous t.tree v (ap read t.spells ∙ e) in
    let (same, f, g) = sites_rest _ s.tree t.tree v v i j (w.few, w.flat) (w.few, w.flat) (s.spells ∙ sym t.spells) _ _ s.there t.there in
    let (u, k, l) = (in_text s.tree _ _ s.there).part v i in
    let (u', k', l') = (in_text t.tree _ _ t.there).part v j in
    let n = part_within q v u k in
    let n' = part_within q v u' k' in
    let after : c ≡ c' = once s.value t.value u u' c c' l l' (omega (arith, w.few, n.0), omega (arith, w.flat, n.1)) (omega (arith, w.few, n'.0), omega (arith, w.flat, n'.1)) f g same in
    let from : m ++ c ≡ m' ++ c' = ap (λ x. x ++ c) (sym s.is) ∙ sym (value_append s.value [] c) ∙ same ∙ value_append t.value [] c' ∙ ap (λ x. x ++ c') t.is in
    let before : a ≡ a' = append_cancel_right a a' (m ++ c) (sym s.splits ∙ t.splits ∙ ap (λ x. a' ++ x) (sym from)) in
    (before, append_cancel_right m m' c (from ∙ ap (λ x. m' ++ x) (sym after)), after)
