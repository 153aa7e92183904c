-- Locate: of a value that stands in a derivation, the bytes around it, its meaning, and what comes of another one in its place.
use Rattle.std.specs.Prelude.{◌≡◌, refl, Bool, true, false, List, [], ◌∷◌, ◌++◌, ℕ, zero, suc, leb}
use Rattle.std.proofs.Common.{sym, subst, ap, ◌∙◌, append_assoc}
use Rattle.std.specs.Prelude.{Option, None, Some}
use Rattle.std.proofs.lemmas.Option.{same_Some}
use Rattle.model.specs.Bytes.{Bytes}
use Rattle.model.proofs.Laws.Option.{none_some, All}
use Rattle.model.specs.Limits.{max_integer}
use Rattle.model.specs.Option.{◌>>=◌}
use Rattle.model.specs.Path.{item_at}
use Rattle.model.specs.Place.{map_item}
use Rattle.model.specs.Value.{Value, scalar, array, object, string, Values, no_items, item, Members, no_members}
use Rattle.syntax.specs.Grammar.{Ws, no_ws, Frac, no_frac, frac, Exp, no_exp, exp, Chars, JValue, jtrue, jfalse, jnull, jnumber, jstring, jempty_array, jarray, jempty_object, jobject, JElements, last_element, element, JMembers, last_member, jmember, JText, jtext, spell_ws, spell_chars, spell_value, spell_elements, spell_members, spell, int_number, limited, plain, map, map₂, chars_meaning, fresh, seen_with, member_of, value_meaning, elements_meaning, members_meaning, meaning}
use Rattle.syntax.specs.Locate.{Positions, content_at, child_at, part_at, map_content, map_child, map_part, replace_part, Site, behind, inside, element_at, spell_name, member_at, child_site, value_site, site}
use Rattle.syntax.specs.Read.{signed}
use Rattle.syntax.proofs.Laws.Derivations.{ws_append, name_append, value_append, elements_append, members_append, ◌⊕◌, ws_ws}
use Rattle.syntax.proofs.Laws.Meaning.{map_some, member_some}

-- ---- what holds of a value that stands in something derived
-- D are derivations with their bytes and their meanings in A; `child` and `change` take a part of a meaning and change it.
record Around (D A : Type 0) : Type 0 where
  spelled : D → Bytes → Bytes
  means : D → Option A
  child : A → Option Value
  change : (Value → Value) → A → A

-- Another value put in, with white space around it.
record Put {D A : Type 0} (c : Around D A) (d : D) (s : Site) (pre : Ws) (e : JValue) (post : Ws) : Type 0 where
  tree : D
  spells : (y : Bytes) → c.spelled tree y ≡ s.before ++ spell_ws pre (spell_value e (spell_ws post (s.after ++ y)))
  changes : (f : Value → Value) → value_meaning e ≡ map f (value_meaning s.value) → c.means tree ≡ map (c.change f) (c.means d)

record Stands {D A : Type 0} (c : Around D A) (d : D) (s : Site) : Type 0 where
  splits : (y : Bytes) → c.spelled d y ≡ s.before ++ spell_value s.value (s.after ++ y)
  part : (a : A) → c.means d ≡ Some a → (v : Value) × (c.child a ≡ Some v) × (value_meaning s.value ≡ Some v)
  put : (pre : Ws) (e : JValue) (post : Ws) → Put c d s pre e post

-- A site, or no part there.
abbrev Located : {D A : Type 0} → Around D A → D → Option Site → Type 0
Located c d None = (a : _) → c.means d ≡ Some a → c.child a ≡ None
Located c d (Some s) = Stands c d s

-- The same behind some more bytes: `wrap` makes of a derivation a larger one, which has those bytes in front.
module _ {D A D' A' : Type 0} (c : Around D A) (c' : Around D' A') (d : D) (d' : D') (a : Bytes) (wrap : D → D') where
  record Wraps : Type 0 where
    old : (y : Bytes) → c'.spelled d' y ≡ a ++ c.spelled d y
    new : (x : D) (y : Bytes) → c'.spelled (wrap x) y ≡ a ++ c.spelled x y
    child_of : (b : A') → c'.means d' ≡ Some b → (m : A) × (c.means d ≡ Some m) × (c'.child b ≡ c.child m)
    changed : (x : D) (f : Value → Value) → c.means x ≡ map (c.change f) (c.means d) → c'.means (wrap x) ≡ map (c'.change f) (c'.means d')

  behind_located : (o : Option Site) → Wraps → Located c d o → Located c' d' (o >>= λ s. Some (behind a s))
  behind_located None w h = λ b e. let (m, i, j) = w.child_of b e in j ∙ h m i
  behind_located (Some s) w h = record {
    splits = λ y. w.old y ∙ ap (λ t. a ++ t) (h.splits y) ∙ sym (append_assoc a s.before _);
    part = λ b e. let (m, i, j) = w.child_of b e in let (v, k, l) = h.part m i in (v, j ∙ k, l);
    put = λ pre e post. let n = h.put pre e post in record {
      tree = wrap n.tree;
      spells = λ y. w.new n.tree y ∙ ap (λ t. a ++ t) (n.spells y) ∙ sym (append_assoc a s.before _);
      changes = λ f k. w.changed n.tree f (n.changes f k);
    };
  }

-- Two changes in a row that come to the same.
twice_mapped : {A B C D : Type 0} (o : Option A) (f : A → B) (g : B → D) (h : A → C) (k : C → D) → ((a : A) → g (f a) ≡ k (h a)) → map g (map f o) ≡ map k (map h o)
unfolding map
twice_mapped None f g h k e = refl
twice_mapped (Some a) f g h k e = ap Some (e a)

-- ---- elements
-- With the white space before the first.
abbrev elements : ℕ → Around (Ws × JElements) Values
elements k = record { spelled = λ d y. spell_ws d.0 (spell_elements d.1 y); means = λ d. elements_meaning d.1; child = λ vs. item_at vs k; change = λ f vs. map_item vs k f }

one_part : (o : Option Value) (vs : Values) → map (λ x. item x no_items) o ≡ Some vs → (v : Value) × (item_at vs 0 ≡ Some v) × (o ≡ Some v)
unfolding map
one_part None vs e = none_some e
one_part (Some x) vs e = (x, cc, refl)

first_part : (o : Option Value) (p : Option Values) (vs : Values) → map₂ item o p ≡ Some vs → (v : Value) × (item_at vs 0 ≡ Some v) × (o ≡ Some v)
unfolding map₂
first_part None p vs e = none_some e
first_part (Some x) None vs e = none_some e
first_part (Some x) (Some xs) vs e = (x, cc, refl)

first_changed : (o : Option Value) (p : Option Values) (f : Value → Value) → map₂ item (map f o) p ≡ map (λ vs. map_item vs 0 f) (map₂ item o p)
unfolding map map₂
first_changed None p f = refl
first_changed (Some x) None f = refl
first_changed (Some x) (Some xs) f = refl

later_part : (o : Option Value) (p : Option Values) (k : ℕ) (vs : Values) → map₂ item o p ≡ Some vs → (us : Values) × (p ≡ Some us) × (item_at vs (suc k) ≡ item_at us k)
unfolding map₂
later_part None p k vs e = none_some e
later_part (Some x) None k vs e = none_some e
later_part (Some x) (Some xs) k vs e = (xs, refl, cc)

later_changed : (o : Option Value) (p : Option Values) (k : ℕ) (f : Value → Value) → map₂ item o (map (λ vs. map_item vs k f) p) ≡ map (λ vs. map_item vs (suc k) f) (map₂ item o p)
unfolding map map₂
later_changed None p k f = refl
later_changed (Some x) None k f = refl
later_changed (Some x) (Some xs) k f = refl

elements_located : (es : JElements) (k : ℕ) → Located (elements k) (no_ws, es) (element_at es k)
unfolding element_at spell_elements elements_meaning spell_ws
elements_located (last_element v w) zero = record {
  splits = λ y. ap (spell_value v) (ws_append w (0x5D ∷ []) y);
  part = λ vs e. one_part (value_meaning v) vs e;
  put = λ pre e post. record {
    tree = (pre, last_element e (post ⊕ w));
    spells = λ y. ap (λ t. spell_ws pre (spell_value e t)) (ws_ws post w (0x5D ∷ y) ∙ ap (spell_ws post) (ws_append w (0x5D ∷ []) y));
    changes = λ f h. ap (map (λ x. item x no_items)) h ∙ twice_mapped (value_meaning v) f (λ x. item x no_items) (λ x. item x no_items) (λ vs. map_item vs 0 f) (λ x. refl);
  };
}
elements_located (last_element v w) (suc k) = λ vs e. let (x, i, j) = map_some (λ x. item x no_items) (value_meaning v) e in ap (λ z. item_at z (suc k)) (sym j)
elements_located (element v w u es) zero = record {
  splits = λ y. ap (spell_value v) (after y);
  part = λ vs e. first_part (value_meaning v) (elements_meaning es) vs e;
  put = λ pre e post. record {
    tree = (pre, element e (post ⊕ w) u es);
    spells = λ y. ap (λ t. spell_ws pre (spell_value e t)) (ws_ws post w (0x2C ∷ spell_ws u (spell_elements es y)) ∙ ap (spell_ws post) (after y));
    changes = λ f h. ap (λ o. map₂ item o (elements_meaning es)) h ∙ first_changed (value_meaning v) (elements_meaning es) f;
  };
}
  where
    after : (y : Bytes) → spell_ws w (0x2C ∷ spell_ws u (spell_elements es y)) ≡ spell_ws w (0x2C ∷ spell_ws u (spell_elements es [])) ++ y
    after y = ap (λ t. spell_ws w (0x2C ∷ t)) (ap (spell_ws u) (elements_append es [] y) ∙ ws_append u (spell_elements es []) y) ∙ ws_append w (0x2C ∷ spell_ws u (spell_elements es [])) y
elements_located (element v w u es) (suc k) =
    behind_located (elements k) (elements (suc k)) (no_ws, es) (no_ws, element v w u es) (spell_value v (spell_ws w (0x2C ∷ spell_ws u [])))
    (λ x. (no_ws, element v w (u ⊕ x.0) x.1)) (element_at es k) wraps (elements_located es k)
  where
    front : (y : Bytes) → spell_value v (spell_ws w (0x2C ∷ spell_ws u y)) ≡ spell_value v (spell_ws w (0x2C ∷ spell_ws u [])) ++ y
    front y = ap (λ t. spell_value v (spell_ws w (0x2C ∷ t))) (ws_append u [] y) ∙ ap (spell_value v) (ws_append w (0x2C ∷ spell_ws u []) y) ∙ value_append v (spell_ws w (0x2C ∷ spell_ws u [])) y

    wraps : Wraps (elements k) (elements (suc k)) (no_ws, es) (no_ws, element v w u es) (spell_value v (spell_ws w (0x2C ∷ spell_ws u []))) (λ x. (no_ws, element v w (u ⊕ x.0) x.1))
    wraps = record {
      old = λ y. front (spell_elements es y);
      new = λ x y. ap (λ t. spell_value v (spell_ws w (0x2C ∷ t))) (ws_ws u x.0 (spell_elements x.1 y)) ∙ front (spell_ws x.0 (spell_elements x.1 y));
      child_of = λ vs e. later_part (value_meaning v) (elements_meaning es) k vs e;
      changed = λ x f h. ap (map₂ item (value_meaning v)) h ∙ later_changed (value_meaning v) (elements_meaning es) k f;
    }

-- ---- members
abbrev members : ℕ → List Bytes → Around JMembers Members
members k seen = record { spelled = spell_members; means = λ ms. members_meaning ms seen; child = λ ms. content_at ms k; change = λ f ms. map_content ms k f }

content_part : (o : Option Bytes) (p : Option Value) (r : Option Members) (ms : Members) → member_of o p r ≡ Some ms → (v : Value) × (content_at ms 0 ≡ Some v) × (p ≡ Some v)
content_part o p r ms e = let (n, v, us, i, j, k, l) = member_some o p r e in (v, ap (λ z. content_at z 0) (sym l), j)

content_changed : (o : Option Bytes) (p : Option Value) (r : Option Members) (f : Value → Value) → member_of o (map f p) r ≡ map (λ ms. map_content ms 0 f) (member_of o p r)
unfolding map member_of
content_changed None p r f = refl
content_changed (Some n) None r f = refl
content_changed (Some n) (Some v) None f = refl
content_changed (Some n) (Some v) (Some ms) f = refl

members_part : (o : Option Bytes) (p : Option Value) (r : Option Members) (k : ℕ) (ms : Members) → member_of o p r ≡ Some ms → (us : Members) × (r ≡ Some us) × (content_at ms (suc k) ≡ content_at us k)
members_part o p r k ms e = let (n, v, us, i, j, l, m) = member_some o p r e in (us, l, ap (λ z. content_at z (suc k)) (sym m))

members_changed : (o : Option Bytes) (p : Option Value) (r : Option Members) (k : ℕ) (f : Value → Value) → member_of o p (map (λ ms. map_content ms k f) r) ≡ map (λ ms. map_content ms (suc k) f) (member_of o p r)
unfolding map member_of
members_changed None p r k f = refl
members_changed (Some n) None r k f = refl
members_changed (Some n) (Some v) None k f = refl
members_changed (Some n) (Some v) (Some ms) k f = refl

-- The bytes of a member with another value in it.
name_put : (n : Chars) (w u pre : Ws) (y : Bytes) → spell_name n w (u ⊕ pre) y ≡ spell_name n w u [] ++ spell_ws pre y
name_put n w u pre y = ap (λ t. 0x22 ∷ spell_chars n (0x22 ∷ spell_ws w (0x3A ∷ t))) (ws_ws u pre y) ∙ name_append n w u [] (spell_ws pre y)

members_located : (ms : JMembers) (k : ℕ) (seen : List Bytes) → Located (members k seen) ms (member_at ms k)
unfolding member_at spell_members members_meaning
members_located (last_member n w u v x) zero seen = record {
  splits = λ y. ap (λ t. spell_name n w u (spell_value v t)) (ws_append x (0x7D ∷ []) y) ∙ name_append n w u [] (spell_value v (spell_ws x (0x7D ∷ []) ++ y));
  part = λ ms e. content_part (fresh seen (chars_meaning n None)) (value_meaning v) (Some no_members) ms e;
  put = λ pre e post. record {
    tree = last_member n w (u ⊕ pre) e (post ⊕ x);
    spells = λ y. ap (λ t. spell_name n w (u ⊕ pre) (spell_value e t)) (ws_ws post x (0x7D ∷ y) ∙ ap (spell_ws post) (ws_append x (0x7D ∷ []) y)) ∙ name_put n w u pre (spell_value e (spell_ws post (spell_ws x (0x7D ∷ []) ++ y)));
    changes = λ f h. ap (λ o. member_of (fresh seen (chars_meaning n None)) o (Some no_members)) h ∙ content_changed (fresh seen (chars_meaning n None)) (value_meaning v) (Some no_members) f;
  };
}
members_located (last_member n w u v x) (suc k) seen = λ ms e.
    let (us, i, j) = members_part (fresh seen (chars_meaning n None)) (value_meaning v) (Some no_members) k ms e in
    j ∙ ap (λ z. content_at z k) (sym (same_Some no_members us i))
members_located (jmember n w u v x z ms) zero seen = record {
  splits = λ y. ap (λ t. spell_name n w u (spell_value v t)) (after y) ∙ name_append n w u [] (spell_value v (spell_ws x (0x2C ∷ spell_ws z (spell_members ms [])) ++ y));
  part = λ us e. content_part (fresh seen (chars_meaning n None)) (value_meaning v) rest us e;
  put = λ pre e post. record {
    tree = jmember n w (u ⊕ pre) e (post ⊕ x) z ms;
    spells = λ y. ap (λ t. spell_name n w (u ⊕ pre) (spell_value e t)) (ws_ws post x (0x2C ∷ spell_ws z (spell_members ms y)) ∙ ap (spell_ws post) (after y))
        ∙ name_put n w u pre (spell_value e (spell_ws post (spell_ws x (0x2C ∷ spell_ws z (spell_members ms [])) ++ y)));
    changes = λ f h. ap (λ o. member_of (fresh seen (chars_meaning n None)) o rest) h ∙ content_changed (fresh seen (chars_meaning n None)) (value_meaning v) rest f;
  };
}
  where
    rest : Option Members
    rest = members_meaning ms (seen_with seen (chars_meaning n None))

    after : (y : Bytes) → spell_ws x (0x2C ∷ spell_ws z (spell_members ms y)) ≡ spell_ws x (0x2C ∷ spell_ws z (spell_members ms [])) ++ y
    after y = ap (λ t. spell_ws x (0x2C ∷ t)) (ap (spell_ws z) (members_append ms [] y) ∙ ws_append z (spell_members ms []) y) ∙ ws_append x (0x2C ∷ spell_ws z (spell_members ms [])) y
members_located (jmember n w u v x z ms) (suc k) seen =
    behind_located (members k (seen_with seen (chars_meaning n None))) (members (suc k) seen) ms (jmember n w u v x z ms) (spell_name n w u (spell_value v (spell_ws x (0x2C ∷ spell_ws z []))))
    (jmember n w u v x z) (member_at ms k) wraps (members_located ms k (seen_with seen (chars_meaning n None)))
  where
    front : (y : Bytes) → spell_name n w u (spell_value v (spell_ws x (0x2C ∷ spell_ws z y))) ≡ spell_name n w u (spell_value v (spell_ws x (0x2C ∷ spell_ws z []))) ++ y
    front y =
        ap (λ t. spell_name n w u (spell_value v (spell_ws x (0x2C ∷ t)))) (ws_append z [] y)
        ∙ ap (λ t. spell_name n w u (spell_value v t)) (ws_append x (0x2C ∷ spell_ws z []) y)
        ∙ ap (spell_name n w u) (value_append v (spell_ws x (0x2C ∷ spell_ws z [])) y)
        ∙ name_append n w u (spell_value v (spell_ws x (0x2C ∷ spell_ws z []))) y

    wraps : Wraps (members k (seen_with seen (chars_meaning n None))) (members (suc k) seen) ms (jmember n w u v x z ms) (spell_name n w u (spell_value v (spell_ws x (0x2C ∷ spell_ws z [])))) (jmember n w u v x z)
    wraps = record {
      old = λ y. front (spell_members ms y);
      new = λ us y. front (spell_members us y);
      child_of = λ us e. members_part (fresh seen (chars_meaning n None)) (value_meaning v) (members_meaning ms (seen_with seen (chars_meaning n None))) k us e;
      changed = λ us f h. ap (member_of (fresh seen (chars_meaning n None)) (value_meaning v)) h ∙ members_changed (fresh seen (chars_meaning n None)) (value_meaning v) (members_meaning ms (seen_with seen (chars_meaning n None))) k f;
    }

-- ---- values
abbrev children : ℕ → Around JValue Value
children k = record { spelled = spell_value; means = value_meaning; child = λ v. child_at v k; change = λ f v. map_child v k f }

-- A number has no part.
signed_child : (negative : Bool) (n k : ℕ) → child_at (signed negative n) k ≡ None
unfolding signed
signed_child false n k = refl
signed_child true zero k = refl
signed_child true (suc n) k = refl

number_child : (negative : Bool) (n : ℕ) (fr : Frac) (ex : Exp) (v : Value) (k : ℕ) → plain negative n fr ex ≡ Some v → child_at v k ≡ None
unfolding plain limited
number_child negative n no_frac no_exp v k e = go (leb n max_integer) e
  where
    go : (b : Bool) → ◌≡◌ {A = Option Value} (elim b [ true ↦ Some (signed negative n) | false ↦ None ]) (Some v) → child_at v k ≡ None
    go true e = ap (λ z. child_at z k) (sym (same_Some (signed negative n) v e)) ∙ signed_child negative n k
    go false e = none_some e
number_child negative n no_frac (exp b h g x d i) v k e = none_some e
number_child negative n (frac b h ds) ex v k e = none_some e

children_located : (d : JValue) (k : ℕ) → Located (children k) d (child_site d k)
unfolding child_site spell_value value_meaning spell_ws
children_located jtrue k = λ v e. ap (λ z. child_at z k) (same_Some v _ (sym e))
children_located jfalse k = λ v e. ap (λ z. child_at z k) (same_Some v _ (sym e))
children_located jnull k = λ v e. ap (λ z. child_at z k) (same_Some v _ (sym e))
children_located (jnumber negative i fr ex) k = λ v e. number_child negative (int_number i) fr ex v k e
children_located (jstring cs) k = λ v e. let (x, i, j) = map_some (λ s. scalar (string s)) (chars_meaning cs None) e in ap (λ z. child_at z k) (sym j)
children_located (jempty_array w) k = λ v e. ap (λ z. child_at z k) (same_Some v _ (sym e))
children_located (jarray w es) k = behind_located (elements k) (children k) (no_ws, es) (jarray w es) (0x5B ∷ spell_ws w []) (λ x. jarray (w ⊕ x.0) x.1) (element_at es k) wraps (elements_located es k)
  where
    wraps : Wraps (elements k) (children k) (no_ws, es) (jarray w es) (0x5B ∷ spell_ws w []) (λ x. jarray (w ⊕ x.0) x.1)
    wraps = record {
      old = λ y. ap (λ t. 0x5B ∷ t) (ws_append w [] (spell_elements es y));
      new = λ x y. ap (λ t. 0x5B ∷ t) (ws_ws w x.0 (spell_elements x.1 y) ∙ ws_append w [] (spell_ws x.0 (spell_elements x.1 y)));
      child_of = λ v e. let (vs, i, j) = map_some array (elements_meaning es) e in (vs, i, ap (λ z. child_at z k) (sym j));
      changed = λ x f h. ap (map array) h ∙ twice_mapped (elements_meaning es) (λ vs. map_item vs k f) array array (λ v. map_child v k f) (λ vs. refl);
    }
children_located (jempty_object w) k = λ v e. ap (λ z. child_at z k) (same_Some v _ (sym e))
children_located (jobject w ms) k = behind_located (members k []) (children k) ms (jobject w ms) (0x7B ∷ spell_ws w []) (jobject w) (member_at ms k) wraps (members_located ms k [])
  where
    wraps : Wraps (members k []) (children k) ms (jobject w ms) (0x7B ∷ spell_ws w []) (jobject w)
    wraps = record {
      old = λ y. ap (λ t. 0x7B ∷ t) (ws_append w [] (spell_members ms y));
      new = λ x y. ap (λ t. 0x7B ∷ t) (ws_append w [] (spell_members x y));
      child_of = λ v e. let (us, i, j) = map_some object (members_meaning ms []) e in (us, i, ap (λ z. child_at z k) (sym j));
      changed = λ x f h. ap (map object) h ∙ twice_mapped (members_meaning ms []) (λ us. map_content us k f) object object (λ v. map_child v k f) (λ us. refl);
    }

-- ---- positions
-- With white space around, which a value put in at no positions brings along.
abbrev parts : Positions → Around (Ws × JValue × Ws) Value
parts q = record { spelled = λ d y. spell_ws d.0 (spell_value d.1 (spell_ws d.2 y)); means = λ d. value_meaning d.1; child = part_at q; change = map_part q }

-- A value in a value that stands in d.
inside_located : (d : JValue) (k : ℕ) (q : Positions) (s : Site) → Stands (children k) d s → (o : Option Site) → Located (parts q) (no_ws, s.value, no_ws) o
    → Located (parts (k ∷ q)) (no_ws, d, no_ws) (o >>= λ t. Some (inside s t))
unfolding spell_ws
inside_located d k q s h None g = λ v e.
    let (u, i, j) = h.part v e in
    ap (λ o. o >>= part_at q) i ∙ g u j
inside_located d k q s h (Some t) g = record {
  splits = λ y. h.splits y ∙ ap (λ x. s.before ++ x) (g.splits (s.after ++ y)) ∙ sym (append_assoc s.before t.before _) ∙ ap (λ x. (s.before ++ t.before) ++ spell_value t.value x) (sym (append_assoc t.after s.after y));
  part = λ v e.
      let (u, i, j) = h.part v e in
      let (x, l, m) = g.part u j in
      (x, ap (λ o. o >>= part_at q) i ∙ l, m);
  put = λ pre e post.
      let n = g.put pre e post in
      let m = h.put n.tree.0 n.tree.1 n.tree.2 in
      record {
        tree = (no_ws, m.tree, no_ws);
        spells = λ y. m.spells y ∙ ap (λ x. s.before ++ x) (n.spells (s.after ++ y)) ∙ sym (append_assoc s.before t.before _)
            ∙ ap (λ x. (s.before ++ t.before) ++ spell_ws pre (spell_value e (spell_ws post x))) (sym (append_assoc t.after s.after y));
        changes = λ f l. m.changes (map_part q f) (n.changes f l);
      };
}

parts_located : (q : Positions) (d : JValue) → Located (parts q) (no_ws, d, no_ws) (value_site q d)
unfolding value_site spell_ws
parts_located [] d = record {
  splits = λ y. refl;
  part = λ v e. (v, refl, e);
  put = λ pre e post. record { tree = (pre, e, post); spells = λ y. refl; changes = λ f h. h };
}
parts_located (k ∷ q) d = go (child_site d k) (children_located d k) (parts_located q)
  where
    go : (o : Option Site) → Located (children k) d o → ((x : JValue) → Located (parts q) (no_ws, x, no_ws) (value_site q x))
        → Located (parts (k ∷ q)) (no_ws, d, no_ws) (o >>= λ s. value_site q s.value >>= λ t. Some (inside s t))
    go None h g = λ v e. ap (λ o. o >>= part_at q) (h v e)
    go (Some s) h g = inside_located d k q s h (value_site q s.value) (g s.value)

-- ---- the bytes around a site
abbrev Splits : (Bytes → Bytes) → Site → Type 0
Splits spelled s = (y : Bytes) → spelled y ≡ s.before ++ spell_value s.value (s.after ++ y)

located_splits : {D A : Type 0} (c : Around D A) (d : D) (o : Option Site) → Located c d o → All (Splits (c.spelled d)) o
located_splits c d None h = tt
located_splits c d (Some s) h = h.splits

pub elements_split : (es : JElements) (k : ℕ) → All (λ s. (y : Bytes) → spell_elements es y ≡ s.before ++ spell_value s.value (s.after ++ y)) (element_at es k)
unfolding spell_ws
elements_split es k = located_splits (elements k) (no_ws, es) (element_at es k) (elements_located es k)

pub members_split : (ms : JMembers) (k : ℕ) → All (λ s. (y : Bytes) → spell_members ms y ≡ s.before ++ spell_value s.value (s.after ++ y)) (member_at ms k)
members_split ms k = located_splits (members k []) ms (member_at ms k) (members_located ms k [])

pub parts_split : (q : Positions) (d : JValue) → All (λ s. (y : Bytes) → spell_value d y ≡ s.before ++ spell_value s.value (s.after ++ y)) (value_site q d)
unfolding spell_ws
parts_split q d = located_splits (parts q) (no_ws, d, no_ws) (value_site q d) (parts_located q d)

-- A child has the meaning of the part there.
pub children_part : (d : JValue) (k : ℕ) → All (λ s. (v : Value) → value_meaning d ≡ Some v → (u : Value) × (child_at v k ≡ Some u) × (value_meaning s.value ≡ Some u)) (child_site d k)
children_part d k = go (child_site d k) (children_located d k)
  where
    go : (o : Option Site) → Located (children k) d o → All (λ s. (v : Value) → value_meaning d ≡ Some v → (u : Value) × (child_at v k ≡ Some u) × (value_meaning s.value ≡ Some u)) o
    go None h = tt
    go (Some s) h = h.part

-- ---- texts
pub record InText (d : JText) (q : Positions) (s : Site) : Type 0 where
  pub splits : spell d ≡ s.before ++ (spell_value s.value [] ++ s.after)
  pub part : (v : Value) → meaning d ≡ Some v → (u : Value) × (part_at q v ≡ Some u) × (value_meaning s.value ≡ Some u)
  pub put : (e : JText) → (n : JText) × (spell n ≡ s.before ++ (spell e ++ s.after)) × ((v u : Value) → meaning d ≡ Some v → meaning e ≡ Some u → meaning n ≡ Some (replace_part q u v))

abbrev TextLocated : JText → Positions → Option Site → Type 0
TextLocated d q None = (v : Value) → meaning d ≡ Some v → part_at q v ≡ None
TextLocated d q (Some s) = InText d q s

text_located : (q : Positions) (d : JText) → TextLocated d q (site q d)
unfolding site spell meaning spell_ws map
text_located q (jtext w d u) = go (value_site q d) (parts_located q d)
  where
    cut : (a b : Bytes) → spell_ws w (a ++ b) ≡ (spell_ws w [] ++ a) ++ b
    cut a b = ws_append w [] (a ++ b) ∙ sym (append_assoc (spell_ws w []) a b)

    put : (s : Site) → Stands (parts q) (no_ws, d, no_ws) s → (e : JText)
        → (n : JText) × (spell n ≡ (spell_ws w [] ++ s.before) ++ (spell e ++ (s.after ++ spell_ws u []))) × ((v x : Value) → value_meaning d ≡ Some v → meaning e ≡ Some x → meaning n ≡ Some (replace_part q x v))
    put s h (jtext a e c) =
        let n = h.put a e c in (
          jtext (w ⊕ n.tree.0) n.tree.1 (n.tree.2 ⊕ u),
          ws_ws w n.tree.0 _
              ∙ ap (λ x. spell_ws w (spell_ws n.tree.0 (spell_value n.tree.1 x))) (ws_ws n.tree.2 u [])
              ∙ ap (spell_ws w) (n.spells (spell_ws u []))
              ∙ cut s.before (spell_ws a (spell_value e (spell_ws c (s.after ++ spell_ws u []))))
              ∙ ap (λ x. (spell_ws w [] ++ s.before) ++ x) (ap (λ x. spell_ws a (spell_value e x)) (ws_append c [] (s.after ++ spell_ws u []))
              ∙ ap (spell_ws a) (value_append e (spell_ws c []) (s.after ++ spell_ws u []))
              ∙ ws_append a (spell_value e (spell_ws c [])) (s.after ++ spell_ws u [])),
          λ v x hv hx.
              let (y, i, j) = h.part v hv in
              n.changes (λ old. x) (hx ∙ ap (map (λ old. x)) (sym j)) ∙ ap (map (replace_part q x)) hv,
        )

    go : (o : Option Site) → Located (parts q) (no_ws, d, no_ws) o → TextLocated (jtext w d u) q (o >>= λ s. Some (inside (record { before = spell_ws w []; value = d; after = spell_ws u [] }) s))
    go None h = h
    go (Some s) h = record {
      splits = ap (spell_ws w) (h.splits (spell_ws u [])) ∙ cut s.before (spell_value s.value (s.after ++ spell_ws u [])) ∙ ap (λ x. (spell_ws w [] ++ s.before) ++ x) (value_append s.value [] (s.after ++ spell_ws u []));
      part = h.part;
      put = put s h;
    }

-- The value of a derivation at some positions: its bytes, its meaning, and what comes of another text in its place.
pub in_text : (d : JText) (q : Positions) (s : Site) → site q d ≡ Some s → InText d q s
in_text d q s e = subst (TextLocated d q) e (text_located q d)

-- Where the meaning of a derivation has a part, the derivation has a site.
pub site_there : (d : JText) (q : Positions) (v u : Value) → meaning d ≡ Some v → part_at q v ≡ Some u → (s : Site) × (site q d ≡ Some s)
site_there d q v u e h = go (site q d) (text_located q d)
  where
    go : (o : Option Site) → TextLocated d q o → (s : Site) × (o ≡ Some s)
    go None k = none_some {a = u} (sym (k v e) ∙ h)
    go (Some s) k = (s, refl)
