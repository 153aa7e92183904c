-- Abnf: RFC 8259's rules word for word and Grammar's derive the same texts.
use Rattle.std.specs.Prelude.{◌≡◌, refl, [], ◌∷◌, ◌↔◌}
use Rattle.std.proofs.Common.{sym, ap, ◌∙◌}
use Rattle.model.specs.Bytes.{Bytes}
use Rattle.syntax.specs.Abnf.{structural, RValue, rfalse, rnull, rtrue, robject, rarray, rnumber, rstring, RObject, no_rmembers, some_rmembers, RMembers, one_rmember, more_rmembers, RMember, rmember, RArray, no_rvalues, some_rvalues, RValues, one_rvalue, more_rvalues, RText, rtext, spell_structural, spell_rvalue, spell_robject, spell_rmembers, spell_rmember, spell_rarray, spell_rvalues, spell_rtext}
use Rattle.syntax.specs.Grammar.{Ws, no_ws, Chars, JValue, jtrue, jfalse, jnull, jnumber, jstring, jempty_array, jarray, jempty_object, jobject, JElements, last_element, element, JMembers, last_member, jmember, JText, jtext, spell_ws, spell_chars, spell_value, spell_elements, spell_members, spell}
use Rattle.syntax.proofs.Laws.Derivations.{◌⊕◌, ws_ws}

-- ---- from the RFC's rules to Grammar's
-- The structural characters of the RFC bring white space of their own: a value has some before it and after it.
record OutValue (r : Bytes → Bytes) : Type 0 where
  pre : Ws
  tree : JValue
  post : Ws
  spells : (y : Bytes) → r y ≡ spell_ws pre (spell_value tree (spell_ws post y))

record OutMember (r : Bytes → Bytes) : Type 0 where
  name : Chars
  before_colon : Ws
  after_colon : Ws
  content : JValue
  post : Ws
  spells : (y : Bytes) → r y ≡ 0x22 ∷ spell_chars name (0x22 ∷ spell_ws before_colon (0x3A ∷ spell_ws after_colon (spell_value content (spell_ws post y))))

-- With the white space w before the closing bracket.
record OutElements (r : Bytes → Bytes) (w : Ws) : Type 0 where
  pre : Ws
  tree : JElements
  spells : (y : Bytes) → r (spell_ws w (0x5D ∷ y)) ≡ spell_ws pre (spell_elements tree y)

record OutMembers (r : Bytes → Bytes) (w : Ws) : Type 0 where
  tree : JMembers
  spells : (y : Bytes) → r (spell_ws w (0x7D ∷ y)) ≡ spell_members tree y

bare : (r : Bytes → Bytes) (d : JValue) → ((y : Bytes) → r y ≡ spell_value d y) → OutValue r
unfolding spell_ws
bare r d h = record { pre = no_ws; tree = d; post = no_ws; spells = h }

mutual
  unfolding spell_rvalue spell_structural spell_value

  out_value : (r : RValue) → OutValue (spell_rvalue r)
  out_value rfalse = bare _ jfalse (λ y. refl)
  out_value rnull = bare _ jnull (λ y. refl)
  out_value rtrue = bare _ jtrue (λ y. refl)
  out_value (robject o) = out_object o
  out_value (rarray a) = out_array a
  out_value (rnumber negative i fr ex) = bare _ (jnumber negative i fr ex) (λ y. refl)
  out_value (rstring cs) = bare _ (jstring cs) (λ y. refl)

  out_object : (o : RObject) → OutValue (spell_robject o)
  out_object (no_rmembers (structural a b) (structural c e)) =
      record { pre = a; tree = jempty_object (b ⊕ c); post = e; spells = λ y. ap (λ t. spell_ws a (0x7B ∷ t)) (sym (ws_ws b c (0x7D ∷ spell_ws e y))) }
  out_object (some_rmembers (structural a b) ms (structural c e)) =
      let x = out_members ms c in
      record { pre = a; tree = jobject b x.tree; post = e; spells = λ y. ap (λ t. spell_ws a (0x7B ∷ spell_ws b t)) (x.spells (spell_ws e y)) }

  out_members : (ms : RMembers) (w : Ws) → OutMembers (spell_rmembers ms) w
  out_members (one_rmember m) w =
      let x = out_member m in
      record {
        tree = last_member x.name x.before_colon x.after_colon x.content (x.post ⊕ w);
        spells = λ y. x.spells (spell_ws w (0x7D ∷ y)) ∙ ap (λ t. 0x22 ∷ spell_chars x.name (0x22 ∷ spell_ws x.before_colon (0x3A ∷ spell_ws x.after_colon (spell_value x.content t)))) (sym (ws_ws x.post w (0x7D ∷ y)));
      }
  out_members (more_rmembers m (structural a b) ms) w =
      let x = out_member m in
      let i = out_members ms w in
      record {
        tree = jmember x.name x.before_colon x.after_colon x.content (x.post ⊕ a) b i.tree;
        spells = λ y. ap (λ t. spell_rmember m (spell_ws a (0x2C ∷ spell_ws b t))) (i.spells y)
            ∙ x.spells (spell_ws a (0x2C ∷ spell_ws b (spell_members i.tree y)))
            ∙ ap (λ t. 0x22 ∷ spell_chars x.name (0x22 ∷ spell_ws x.before_colon (0x3A ∷ spell_ws x.after_colon (spell_value x.content t)))) (sym (ws_ws x.post a (0x2C ∷ spell_ws b (spell_members i.tree y))));
      }

  out_member : (m : RMember) → OutMember (spell_rmember m)
  out_member (rmember n (structural a b) v) =
      let x = out_value v in
      record {
        name = n;
        before_colon = a;
        after_colon = b ⊕ x.pre;
        content = x.tree;
        post = x.post;
        spells = λ y. ap (λ t. 0x22 ∷ spell_chars n (0x22 ∷ spell_ws a (0x3A ∷ t))) (ap (spell_ws b) (x.spells y) ∙ sym (ws_ws b x.pre (spell_value x.tree (spell_ws x.post y))));
      }

  out_array : (a : RArray) → OutValue (spell_rarray a)
  out_array (no_rvalues (structural a b) (structural c e)) =
      record { pre = a; tree = jempty_array (b ⊕ c); post = e; spells = λ y. ap (λ t. spell_ws a (0x5B ∷ t)) (sym (ws_ws b c (0x5D ∷ spell_ws e y))) }
  out_array (some_rvalues (structural a b) vs (structural c e)) =
      let x = out_elements vs c in
      record {
        pre = a;
        tree = jarray (b ⊕ x.pre) x.tree;
        post = e;
        spells = λ y. ap (λ t. spell_ws a (0x5B ∷ t)) (ap (spell_ws b) (x.spells (spell_ws e y)) ∙ sym (ws_ws b x.pre (spell_elements x.tree (spell_ws e y))));
      }

  out_elements : (vs : RValues) (w : Ws) → OutElements (spell_rvalues vs) w
  out_elements (one_rvalue v) w =
      let x = out_value v in
      record {
        pre = x.pre;
        tree = last_element x.tree (x.post ⊕ w);
        spells = λ y. x.spells (spell_ws w (0x5D ∷ y)) ∙ ap (λ t. spell_ws x.pre (spell_value x.tree t)) (sym (ws_ws x.post w (0x5D ∷ y)));
      }
  out_elements (more_rvalues v (structural a b) vs) w =
      let x = out_value v in
      let i = out_elements vs w in
      record {
        pre = x.pre;
        tree = element x.tree (x.post ⊕ a) (b ⊕ i.pre) i.tree;
        spells = λ y. ap (λ t. spell_rvalue v (spell_ws a (0x2C ∷ t))) (ap (spell_ws b) (i.spells y) ∙ sym (ws_ws b i.pre (spell_elements i.tree y)))
            ∙ x.spells (spell_ws a (0x2C ∷ spell_ws (b ⊕ i.pre) (spell_elements i.tree y)))
            ∙ ap (λ t. spell_ws x.pre (spell_value x.tree t)) (sym (ws_ws x.post a (0x2C ∷ spell_ws (b ⊕ i.pre) (spell_elements i.tree y))));
      }

-- Every text of the RFC's rules is one of Grammar's.
pub from_rfc : (r : RText) → (d : JText) × (spell d ≡ spell_rtext r)
unfolding spell_rtext spell
from_rfc (rtext w v u) =
    let x = out_value v in (
      jtext (w ⊕ x.pre) x.tree (x.post ⊕ u),
      sym (ap (spell_ws w) (x.spells (spell_ws u []))
          ∙ sym (ws_ws w x.pre (spell_value x.tree (spell_ws x.post (spell_ws u []))))
          ∙ ap (λ t. spell_ws (w ⊕ x.pre) (spell_value x.tree t)) (sym (ws_ws x.post u []))),
    )

-- ---- from Grammar's rules to the RFC's
record InElements (es : JElements) : Type 0 where
  tree : RValues
  post : Ws
  spells : (y : Bytes) → spell_rvalues tree (spell_ws post (0x5D ∷ y)) ≡ spell_elements es y

record InMembers (ms : JMembers) : Type 0 where
  tree : RMembers
  post : Ws
  spells : (y : Bytes) → spell_rmembers tree (spell_ws post (0x7D ∷ y)) ≡ spell_members ms y

mutual
  unfolding spell_rvalue spell_structural spell_value spell_ws

  in_value : (d : JValue) → (r : RValue) × ((y : Bytes) → spell_rvalue r y ≡ spell_value d y)
  in_value jtrue = (rtrue, λ y. refl)
  in_value jfalse = (rfalse, λ y. refl)
  in_value jnull = (rnull, λ y. refl)
  in_value (jnumber negative i fr ex) = (rnumber negative i fr ex, λ y. refl)
  in_value (jstring cs) = (rstring cs, λ y. refl)
  in_value (jempty_array w) = (rarray (no_rvalues (structural no_ws w) (structural no_ws no_ws)), λ y. refl)
  in_value (jarray w es) =
      let x = in_elements es in
      (rarray (some_rvalues (structural no_ws w) x.tree (structural x.post no_ws)), λ y. ap (λ t. 0x5B ∷ spell_ws w t) (x.spells y))
  in_value (jempty_object w) = (robject (no_rmembers (structural no_ws w) (structural no_ws no_ws)), λ y. refl)
  in_value (jobject w ms) =
      let x = in_members ms in
      (robject (some_rmembers (structural no_ws w) x.tree (structural x.post no_ws)), λ y. ap (λ t. 0x7B ∷ spell_ws w t) (x.spells y))

  in_elements : (es : JElements) → InElements es
  in_elements (last_element d w) =
      let v = in_value d in
      record { tree = one_rvalue v.0; post = w; spells = λ y. v.1 (spell_ws w (0x5D ∷ y)) }
  in_elements (element d w u es) =
      let v = in_value d in
      let x = in_elements es in
      record {
        tree = more_rvalues v.0 (structural w u) x.tree;
        post = x.post;
        spells = λ y. ap (λ t. spell_rvalue v.0 (spell_ws w (0x2C ∷ spell_ws u t))) (x.spells y) ∙ v.1 (spell_ws w (0x2C ∷ spell_ws u (spell_elements es y)));
      }

  in_members : (ms : JMembers) → InMembers ms
  in_members (last_member n w u d z) =
      let v = in_value d in
      record {
        tree = one_rmember (rmember n (structural w u) v.0);
        post = z;
        spells = λ y. ap (λ t. 0x22 ∷ spell_chars n (0x22 ∷ spell_ws w (0x3A ∷ spell_ws u t))) (v.1 (spell_ws z (0x7D ∷ y)));
      }
  in_members (jmember n w u d z o ms) =
      let v = in_value d in
      let x = in_members ms in
      record {
        tree = more_rmembers (rmember n (structural w u) v.0) (structural z o) x.tree;
        post = x.post;
        spells = λ y. ap (λ t. 0x22 ∷ spell_chars n (0x22 ∷ spell_ws w (0x3A ∷ spell_ws u t)))
            (ap (λ t. spell_rvalue v.0 (spell_ws z (0x2C ∷ spell_ws o t))) (x.spells y) ∙ v.1 (spell_ws z (0x2C ∷ spell_ws o (spell_members ms y))));
      }

-- Every text of Grammar's rules is one of the RFC's.
pub to_rfc : (d : JText) → (r : RText) × (spell_rtext r ≡ spell d)
unfolding spell_rtext spell
to_rfc (jtext w d u) =
    let v = in_value d in
    (rtext w v.0 u, ap (spell_ws w) (v.1 (spell_ws u [])))

-- A text is derived by the RFC's rules exactly when it is by Grammar's.
pub same_texts : (s : Bytes) → ((r : RText) × (spell_rtext r ≡ s)) ↔ ((d : JText) × (spell d ≡ s))
same_texts s = (λ x. let y = from_rfc x.0 in (y.0, y.1 ∙ x.1), λ x. let y = to_rfc x.0 in (y.0, y.1 ∙ x.1))
