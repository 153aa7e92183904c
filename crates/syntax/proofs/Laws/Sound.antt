-- Sound: what is read is derived by the grammar, with its meaning and within the limits; what stands before a fault begins a text of RFC 8259,
-- and from 3 on what stands through it.
use Rattle.std.specs.Prelude.{◌≡◌, Bool, true, false, ◌⊎◌, ℕ, zero, suc, ◌+◌, ◌*◌, ◌≤◌, ◌<◌, leb, ltb, eqb, length, take, drop}
use Rattle.std.proofs.Math.Path.{refl, subst, ap}
use Rattle.std.proofs.Common.{sym, ◌∙◌, inl, inr, eqb-true, ltb-true, ltb-false}
use mathlib.Core.List.{List, [], ◌∷◌, ◌++◌}
use Rattle.std.specs.Prelude.{Option, None, Some}
use native.Mathlib.Omega.{arith}
use Rattle.model.specs.Bytes.{Bytes, ascii}
use Rattle.model.proofs.Laws.Option.{none_some}
use Rattle.model.specs.Limits.{max_text_bytes, max_values, max_nesting, max_integer}
use Rattle.model.specs.declared.refusal.ReadFault.{ReadFault}
use Rattle.model.specs.declared.refusal.ReadFault.TheVariants.{NotJson, TooLarge}
use Rattle.model.specs.Size.{value_count, items_count, members_count, nesting, items_nesting, members_nesting}
use Rattle.model.specs.Value.{Value, scalar, array, object, null, boolean, string, Values, no_items, item, Members, no_members, member}
use Rattle.syntax.specs.declared.Start.TheVariants.{TooMuch, Literal, Minus, Digit, Quote, Bracket, Brace}
use Rattle.syntax.specs.declared.Word.{Word}
use Rattle.syntax.specs.declared.Word.TheVariants.{TrueWord, FalseWord, NullWord}
use Rattle.syntax.specs.declared.Separator.TheVariants.{Comma, Close}
use Rattle.syntax.specs.Faults.{OverLong, reach}
use Rattle.syntax.specs.Grammar.{Ws, no_ws, Frac, no_frac, frac, Exp, no_exp, exp, no_chars, JValue, jtrue, jfalse, jnull, jnumber, jstring, jempty_array, jarray, jempty_object, jobject, JElements, last_element, element, JMembers, last_member, jmember, JText, jtext, spell_ws, spell_minus, spell_value, spell_elements, spell_members, spell, int_number, limited, plain, map, map₂, chars_meaning, fresh, seen_with, member_of, value_meaning, elements_meaning, members_meaning, meaning}
use Rattle.syntax.specs.Read.{Parsed, ok, bad, Parser, then, ◌>>=◌, give, if, peek, eat, white, expect, literal, signed, int, clear, chars, quoted, among, name, on_separator, value, items, members, ended, text, Read, done, refuse, answer, read}
use Rattle.syntax.specs.Tokens.{start_of, separator_of}
use Rattle.syntax.proofs.Laws.Agreement.{At, start, onward, Alike, now, alike_take, Keeps, ◌&◌, nothing, byte, ws_keeps, minus_keeps, value_keeps}
use Rattle.syntax.proofs.Laws.Parsing.{then_law, if_law, peek_law, separator_law, start_law}
use Rattle.syntax.proofs.Laws.SoundScalars.{Spaced, IsLone, large_seen, Cut, Got, Reads, cut_here, cut_byte, cut_after, cut_before, cut_as, reads_in, white_law, expect_reads, int_reads}
use Rattle.syntax.proofs.Laws.SoundStrings.{Name, spell_name, name_keeps, NameMeans, ReadsChars, chars_read, name_reads}
use Rattle.syntax.proofs.Laws.Tokens.{Opens, start_says, separator_says}

-- ---- the meaning of values that fit, `row` values having begun before, `depth` arrays and objects deep
abbrev pub ValueMeans : ℕ → ℕ → JValue → Value → Type 0
ValueMeans row depth d v = (value_meaning d ≡ Some v) × (row + value_count v ≤ max_values) × (depth + nesting v ≤ max_nesting)

abbrev pub ItemsMean : ℕ → ℕ → JElements → Values → Type 0
ItemsMean row depth es vs = (elements_meaning es ≡ Some vs) × (row + items_count vs ≤ max_values) × (depth + items_nesting vs ≤ max_nesting)

abbrev pub MembersMean : ℕ → ℕ → List Bytes → JMembers → Members → Type 0
MembersMean row depth seen es ms = (members_meaning es seen ≡ Some ms) × (row + members_count ms ≤ max_values) × (depth + members_nesting ms ≤ max_nesting)

signed_scalar : (negative : Bool) (n : ℕ) → (value_count (signed negative n) ≡ 1) × (nesting (signed negative n) ≡ 0)
unfolding signed value_count nesting
signed_scalar false n = (refl, refl)
signed_scalar true zero = (refl, refl)
signed_scalar true (suc n) = (refl, refl)

-- A number is one value and nests nothing.
pub number_scalar : (negative : Bool) (n : ℕ) (fr : Frac) (ex : Exp) (v : Value) → plain negative n fr ex ≡ Some v → (value_count v ≡ 1) × (nesting v ≡ 0)
unfolding plain limited
number_scalar negative n no_frac no_exp v e = go (leb n max_integer) e
  where
    go : (b : Bool) → ◌≡◌ {A = Option Value} (elim b [ true ↦ Some (signed negative n) | false ↦ None ]) (Some v) → (value_count v ≡ 1) × (nesting v ≡ 0)
    go true e = let i : signed negative n ≡ v = cc in subst (λ z. (value_count z ≡ 1) × (nesting z ≡ 0)) i (signed_scalar negative n)
    go false e = none_some e
number_scalar negative n no_frac (exp x h s b k ds) v e = none_some e
number_scalar negative n (frac b h ds) ex v e = none_some e

-- The names before a member and its own.
pub seen_fresh : (seen : List Bytes) (o : Option Bytes) (n : Bytes) → fresh seen o ≡ Some n → seen_with seen o ≡ seen ++ (n ∷ [])
unfolding fresh seen_with
seen_fresh seen None n e = none_some e
seen_fresh seen (Some k) n e = go (among k seen) e
  where
    go : (b : Bool) → ◌≡◌ {A = Option Bytes} (elim b [ true ↦ None | false ↦ Some k ]) (Some n) → seen ++ (k ∷ []) ≡ seen ++ (n ∷ [])
    go true e = none_some e
    go false e = let i : k ≡ n = cc in ap (λ x. seen ++ (x ∷ [])) i

module _ (s : Bytes) where
  -- ---- scalars
  literal_reads : (k : Word) (row depth : ℕ) (t : Bytes) (at : ℕ) → row < max_values → depth ≤ max_nesting → At s t at → Reads s spell_value (ValueMeans row depth) t (literal k t at)
  unfolding literal spell_value value_meaning value_count nesting
  literal_reads k row depth t at hr hd h = go k
    where
      word : (d : JValue) (v : Value) (xs : Bytes) → value_meaning d ≡ Some v → value_count v ≡ 1 → nesting v ≡ 0 → ((y : Bytes) → xs ++ y ≡ spell_value d y) → Reads s spell_value (ValueMeans row depth) t (expect xs v t at)
      word d v xs e one flat spells =
          reads_in s {X = Unit {0}} {Y = JValue} spell_value (ValueMeans row depth) nothing (λ x. d) (λ x y. spells y)
          (λ x w i. subst (ValueMeans row depth d) i (e, omega (arith, one), omega (arith, flat))) refl (expect xs v t at) (expect_reads s xs v t at h)

      go : (k : Word) → Reads s spell_value (ValueMeans row depth) t (literal k t at)
      go TrueWord = word jtrue (scalar (boolean true)) (ascii "true") refl refl refl (λ y. refl)
      go FalseWord = word jfalse (scalar (boolean false)) (ascii "false") refl refl refl (λ y. refl)
      go NullWord = word jnull (scalar null) (ascii "null") refl refl refl (λ y. refl)

  number_reads : (negative : Bool) (row depth : ℕ) (t u : Bytes) (at : ℕ) → row < max_values → depth ≤ max_nesting → t ≡ spell_minus negative u → At s u at → Reads s spell_value (ValueMeans row depth) t (int negative u at)
  unfolding spell_value value_meaning
  number_reads negative row depth t u at hr hd e h =
      reads_in s {Y = JValue} spell_value (ValueMeans row depth) (minus_keeps negative) (λ x. jnumber negative x.whole x.part.fr x.part.ex) (λ x y. refl)
      (λ x v i. let one = number_scalar negative (int_number x.whole) x.part.fr x.part.ex v i in (i, omega (arith, one.0), omega (arith, one.1)))
      e (int negative u at) (int_reads s negative u at h)

  string_reads :
      (f row depth : ℕ) (t u : Bytes) (at : ℕ) → row < max_values → depth ≤ max_nesting → t ≡ 0x22 ∷ u → At s u at
      → Reads s spell_value (ValueMeans row depth) t (then (chars f clear u at) (λ bs. eat (give (scalar (string bs)))))
  unfolding spell_value value_meaning eat give value_count nesting map
  string_reads f row depth t u at hr hd i h =
      then_law Q (ReadsChars s clear u) (chars f clear u at) _ (chars_read s f clear u at h)
      (λ bs v q g. subst (λ z. Q (eat (give (scalar (string bs))) z q)) (sym g.left)
      (record { tree = jstring g.cs; is = i ∙ ap (λ y. 0x22 ∷ y) g.is; means = (ap (map (λ x. scalar (string x))) g.means, omega arith, omega arith); stands = onward 0x22 (subst (λ x. At s x q) g.left g.stands) }))
      (λ k p g. stop k p g)
    where
      Q : Parsed Value → Type 0
      Q = Reads s spell_value (ValueMeans row depth) t

      stop : (k : ReadFault) (p : ℕ) → ReadsChars s clear u (bad k p) → Q (bad k p)
      stop k p (inl g) = absurd g
      stop k p (inr g) = (jstring g.0, cut_after s (byte 0x22) i (cut_before s (λ y. 0x22 ∷ y) g.1))

  -- A byte with which a value begins, where no value may.
  too_much : (row depth : ℕ) {b : ℕ} {t u : Bytes} {at : ℕ} → Opens b → t ≡ b ∷ u → At s t at → Reads s spell_value (ValueMeans row depth) t (bad TooLarge at)
  too_much row depth {b} {t} {u} {at} o e h =
      (o.tree, subst (λ z. Cut s TooLarge at z (spell_value o.tree)) (sym e) (cut_as s (spell_value o.tree) (λ y. sym (o.is y)) (cut_byte s large_seen o.more (subst (λ z. At s z at) e h))))

  -- ---- arrays and objects alike
  -- From after the opening bracket on: what X derives has the meaning R.
  inside_reads :
      {A X : Type 0} (K : X → Bytes → Bytes) (R : X → A → Type 0) (M : JValue → Value → Type 0) (opening close : ℕ) (empty : Ws → JValue) (filled : Ws → X → JValue) (nil : Value) (wrap : A → Value)
      → ((w : Ws) (y : Bytes) → opening ∷ spell_ws w (close ∷ y) ≡ spell_value (empty w) y)
      → ((w : Ws) (x : X) (y : Bytes) → opening ∷ spell_ws w (K x y) ≡ spell_value (filled w x) y)
      → ((w : Ws) → M (empty w) nil)
      → ((w : Ws) (x : X) (a : A) → R x a → M (filled w x) (wrap a))
      → (m : Parser A) → ((x : Bytes) (q : ℕ) → At s x q → Reads s K R x (m x q))
      → (t u : Bytes) (at : ℕ) → t ≡ opening ∷ u → At s u at
      → Reads s spell_value M t (white (peek >>= λ c. if (eqb c close) (eat (give nil)) (λ x q. then (m x q) (λ a. give (wrap a)))) u at)
  unfolding ◌>>=◌ eat give
  inside_reads K R M opening close empty filled nil wrap spells-empty spells means-empty means m reads t u at e h =
      white_law s Q _ u at h (λ w y r i g.
      let e₁ : t ≡ opening ∷ spell_ws w y = e ∙ ap (λ z. opening ∷ z) i in
      peek_law Q y r _
      (λ j. (empty w, cut_as s (spell_value (empty w)) (spells-empty w) (cut_after s (byte opening & ws_keeps w) e₁ (cut_here s (λ z. close ∷ z) g))))
      (λ c z j. let g₁ : At s (c ∷ z) r = subst (λ x. At s x r) j g in
      if_law Q (c ∷ z) r (eqb c close) _ _
      (λ k. record { tree = empty w; is = e₁ ∙ ap (λ z. opening ∷ spell_ws w z) (j ∙ ap (λ c. c ∷ z) (eqb-true c close k)) ∙ spells-empty w z; means = means-empty w; stands = onward c g₁ })
      (λ k. then_law Q (Reads s K R (c ∷ z)) (m (c ∷ z) r) _ (reads (c ∷ z) r g₁)
      (λ a x q b. record { tree = filled w b.tree; is = e₁ ∙ ap (λ z. opening ∷ spell_ws w z) (j ∙ b.is) ∙ spells w b.tree x; means = means w b.tree a b.means; stands = b.stands })
      (λ n p b. (filled w b.0, cut_as s (spell_value (filled w b.0)) (spells w b.0) (cut_after s (byte opening & ws_keeps w) (e₁ ∙ ap (λ z. opening ∷ spell_ws w z) j) b.1))))))
    where
      Q : Parsed Value → Type 0
      Q = Reads s spell_value M t

  -- After an item or a member, which P spells: the closing bracket, or a comma and more of them.
  rest_reads :
      {A X : Type 0} (K : X → Bytes → Bytes) (R S : X → A → Type 0) (close : ℕ) (P : Bytes → Bytes) → Keeps P
      → (last : Ws → X) (more : Ws → Ws → X → X) (one : A) (cons : A → A)
      → ((w : Ws) (y : Bytes) → P (spell_ws w (close ∷ y)) ≡ K (last w) y)
      → ((w u : Ws) (x : X) (y : Bytes) → P (spell_ws w (0x2C ∷ spell_ws u (K x y))) ≡ K (more w u x) y)
      → ((w : Ws) → R (last w) one)
      → ((w u : Ws) (x : X) (a : A) → S x a → R (more w u x) (cons a))
      → (m : Parser A) → ((x : Bytes) (q : ℕ) → At s x q → Reads s K S x (m x q))
      → (t u : Bytes) (at : ℕ) → t ≡ P u → At s u at
      → Reads s K R t (white (peek >>= λ b. on_separator (separator_of close b) (eat (white (λ x q. then (m x q) (λ a. give (cons a))))) (eat (give one))) u at)
  unfolding ◌>>=◌ eat give
  rest_reads {A} K R S close P keeps last more one cons spells-last spells means-last means m reads t u at e h =
      white_law s Q _ u at h (λ w y r i g.
      let e₁ : t ≡ P (spell_ws w y) = e ∙ ap P i in
      let stop : Q (bad NotJson r) = (last w, cut_as s (K (last w)) (spells-last w) (cut_after s (keeps & ws_keeps w) e₁ (cut_here s (λ z. close ∷ z) g))) in
      peek_law Q y r _ (λ j. stop)
      (λ b z j. let g₁ : At s z (suc r) = onward b (subst (λ x. At s x r) j g) in
      separator_law Q (b ∷ z) r (separator_of close b) _ _
      (λ k. let e₂ : t ≡ P (spell_ws w (0x2C ∷ z)) = e₁ ∙ ap (λ z. P (spell_ws w z)) (j ∙ ap (λ c. c ∷ z) (separator_says close b Comma k)) in
      white_law s Q _ z (suc r) g₁ (λ w₂ y₂ r₂ i₂ g₂.
      let e₃ : t ≡ P (spell_ws w (0x2C ∷ spell_ws w₂ y₂)) = e₂ ∙ ap (λ z. P (spell_ws w (0x2C ∷ z))) i₂ in
      then_law Q (Reads s K S y₂) (m y₂ r₂) _ (reads y₂ r₂ g₂)
      (λ a x q b. record { tree = more w w₂ b.tree; is = e₃ ∙ ap (λ z. P (spell_ws w (0x2C ∷ spell_ws w₂ z))) b.is ∙ spells w w₂ b.tree x; means = means w w₂ b.tree a b.means; stands = b.stands })
      (λ n p b. (more w w₂ b.0, cut_as s (K (more w w₂ b.0)) (spells w w₂ b.0) (cut_after s (keeps & ws_keeps w & byte 0x2C & ws_keeps w₂) e₃ b.1)))))
      (λ k. record { tree = last w; is = e₁ ∙ ap (λ z. P (spell_ws w z)) (j ∙ ap (λ c. c ∷ z) (separator_says close b Close k)) ∙ spells-last w z; means = means-last w; stands = g₁ })
      stop))
    where
      Q : Parsed A → Type 0
      Q = Reads s K R t

  -- ---- values
  array_reads :
      (row depth : ℕ) (m : Parser Values) → row < max_values → depth < max_nesting
      → ((x : Bytes) (q : ℕ) → At s x q → Reads s spell_elements (ItemsMean (suc row) (suc depth)) x (m x q)) → (t u : Bytes) (at : ℕ) → t ≡ 0x5B ∷ u → At s u at
      → Reads s spell_value (ValueMeans row depth) t (white (peek >>= λ c. if (eqb c 0x5D) (eat (give (array no_items))) (λ x q. then (m x q) (λ vs. give (array vs)))) u at)
  unfolding spell_value value_meaning value_count nesting map
  array_reads row depth m hr hd =
      inside_reads spell_elements (ItemsMean (suc row) (suc depth)) (ValueMeans row depth) 0x5B 0x5D jempty_array jarray (array no_items) array (λ w y. refl) (λ w x y. refl)
      (λ w. (refl, omega arith, omega arith)) (λ w x a g. (ap (map array) g.0, omega (arith, g.1), omega (arith, g.2))) m

  object_reads :
      (row depth : ℕ) (m : Parser Members) → row < max_values → depth < max_nesting
      → ((x : Bytes) (q : ℕ) → At s x q → Reads s spell_members (MembersMean (suc row) (suc depth) []) x (m x q)) → (t u : Bytes) (at : ℕ) → t ≡ 0x7B ∷ u → At s u at
      → Reads s spell_value (ValueMeans row depth) t (white (peek >>= λ c. if (eqb c 0x7D) (eat (give (object no_members))) (λ x q. then (m x q) (λ ms. give (object ms)))) u at)
  unfolding spell_value value_meaning value_count nesting map
  object_reads row depth m hr hd =
      inside_reads spell_members (MembersMean (suc row) (suc depth) []) (ValueMeans row depth) 0x7B 0x7D jempty_object jobject (object no_members) object (λ w y. refl) (λ w x y. refl)
      (λ w. (refl, omega arith, omega arith)) (λ w x a g. (ap (map object) g.0, omega (arith, g.1), omega (arith, g.2))) m

  more_items :
      (row depth : ℕ) (t : Bytes) (v : Value) (u : Bytes) (q : ℕ) (m : Parser Values) → (g : Got s spell_value (ValueMeans row depth) t v u q)
      → ((x : Bytes) (p : ℕ) → At s x p → Reads s spell_elements (ItemsMean (row + value_count v) depth) x (m x p))
      → Reads s spell_elements (ItemsMean row depth) t (white (peek >>= λ b. on_separator (separator_of 0x5D b) (eat (white (λ x p. then (m x p) (λ vs. give (item v vs))))) (eat (give (item v no_items)))) u q)
  unfolding spell_elements elements_meaning items_count items_nesting map map₂
  more_items row depth t v u q m g reads =
      rest_reads spell_elements (ItemsMean row depth) (ItemsMean (row + value_count v) depth) 0x5D (spell_value g.tree) (value_keeps g.tree)
      (last_element g.tree) (element g.tree) (item v no_items) (item v) (λ w y. refl) (λ w u x y. refl)
      (λ w. (ap (map (λ x. item x no_items)) g.means.0, omega (arith, g.means.1), omega (arith, g.means.2)))
      (λ w u x vs k. (ap (λ z. map₂ item z (elements_meaning x)) g.means.0 ∙ ap (map₂ item (Some v)) k.0, omega (arith, k.1), omega (arith, k.2, g.means.2)))
      m reads t u q g.is g.stands

  more_members :
      (row depth : ℕ) (seen : List Bytes) (t : Bytes) (n : Bytes) (x : Name) → NameMeans seen x n → (o : Ws) (t₁ : Bytes) → t ≡ spell_name x (spell_ws o t₁)
      → (v : Value) (u : Bytes) (q : ℕ) (m : Parser Members) → (g : Got s spell_value (ValueMeans row depth) t₁ v u q)
      → ((y : Bytes) (p : ℕ) → At s y p → Reads s spell_members (MembersMean (row + value_count v) depth (seen ++ (n ∷ []))) y (m y p))
      → Reads s spell_members (MembersMean row depth seen) t (white (peek >>= λ b. on_separator (separator_of 0x7D b) (eat (white (λ y p. then (m y p) (λ ms. give (member n v ms))))) (eat (give (member n v no_members)))) u q)
  unfolding spell_members members_meaning members_count members_nesting member_of
  more_members row depth seen t n x hn o t₁ e v u q m g reads =
      rest_reads spell_members (MembersMean row depth seen) (MembersMean (row + value_count v) depth (seen ++ (n ∷ []))) 0x7D (λ z. spell_name x (spell_ws o (spell_value g.tree z))) (name_keeps x & ws_keeps o & value_keeps g.tree)
      (last_member x.cs x.w o g.tree) (jmember x.cs x.w o g.tree) (member n v no_members) (member n v) (λ w y. refl) (λ w u x y. refl)
      (λ w. (ap (λ z. member_of z (value_meaning g.tree) (Some no_members)) hn ∙ ap (λ z. member_of (Some n) z (Some no_members)) g.means.0, omega (arith, g.means.1), omega (arith, g.means.2)))
      (λ w u y ms k. (whole y ms k.0, omega (arith, k.1), omega (arith, k.2, g.means.2)))
      m reads t u q (e ∙ ap (λ z. spell_name x (spell_ws o z)) g.is) g.stands
    where
      seen₁ : List Bytes
      seen₁ = seen_with seen (chars_meaning x.cs None)

      whole : (y : JMembers) (ms : Members) → members_meaning y (seen ++ (n ∷ [])) ≡ Some ms → member_of (fresh seen (chars_meaning x.cs None)) (value_meaning g.tree) (members_meaning y seen₁) ≡ Some (member n v ms)
      whole y ms h =
          ap (λ z. member_of z (value_meaning g.tree) (members_meaning y seen₁)) hn
          ∙ ap (λ z. member_of (Some n) z (members_meaning y seen₁)) g.means.0
          ∙ ap (λ z. member_of (Some n) (Some v) (members_meaning y z)) (seen_fresh seen (chars_meaning x.cs None) n hn)
          ∙ ap (member_of (Some n) (Some v)) h

  minus_is : (b : ℕ) (u : Bytes) → b ≡ 0x2D → b ∷ u ≡ spell_minus true u
  unfolding spell_minus
  minus_is b u e = ap (λ z. z ∷ u) e

  no_minus : (u : Bytes) → u ≡ spell_minus false u
  unfolding spell_minus
  no_minus u = refl

  -- A fault inside an item, a member's name or its content.
  in_item : {k : ReadFault} {p : ℕ} {t : Bytes} → ((d : JValue) × Cut s k p t (spell_value d)) → (es : JElements) × Cut s k p t (spell_elements es)
  unfolding spell_elements spell_ws
  in_item g = (last_element g.0 no_ws, cut_before s (λ y. 0x5D ∷ y) g.1)

  in_name : {k : ReadFault} {p : ℕ} {t : Bytes} → ((x : Name) × Cut s k p t (spell_name x)) → (ms : JMembers) × Cut s k p t (spell_members ms)
  unfolding spell_members spell_value spell_ws
  in_name g = (last_member g.0.cs g.0.w no_ws jnull no_ws, cut_before s (λ y. spell_value jnull (0x7D ∷ y)) g.1)

  in_content : {k : ReadFault} {p : ℕ} {t t₁ : Bytes} (x : Name) (o : Ws) → t ≡ spell_name x (spell_ws o t₁) → ((d : JValue) × Cut s k p t₁ (spell_value d)) → (ms : JMembers) × Cut s k p t (spell_members ms)
  unfolding spell_members spell_ws
  in_content x o i g = (last_member x.cs x.w o g.0 no_ws, cut_after s (name_keeps x & ws_keeps o) i (cut_before s (λ y. 0x7D ∷ y) g.1))

  mutual
    unfolding value ◌>>=◌ eat quoted

    pub value_reads : (f row depth : ℕ) (t : Bytes) (at : ℕ) → depth ≤ max_nesting → At s t at → Reads s spell_value (ValueMeans row depth) t (value f row depth t at)
    value_reads zero row depth t at hd h = (jnull, cut_here s _ h)
    value_reads (suc f) row depth t at hd h =
        peek_law (Reads s spell_value (ValueMeans row depth) t) t at _
        (λ e. (jnull, cut_here s _ h))
        (λ b u e. let h₁ : At s u (suc at) = onward b (subst (λ x. At s x at) e h) in
        start_law (Reads s spell_value (ValueMeans row depth) t) (b ∷ u) at (start_of row depth b) _ _ _ _ _ _
        (jnull, cut_here s _ h)
        (λ i. too_much row depth (start_says row depth b TooMuch i) e h)
        (λ k i. subst (λ z. Reads s spell_value (ValueMeans row depth) z (literal k (b ∷ u) at)) (sym e) (literal_reads k row depth (b ∷ u) at (start_says row depth b (Literal k) i) hd (subst (λ x. At s x at) e h)))
        (λ i. let x = start_says row depth b Minus i in number_reads true row depth t u (suc at) x.1 hd (e ∙ minus_is b u x.0) h₁)
        (λ i. number_reads false row depth t (b ∷ u) at (start_says row depth b Digit i) hd (e ∙ no_minus (b ∷ u)) (subst (λ x. At s x at) e h))
        (λ i. let x = start_says row depth b Quote i in string_reads f row depth t u (suc at) x.1 hd (e ∙ ap (λ c. c ∷ u) x.0) h₁)
        (λ i. let x = start_says row depth b Bracket i in array_reads row depth (λ y q. items f (suc row) (suc depth) y q) x.1 x.2 (λ y q g. items_read f (suc row) (suc depth) y q x.2 g) t u (suc at) (e ∙ ap (λ c. c ∷ u) x.0) h₁)
        (λ i. let x = start_says row depth b Brace i in object_reads row depth (λ y q. members f (suc row) (suc depth) [] y q) x.1 x.2 (λ y q g. members_read f (suc row) (suc depth) [] y q x.2 g) t u (suc at) (e ∙ ap (λ c. c ∷ u) x.0) h₁))

    pub items_read : (f row depth : ℕ) (t : Bytes) (at : ℕ) → depth ≤ max_nesting → At s t at → Reads s spell_elements (ItemsMean row depth) t (items f row depth t at)
    items_read zero row depth t at hd h = (last_element jnull no_ws, cut_here s _ h)
    items_read (suc f) row depth t at hd h =
        then_law (Reads s spell_elements (ItemsMean row depth) t) (Reads s spell_value (ValueMeans row depth) t) (value f row depth t at) _ (value_reads f row depth t at hd h)
        (λ v u q g. more_items row depth t v u q (λ x p. items f (row + value_count v) depth x p) g (λ x p l. items_read f (row + value_count v) depth x p hd l))
        (λ k p g. in_item g)

    pub members_read : (f row depth : ℕ) (seen : List Bytes) (t : Bytes) (at : ℕ) → depth ≤ max_nesting → At s t at → Reads s spell_members (MembersMean row depth seen) t (members f row depth seen t at)
    members_read zero row depth seen t at hd h = (last_member no_chars no_ws no_ws jnull no_ws, cut_here s _ h)
    members_read (suc f) row depth seen t at hd h =
        then_law (Reads s spell_members (MembersMean row depth seen) t) (Reads s spell_name (NameMeans seen) t) (name f seen t at) _ (name_reads s f seen t at h)
        (λ n u q g. white_law s (Reads s spell_members (MembersMean row depth seen) t) _ u q g.stands (λ o t₁ q₁ i l.
        let e : t ≡ spell_name g.tree (spell_ws o t₁) = g.is ∙ ap (spell_name g.tree) i in
        then_law (Reads s spell_members (MembersMean row depth seen) t) (Reads s spell_value (ValueMeans row depth) t₁) (value f row depth t₁ q₁) _ (value_reads f row depth t₁ q₁ hd l)
        (λ v x p k. more_members row depth seen t n g.tree g.means o t₁ e v x p (λ x p. members f (row + value_count v) depth (seen ++ (n ∷ [])) x p) k (λ x p l. members_read f (row + value_count v) depth (seen ++ (n ∷ [])) x p hd l))
        (λ k p x. in_content g.tree o e x)))
        (λ k p g. in_name g)

-- ---- texts
-- A text of RFC 8259 with this meaning, within the limits.
pub record Whole (s : Bytes) (v : Value) : Type 0 where
  pub tree : JText
  pub spells : spell tree ≡ s
  pub means : meaning tree ≡ Some v
  pub few : value_count v ≤ max_values
  pub flat : nesting v ≤ max_nesting

-- A text of RFC 8259 that begins with the bytes of s through a fault.
pub record Begun (s : Bytes) (k : ReadFault) (p : ℕ) : Type 0 where
  pub inside : reach k p ≤ length s
  pub tree : JText
  pub rest : Bytes
  pub begins : spell tree ≡ take (reach k p) s ++ rest
  pub spaced : Spaced k rest
  pub lone : IsLone k (drop p s)

abbrev TextReads : Bytes → Parsed Value → Type 0
TextReads s (ok v u q) = Whole s v
TextReads s (bad k p) = Begun s k p

text_begun : (s : Bytes) (k : ReadFault) (p : ℕ) (d : JText) (r w : Bytes) → At s r (reach k p) → Alike r w s (spell d) → Spaced k w → IsLone k (drop p s) → Begun s k p
text_begun s k p d r w h a sp un = let x = alike_take h a in record { inside = x.0; tree = d; rest = w; begins = x.1; spaced = sp; lone = un }

text_reads : (f : ℕ) (s : Bytes) → TextReads s (text f s 0)
unfolding text ◌>>=◌ ended spell meaning
text_reads f s =
    white_law s (TextReads s) _ s 0 start (λ w t q i h.
    then_law (TextReads s) (Reads s spell_value (ValueMeans 0 0) t) (value f 0 0 t q) _ (value_reads s f 0 0 t q (omega arith) h)
    (λ v u p g. white_law s (TextReads s) (ended v) u p g.stands (λ w₂ y r j l. end v w t i g w₂ y r j l))
    (λ k p g. let x = g.1.alike (spell_ws no_ws []) in
    text_begun s k p (jtext w g.0 no_ws) g.1.rest x.0 g.1.place
    (subst (λ z. Alike g.1.rest x.0 z (spell_ws w (spell_value g.0 (spell_ws no_ws [])))) (sym i) ((ws_keeps w).keep x.1)) x.2 g.1.lone))
  where
    end : (v : Value) (w : Ws) (t : Bytes) → s ≡ spell_ws w t → {u : Bytes} {p : ℕ} → Got s spell_value (ValueMeans 0 0) t v u p → (w₂ : Ws) (y : Bytes) (r : ℕ) → u ≡ spell_ws w₂ y → At s y r → TextReads s (ended v y r)
    end v w t i g w₂ [] r j l = record { tree = jtext w g.tree w₂; spells = sym (i ∙ ap (spell_ws w) (g.is ∙ ap (spell_value g.tree) j)); means = g.means.0; few = omega (arith, g.means.1); flat = omega (arith, g.means.2) }
    end v w t i g w₂ (b ∷ y) r j l =
        text_begun s NotJson r (jtext w g.tree w₂) (b ∷ y) [] l
        (subst (λ z. Alike (b ∷ y) [] z (spell_ws w (spell_value g.tree (spell_ws w₂ [])))) (sym (i ∙ ap (spell_ws w) (g.is ∙ ap (spell_value g.tree) j))) ((ws_keeps w & value_keeps g.tree & ws_keeps w₂).keep now)) tt tt

abbrev ReadSays : Bytes → Read → Type 0
ReadSays s (done v) = Whole s v × (length s ≤ max_text_bytes)
ReadSays s (refuse k p) = OverLong s k p ⊎ (Begun s k p × (length s ≤ max_text_bytes))

read_says : (s : Bytes) → ReadSays s (read s)
unfolding read answer
read_says s = go (ltb max_text_bytes (length s)) refl
  where
    fine : length s ≤ max_text_bytes → (r : Parsed Value) → TextReads s r → ReadSays s (answer r)
    fine h (ok v u q) g = (g, h)
    fine h (bad k p) g = inr (g, h)

    go : (b : Bool) → ltb max_text_bytes (length s) ≡ b → ReadSays s (elim b [ true ↦ refuse TooLarge max_text_bytes | false ↦ answer (text (2 * length s + 1) s 0) ])
    go true e = inl (refl, refl, ltb-true max_text_bytes (length s) e)
    go false e = fine (ltb-false max_text_bytes (length s) e) (text (2 * length s + 1) s 0) (text_reads (2 * length s + 1) s)

-- What reads is a text of RFC 8259 with that meaning, within the limits.
pub sound : (s : Bytes) (v : Value) → read s ≡ done v → Whole s v × (length s ≤ max_text_bytes)
sound s v e = subst (ReadSays s) e (read_says s)

-- What stands before a fault begins a text of RFC 8259, and from 3 on what stands through it.
pub begun : (s : Bytes) (k : ReadFault) (p : ℕ) → read s ≡ refuse k p → OverLong s k p ⊎ (Begun s k p × (length s ≤ max_text_bytes))
begun s k p e = subst (ReadSays s) e (read_says s)
