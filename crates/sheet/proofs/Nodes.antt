-- Nodes: what a node that is no string, no array or no object does not denote, and what its rows are not.
use Rattle.std.specs.Prelude.{None}
use mathlib.Core.Path.{◌≡◌, refl}
use Rattle.model.specs.Bytes.{Bytes}
use Rattle.model.specs.Value.{scalar, array, object, string, Values, Members}
use Rattle.table.specs.declared.node.Node.{Node}
use Rattle.table.specs.declared.node.Node.TheVariants.{Null, False, True, Integer, String, Array, Object}
use Rattle.table.specs.declared.node.Rows.{Rows}
use Rattle.table.specs.declared.row.Span.{Span}
use Rattle.table.specs.Denotes.{Denotes, denotes_string, denotes_array, denotes_object}
use Rattle.sheet.specs.ByRows.{of_object, type_in, content_in}

abbrev pub NoString : Node → Type 0
NoString n = (s : Span) → n ≡ String s → ⊥

abbrev pub NoArray : Node → Type 0
NoArray n = (q : Rows) → n ≡ Array q → ⊥

abbrev pub NoObject : Node → Type 0
NoObject n = (q : Rows) → n ≡ Object q → ⊥

module _ {X : Type 0} {T B : Bytes} where
  pub no_string : {n : Node} {s : Bytes} → NoString n → Denotes T B (scalar (string s)) n → X
  no_string k (denotes_string l) = absurd (k _ refl)

  pub no_array : {n : Node} {vs : Values} → NoArray n → Denotes T B (array vs) n → X
  no_array k (denotes_array c m r) = absurd (k _ refl)

  pub no_object : {n : Node} {ms : Members} → NoObject n → Denotes T B (object ms) n → X
  no_object k (denotes_object c m r) = absurd (k _ refl)

-- ---- by rows
pub names_no_type : (Z : Bytes) (n : Node) → NoString n → None ≡ type_in Z n
names_no_type Z Null k = refl
names_no_type Z False k = refl
names_no_type Z True k = refl
names_no_type Z (Integer n) k = refl
names_no_type Z (String s) k = absurd (k s refl)
names_no_type Z (Array q) k = refl
names_no_type Z (Object q) k = refl

pub lists_no_types : (S Z : Bytes) (n : Node) → NoArray n → None ≡ content_in S Z n
lists_no_types S Z Null k = refl
lists_no_types S Z False k = refl
lists_no_types S Z True k = refl
lists_no_types S Z (Integer n) k = refl
lists_no_types S Z (String s) k = refl
lists_no_types S Z (Array q) k = absurd (k q refl)
lists_no_types S Z (Object q) k = refl

pub of_other : {A : Type 0} (other : A) (f : Rows → A) (n : Node) → NoObject n → other ≡ of_object other f n
of_other other f Null k = refl
of_other other f False k = refl
of_other other f True k = refl
of_other other f (Integer n) k = refl
of_other other f (String s) k = refl
of_other other f (Array q) k = refl
of_other other f (Object q) k = absurd (k q refl)
