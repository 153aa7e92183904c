-- Textual: a value as its text has it, which is what the text reads as (`written-reads` of the crate syntax).
use Rattle.model.specs.InstantText.{instant_text}
use Rattle.model.specs.Value.{Value, scalar, instant, array, object, string, Values, no_items, item, Members, no_members, member}

-- 01, Writing: "An instant's text is a fixed record of 24 bytes, written as a string". That string stands in the place of each instant, and nothing else changes.
unfoldable mutual
  pub textual : Value → Value
  textual (scalar x) = scalar x
  textual (instant t) = scalar (string (instant_text t))
  textual (array vs) = array (textual_items vs)
  textual (object ms) = object (textual_members ms)

  pub textual_items : Values → Values
  textual_items no_items = no_items
  textual_items (item v vs) = item (textual v) (textual_items vs)

  pub textual_members : Members → Members
  textual_members no_members = no_members
  textual_members (member name v ms) = member name (textual v) (textual_members ms)
