-- The parts of an array or object: none, or the first and the others.
use mathlib.Core.Path.{◌≡◌, refl, ap}
use mathlib.Core.Bool.{Bool, true, false, cond}
use mathlib.Core.List.{[], ◌++◌, append-nil, append_assoc}
use Prim.Native.Nat.{ℕ, zero, suc, ◌+◌, ◌-◌, ◌≤◌, max}
use native.Mathlib.Omega.{arith}
use lib.Dec.{eqb}
use Rattle.model.specs.Bytes.{Bytes, ascii}
use Rattle.model.specs.Value.{Value, array, object}
use Rattle.model.specs.Size.{value_count, members_count, nesting, members_nesting}
use Rattle.model.specs.Writing.{value_text, members_text, string_text}
use Rattle.heap.specs.declared.handle.Handle.{Handle}
use Rattle.heap.specs.declared.handle.Form.{Form}
use Rattle.heap.specs.declared.handle.Form.TheVariants.{Items, Members, List, Context}
use Rattle.heap.specs.declared.handle.Parts.{Parts}
use Rattle.heap.specs.declared.part.Label.TheVariants.{Current, Accumulator}
use Rattle.heap.specs.Handles.{parts}
use Rattle.heap.specs.Parts.{head_of, tail_of, context_label, label_of, label_bytes}
use Rattle.heap.specs.Unfold.{Areas, items_by, members_by, opened}
use Rattle.writer.specs.Inner.{piece, value_piece, inside_piece, label_text, comma_text, front_text}
use Rattle.writer.proofs.Pieces.{◌⊕◌, fronted}

abbrev comma : Bytes
comma = ascii ","

-- A name of a context and its colon.
context_label_lem : (B : Bytes) (n : ℕ) → label_text B (context_label n) ≡ string_text (label_bytes B (context_label n)) ++ ascii ":"
context_label_lem B n = go (eqb n 1)
  where
    go : (b : Bool) → label_text B (cond b Accumulator Current) ≡ string_text (label_bytes B (cond b Accumulator Current)) ++ ascii ":"
    go true = refl
    go false = refl

-- A name, a colon, and what follows.
named : (b l n v x : Bytes) → l ≡ n ++ ascii ":" → b ++ (n ++ (ascii ":" ++ (v ++ x))) ≡ (b ++ l) ++ (v ++ x)
named b l n v x e = rw e (simp append_assoc)

module _ (a : Areas) (f : Handle → Value) where
  abbrev first : Parts → Value
  first t = f (head_of a.table a.cells t)

  abbrev others : Parts → Parts
  others t = tail_of a.table a.cells t

  -- Of an array with one item more than n; k is what is left of the count.
  items_more : (t : Parts) (c : Bool) (n k : ℕ) → k ≡ n
      → inside_piece (array (items_by a f (suc n) t)) (comma_text c) ≡ fronted (comma_text c ++ []) (value_piece (first t) ⊕ inside_piece (array (items_by a f k (others t))) comma)
  unfolding items_by value_text value_count nesting
  items_more t c n k e = rw (e, append-nil)

  members_more : (t : Parts) (c : Bool) (n k : ℕ) (l : Bytes) → k ≡ n → l ≡ string_text (label_bytes a.strings (label_of a.table t)) ++ ascii ":"
      → inside_piece (object (members_by a f (suc n) t)) (comma_text c) ≡ fronted (comma_text c ++ l) (value_piece (first t) ⊕ inside_piece (object (members_by a f k (others t))) comma)
  unfolding members_by value_text value_count nesting
  members_more t c n k l e h =
      let r = members_by a f n (others t) in
      rw e (ap (λ x. piece x (value_count (first t) + members_count r) (max (nesting (first t)) (members_nesting r)))
      (named (comma_text c) l (string_text (label_bytes a.strings (label_of a.table t))) (value_text (first t)) (members_text r comma) h))

  -- No part.
  none : (form : Form) (i n : ℕ) (before : Bytes) → n ≡ 0 → inside_piece (opened a f (parts form i n)) before ≡ piece [] 0 0
  unfolding items_by members_by value_text value_count nesting
  none Items i n before e = rw e
  none Members i n before e = rw e
  none List i n before e = rw e
  none Context i n before e = rw e

  pub inside_none : (p : Parts) (before : Bytes) → p.count ≡ 0 → inside_piece (opened a f p) before ≡ piece [] 0 0
  inside_none p before e = none p.form p.first p.count before e

  -- The first part, and the others.
  more : (form : Form) (i n : ℕ) (c : Bool) → 1 ≤ n → let p = parts form i n in
      inside_piece (opened a f p) (comma_text c) ≡ fronted (front_text a.strings a.table p c) (value_piece (first p) ⊕ inside_piece (opened a f (others p)) comma)
  more form i zero c h = absurd (omega arith)
  more Items i (suc n) c h = items_more (parts Items i (suc n)) c n (suc n - 1) (omega arith)
  more Members i (suc n) c h = members_more (parts Members i (suc n)) c n (suc n - 1) _ (omega arith) refl
  more List i (suc n) c h = items_more (parts List i (suc n)) c n (suc n - 1) (omega arith)
  more Context i (suc n) c h = members_more (parts Context i (suc n)) c n (suc n - 1) _ (omega arith) (context_label_lem a.strings (suc n))

  pub inside_more : (p : Parts) (c : Bool) → 1 ≤ p.count
      → inside_piece (opened a f p) (comma_text c) ≡ fronted (front_text a.strings a.table p c) (value_piece (first p) ⊕ inside_piece (opened a f (others p)) comma)
  inside_more p c h = more p.form p.first p.count c h
