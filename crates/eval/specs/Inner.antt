-- Inner: what the private functions do. T and A are the rule's table and strings, R and B the record's, C the cells before and C' after.
-- The run is the model's (EvalPlain) for whatever rule the table holds and whatever value the context's handle means.
use Rattle.std.specs.Prelude.{cond, ◌≡◌, ℕ, zero, suc, ◌+◌, ◌*◌, ◌-◌, ◌/◌, ◌≤◌, eqb, length, Option, Some, None, Ok, Err}
use Rattle.model.specs.Bytes.{Bytes}
use Rattle.model.specs.Eval.{context}
use Rattle.model.specs.EvalPlain.{Plain, PlainRun, gives, lift, branch, continue, fold, plain_all, plain_and, eval_plain, ◌>>=◌}
use Rattle.model.specs.Limits.{heap_cells}
use Rattle.model.specs.Operations.{operate}
use Rattle.model.specs.declared.refusal.Fault.TheVariants.{WrongKind}
use Rattle.model.specs.Result.{required}
use Rattle.model.specs.Rule.{Operation, Rule, Rules, no_rules, rule}
use Rattle.model.specs.Truth.{Truth, truthy, falsy, neither, truth}
use Rattle.model.specs.Value.{Value, Values, no_items, item, as_array}
use Rattle.heap.specs.declared.handle.Area.TheVariants as Areas
use Rattle.heap.specs.declared.handle.Form.TheVariants as Forms
use Rattle.heap.specs.declared.handle.Handle.{Handle}
use Rattle.heap.specs.declared.handle.Handle.TheVariants as Handles
use Rattle.heap.specs.Blocks.{MeansEach}
use Rattle.heap.specs.Cells.{cell_bytes}
use Rattle.heap.specs.Handles.{span, parts}
use Rattle.heap.specs.Means.{Means}
use Rattle.heap.specs.Unfold.{areas}
use Rattle.keywords.specs.declared.Op.{Op}
use Rattle.keywords.specs.Contract.{Stands}
use Rattle.operations.specs.declared.ended.Denied.{Denied}
use Rattle.operations.specs.declared.ended.Given.{Given}
use Rattle.operations.specs.declared.ended.State.{State}
use Rattle.operations.specs.Cells.{Same}
use Rattle.operations.specs.Ended.{given, Ending, EndsAs, state}
use Rattle.operations.specs.Stack.{stacked}
use Rattle.rule.specs.declared.view.Literal.{Literal}
use Rattle.rule.specs.declared.view.Literal.TheVariants as Literals
use Rattle.rule.specs.Holds.{Holds, rule_count}
use Rattle.table.specs.declared.node.Node.{Node}
use Rattle.table.specs.declared.node.Node.TheVariants as Nodes
use Rattle.table.specs.declared.node.Rows.{Rows}
use Rattle.table.specs.Node.{node_at, next_row}
use Rattle.eval.specs.declared.task.Frame.{Frame}
use Rattle.eval.specs.declared.task.Frame.TheVariants.{Guard, Branch, Conjunct, Source, Item, Argument}
use Rattle.eval.specs.declared.task.Next.{Next}
use Rattle.eval.specs.declared.task.Next.TheVariants.{Ends, Asks}
use Rattle.eval.specs.declared.task.Pending.{Pending}
use Rattle.eval.specs.declared.task.Task.{Task}

-- ---- cells
-- Two cells for each step that is left, and some more: enough for what is evaluated. The rule around has put some operands on the stack.
pub record Room (C : Bytes) (more pushed : ℕ) (s : State) : Type 0 where
  pub fits : s.top + 2 * s.left + more ≤ s.bottom
  pub within : s.bottom + pushed ≤ heap_cells
  pub enough : heap_cells ≤ length C / cell_bytes

-- The operands of the rule that stand on the stack while one of them is evaluated.
abbrev pub on_stack : Frame → ℕ
on_stack Guard = 0
on_stack Branch = 0
on_stack (Conjunct n) = 0
on_stack Source = 0
on_stack (Item l h) = 0
on_stack (Argument p) = p.done

-- The cells that the rule's own step and the steps of the operands on the stack have brought and nothing has used: a context uses two.
abbrev pub unused : Frame → ℕ
unused Guard = 2
unused Branch = 2
unused (Conjunct n) = 2
unused Source = 2
unused (Item l h) = 0
unused (Argument p) = 2 + 2 * p.done

-- A rule began in the state s and now has an operand in the state t, for this frame; k more cells are unused.
pub record Charged (s : State) (k : ℕ) (t : State) (f : Frame) : Type 0 where
  pub grows : s.top ≤ t.top
  pub spends : t.top + 2 * t.left + (k + unused f) ≤ s.top + 2 * s.left
  pub stack : t.bottom + on_stack f ≡ s.bottom
  pub deep : t.deep + 1 ≡ s.deep

-- A rule that began in the state s has ended: the heap has grown by no more than two cells for each step begun, less two.
pub record Bounded (s : State) (e : Ending) : Type 0 where
  pub grows : (g : Given) → e ≡ Ok g → s.top ≤ g.state.top
  pub spends : (g : Given) → e ≡ Ok g → g.state.top + 2 * g.state.left + 2 ≤ s.top + 2 * s.left
  pub stops : (d : Denied) → e ≡ Err d → d.left ≤ s.left

abbrev pub Within : State → Next → Type 0
Within s (Ends e) = Bounded s e
Within s (Asks t f) = Charged s 0 t.state f

-- Bottom and nesting come out as they went in.
pub record Restored (s : State) (e : Ending) : Type 0 where
  pub bottom : (g : Given) → e ≡ Ok g → g.state.bottom ≡ s.bottom
  pub deep : (g : Given) → e ≡ Ok g → g.state.deep ≡ s.deep

-- By their parts.
abbrev pub task : ℕ → Handle → State → Task
task row context s = record { row = row; context = context; state = s }

abbrev pub pending : Op → ℕ → ℕ → Pending
pending op done rest = record { op = op; done = done; rest = rest }

abbrev pub first_task : Rows → Handle → State → Task
first_task q context s = task q.first context (state s.left s.top s.bottom (s.deep - 1))

-- The first of so many operands of an operation on all of them; with none, an array's empty list.
abbrev pub first_of : ℕ → Op → Rows → Handle → State → Next
first_of zero op q context s = Ends (Ok (given (Handles.Compound (parts Forms.List s.top 0)) s))
first_of (suc rest) op q context s = Asks (first_task q context s) (Argument (pending op 0 rest))

abbrev pub first_argument : Op → Rows → Handle → State → Next
first_argument op q context s = first_of q.count op q context s

abbrev pub literal_handle : Literal → Handle
literal_handle Literals.False = Handles.False
literal_handle Literals.True = Handles.True
literal_handle (Literals.Integer n) = Handles.Integer n
literal_handle (Literals.String p) = Handles.String (span Areas.Rule p.start p.size)

-- The same by the node of a row; none of one that is no literal.
abbrev pub literal_of : Node → Option Handle
literal_of Nodes.Null = None
literal_of Nodes.False = Some (literal_handle Literals.False)
literal_of Nodes.True = Some (literal_handle Literals.True)
literal_of (Nodes.Integer n) = Some (literal_handle (Literals.Integer n))
literal_of (Nodes.String p) = Some (literal_handle (Literals.String p))
literal_of (Nodes.Array q) = None
literal_of (Nodes.Object q) = None

-- Of the task's operand, if one is left and a step for it.
abbrev pub literal_next : Bytes → Task → Pending → Option Handle
literal_next T t p = cond (eqb p.rest 0) None (cond (eqb t.state.left 0) None (literal_of (node_at T t.row)))

-- With one step less, and with one operand begun.
abbrev pub one_step : Task → Task
one_step t = task t.row t.context (state (t.state.left - 1) t.state.top t.state.bottom t.state.deep)

abbrev pub one_begun : Pending → Pending
one_begun p = pending p.op p.done (p.rest - 1)

abbrev pub resumed_end : State → Ending → Ending
resumed_end s (Ok g) = Ok (given g.value (state g.state.left g.state.top s.bottom s.deep))
resumed_end s (Err d) = Err d

-- ---- rules
-- The rules of operands, from a row on.
pub data RowsHold (T A : Bytes) (deep : ℕ) : ℕ → Rules → Type 0 where
  no_rows : {row : ℕ} → RowsHold T A deep row no_rules
  row_rule : {row : ℕ} {r : Rule} {rs : Rules} → Holds T A deep row r → RowsHold T A deep (next_row T row) rs → RowsHold T A deep row (rule r rs)

-- ---- frames: what the model still does with the operand's value
abbrev pub Then : Type 0
Then = Value → PlainRun Value

-- The rules after the operand, in its context.
pub record After (T A R B C : Bytes) (t : Task) (rs : Rules) (κ : Value) : Type 0 where
  pub rows : RowsHold T A t.state.deep (next_row T t.row) rs
  pub means : Means (areas A B R C) t.state.top κ t.context

pub record GuardMeans (T A R B C : Bytes) (t : Task) (K : Then) : Type 0 where
  pub second : Rule
  pub third : Rule
  pub given : Value
  pub after : After T A R B C t (rule second (rule third no_rules)) given
  pub run : (v : Value) (n : ℕ) → K v n ≡ branch (truth v) (eval_plain second given) (eval_plain third given) n

pub record BranchMeans (K : Then) : Type 0 where
  pub run : (v : Value) (n : ℕ) → K v n ≡ gives v n

pub record ConjunctMeans (T A R B C : Bytes) (t : Task) (count : ℕ) (K : Then) : Type 0 where
  pub others : Rules
  pub given : Value
  pub after : After T A R B C t others given
  pub counted : count ≡ suc (rule_count others)
  pub run : (v : Value) (n : ℕ) → K v n ≡ plain_and others given v n

-- The lambda on an item and the accumulator.
abbrev pub lambda_run : Rule → Value → Value → PlainRun Value
lambda_run ρ cur acc = eval_plain ρ (context cur acc)

-- `reduce` once its operand's value is known, and once the initial's is.
abbrev pub reduced : Rule → Value → Value → PlainRun Value
reduced ρ v i = lift (required WrongKind (as_array v)) >>= λ vs. fold (lambda_run ρ) vs i

pub record SourceMeans (T A R B C : Bytes) (t : Task) (K : Then) : Type 0 where
  pub lambda : Rule
  pub initial : Rule
  pub given : Value
  pub after : After T A R B C t (rule lambda (rule initial no_rules)) given
  pub run : (v : Value) (n : ℕ) → K v n ≡ continue (eval_plain initial given n) (reduced lambda v)

-- The value of the items' handle is that of the operand, or the array of the items that are left.
pub record ItemMeans (T A R B C : Bytes) (t : Task) (row : ℕ) (items : Handle) (K : Then) : Type 0 where
  pub lambda : Rule
  pub value : Value
  pub holds : Holds T A t.state.deep row lambda
  pub means : Means (areas A B R C) t.state.top value items
  pub run : (v : Value) (n : ℕ) → K v n ≡ reduced lambda value v n

abbrev pub append : Values → Values → Values
append no_items ws = ws
append (item v vs) ws = item v (append vs ws)

-- The operation on the values before and those of the rules that are left.
abbrev pub applied : Operation → Values → Rules → Value → PlainRun Value
applied o vs rs κ n = continue (plain_all rs κ n) (λ ws. lift (operate o (append vs ws)))

pub record ArgumentMeans (T A R B C : Bytes) (t : Task) (p : Pending) (K : Then) : Type 0 where
  pub operation : Operation
  pub others : Rules
  pub values : Values
  pub given : Value
  pub stands : Stands p.op operation (p.done + suc p.rest)
  pub counted : p.rest ≡ rule_count others
  pub after : After T A R B C t others given
  pub means : MeansEach (areas A B R C) t.state.top values (stacked C (t.state.bottom + p.done) p.done)
  pub run : (v : Value) (n : ℕ) → K v n ≡ applied operation (append values (item v no_items)) others given n

abbrev pub FrameMeans : Bytes → Bytes → Bytes → Bytes → Bytes → Task → Frame → Then → Type 0
FrameMeans T A R B C t Guard K = GuardMeans T A R B C t K
FrameMeans T A R B C t Branch K = BranchMeans K
FrameMeans T A R B C t (Conjunct n) K = ConjunctMeans T A R B C t n K
FrameMeans T A R B C t Source K = SourceMeans T A R B C t K
FrameMeans T A R B C t (Item row h) K = ItemMeans T A R B C t row h K
FrameMeans T A R B C t (Argument p) K = ArgumentMeans T A R B C t p K

-- ---- what comes next is what the run m does
pub record Asked (T A R B C : Bytes) (m : Plain Value) (t : Task) (f : Frame) : Type 0 where
  pub asked : Rule
  pub given : Value
  pub next : Then
  pub holds : Holds T A t.state.deep t.row asked
  pub means : Means (areas A B R C) t.state.top given t.context
  pub frame : FrameMeans T A R B C t f next
  pub run : m ≡ continue (eval_plain asked given t.state.left) next

abbrev pub Follows : Bytes → Bytes → Bytes → Bytes → Bytes → Plain Value → Next → Type 0
Follows T A R B C m (Ends e) = EndsAs (areas A B R C) m e
Follows T A R B C m (Asks t f) = Asked T A R B C m t f

-- The steps left and the nesting left, as measures.
abbrev pub next_left : Next → ℕ
next_left (Ends e) = 0
next_left (Asks t f) = suc t.state.left

abbrev pub next_deep : Next → ℕ
next_deep (Ends e) = 0
next_deep (Asks t f) = 2 * t.state.deep + 2

-- ---- contracts
pub record Evals (T A R B C : Bytes) (t : Task) (e : Ending) (C' : Bytes) : Type 0 where
  pub same : Same C C' t.state.top t.state.bottom
  pub bound : Bounded t.state e
  pub restores : Restored t.state e
  pub evals :
      (ρ : Rule) (κ : Value)
      → Holds T A t.state.deep t.row ρ
      → Means (areas A B R C) t.state.top κ t.context
      → EndsAs (areas A B R C') (eval_plain ρ κ t.state.left) e

pub record Starts (T A R B C : Bytes) (t : Task) (n : Next) : Type 0 where
  pub within : Within t.state n
  pub follows :
      (ρ : Rule) (κ : Value)
      → Holds T A t.state.deep t.row ρ
      → Means (areas A B R C) t.state.top κ t.context
      → Follows T A R B C (eval_plain ρ κ t.state.left) n

-- The operands that are left, from the task's row on, and those on the stack.
pub record ArgumentsLeft (T A R B C : Bytes) (t : Task) (p : Pending) (m : Plain Value) : Type 0 where
  pub operation : Operation
  pub others : Rules
  pub values : Values
  pub given : Value
  pub stands : Stands p.op operation (p.done + p.rest)
  pub counted : p.rest ≡ rule_count others
  pub rows : RowsHold T A t.state.deep t.row others
  pub means_given : Means (areas A B R C) t.state.top given t.context
  pub means : MeansEach (areas A B R C) t.state.top values (stacked C (t.state.bottom + p.done) p.done)
  pub run : m ≡ applied operation values others given t.state.left

pub record Argues (T A R B C : Bytes) (t : Task) (p : Pending) (n : Next) (C' : Bytes) : Type 0 where
  pub same : Same C C' t.state.top (t.state.bottom + p.done)
  pub steps : next_left n ≤ suc t.state.left
  pub within : (s : State) → Charged s 0 t.state (Argument p) → Within s n
  pub follows : (m : Plain Value) → ArgumentsLeft T A R B C t p m → Follows T A R B C' m n

-- Whatever the rule's table holds.
pub record Argued (A R B C : Bytes) (t : Task) (p : Pending) (n : Next) (C' : Bytes) : Type 0 where
  pub argues : (T : Bytes) → Argues T A R B C t p n C'

-- With the operand's value; the task is the operand's, with the state that its evaluation left.
pub record Takes (T A R B C : Bytes) (t : Task) (f : Frame) (h : Handle) (n : Next) (C' : Bytes) : Type 0 where
  pub same : Same C C' t.state.top (t.state.bottom + on_stack f)
  pub steps : next_left n ≤ suc t.state.left
  pub within : (s : State) → Charged s 2 t.state f → Within s n
  pub follows :
      (K : Then) (v : Value)
      → FrameMeans T A R B C t f K
      → Means (areas A B R C) t.state.top v h
      → Follows T A R B C' (K v t.state.left) n

-- The same where some areas play no part.
pub record TakesByRule (T : Bytes) (t : Task) (f : Frame) (h : Handle) (n : Next) : Type 0 where
  pub takes : (A R B C : Bytes) → Takes T A R B C t f h n C

pub record TakesByRecord (R C : Bytes) (t : Task) (f : Frame) (h : Handle) (n : Next) (C' : Bytes) : Type 0 where
  pub takes : (T A B : Bytes) → Takes T A R B C t f h n C'

-- The operand's evaluation ended so, inside a rule that has cells enough.
pub record Taking (C : Bytes) (t : Task) (f : Frame) (e : Ending) : Type 0 where
  pub base : State
  pub room : Room C 0 0 base
  pub charged : Charged base 0 t.state f
  pub bound : Bounded t.state e
  pub restored : Restored t.state e

pub record TakesEnd (T A R B C : Bytes) (t : Task) (f : Frame) (e : Ending) (n : Next) (C' : Bytes) : Type 0 where
  pub same : Same C C' t.state.top (t.state.bottom + on_stack f)
  pub steps : next_left n ≤ t.state.left
  pub within : (s : State) → Charged s 0 t.state f → Within s n
  pub follows :
      (K : Then) (m : Plain Value)
      → FrameMeans T A R B C t f K
      → EndsAs (areas A B R C) m e
      → Follows T A R B C' (continue m K) n

-- A rule that was begun has cells enough for what is next.
pub record Operating (C : Bytes) (n : Next) : Type 0 where
  pub base : State
  pub room : Room C 0 0 base
  pub within : Within base n

pub record Operates (T A R B C : Bytes) (n : Next) (e : Ending) (C' : Bytes) : Type 0 where
  pub same : (s : State) → Within s n → Same C C' s.top s.bottom
  pub bound : (s : State) → Within s n → Bounded s e
  pub ends : (m : Plain Value) → Follows T A R B C m n → EndsAs (areas A B R C') m e

-- ---- branches
-- The row of the branch that `if` goes on with.
abbrev pub branch_row : Bytes → ℕ → Truth → ℕ
branch_row T guard truthy = next_row T guard
branch_row T guard falsy = next_row T (next_row T guard)
branch_row T guard neither = next_row T (next_row T guard)

pub record Branches (T : Bytes) (guard : ℕ) (h : Handle) (row : ℕ) : Type 0 where
  pub chosen : (A R B C : Bytes) (top : ℕ) (v : Value) → Means (areas A B R C) top v h → row ≡ branch_row T guard (truth v)
