-- The runs of a call of a controllable task.
use Rattle.std.specs.Prelude.{ℕ, Bool, ◌&&◌, ◌||◌, List, [], if◌then◌else◌}
use Rattle.std.specs.List.{list_any}
use Rattle.tm_syntax.specs.declared.tree.TaskDef.{TaskDef}
use Rattle.tm_syntax.specs.Tree.View.{body_tree}
use Rattle.tm_syntax.specs.Design.{DesignTree}
use Rattle.tm_syntax.specs.Design.Cells.{Called}
use Rattle.tm_syntax.specs.Design.Work.{WorkItem, body_items}
use Rattle.tm_scope.specs.Cells.{scope_of}
use Rattle.tm_scope.specs.declared.cells.site_body.SiteBody.{SiteBody}
use Rattle.tm_sem.specs.Run.{Ending, blocked}
use Rattle.tm_sem.specs.Value.{Memory}
use Rattle.tm_flat.specs.BitRun.{items_ending}
use Rattle.tm_flat.specs.Inputs.{first_choice}
use Rattle.tm_flat.specs.Writes.{is_variable, items_write}
use Rattle.tm_flat_stmts.specs.Choices.{choice_bit}
use Rattle.tm_flat_moves.specs.Run.{memory_in}
use Rattle.tm_flat_moves.specs.Arguments.{are_in_range, argument_bits, params_of, put_read}
use Rattle.tm_flat_moves.specs.Turn.{is_turn_in}

-- a task, as a call of this body of an instance runs it
abbrev pub callee_at : DesignTree → SiteBody → TaskDef → Called
callee_at d at task =
    record { scope = scope_of at; params = params_of d at; body = body_tree task.body }

-- what a call has to do
abbrev pub call_items : Called → List WorkItem
call_items c = body_items c.scope [] c.body

-- whether the driver may call a task: it can be picked, and each argument is in range of its type
abbrev pub may_call : DesignTree → Called → List ℕ → Bool
may_call d c v = is_turn_in d v && are_in_range d c.params (argument_bits d v) 0

-- the memory in which a called body begins: its parameters have got the arguments
abbrev pub given_memory : DesignTree → Called → List ℕ → Memory
given_memory d c v = put_read d c.params (argument_bits d v) 0 (memory_in d v)

-- how a call ends, with choices, arguments and a state from values of the inputs
abbrev pub call_ending : DesignTree → Called → List ℕ → Ending
call_ending d c v =
    if may_call d c v
    then items_ending d (choice_bit (first_choice d) v) (call_items c) 0 (given_memory d c v)
    else blocked

-- whether a call may assign a state variable
abbrev pub call_writes : DesignTree → Called → ℕ → Bool
call_writes d c i = list_any (is_variable i) c.params || items_write d i (call_items c) 0
