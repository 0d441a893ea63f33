-- A run of work items: what a process does from one location to the next, and what a task does when it is called.
use Rattle.std.specs.Prelude.{◌≡◌, ℕ, Option, None, Some, List, [], ◌∷◌, ◌++◌, map, nat_lt, slice_get, unwrap_or, if◌then◌else◌}
use Rattle.std.specs.Option.{option_map, option_and_then, option_map_or, option_to_list}
use Rattle.std.specs.List.{list_any, zip, fold}
use Rattle.tm_base.specs.declared.place.Place.{Place}
use Rattle.tm_syntax.specs.declared.tree.Ident.{Ident}
use Rattle.tm_syntax.specs.declared.design.Ty.{Ty}
use Rattle.tm_syntax.specs.declared.design.Ty.TheVariants as types
use Rattle.tm_syntax.specs.Tree.{ExprTree, element, ValueTree, star, result, plain, StmtTree, assign, invoke, branch, repeat, forever, choose, assert, assume, pause, wait, magic, StmtRow, blocks_of}
use Rattle.tm_syntax.specs.Design.{DesignTree}
use Rattle.tm_syntax.specs.Design.Scope.{Scope}
use Rattle.tm_syntax.specs.Design.Cells.{Cell, cell, cell_type, Called, called}
use Rattle.tm_syntax.specs.Design.Sizes.{type_size}
use Rattle.tm_syntax.specs.Design.Work.{WorkItem, perform, deliver, performs, body_items, call_place}
use Rattle.tm_sem.specs.Value.{Memory, put, value, holds_in, index_value, overruns}

-- how a run ends: at a location, at the end of all items, in an error, or with no outcome
pub data Ending : Type 0 where
  stopped : Place → List Place → Memory → Ending
  finished : Memory → Ending
  failed : Ending
  blocked : Ending

-- what the first item leads to: further items in front of those that are left, or an end
pub data Progress : Type 0 where
  goes_on : List WorkItem → Memory → List ℕ → Progress
  comes_to : Ending → Progress

-- an end counts only where all choices have been consumed
abbrev pub at_end : List ℕ → Ending → Ending
at_end [] e = e
at_end (c ∷ cs) e = blocked

-- the type that a target asks for
abbrev pub asked_by : DesignTree → Option Cell → Ty
asked_by d c = unwrap_or (option_and_then (cell_type d) c) types.Bool

-- the memory after a value was put into a target
abbrev pub put_in : Memory → Option Cell → ℕ → Memory
put_in m None n = m
put_in m (Some c) n = put m c n

-- the memory in which the parameters of a body have the values of its arguments, which are valued first
abbrev pub with_arguments : DesignTree → Scope → Memory → List Cell → List ExprTree → Memory
with_arguments d scope m params args =
    fold (λ so_far p. put so_far p.0 (value d scope m (asked_by d (Some p.0)) p.1)) m (zip params args)

-- a call: the items of the body stand in front, and what it returns is put into a target if there is one
abbrev pub calls : DesignTree → Scope → List Place → Memory → List ℕ → List Ident → List ExprTree →
    (Called → List WorkItem) → Progress
calls d scope trail m cs names args after =
    option_map_or
    (λ callee.
    goes_on (body_items callee.scope (call_place names ++ trail) callee.body ++ after callee)
    (with_arguments d scope m callee.params args) cs)
    (called d scope names) (comes_to blocked)

-- what is left to be done after a called body: its result is put into a target
abbrev pub delivery : Option Cell → Called → List WorkItem
delivery target callee = map (deliver target callee.scope) (option_to_list callee.body.answer)

-- the next choice numbers a value of a type
abbrev pub chooses_value : DesignTree → Memory → Option Cell → List ℕ → Progress
chooses_value d m target [] = comes_to blocked
chooses_value d m target (c ∷ cs) =
    if nat_lt c (type_size d.spec (asked_by d target)) then goes_on [] (put_in m target c) cs else comes_to blocked

-- the next choice numbers an alternative
abbrev pub chooses_block : Scope → List Place → Memory → List StmtRow → List ℕ → Progress
chooses_block scope trail m blocks [] = comes_to blocked
chooses_block scope trail m blocks (c ∷ cs) =
    option_map_or (λ block. goes_on (performs scope trail block) m cs) (slice_get blocks c) (comes_to blocked)

-- the expressions that what is assigned values
abbrev pub valued_by : ValueTree → List ExprTree
valued_by (star _) = []
valued_by (result _ args) = args
valued_by (plain e) = e ∷ []

-- the element that is assigned, where the target has an index
abbrev pub target_element : List Ident → Option ExprTree → List ExprTree
target_element names index = map (element names) (option_to_list index)

-- the expressions that a statement values; an element that is assigned is one of them
abbrev pub valued : StmtTree → List ExprTree
valued (assign names index v) = target_element names index ++ valued_by v
valued (invoke _ args) = args
valued (branch e _ _) = e ∷ []
valued (repeat _ e _) = e ∷ []
valued (assert _ e) = e ∷ []
valued (assume _ e) = e ∷ []
valued _ = []

-- an assignment to a target
abbrev pub assigns : DesignTree → Scope → List Place → Memory → List ℕ → Option Cell → ValueTree → Progress
assigns d scope trail m cs target (star _) = chooses_value d m target cs
assigns d scope trail m cs target (result names args) = calls d scope trail m cs names args (delivery target)
assigns d scope trail m cs target (plain e) = goes_on [] (put_in m target (value d scope m (asked_by d target) e)) cs

-- what a statement does where none of its expressions overruns
abbrev pub acts : DesignTree → Scope → List Place → Memory → List ℕ → StmtTree → Progress
acts d scope trail m cs (assign names index v) =
    assigns d scope trail m cs (cell d scope names (option_map (index_value d scope m) index)) v
acts d scope trail m cs (invoke names args) = calls d scope trail m cs names args (λ _. [])
acts d scope trail m cs (branch e first second) =
    goes_on (performs scope trail (if holds_in d scope m e then first else second)) m cs
acts d scope trail m cs (repeat at e body) =
    goes_on
    (if holds_in d scope m e then performs scope trail body ++ perform scope trail (repeat at e body) ∷ [] else [])
    m cs
acts d scope trail m cs (forever at body) =
    goes_on (performs scope trail body ++ perform scope trail (forever at body) ∷ []) m cs
acts d scope trail m cs (choose _ blocks) = chooses_block scope trail m (blocks_of blocks) cs
acts d scope trail m cs (assert _ e) = if holds_in d scope m e then goes_on [] m cs else comes_to (at_end cs failed)
acts d scope trail m cs (assume _ e) = if holds_in d scope m e then goes_on [] m cs else comes_to blocked
acts d scope trail m cs (pause at) = comes_to (at_end cs (stopped at trail m))
acts d scope trail m cs (wait at _) = comes_to (at_end cs (stopped at trail m))
acts d scope trail m cs (magic at) = comes_to (at_end cs (stopped at trail m))

-- what an item leads to; an overrun ends in error before the item takes a choice or assigns
abbrev pub progress : DesignTree → Memory → List ℕ → WorkItem → Progress
progress d m cs (perform scope trail s) =
    if list_any (overruns d scope m) (valued s)
    then comes_to (at_end cs failed)
    else acts d scope trail m cs s
progress d m cs (deliver target scope e) =
    if overruns d scope m e
    then comes_to (at_end cs failed)
    else goes_on [] (put_in m target (value d scope m (asked_by d target) e)) cs

-- items, from a memory and with these choices, come to an end
pub data Run (d : DesignTree) : List WorkItem → Memory → List ℕ → Ending → Type 0 where
  none_left : {m : Memory} {cs : List ℕ} {e : Ending} → e ≡ at_end cs (finished m) → Run d [] m cs e
  ends : {first : WorkItem} {others : List WorkItem} {m : Memory} {cs : List ℕ} {e : Ending} →
      progress d m cs first ≡ comes_to e → Run d (first ∷ others) m cs e
  goes : {first : WorkItem} {others front : List WorkItem} {m n : Memory} {cs ds : List ℕ} {e : Ending} →
      progress d m cs first ≡ goes_on front n ds → Run d (front ++ others) n ds e → Run d (first ∷ others) m cs e
