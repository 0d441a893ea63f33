-- Loops that may not end and locations, given which calls cross or pause.
use Rattle.std.specs.Prelude.{Bool, not, ◌||◌, List, [], ◌++◌, if◌then◌else◌}
use Rattle.std.specs.List.{flat_map, list_any}
use Rattle.tm_base.specs.declared.place.Place.{Place}
use Rattle.tm_syntax.specs.declared.tree.Ident.{Ident}
use Rattle.tm_syntax.specs.Tree.{StmtTree, repeat, forever, LocalTree, BodyTree, ProcessTree, TaskTree, TemplateTree}
use Rattle.tm_syntax.specs.Scopes.Crossing.{row_crosses}
use Rattle.tm_syntax.specs.Scopes.Pauses.{is_uncontrollable}
use Rattle.tm_syntax.specs.Scopes.Parts.{all_stmts, own_calls, stmts_in, value_calls}
use Rattle.tm_syntax.specs.Faults.Crossings.{is_location, stmt_place, type_place}
use Rattle.tm_syntax.specs.Faults.Marks.{place_unless}

-- a loop whose body is not sure to cross, given which calls are
abbrev pub loops_of : (List Ident → Bool) → StmtTree → List Place
loops_of called (repeat at _ body) = place_unless (row_crosses called body) at
loops_of called (forever at body) = place_unless (row_crosses called body) at
loops_of called _ = []

-- a statement that is a location or calls a body that holds one, given which do
abbrev pub locations_of : (List Ident → Bool) → StmtTree → List Place
locations_of called s = if is_location s || list_any called (own_calls s) then stmt_place s else []

-- the declaration of a local that calls a body that holds a location, given which do
abbrev pub pausing_local : (List Ident → Bool) → LocalTree → List Place
pausing_local called l = place_unless (not (list_any called (value_calls l.value))) (type_place l.ty)

-- what the bodies of a template hold
abbrev pub in_bodies : (BodyTree → List Place) → TemplateTree → List Place
in_bodies found t =
    flat_map (λ (p : ProcessTree). found p.body) t.processes ++ flat_map (λ (k : TaskTree). found k.body) t.tasks

-- the loops of a body that may not cross, given which calls do
abbrev pub body_loops : (List Ident → Bool) → BodyTree → List Place
body_loops called body = flat_map (loops_of called) (stmts_in body)

-- the locations of a body, given which calls hold one
abbrev pub body_locations : (List Ident → Bool) → BodyTree → List Place
body_locations called body =
    flat_map (pausing_local called) body.locals ++ flat_map (locations_of called) (all_stmts body.stmts)

-- the locations of a task, given which calls hold one: an uncontrollable task may have some
abbrev pub task_locations_by : (List Ident → Bool) → TaskTree → List Place
task_locations_by called k = if is_uncontrollable k.kind then [] else body_locations called k.body
