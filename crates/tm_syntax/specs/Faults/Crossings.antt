-- F9: the body of a loop is not sure to cross a location.
-- F10: a procedure or controllable task holds a location, or calls a body that holds one.
use Rattle.std.specs.Prelude.{Bool, true, false, not, ◌||◌, List, [], ◌∷◌, ◌++◌, if◌then◌else◌}
use Rattle.std.specs.Option.{option_map_or}
use Rattle.std.specs.List.{filter, flat_map, list_any}
use Rattle.tm_base.specs.declared.place.Place.{Place}
use Rattle.tm_syntax.specs.declared.tree.Ident.{Ident}
use Rattle.tm_syntax.specs.declared.tree.TypeName.{TypeName}
use Rattle.tm_syntax.specs.declared.tree.TypeName.TheVariants as written
use Rattle.tm_syntax.specs.Tree.{StmtTree, assign, invoke, repeat, forever, pause, wait, magic, BodyTree, LocalTree, TaskTree, TemplateTree, SpecTree}
use Rattle.tm_syntax.specs.Scopes.Pauses.{is_uncontrollable, may_pause, task_reached}
use Rattle.tm_syntax.specs.Scopes.Crossing.{row_crosses, call_crosses}
use Rattle.tm_syntax.specs.Scopes.Parts.{BodyAt, bodies, all_stmts, stmts_in, value_calls, own_calls}
use Rattle.tm_syntax.specs.Faults.Marks.{place_unless}
use Rattle.tm_syntax.specs.Faults.Operands.{path_place}

-- a loop whose body is not sure to cross: its keyword
abbrev pub loop_faults : SpecTree → TemplateTree → StmtTree → List Place
loop_faults spec t (repeat at _ body) = place_unless (row_crosses (call_crosses spec t) body) at
loop_faults spec t (forever at body) = place_unless (row_crosses (call_crosses spec t) body) at
loop_faults spec t _ = []

-- F9
abbrev pub endless_loops : SpecTree → List Place
endless_loops spec =
    flat_map (λ (b : BodyAt). flat_map (loop_faults b.context.spec b.context.template) (stmts_in b.body)) (bodies spec)

-- whether a path calls a body that holds a location, itself or by calls
abbrev pub call_pauses : SpecTree → TemplateTree → List Ident → Bool
call_pauses spec t path = option_map_or (λ k. may_pause spec k.0 k.1) (task_reached spec t path) false

-- whether a statement is a location
abbrev pub is_location : StmtTree → Bool
is_location (pause _) = true
is_location (wait _ _) = true
is_location (magic _) = true
is_location _ = false

-- whether a statement is a location or calls a body that holds one
abbrev pub holds_location : SpecTree → TemplateTree → StmtTree → Bool
holds_location spec t s = is_location s || list_any (call_pauses spec t) (own_calls s)

-- the place of a statement's first token where it can be a location or a call
abbrev pub stmt_place : StmtTree → List Place
stmt_place (assign names _ _) = path_place names ∷ []
stmt_place (invoke names _) = path_place names ∷ []
stmt_place (pause at) = at ∷ []
stmt_place (wait at _) = at ∷ []
stmt_place (magic at) = at ∷ []
stmt_place _ = []

-- the place of a type
abbrev pub type_place : TypeName → Place
type_place (written.Bool at) = at
type_place (written.Uint at _) = at
type_place (written.Enum name) = name.place

-- the declarations of locals that hold a location, and the statements that do
abbrev pub held_locations : SpecTree → TemplateTree → BodyTree → List Place
held_locations spec t body =
    flat_map (λ (l : LocalTree).
    place_unless (not (list_any (call_pauses spec t) (value_calls l.value))) (type_place l.ty))
    body.locals
    ++ flat_map stmt_place (filter (holds_location spec t) (all_stmts body.stmts))

-- in a procedure or controllable task
abbrev pub task_locations : SpecTree → TemplateTree → TaskTree → List Place
task_locations spec t k = if is_uncontrollable k.kind then [] else held_locations spec t k.body

-- F10
abbrev pub atomic_locations : SpecTree → List Place
atomic_locations spec = flat_map (λ (t : TemplateTree). flat_map (task_locations spec t) t.tasks) spec.templates
