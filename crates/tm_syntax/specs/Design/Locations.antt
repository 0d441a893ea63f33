-- The locations of a process in text order, each with what is left to be done after it.
use Rattle.std.specs.Prelude.{ℕ, zero, suc, ◌+◌, Bool, true, false, Option, List, [], ◌∷◌, ◌++◌, ◌&&◌, map, length, nat_eq, slice_get}
use Rattle.std.specs.Option.{option_map, option_and_then, option_map_or}
use Rattle.std.specs.List.{position_or_len}
use Rattle.std.specs.Cmp.Lexicographic.{pointwise}
use Rattle.tm_base.specs.declared.place.Place.{Place}
use Rattle.tm_syntax.specs.declared.tree.Ident.{Ident}
use Rattle.tm_syntax.specs.Tree.{StmtTree, assign, invoke, branch, repeat, forever, choose, assert, assume, pause, wait, magic, StmtRow, nothing, then, row_of, BlockRow, nowhere, or_else, BodyTree, ProcessTree}
use Rattle.tm_syntax.specs.Design.{DesignTree}
use Rattle.tm_syntax.specs.Scopes.Context.{process_body}
use Rattle.tm_syntax.specs.Scopes.Pauses.{call_depth}
use Rattle.tm_syntax.specs.Design.Scope.{Scope, site}
use Rattle.tm_syntax.specs.Design.Cells.{called}
use Rattle.tm_syntax.specs.Design.Work.{WorkItem, perform, performs, call_place}
use Rattle.tm_syntax.specs.Scopes.Parts.{body_stmts}

-- a location, told apart by its place and its trail, and what is left after it
pub record Location : Type 0 where
  pub at : Place
  pub trail : List Place
  pub is_magic : Bool
  pub rest : List WorkItem

-- the locations of a statement, given those of a call and what stands after the statement
abbrev mutual
  pub stmt_locations : (List Ident → List WorkItem → List Location) → Scope → List Place → StmtTree →
      List WorkItem → List Location
  stmt_locations within scope trail (assign _ _ _) after = []
  stmt_locations within scope trail (invoke names _) after = within names after
  stmt_locations within scope trail (branch _ first second) after =
      row_locations within scope trail first after ++ row_locations within scope trail second after
  stmt_locations within scope trail (repeat at e body) after =
      row_locations within scope trail body (perform scope trail (repeat at e body) ∷ after)
  stmt_locations within scope trail (forever at body) after =
      row_locations within scope trail body (perform scope trail (forever at body) ∷ after)
  stmt_locations within scope trail (choose _ blocks) after = block_locations within scope trail blocks after
  stmt_locations within scope trail (assert _ _) after = []
  stmt_locations within scope trail (assume _ _) after = []
  stmt_locations within scope trail (pause at) after =
      record { at = at; trail = trail; is_magic = false; rest = after } ∷ []
  stmt_locations within scope trail (wait at e) after =
      record { at = at; trail = trail; is_magic = false; rest = perform scope trail (assume at e) ∷ after }
      ∷ []
  stmt_locations within scope trail (magic at) after =
      record { at = at; trail = trail; is_magic = true; rest = after } ∷ []

  pub row_locations : (List Ident → List WorkItem → List Location) → Scope → List Place → StmtRow →
      List WorkItem → List Location
  row_locations within scope trail nothing after = []
  row_locations within scope trail (then first others) after =
      stmt_locations within scope trail first (performs scope trail others ++ after)
      ++ row_locations within scope trail others after

  pub block_locations : (List Ident → List WorkItem → List Location) → Scope → List Place → BlockRow →
      List WorkItem → List Location
  block_locations within scope trail nowhere after = []
  block_locations within scope trail (or_else first others) after =
      row_locations within scope trail first after ++ block_locations within scope trail others after

-- the locations of a body, where calls nest at most so deep; a called body is walked at the place of the call
abbrev pub body_locations : ℕ → DesignTree → Scope → List Place → BodyTree → List WorkItem → List Location
body_locations zero d scope trail body after = []
body_locations (suc depth) d scope trail body after =
    row_locations (λ names left. option_map_or (λ callee.
    body_locations depth d callee.scope (call_place names ++ trail) callee.body left)
    (called d scope names) [])
    scope trail (row_of (body_stmts body)) after

-- a process of a design: its scope and its body
pub record Thread : Type 0 where
  pub scope : Scope
  pub process : ProcessTree

-- the process of this number
abbrev pub thread : DesignTree → ℕ → Option Thread
thread d p =
    option_and_then (λ item. option_and_then (λ at.
    option_and_then (λ k. option_map (λ process.
    record { scope = record { instance = at.number; body = process_body k }; process = process })
    (slice_get at.template.processes k)) item.index) (site d item.instance)) (slice_get d.processes p)

-- the locations of a process between its start and its end
abbrev pub locations : DesignTree → ℕ → List Location
locations d p =
    option_map_or (λ t. body_locations (suc (call_depth d.spec)) d t.scope [] t.process.body []) (thread d p) []

-- the number of a process's end; its start is 0
abbrev pub end_number : DesignTree → ℕ → ℕ
end_number d p = length (locations d p) + 1

-- whether two places are one
abbrev pub same_place : Place → Place → Bool
same_place a b = nat_eq a.line b.line && nat_eq a.column b.column

-- whether a location is the one at a place, reached by a trail
abbrev pub is_location_at : Place → List Place → Location → Bool
is_location_at at trail l = same_place at l.at && pointwise same_place trail l.trail

-- the number of the location at a place, reached by a trail: one more than there are before it
abbrev pub location_number : DesignTree → ℕ → Place → List Place → ℕ
location_number d p at trail =
    position_or_len (is_location_at at trail) (locations d p) + 1

-- what a process has to do from the location of this number: its whole body, or what is left
abbrev pub rest : DesignTree → ℕ → ℕ → List WorkItem
rest d p zero = option_map_or (λ t. map (perform t.scope []) (body_stmts t.process.body)) (thread d p) []
rest d p (suc k) = option_map_or (λ l. l.rest) (slice_get (locations d p) k) []

-- whether the location of this number is a magic block
abbrev pub is_magic_at : DesignTree → ℕ → ℕ → Bool
is_magic_at d p zero = false
is_magic_at d p (suc k) = option_map_or (λ l. l.is_magic) (slice_get (locations d p) k) false
