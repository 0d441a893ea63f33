-- A body that does not pause holds no location, where paths lead to instances of the templates that the text says.
use Rattle.std.proofs.Common.{◌≡◌, ℕ, zero, suc, ◌≤◌, Bool, true, false, Option, None, Some, List, [], ◌∷◌, ◌++◌, map, refl, sym, ap, ◌∙◌, arith, true≢false}
use Rattle.std.specs.Prelude.{◌||◌}
use Rattle.std.specs.List.{list_any}
use Rattle.std.specs.Option.{option_map_or}
use Rattle.tm_base.specs.declared.place.Place.{Place}
use Rattle.tm_syntax.specs.declared.tree.Ident.{Ident}
use Rattle.tm_syntax.specs.Tree.{StmtTree, assign, invoke, branch, repeat, forever, choose, assert, assume, pause, wait, magic, StmtRow, nothing, then, row_of, BlockRow, nowhere, or_else, BodyTree, LocalTree, TaskTree, TemplateTree}
use Rattle.tm_syntax.specs.Scopes.Parts.{body_stmts}
use Rattle.tm_syntax.specs.Scopes.Pauses.{value_pauses, stmt_pauses, row_pauses, block_pauses, task_reached, body_pauses}
use Rattle.tm_syntax.specs.Design.{DesignTree}
use Rattle.tm_syntax.specs.Design.Cells.{Called, called}
use Rattle.tm_syntax.specs.Design.Locations.{Location, stmt_locations, row_locations, block_locations, body_locations}
use Rattle.tm_syntax.specs.Design.Scope.{Scope, Site, site}
use Rattle.tm_syntax.specs.Design.Work.{WorkItem, perform, performs, call_place}
use Rattle.tm_locations.specs.Locations.{LeadsByText}
use Rattle.tm_locations.proofs.CalledBodies.{IsCalled, called-is, reached-by_text}

pub neither : (a b : Bool) → (a || b) ≡ false → (a ≡ false) × (b ≡ false)
neither true b e = absurd (true≢false e)
neither false b e = (refl, e)

both_empty : {X : Type 0} (xs ys : List X) → xs ≡ [] → ys ≡ [] → xs ++ ys ≡ []
both_empty xs ys e f = λ i. e i ++ f i

-- locals hold no location
pub locals-quiet : (within : List Ident → List WorkItem → List Location) (scope : Scope) (trail : List Place)
    (ls : List LocalTree) (ss : List StmtTree) (after : List WorkItem) →
    row_locations within scope trail (row_of (map (λ l. assign (l.name ∷ []) None l.value) ls ++ ss)) after
    ≡ row_locations within scope trail (row_of ss) after
locals-quiet within scope trail [] ss after = refl
locals-quiet within scope trail (l ∷ ls) ss after = locals-quiet within scope trail ls ss after

-- statements of which no call pauses hold no location, where calls that do not pause hold none
module _ (pauses : List Ident → Bool) (within : List Ident → List WorkItem → List Location) (scope : Scope)
    (trail : List Place)
    (quiet : (path : List Ident) (left : List WorkItem) → pauses path ≡ false → within path left ≡ [])
  where
    mutual
      stmt-quiet : (s : StmtTree) (after : List WorkItem) → stmt_pauses pauses s ≡ false →
          stmt_locations within scope trail s after ≡ []
      stmt-quiet (assign _ _ _) after e = refl
      stmt-quiet (invoke path _) after e = quiet path after e
      stmt-quiet (branch _ a b) after e =
          let parts = neither (row_pauses pauses a) (row_pauses pauses b) e in
          both_empty (row_locations within scope trail a after) (row_locations within scope trail b after)
          (row-quiet a after parts.0) (row-quiet b after parts.1)
      stmt-quiet (repeat at c body) after e = row-quiet body (perform scope trail (repeat at c body) ∷ after) e
      stmt-quiet (forever at body) after e = row-quiet body (perform scope trail (forever at body) ∷ after) e
      stmt-quiet (choose _ blocks) after e = block-quiet blocks after e
      stmt-quiet (assert _ _) after e = refl
      stmt-quiet (assume _ _) after e = refl
      stmt-quiet (pause _) after e = absurd (true≢false e)
      stmt-quiet (wait _ _) after e = absurd (true≢false e)
      stmt-quiet (magic _) after e = absurd (true≢false e)

      row-quiet : (r : StmtRow) (after : List WorkItem) → row_pauses pauses r ≡ false →
          row_locations within scope trail r after ≡ []
      row-quiet nothing after e = refl
      row-quiet (then first others) after e =
          let parts = neither (stmt_pauses pauses first) (row_pauses pauses others) e in
          both_empty (stmt_locations within scope trail first (performs scope trail others ++ after))
          (row_locations within scope trail others after)
          (stmt-quiet first (performs scope trail others ++ after) parts.0) (row-quiet others after parts.1)

      block-quiet : (bs : BlockRow) (after : List WorkItem) → block_pauses pauses bs ≡ false →
          block_locations within scope trail bs after ≡ []
      block-quiet nowhere after e = refl
      block-quiet (or_else first others) after e =
          let parts = neither (row_pauses pauses first) (block_pauses pauses others) e in
          both_empty (row_locations within scope trail first after) (block_locations within scope trail others after)
          (row-quiet first after parts.0) (block-quiet others after parts.1)

    stmts-quiet : (ss : List StmtTree) (after : List WorkItem) → list_any (stmt_pauses pauses) ss ≡ false →
        row_locations within scope trail (row_of ss) after ≡ []
    stmts-quiet [] after e = refl
    stmts-quiet (s ∷ ss) after e =
        let parts = neither (stmt_pauses pauses s) (list_any (stmt_pauses pauses) ss) e in
        both_empty (stmt_locations within scope trail s (performs scope trail (row_of ss) ++ after))
        (row_locations within scope trail (row_of ss) after)
        (stmt-quiet s (performs scope trail (row_of ss) ++ after) parts.0) (stmts-quiet ss after parts.1)

    body-quiet : (body : BodyTree) (after : List WorkItem) →
        (list_any (λ l. value_pauses pauses l.value) body.locals || list_any (stmt_pauses pauses) body.stmts) ≡ false →
        row_locations within scope trail (row_of (body_stmts body)) after ≡ []
    body-quiet body after e =
        locals-quiet within scope trail body.locals body.stmts after
        ∙ stmts-quiet body.stmts after
        (neither (list_any (λ l. value_pauses pauses l.value) body.locals) (list_any (stmt_pauses pauses) body.stmts)
        e).1

module _ (d : DesignTree) where
  -- bodies that do not pause at one depth of calls hold no location at another one
  abbrev AreQuiet : ℕ → ℕ → Type 0
  AreQuiet n m =
      (scope : Scope) → (s : Site) → site d scope.instance ≡ Some s → (trail : List Place) → (body : BodyTree) →
      (after : List WorkItem) → body_pauses m d.spec s.template body ≡ false →
      body_locations n d scope trail body after ≡ []

  quiet-call : LeadsByText d → (n m : ℕ) → AreQuiet n m → (scope : Scope) (s : Site) →
      site d scope.instance ≡ Some s → (trail : List Place) (path : List Ident) (left : List WorkItem) →
      option_map_or (λ (k : TemplateTree × TaskTree). body_pauses m d.spec k.0 k.1.body)
      (task_reached d.spec s.template path) false ≡ false →
      option_map_or (λ (callee : Called).
      body_locations n d callee.scope (call_place path ++ trail) callee.body left) (called d scope path) [] ≡ []
  quiet-call by_text n m quiet scope s there trail path left calm = by (called d scope path) refl
    where
      by : (o : Option Called) → called d scope path ≡ o →
          option_map_or (λ (callee : Called).
          body_locations n d callee.scope (call_place path ++ trail) callee.body left) o [] ≡ []
      by None e = refl
      by (Some c) e =
          let is : IsCalled d s path c = called-is d scope s there path c e in
          ap (λ body. body_locations n d c.scope (call_place path ++ trail) body left) is.body
          ∙ quiet c.scope is.at (ap (site d) is.instance ∙ is.there) (call_place path ++ trail) is.task.body left
          (ap (λ o. option_map_or (λ (k : TemplateTree × TaskTree). body_pauses m d.spec k.0 k.1.body) o false)
          (sym (reached-by_text d by_text scope.instance s there path c is)) ∙ calm)

  pub quiet_bodies : LeadsByText d → (n m : ℕ) → n ≤ m → (scope : Scope) (s : Site) →
      site d scope.instance ≡ Some s → (trail : List Place) (body : BodyTree) (after : List WorkItem) →
      body_pauses m d.spec s.template body ≡ false → body_locations n d scope trail body after ≡ []
  quiet_bodies by_text zero m deep scope s there trail body after e = refl
  quiet_bodies by_text (suc n) zero deep scope s there trail body after e = absurd (omega arith)
  quiet_bodies by_text (suc n) (suc m) deep scope s there trail body after e =
      body-quiet
      (λ path. option_map_or (λ (k : TemplateTree × TaskTree). body_pauses m d.spec k.0 k.1.body)
      (task_reached d.spec s.template path) false)
      (λ names left. option_map_or (λ (callee : Called).
      body_locations n d callee.scope (call_place names ++ trail) callee.body left) (called d scope names) [])
      scope trail
      (λ path left.
      quiet-call by_text n m (quiet_bodies by_text n m (omega (arith, deep))) scope s there trail path left)
      body after e
