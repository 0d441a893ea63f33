-- Rows, of which the first statement is led through and the others wait.
use Rattle.std.proofs.Common.{◌≡◌, ℕ, ◌+◌, ◌*◌, ◌<◌, Option, None, Some, List, [], ◌∷◌, map, refl, sym, ap, ◌∙◌, subst, arith}
use Rattle.tm_syntax.specs.declared.tree.Body.{Body}
use Rattle.tm_syntax.specs.Tree.{StmtTree, StmtRow, nothing, then, row_of}
use Rattle.tm_syntax.specs.Tree.View.{body_tree, local_tree, stmt_trees}
use Rattle.tm_syntax.specs.Scopes.Parts.{body_stmts}
use Rattle.tm_flat_stmts.specs.Flows.{FlowTerms}
use Rattle.tm_flat_bodies.specs.declared.course.Course.{Course}
use Rattle.tm_flat_bodies.specs.declared.stand.Stand.{Stand}
use Rattle.tm_flat_bodies.specs.declared.waiting.Row.{Row}
use Rattle.tm_flat_bodies.specs.declared.waiting.Row.TheVariants as rows
use Rattle.tm_flat_bodies.specs.declared.waiting.Spot.{Spot}
use Rattle.tm_flat_bodies.specs.declared.waiting.Todo.{Todo}
use Rattle.tm_flat_bodies.specs.declared.waiting.Todo.TheVariants as todo
use Rattle.tm_flat_bodies.specs.Inner.Passing.{local_stmts}
use Rattle.tm_flat_bodies.specs.Inner.Places.{IsAt, row_tree, stand_at}
use Rattle.tm_flat_bodies.specs.Inner.Waiting.{Does, LeadsTo, RowGoal, StepsTo, StmtGoal}
use Rattle.tm_flat_bodies.specs.Inner.Weights.{first_steps, row_most, row_weight, stmt_most, todo_weight, weighs}
use Rattle.tm_flat_bodies.specs.Walks.{RowLeads, RowWalks, StmtWalks, WalkTables}
use Rattle.tm_flat_bodies.proofs.Bodies.{body_leads, body_stops, locals_walk, stmts_walk}
use Rattle.tm_flat_bodies.proofs.Rows.{head_walks, row_nothing, row_stop, row_then, tail_walks}
use Rattle.tm_flat_bodies.proofs.Stepping.{at_once, left_for_later}
use Rattle.tm_flat_bodies.proofs.Weights.{body_parts_weigh}

-- a row takes some steps
some_steps : (row : Row) (n : ℕ) → 0 < first_steps row + n
some_steps (rows.Body body) n = omega arith
some_steps (rows.Locals locals) n = omega arith
some_steps (rows.Stmts stmts) n = omega arith

-- where no run stands a row is left at once
pub row_left : (w : WalkTables) (start : Stand) (spot : Spot) (row : Row) (now : Course) (before : List Todo) →
    StepsTo w start (Does w start (todo.Row spot row) now None) (λ d. todo_weight d w start (todo.Row spot row)) before
    before now None
row_left w start spot row now before =
    at_once w start (Does w start (todo.Row spot row) now None) (λ d. todo_weight d w start (todo.Row spot row)) before
    before now None refl
    (λ d. some_steps row (5 * row_weight (weighs d (stand_at w start spot)) (row_tree row)))
    (record { course = refl; flow = refl })

-- where nothing is to be done a row is led through
pub nothing_left : (w : WalkTables) (start f : Stand) (row : Row) (now : Course) (flow : FlowTerms)
    (before : List Todo) → row_tree row ≡ nothing → RowWalks w f (row_tree row) now flow →
    StepsTo w start (RowGoal w f (row_tree row) now flow) (λ d. row_most d f row) before before now (Some flow)
nothing_left w start f row now flow before none walks =
    at_once w start (RowGoal w f (row_tree row) now flow) (λ d. row_most d f row) before before now (Some flow) refl
    (λ d. some_steps row (5 * row_weight (weighs d f) (row_tree row)))
    (subst (λ tree. RowLeads w f tree now now flow (Some flow)) (sym none) (row_nothing w f now flow walks.standing))

-- the first statement of a row may be walked
pub first_walks_on : (w : WalkTables) (f : Stand) (all others : StmtRow) (s : StmtTree) (now : Course)
    (flow : FlowTerms) → all ≡ then s others → RowWalks w f all now flow → StmtWalks w f s now flow
first_walks_on w f all others s now flow is walks =
    head_walks w f s others now flow (subst (λ row. RowWalks w f row now flow) is walks)

-- behind the first statement of a row wait the others
module _ (w : WalkTables) (start : Stand) (spot : Spot) (f : Stand) (at : IsAt w start spot f) (all others : Row)
    (s : StmtTree) (now : Course) (flow : FlowTerms) (is : row_tree all ≡ then s (row_tree others))
    (walks : RowWalks w f (row_tree all) now flow) where
  parts : RowWalks w f (then s (row_tree others)) now flow
  parts = subst (λ row. RowWalks w f row now flow) is walks

  -- the others lead on behind it
  others_lead : (end : Course) (g : Option FlowTerms) → StmtGoal w f s now flow end g →
      LeadsTo w start (todo.Row spot others ∷ []) end g (RowGoal w f (row_tree all) now flow)
  others_lead end None did = (
    tt,
    λ last h left.
        subst (λ (c : Course). RowLeads w f (row_tree all) now c flow h) (sym left.course)
        (subst (λ (o : Option FlowTerms). RowLeads w f (row_tree all) now end flow o) (sym left.flow)
        (subst (λ row. RowLeads w f row now end flow None) (sym is)
        (row_stop w f s (row_tree others) now end flow did))),
  )
  others_lead end (Some there) did = (
    record {
      there = at.there;
      walks = subst (λ (h : Stand). RowWalks w h (row_tree others) end there) (sym at.is)
          (tail_walks w f s (row_tree others) now flow parts walks.stand.walkable end there did);
    },
    λ last h leads.
        subst (λ row. RowLeads w f row now last flow h) (sym is)
        (row_then w f s (row_tree others) now end last flow there h did
        (subst (λ (k : Stand). RowLeads w k (row_tree others) end last there h) at.is leads)),
  )

  pub first_steps_on : (before middle after : List Todo) (end : Course) (here : Option FlowTerms) →
      middle ≡ todo.Row spot others ∷ before → first_steps all ≡ 1 → first_steps others ≡ 1 →
      StepsTo w start (StmtGoal w f s now flow) (λ d. stmt_most d f s) middle after end here →
      StepsTo w start (RowGoal w f (row_tree all) now flow) (λ d. row_most d f all) before after end here
  first_steps_on before middle after end here left one other step =
      left_for_later w start (StmtGoal w f s now flow) (RowGoal w f (row_tree all) now flow) (λ d. stmt_most d f s)
      (λ d. row_most d f all) (todo.Row spot others) before middle after end here left step others_lead
      (λ d n less.
      let whole = ap (row_weight (weighs d f)) is in
      let same = ap (λ (k : Stand). row_weight (weighs d k) (row_tree others)) at.is in
      omega (arith, less, whole, same, one, other))

-- a body begins with its locals
module _ (w : WalkTables) (start : Stand) (spot : Spot) (f : Stand) (at : IsAt w start spot f) (all locals stmts : Row)
    (body : Body) (now : Course) (flow : FlowTerms) (is : row_tree all ≡ row_of (body_stmts (body_tree body)))
    (is_locals : row_tree locals ≡ row_of (local_stmts (map local_tree body.locals.items)))
    (is_stmts : row_tree stmts ≡ row_of (stmt_trees body.stmts.items))
    (walks : RowWalks w f (row_tree all) now flow) where
  whole : RowWalks w f (row_of (body_stmts (body_tree body))) now flow
  whole = subst (λ row. RowWalks w f row now flow) is walks

  abbrev local_row : StmtRow
  local_row = row_of (local_stmts (body_tree body).locals)

  stmts_lead : (end : Course) (g : Option FlowTerms) → RowGoal w f local_row now flow end g →
      LeadsTo w start (todo.Row spot stmts ∷ []) end g (RowGoal w f (row_tree all) now flow)
  stmts_lead end None did = (
    tt,
    λ last h left.
        subst (λ (c : Course). RowLeads w f (row_tree all) now c flow h) (sym left.course)
        (subst (λ (o : Option FlowTerms). RowLeads w f (row_tree all) now end flow o) (sym left.flow)
        (subst (λ row. RowLeads w f row now end flow None) (sym is)
        (body_stops w f (body_tree body) now end flow did))),
  )
  stmts_lead end (Some there) did = (
    record {
      there = at.there;
      walks = subst (λ (h : Stand). RowWalks w h (row_tree stmts) end there) (sym at.is)
          (subst (λ row. RowWalks w f row end there) (sym is_stmts)
          (stmts_walk w f (body_tree body) now flow whole walks.stand.walkable end there did));
    },
    λ last h leads.
        subst (λ row. RowLeads w f row now last flow h) (sym is)
        (body_leads w f (body_tree body) now end last flow there h did
        (subst (λ row. RowLeads w f row end last there h) is_stmts
        (subst (λ (k : Stand). RowLeads w k (row_tree stmts) end last there h) at.is leads))),
  )

  pub body_steps : (before middle after : List Todo) → first_steps all ≡ 5 → first_steps locals ≡ 1 →
      first_steps stmts ≡ 1 → middle ≡ todo.Row spot stmts ∷ before → after ≡ todo.Row spot locals ∷ middle →
      StepsTo w start (RowGoal w f (row_tree all) now flow) (λ d. row_most d f all) before after now (Some flow)
  body_steps before middle after five one other left_first left = record {
    front = todo.Row spot locals ∷ todo.Row spot stmts ∷ [];
    waits = left ∙ ap (λ (ts : List Todo). todo.Row spot locals ∷ ts) left_first;
    leads = (
      record {
        there = at.there;
        walks = subst (λ (h : Stand). RowWalks w h (row_tree locals) now flow) (sym at.is)
            (subst (λ row. RowWalks w f row now flow) (sym is_locals)
            (locals_walk w f (body_tree body) now flow whole));
      },
      λ end g did.
          stmts_lead end g
          (subst (λ row. RowLeads w f row now end flow g) is_locals
          (subst (λ (k : Stand). RowLeads w k (row_tree locals) now end flow g) at.is did)),
    );
    fewer = λ d has.
        let here = ap (row_weight (weighs d f)) is in
        let sum = body_parts_weigh (weighs d f) (body_tree body) in
        let locals_here = ap (row_weight (weighs d f)) is_locals in
        let stmts_here = ap (row_weight (weighs d f)) is_stmts in
        let at_locals = ap (λ (k : Stand). row_weight (weighs d k) (row_tree locals)) at.is in
        let at_stmts = ap (λ (k : Stand). row_weight (weighs d k) (row_tree stmts)) at.is in
        omega (arith, here, sum, locals_here, stmts_here, at_locals, at_stmts, five, one, other);
  }
