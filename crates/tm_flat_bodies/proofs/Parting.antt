-- Branches and loops, whose rows wait.
use Rattle.std.proofs.Common.{◌≡◌, Bor, Option, None, Some, List, [], ◌∷◌, sym, ap, ◌∙◌, subst, arith}
use Rattle.tm_base.specs.declared.place.Place.{Place}
use Rattle.tm_syntax.specs.declared.tree.Stmt.{Stmt}
use Rattle.tm_syntax.specs.Tree.{ExprTree, StmtRow, branch, forever, repeat, row_of}
use Rattle.tm_syntax.specs.Tree.View.{stmt_trees}
use Rattle.tm_syntax.specs.Design.{DesignTree}
use Rattle.tm_flat_stmts.specs.Flows.{FlowTerms}
use Rattle.tm_flat_stmts.proofs.Flowing.{flow_along_if_there}
use Rattle.tm_flat_stmts.specs.declared.branches.Branches.{Branches}
use Rattle.tm_flat_stmts.specs.Parted.{Parts}
use Rattle.tm_flat_bodies.specs.declared.course.Course.{Course}
use Rattle.tm_flat_bodies.specs.declared.stand.Stand.{Stand}
use Rattle.tm_flat_bodies.specs.declared.waiting.Row.TheVariants as rows
use Rattle.tm_flat_bodies.specs.declared.waiting.Spot.{Spot}
use Rattle.tm_flat_bodies.specs.declared.waiting.Todo.{Todo}
use Rattle.tm_flat_bodies.specs.declared.waiting.Todo.TheVariants as todo
use Rattle.tm_flat_bodies.specs.Inner.Places.{IsAt, stand_at}
use Rattle.tm_flat_bodies.specs.Inner.Waiting.{Does, RowGoal, RowWalksAt, SecondWalks, StepsTo, StmtGoal}
use Rattle.tm_flat_bodies.specs.Inner.Weights.{row_weight, stmt_most, todo_weight, weighs}
use Rattle.tm_flat_bodies.specs.Walks.{RowLeads, RowWalks, StmtLeads, StmtWalks, WalkTables}
use Rattle.tm_flat_bodies.proofs.Branching.{branch_leads, first_walks, forever_leads, forever_walks, repeat_leads, second_walks}

-- the statements of a slice, as a row
abbrev row_at : Bor (List Stmt) → StmtRow
row_at ss = row_of (stmt_trees ss.now)

-- where a `while` stands in the text is all one
pub placed_elsewhere : (w : WalkTables) (f : Stand) (place other : Place) (e : ExprTree) (body : StmtRow) (now : Course)
    (flow : FlowTerms) → StmtWalks w f (repeat place e body) now flow → StmtWalks w f (repeat other e body) now flow
placed_elsewhere w f place other e body now flow walks = record {
  stand = walks.stand;
  typed = walks.typed;
  fits = walks.fits;
  within = walks.within;
  standing = walks.standing;
}

module _ (w : WalkTables) (start : Stand) (spot : Spot) (f : Stand) (at : IsAt w start spot f) where
  -- a row that waits in the spot has what it asks for where its body has it
  walks_there : (row : StmtRow) (now : Course) (flow : FlowTerms) → RowWalks w f row now flow →
      RowWalksAt w start spot row now flow
  walks_there row now flow walks = record {
    there = at.there;
    walks = subst (λ (h : Stand). RowWalks w h row now flow) (sym at.is) walks;
  }

  -- and it leads there where it leads in its body
  leads_here : (row : StmtRow) (from now : Course) (flow : FlowTerms) (g : Option FlowTerms) →
      RowGoal w (stand_at w start spot) row from flow now g → RowLeads w f row from now flow g
  leads_here row from now flow g leads = subst (λ (h : Stand). RowLeads w h row from now flow g) at.is leads

  -- what it weighs there
  weighs_here : (d : DesignTree) (row : StmtRow) →
      row_weight (weighs d (stand_at w start spot)) row ≡ row_weight (weighs d f) row
  weighs_here d row = ap (λ (h : Stand). row_weight (weighs d h) row) at.is

  module _ (e : ExprTree) (from parted : Course) (flow : FlowTerms) (parts : Branches)
      (told : Parts f.reader e from.terms parted.terms flow from.ends parted.ends parts)
      (before middle after : List Todo) where
    -- an `if`
    pub branch_steps : (first second : Bor (List Stmt)) →
        StmtWalks w f (branch e (row_at first) (row_at second)) from flow →
        middle ≡ todo.Second spot second parts.second ∷ before →
        after ≡ todo.Row spot (rows.Stmts first) ∷ middle →
        StepsTo w start (StmtGoal w f (branch e (row_at first) (row_at second)) from flow)
        (λ d. stmt_most d f (branch e (row_at first) (row_at second))) before after parted (Some parts.first)
    branch_steps first second walks second_left first_left = record {
      front = todo.Row spot (rows.Stmts first) ∷ todo.Second spot second parts.second ∷ [];
      waits = first_left ∙ ap (λ (ts : List Todo). todo.Row spot (rows.Stmts first) ∷ ts) second_left;
      leads = (
        walks_there (row_at first) parted parts.first
            (first_walks w f e from flow parted parts walks.stand walks.standing told (row_at first) walks.typed.1
            (λ d p has are. (walks.fits d p has are).0)),
        λ one left did.
            let goes = leads_here (row_at first) parted one parts.first left did in
            let walkable = walks.stand.walkable in (
              record {
                row =
                    walks_there (row_at second) one parts.second
                    (second_walks w f e from flow parted parts walks.stand walks.standing told walkable (row_at first)
                    one left goes (row_at second) walks.typed.2 (λ d p has are. (walks.fits d p has are).1));
                joins =
                    (goes walkable.design walkable.process walkable.cells walkable.are walks.stand.calls
                    walks.stand.trail).goes.flow;
              },
              λ now g behind.
                  branch_leads w f e from parted flow parts walks.stand.tables told (row_at first) (row_at second) one
                  behind.mid now left behind.right g goes
                  (leads_here (row_at second) one behind.mid parts.second behind.right behind.leads) behind.joins,
            ),
      );
      fewer = λ d has.
          let one = weighs_here d (row_at first) in
          let two = weighs_here d (row_at second) in
          omega (arith, one, two);
    }

    -- a `while`
    pub repeat_steps : (place : Place) (body : Bor (List Stmt)) →
        StmtWalks w f (repeat place e (row_at body)) from flow →
        middle ≡ todo.Loop (Some parts.second) ∷ before → after ≡ todo.Row spot (rows.Stmts body) ∷ middle →
        StepsTo w start (StmtGoal w f (repeat place e (row_at body)) from flow)
        (λ d. stmt_most d f (repeat place e (row_at body))) before after parted (Some parts.first)
    repeat_steps place body walks loop_left body_left = record {
      front = todo.Row spot (rows.Stmts body) ∷ todo.Loop (Some parts.second) ∷ [];
      waits = body_left ∙ ap (λ (ts : List Todo). todo.Row spot (rows.Stmts body) ∷ ts) loop_left;
      leads = (
        walks_there (row_at body) parted parts.first
            (first_walks w f e from flow parted parts walks.stand walks.standing told (row_at body) walks.typed.1
            (λ d p has are. (walks.fits d p has are).1)),
        λ now left did. (
          tt,
          λ end g goes.
              subst (λ (c : Course). StmtLeads w f (repeat place e (row_at body)) from c flow g) (sym goes.course)
              (subst (λ (o : Option FlowTerms). StmtLeads w f (repeat place e (row_at body)) from now flow o)
              (sym goes.flow)
              (repeat_leads w f e from parted flow parts walks.stand.tables told (row_at body) now left
              (leads_here (row_at body) parted now parts.first left did) place)),
        ),
      );
      fewer = λ d has. let one = weighs_here d (row_at body) in omega (arith, one);
    }

  -- a `forever`
  pub forever_steps : (place : Place) (body : Bor (List Stmt)) (now : Course) (flow : FlowTerms)
      (before middle after : List Todo) → StmtWalks w f (forever place (row_at body)) now flow →
      middle ≡ todo.Loop None ∷ before → after ≡ todo.Row spot (rows.Stmts body) ∷ middle →
      StepsTo w start (StmtGoal w f (forever place (row_at body)) now flow)
      (λ d. stmt_most d f (forever place (row_at body))) before after now (Some flow)
  forever_steps place body now flow before middle after walks loop_left body_left = record {
    front = todo.Row spot (rows.Stmts body) ∷ todo.Loop None ∷ [];
    waits = body_left ∙ ap (λ (ts : List Todo). todo.Row spot (rows.Stmts body) ∷ ts) loop_left;
    leads = (
      walks_there (row_at body) now flow (forever_walks w f place (row_at body) now flow walks),
      λ mid left did. (
        tt,
        λ end g goes.
            subst (λ (c : Course). StmtLeads w f (forever place (row_at body)) now c flow g) (sym goes.course)
            (subst (λ (o : Option FlowTerms). StmtLeads w f (forever place (row_at body)) now mid flow o)
            (sym goes.flow)
            (forever_leads w f (row_at body) now mid flow left (leads_here (row_at body) now mid flow left did) place)),
      ),
    );
    fewer = λ d has. let one = weighs_here d (row_at body) in omega (arith, one);
  }

-- the second row of an `if`
pub second_steps : (w : WalkTables) (start : Stand) (spot : Spot) (second : Bor (List Stmt)) (other : FlowTerms)
    (now : Course) (here : Option FlowTerms) (before middle after : List Todo) →
    SecondWalks w start spot (row_at second) other now here → middle ≡ todo.Join here ∷ before →
    after ≡ todo.Row spot (rows.Stmts second) ∷ middle →
    StepsTo w start (Does w start (todo.Second spot second other) now here)
    (λ d. todo_weight d w start (todo.Second spot second other)) before after now (Some other)
second_steps w start spot second other now here before middle after walks join_left row_left = record {
  front = todo.Row spot (rows.Stmts second) ∷ todo.Join here ∷ [];
  waits = row_left ∙ ap (λ (ts : List Todo). todo.Row spot (rows.Stmts second) ∷ ts) join_left;
  leads = (
    walks.row,
    λ mid right did.
        let stand = walks.row.walks.stand in
        let walkable = stand.walkable in
        let led = (did walkable.design walkable.process walkable.cells walkable.are stand.calls stand.trail).goes in (
          record {
            sound = led.sound;
            joins = flow_along_if_there w.tables now.terms mid.terms here led.grown walks.joins;
            joined = led.flow;
          },
          λ end g joined. record { mid = mid; right = right; leads = did; joins = joined },
        ),
  );
  fewer = λ d has. omega arith;
}
