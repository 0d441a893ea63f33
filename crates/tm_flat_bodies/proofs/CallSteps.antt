-- Calls, whose bodies wait.
use Rattle.std.proofs.Common.{◌≡◌, ◌+◌, Bor, Option, None, Some, List, [], ◌∷◌, sym, ap, ◌∙◌, subst, arith}
use Rattle.tm_syntax.specs.declared.tree.Body.{Body}
use Rattle.tm_syntax.specs.declared.tree.Ident.{Ident}
use Rattle.tm_syntax.specs.declared.tree.TaskDef.{TaskDef}
use Rattle.tm_syntax.specs.Tree.{ExprTree, StmtRow, assign, invoke, result, row_of}
use Rattle.tm_syntax.specs.Tree.View.{body_tree, expr_tree}
use Rattle.tm_syntax.specs.Scopes.Parts.{body_stmts}
use Rattle.tm_syntax.specs.Design.{DesignTree}
use Rattle.std.specs.Option.{option_map}
use Rattle.tm_scope.specs.Cells.{HasCells}
use Rattle.tm_design.specs.Typed.{HasTypeAt}
use Rattle.tm_flat_stmts.specs.Flows.{FlowTerms}
use Rattle.tm_flat_stmts.specs.Targets.{HasTargetAt}
use Rattle.tm_flat_bodies.specs.declared.aims.Aim.{Aim}
use Rattle.tm_flat_bodies.specs.declared.called.CalledTask.{CalledTask}
use Rattle.tm_flat_bodies.specs.declared.course.Course.{Course}
use Rattle.tm_flat_bodies.specs.declared.stand.Stand.{Stand}
use Rattle.tm_flat_bodies.specs.declared.waiting.Home.{Home}
use Rattle.tm_flat_bodies.specs.declared.waiting.Row.TheVariants as rows
use Rattle.tm_flat_bodies.specs.declared.waiting.Spot.{Spot}
use Rattle.tm_flat_bodies.specs.declared.waiting.Spot.TheVariants as spots
use Rattle.tm_flat_bodies.specs.declared.waiting.Todo.{Todo}
use Rattle.tm_flat_bodies.specs.declared.waiting.Todo.TheVariants as todo
use Rattle.tm_design.specs.Callees.{IsCallee}
use Rattle.tm_flat_bodies.specs.Inner.Aimed.{Aims}
use Rattle.tm_flat_bodies.specs.Inner.Passing.{Answers, Enters, IsCalled}
use Rattle.tm_flat_bodies.specs.Inner.Places.{IsAt, IsHome, stand_at, stand_of}
use Rattle.tm_flat_bodies.specs.Inner.Waiting.{LeadsTo, RowGoal, RowWalksAt, StepsTo, StmtGoal}
use Rattle.tm_flat_bodies.specs.Inner.Weights.{row_weight, stmt_most, weighs}
use Rattle.tm_flat_bodies.specs.Walks.{BodyLeads, BodyWalks, IsStand, RowLeads, RowWalks, StmtLeads, StmtWalks, WalkTables}
use Rattle.tm_flat_bodies.proofs.Invoking.{call_leads, entered_walks}
use Rattle.tm_flat_bodies.proofs.Returning.{aimed_walks, answer_typed, result_leads, result_stands, result_stops}
use Rattle.tm_flat_bodies.proofs.Weights.{call_weighs}

module _ (w : WalkTables) (f : Stand) (names : List Ident) (k : CalledTask) (is : IsCalled w f names k) (home : Home)
    (body : Bor Body) (home_is : home ≡ record { at = k.stand.reader.at; depth = k.stand.depth; trail = k.stand.trail })
    (body_is : body.now ≡ k.task.now.body) where
  -- the called body is where it waits
  same_stand : stand_of w home ≡ k.stand
  same_stand =
      ap (stand_of w) home_is
      ∙ (λ i. record {
        reader = record { tables = sym is.tables i; at = k.stand.reader.at };
        depth = k.stand.depth;
        trail = k.stand.trail;
      })

  pub there : IsHome w home
  there = record {
    from = f.reader.at;
    names = names;
    task = k.task.now;
    is = subst (λ (h : Home). IsCallee w.tables f.reader.at names h.at k.task.now) (sym home_is) is.callee;
  }

  abbrev row : StmtRow
  row = row_of (body_stmts (body_tree k.task.now.body))

  abbrev here : Todo
  here = todo.Row (spots.Called home) (rows.Body body)

  -- what it weighs there
  body_weighs : (d : DesignTree) → HasCells w.tables d →
      weighs d f names
      ≡ 2 + row_weight (weighs d (stand_of w home)) (row_of (body_stmts (body_tree body.now)))
  body_weighs d has =
      let call = call_weighs d w f names k has is in
      let there = ap (λ (h : Stand). row_weight (weighs d h) row) same_stand in
      let same = ap (λ (b : Body). row_weight (weighs d (stand_of w home)) (row_of (body_stmts (body_tree b))))
      body_is in
      omega (arith, call, there, same)

  module _ (start : Stand) where
    -- it may be walked there
    body_waits : (now : Course) (flow : FlowTerms) → BodyWalks w k.stand (body_tree k.task.now.body) now flow →
        RowWalksAt w start (spots.Called home) (row_of (body_stmts (body_tree body.now))) now flow
    body_waits now flow walks = record {
      there = there;
      walks = subst (λ (b : Body). RowWalks w (stand_of w home) (row_of (body_stmts (body_tree b))) now flow)
          (sym body_is) (subst (λ (h : Stand). RowWalks w h row now flow) (sym same_stand) walks);
    }

    -- and leads there where it leads in the called body
    body_goes : (from now : Course) (flow : FlowTerms) (g : Option FlowTerms) →
        RowGoal w (stand_of w home) (row_of (body_stmts (body_tree body.now))) from flow now g →
        BodyLeads w k.stand (body_tree k.task.now.body) from now flow g
    body_goes from now flow g leads =
        subst (λ (h : Stand). RowLeads w h row from now flow g) same_stand
        (subst (λ (b : Body). RowLeads w (stand_of w home) (row_of (body_stmts (body_tree b))) from now flow g) body_is
        leads)

    module _ (args : List ExprTree) (from mid : Course) (flow entered : FlowTerms)
        (walks : StmtWalks w f (invoke names args) from flow)
        (enters : Enters f.reader args k.stand.reader.at from mid flow entered) where
      body_begins : RowWalksAt w start (spots.Called home) (row_of (body_stmts (body_tree body.now))) mid entered
      body_begins =
          body_waits mid entered
          (entered_walks w f names k is walks.stand.walkable args from mid flow entered walks enters)

      call_goes : (now : Course) (g : Option FlowTerms) →
          RowGoal w (stand_of w home) (row_of (body_stmts (body_tree body.now))) mid entered now g →
          StmtLeads w f (invoke names args) from now flow g
      call_goes now g goes =
          call_leads w f names k is args from mid now flow entered g walks.stand.tables enters
          (body_goes mid now entered g goes)

      -- a call
      pub call_steps : (before after : List Todo) → after ≡ here ∷ before →
          StepsTo w start (StmtGoal w f (invoke names args) from flow) (λ d. stmt_most d f (invoke names args)) before
          after mid (Some entered)
      call_steps before after left = record {
        front = here ∷ [];
        waits = left;
        leads = (body_begins, λ now g goes. call_goes now g goes);
        fewer = λ d has. let weight = body_weighs d has in omega (arith, weight);
      }

    -- an assignment of what it returns
    module _ (spot : Spot) (at : IsAt w start spot f) (task : Bor TaskDef) (task_is : task ≡ k.task)
        (path : Bor (List Ident)) (index : Option ExprTree) (args : List ExprTree) (from aimed mid : Course)
        (flow entered : FlowTerms) (aim : Aim)
        (walks : StmtWalks w f (assign path.now index (result names args)) from flow)
        (aims : Aims f.reader path.now index from aimed flow aim)
        (enters : Enters f.reader args k.stand.reader.at aimed mid aim.flow entered) where
      invoked : StmtWalks w f (invoke names args) aimed aim.flow
      invoked = aimed_walks w f path.now index names args from flow walks aimed aim aims

      abbrev behind : Todo
      behind = todo.Answer spot home task path aim.place

      same_called : record { stand = stand_of w home; task = task } ≡ k
      same_called i = record { stand = same_stand i; task = task_is i }

      -- what is behind the body
      answer_leads : (now : Course) (g : Option FlowTerms) → StmtLeads w f (invoke names args) aimed now aim.flow g →
          LeadsTo w start (behind ∷ []) now g (StmtGoal w f (assign path.now index (result names args)) from flow)
      answer_leads now None leads = (
        tt,
        λ end h goes.
            subst (λ (c : Course). StmtLeads w f (assign path.now index (result names args)) from c flow h)
            (sym goes.course)
            (subst (λ (o : Option FlowTerms). StmtLeads w f (assign path.now index (result names args)) from now flow o)
            (sym goes.flow)
            (result_stops w f names k is path.now index args from aimed flow aim walks.stand.tables aims now leads)),
      )
      answer_leads now (Some left) leads = (
        let stands = result_stands w f path.now index names args from flow walks aimed aim aims walks.stand.walkable now
            left leads in
            let typed = answer_typed w f path.now index names args from flow walks k is in record {
              there = at.there;
              stand = subst (IsStand w) (sym at.is) walks.stand;
              called = there;
              ty = typed.0;
              target = subst (λ (h : Stand). HasTargetAt h.reader typed.0 path.now) (sym at.is) typed.1;
              typed = λ e answered.
                  subst (λ (h : Stand). HasTypeAt h.reader typed.0 e) (sym same_stand)
                  (typed.2 e (sym (ap (λ (t : Bor TaskDef). option_map expr_tree t.now.body.answer) task_is)
                  ∙ answered));
              known = stands.1;
              standing = stands.0;
            },
        λ end h answers.
            subst (λ (o : Option FlowTerms). StmtLeads w f (assign path.now index (result names args)) from end flow o)
            (sym answers.is)
            (result_leads w f names k is path.now index args from aimed flow aim walks.stand.tables aims now end left
            answers.behind leads
            (subst (λ (h : Stand). Answers h.reader path.now aim.place k now end left answers.behind) at.is
            (subst (λ (c : CalledTask). Answers (stand_at w start spot).reader path.now aim.place c now end left
            answers.behind) same_called answers.answers))),
      )

      -- the call and what is behind it
      pub result_steps : (before middle after : List Todo) → middle ≡ behind ∷ before → after ≡ here ∷ middle →
          StepsTo w start (StmtGoal w f (assign path.now index (result names args)) from flow)
          (λ d. stmt_most d f (assign path.now index (result names args))) before after mid (Some entered)
      result_steps before middle after answer_left body_left = record {
        front = here ∷ behind ∷ [];
        waits = body_left ∙ ap (λ (ts : List Todo). here ∷ ts) answer_left;
        leads = (
          body_begins args aimed mid aim.flow entered invoked enters,
          λ now g goes. answer_leads now g (call_goes args aimed mid aim.flow entered invoked enters now g goes),
        );
        fewer = λ d has. let weight = body_weighs d has in omega (arith, weight);
      }
