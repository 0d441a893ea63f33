-- The runs of a call: they enter the body of its task, and are led through it.
use Rattle.std.proofs.Common.{◌≡◌, ℕ, ◌+◌, ◌<◌, ◌&&◌, Option, None, Some, List, [], ◌++◌, length, map, take, slice_get, sym, ap, ◌∙◌, subst, arith, append-nil}
use Rattle.std.specs.Prelude.{IfSome}
use Rattle.std.specs.List.{list_any}
use Rattle.tm_base.specs.Arithmetic.{is_nonzero}
use Rattle.tm_syntax.specs.declared.design.Var.{Var}
use Rattle.tm_syntax.specs.declared.tree.TaskDef.{TaskDef}
use Rattle.tm_syntax.specs.Tree.{StmtTree, row_of}
use Rattle.tm_syntax.specs.Tree.View.{body_tree}
use Rattle.tm_syntax.specs.Scopes.Parts.{body_stmts}
use Rattle.tm_syntax.specs.Scopes.Pauses.{call_depth}
use Rattle.tm_syntax.specs.Design.{DesignTree}
use Rattle.tm_syntax.specs.Design.Cells.{Called}
use Rattle.tm_syntax.specs.Design.Work.{perform}
use Rattle.tm_scope.specs.Cells.{ScopedCells, scope_of}
use Rattle.tm_scope.specs.declared.cells.site_body.SiteBody.{SiteBody}
use Rattle.tm_term.specs.declared.term.TermId.{TermId}
use Rattle.tm_term.specs.Table.{Table}
use Rattle.tm_term.specs.Value.{value_of}
use Rattle.tm_term.proofs.Valued.{Extends-trans}
use Rattle.tm_sem.specs.Value.{plain_memory}
use Rattle.tm_locations.specs.Locations.{no_call}
use Rattle.tm_flat.specs.Fitting.{BodyFits, ItemsFit, RowFits}
use Rattle.tm_flat.specs.Inputs.{first_choice, input_widths, room}
use Rattle.tm_flat.specs.Positions.{body_after}
use Rattle.tm_flat.specs.Steps.{IsInput}
use Rattle.tm_flat.specs.Writes.{is_variable, items_write}
use Rattle.tm_flat_exprs.specs.Kept.{Keeps}
use Rattle.tm_flat_exprs.specs.Made.{IsTruth}
use Rattle.tm_flat_stmts.specs.Flows.{AreEnds, EndTerms, FlowTerms, HasTerm, IsFlow, stop_of}
use Rattle.tm_flat_stmts.proofs.Leaving.{or_left, or_right}
use Rattle.tm_flat_bodies.specs.declared.course.Course.{Course}
use Rattle.tm_flat_bodies.specs.declared.stand.Stand.{Stand}
use Rattle.tm_flat_bodies.specs.Asked.{RowIsTyped}
use Rattle.tm_flat_bodies.specs.Walks.{BodyLeads, BodyWalks, IsStanding, IsTrailOf, WalkTables}
use Rattle.tm_flat_bodies.proofs.Standing.{stands_on}
use Rattle.tm_flat_moves.specs.Begun.{Begins}
use Rattle.tm_flat_moves.specs.Ended.{EndsBehind}
use Rattle.tm_flat_moves.specs.Items.{ItemsLead}
use Rattle.tm_flat_moves.specs.Run.{HasRun, memory_in}
use Rattle.tm_flat_moves.proofs.InputTerms.{input_along}
use Rattle.tm_flat_moves.proofs.InputWidths.{bit_width}
use Rattle.tm_flat_moves.proofs.Lists.{get_within}
use Rattle.tm_flat_moves.proofs.Rows.{rows_fit}
use Rattle.tm_flat_moves.proofs.Running.{NoneEnded, has_run, none_ended}
use Rattle.tm_flat_moves.proofs.Working.{items_nothing, items_stop, items_then, stmts_lead}
use Rattle.tm_flat_moves.specs.Arguments.{ReadsArguments, are_in_range, argument_bits, params_of}
use Rattle.tm_flat_moves.specs.Calls.{call_ending, call_items, call_writes, callee_at, given_memory, may_call}
use Rattle.tm_flat_moves.specs.Inner.Entering.{EntersCall, IsCallableAt}
use Rattle.tm_flat_moves.specs.Turn.{TellsTurn}

module _ (w : WalkTables) (d : DesignTree) (p : ℕ) (at : SiteBody) (task : TaskDef) (t : Table)
    (callable : IsCallableAt w d p at task t) where
  abbrev callee : Called
  callee = callee_at d at task

  -- ---- the body is entered
  module _ (turn : TermId) (tells : TellsTurn t d (Some turn)) (count : ℕ)
      (many : count ≡ length w.locations.rows) (fresh : EndTerms)
      (new : (length fresh.stops ≡ count + 2) × ((n : ℕ) → stop_of fresh n ≡ None) × (fresh.failed ≡ None))
      (mid now : Course) (begun given : FlowTerms) (begins : Begins w.tables t mid.terms turn begun)
      (mid_ends : mid.ends ≡ fresh) (same_ends : now.ends ≡ mid.ends)
      (reads : ReadsArguments w.tables mid.terms now.terms d (params_of d at) 0 begun given) where
    ended : NoneEnded (count + 2) now.ends
    ended = none_ended (count + 2) fresh now.ends new (same_ends ∙ mid_ends)

    input_kept : (i : ℕ) → i < length d.vars → (id : TermId) × IsInput mid.terms i id × HasTerm i id begun
    input_kept i below =
        let here = get_within begun.memory.values i
        (let long = begins.flow.memory.count ∙ sym (ap length callable.cells.vars) in omega (arith, long, below)) in
        (here.0, begins.inputs i here.0 here.1, here.1)

    pub entered : EntersCall w d callee t now given
    entered = record {
      grown = Extends-trans t mid.terms now.terms begins.grown reads.grown;
      sound = reads.sound;
      flow = reads.flow;
      position = reads.position ∙ begins.position;
      many = ended.many ∙ ap (λ n. n + 2) many;
      none = ended.none;
      failed = ended.failed;
      on = λ u more v are.
          let early = Extends-trans mid.terms now.terms u reads.grown more in
          reads.on u more v are
          ∙ ap (λ b. b && are_in_range d (params_of d at) (argument_bits d v) 0)
          (ap (λ id. is_nonzero (value_of u v id)) begins.stands
          ∙ tells.truth u (Extends-trans t mid.terms u begins.grown early) v are);
      keeps = λ u more v are.
          let early = Extends-trans mid.terms now.terms u reads.grown more in
          reads.keeps u more v are (memory_in d v)
          (subst (λ (vars : List Var). Keeps w.tables u v begun.memory (plain_memory (take (length vars) v)))
          (sym callable.cells.vars) (begins.keeps u early v are));
      leaves = λ i below none.
          let had = input_kept i below in (
            had.0,
            input_along mid.terms now.terms i had.0 reads.grown had.1,
            reads.leaves i had.0 none had.2,
          );
    }

  -- ---- the body is walked
  module _ (now : Course) (given : FlowTerms) (entered : EntersCall w d callee t now given) where
    known : AreEnds w.tables now.terms now.ends
    known = record {
      stops = λ n. subst (λ o. IfSome o (IsFlow w.tables now.terms)) (sym (entered.none n)) tt;
      failed = subst (λ o. IsTruth now.terms o) (sym entered.failed) tt;
    }

    inputs : now.terms.inputs ≡ input_widths d
    inputs = entered.grown.inputs ∙ callable.inputs

    standing : IsStanding w now given
    standing = record {
      sound = entered.sound;
      bits = record {
        small = let few = callable.few in let first = callable.first in omega (arith, few, first);
        bits = λ i below.
            let here : w.first + 0 + i ≡ first_choice d + i = let first = callable.first in omega (arith, first) in
            (λ j. slice_get (inputs j) (here j)) ∙ bit_width d i (omega (arith, below));
      };
      stands = entered.flow;
      ended = known;
      count = entered.many;
    }

    module _ (f : Stand) (reader_is : f.reader ≡ record { tables = w.tables; at = at })
        (depth_is : f.depth ≡ call_depth d.spec) (trail_is : f.trail ≡ Some 0) where
      abbrev ss : List StmtTree
      ss = body_stmts (body_tree task.body)

      abbrev at_is : f.reader.at ≡ at
      at_is = ap (λ (s : ScopedCells). s.at) reader_is

      with_nothing : map (perform (scope_of at) []) ss ++ [] ≡ call_items callee
      with_nothing = append-nil (map (perform (scope_of at) []) ss)

      pub body_walks : BodyWalks w f (body_tree task.body) now given
      body_walks = record {
        stand = record {
          walkable = callable.walkable;
          tables = ap (λ (s : ScopedCells). s.tables) reader_is;
          calls = [];
          trail = subst (λ o. IsTrailOf w.locations o []) (sym trail_is) no_call;
        };
        typed = subst (λ s. RowIsTyped s (row_of ss)) (sym reader_is)
            (callable.walkable.bodies at task callable.readable.stands);
        fits = λ e q has are.
            let same : f.depth ≡ call_depth e.spec =
            depth_is ∙ ap call_depth (callable.cells.text ∙ sym has.text) in
            let start : ItemsFit room e (call_items callee) given.position =
            subst (λ k. ItemsFit room e (call_items callee) k) (sym entered.position) (callable.fits e q has are) in
            let here = (rows_fit e (scope_of at) [] [] room ss given.position
            (subst (λ l. ItemsFit room e l given.position) (sym with_nothing) start)).0 in
            subst (λ (a : SiteBody). RowFits room (body_after f.depth e) (BodyFits room f.depth e) e (scope_of a)
            (row_of ss) given.position) (sym at_is)
            (subst (λ n. RowFits room (body_after n e) (BodyFits room n e) e (scope_of at) (row_of ss) given.position)
            (sym same) here);
        standing = standing;
      }

      pub body_led : (mid : Course) (left : Option FlowTerms) → BodyLeads w f (body_tree task.body) now mid given left →
          ItemsLead w d p (call_items callee) now mid given left
      body_led mid None led =
          let one = stmts_lead w d p f at 0 reader_is depth_is trail_is callable.cells callable.are ss now mid given
          None led [] no_call in
          subst (λ l. ItemsLead w d p l now mid given None) with_nothing
          (items_stop w d p (scope_of at) [] ss [] now mid given one)
      body_led mid (Some there) led =
          let one = stmts_lead w d p f at 0 reader_is depth_is trail_is callable.cells callable.are ss now mid given
          (Some there) led [] no_call in
          subst (λ l. ItemsLead w d p l now mid given (Some there)) with_nothing
          (items_then w d p (scope_of at) [] ss [] now mid mid given there (Some there) one
          (items_nothing w d p mid there (stands_on w now mid given there one.goes standing)))

    pub call_ran : (mid fin : Course) (left : Option FlowTerms) →
        ItemsLead w d p (call_items callee) now mid given left →
        EndsBehind mid.terms fin.terms (length w.locations.rows + 1) left mid.ends fin.ends →
        HasRun w d p (call_ending d callee) (call_writes d callee) t fin
    call_ran mid fin left led behind =
        has_run w d p (call_items callee) t callable.cells callable.are callable.first now
        (record { many = entered.many; none = entered.none; failed = entered.failed }) given entered.grown
        entered.position (may_call d callee) (given_memory d callee) entered.on entered.keeps mid fin left led behind
        (call_writes d callee)
        (λ i below off.
        let params = list_any (is_variable i) callee.params in
        let body = items_write d i (call_items callee) 0 in
        let kept = entered.leaves i below (or_left params body off) in
        (or_right params body off, kept.0, kept.1, kept.2))
