use Rattle.std.proofs.Common.{◌≡◌, ◌∙◌, Result, Ok, Err, IfOk, length, refl, sym, ap, subst}
use Rattle.std.proofs.lemmas.Result.{IfOk-weaker}
use Rattle.tm_syntax.specs.Tree.View.{process_tree, spec_tree}
use Rattle.tm_scope.specs.Cells.{scope_of}
use Rattle.tm_scope.specs.Instances.{InstanceTables, IsOver}
use Rattle.tm_locations.specs.Inner.Walks.{WalkTables, tables_of}
use Rattle.tm_locations.specs.Locations.{LocationTable, table_of}
use Rattle.tm_locations.specs.declared.table.Locations.{Locations}
use Rattle.tm_locations.proofs.Processes.{no-process, of-process}
use Rattle.tm_locations.proofs.find.find_locations.Goals as goal

-- two facts of a value, if there is one
both : {T E : Type 0} (r : Result T E) (P Q R : T → Type 0) → IfOk r P → IfOk r Q → ((x : T) → P x → Q x → R x) →
    IfOk r R
both (Ok x) P Q R p q so = so x p q
both (Err e) P Q R p q so = tt

pub returns-in-None : goal.returns-in-None
returns-in-None c =
    let w : WalkTables = tables_of c.new.result in
    IfOk-weaker c.into_table.result (λ (t : Locations). table_of t ≡ record {
      rows = w.rows;
      rests = w.rests;
      trails = w.trails;
      start = 0;
    }) _
    (λ t is d p over by_text listed.
    let inside : IsOver c.new-callees.result d =
    subst (λ (x : InstanceTables). IsOver x d) (sym c.new-callees.ensures) over in
    no-process d p (table_of t)
    (ap (λ (t : LocationTable). t.rows) is ∙ ap (λ (w : WalkTables). w.rows) c.new.ensures)
    (ap (λ (t : LocationTable). t.start) is) (c.in-None.ensures d p inside listed)) c.into_table.ensures

pub returns-in-Some : goal.returns-in-Some
returns-in-Some c =
    let found = c.in-Some.found in
    both c.walk_process.result _ _ _ c.walk_process.ensures.rows c.walk_process.ensures.start
    (λ t rows start d p over by_text listed.
    let inside : IsOver c.new-callees.result d =
    subst (λ (x : InstanceTables). IsOver x d) (sym c.new-callees.ensures) over in
    of-process d p (table_of t) (spec_tree c.args.scopes.now) c.args.order.now over.text by_text c.requires.ordered
    c.requires.covers c.requires.short
    (record { scope = scope_of found.scope; process = process_tree found.process.now })
    (c.in-Some.ensures d p inside listed) (length c.args.order.now) refl (rows d inside by_text) start)
