use Rattle.std.proofs.Common.{◌≡◌, List, None, Some}
use Rattle.std.proofs.lemmas.Result.{on_ok_weaker}
use Rattle.tm_syntax.specs.Tree.{NamedTree, TemplateTree}
use Rattle.tm_syntax.specs.Tree.View.{expr_tree}
use Rattle.tm_atoms.specs.Inner.Bodies.{claims_of, named_seen}
use Rattle.tm_atoms.specs.Inner.Walks.{tables_of}
use Rattle.tm_atoms.proofs.Listing.{named-absent, named-walked}
use Rattle.tm_atoms.proofs.find.note_claim.Goals as goal

pub returns-in-Some : goal.returns-in-Some
returns-in-Some c =
    on_ok_weaker c.note_condition.result (λ h d over idle.
    let sort : TemplateTree → List NamedTree = claims_of c.args.sort in
    let there : Some (expr_tree c.in-Some.e.now) ≡ named_seen d sort c.args.item.now =
    c.in-Some.ensures d over in
    named-walked d sort c.args.item.now c.args.bodies.now over (expr_tree c.in-Some.e.now) there
    (tables_of c.args.walk.now) (tables_of c.note_condition.new.self) h idle) c.note_condition.ensures

pub returns-in-None : goal.returns-in-None
returns-in-None c = λ d over idle.
    let sort : TemplateTree → List NamedTree = claims_of c.args.sort in
    let absent : None ≡ named_seen d sort c.args.item.now = c.in-None.ensures d over in
    named-absent d sort c.args.item.now absent (tables_of c.args.walk.now) idle
