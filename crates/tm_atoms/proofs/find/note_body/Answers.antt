use Rattle.std.proofs.Common.{◌≡◌, None, Some, sym, ap, ◌∙◌, subst}
use Rattle.std.specs.Prelude.{IfSome}
use Rattle.std.specs.Option.{option_map}
use Rattle.std.proofs.lemmas.Result.{on_ok_weaker}
use Rattle.tm_syntax.specs.Tree.{BodyTree}
use Rattle.tm_syntax.specs.Tree.View.{body_tree}
use Rattle.tm_syntax.specs.Design.Scope.{Scope}
use Rattle.tm_scope.specs.Cells.{scope_of}
use Rattle.tm_atoms.specs.Inner.Bodies.{seen}
use Rattle.tm_atoms.specs.Inner.Walks.{HasWalked, IsRoot, seen_atoms, tables_of}
use Rattle.tm_atoms.specs.declared.bodies.BodyAt.{BodyAt}
use Rattle.tm_atoms.proofs.Listing.{walked-none}
use Rattle.tm_atoms.proofs.find.note_body.Goals as goal

-- what is seen of a body
abbrev shown : BodyAt → Scope × BodyTree
shown b = seen (scope_of b.scope) (body_tree b.body.now)

pub returns-in-Some : goal.returns-in-Some
returns-in-Some c =
    on_ok_weaker c.walk_body.result (λ h d over rank ranked found is root idle.
    let there : Some (shown c.in-Some.at) ≡ found = ap (option_map shown) (sym c.in-Some.is) ∙ is in
    subst (λ o. HasWalked d (tables_of c.args.walk.now) (tables_of c.walk_body.new.self) (seen_atoms d o)) there
    (h d over rank ranked (subst (λ o. IfSome o (IsRoot d rank)) (sym there) root) idle)) c.walk_body.ensures

pub returns-in-None : goal.returns-in-None
returns-in-None c = λ d over rank ranked found is root idle.
    let absent : None ≡ found = ap (option_map shown) (sym c.in-None.is) ∙ is in
    subst (λ o. HasWalked d (tables_of c.args.walk.now) (tables_of c.args.walk.now) (seen_atoms d o)) absent
    (walked-none d (tables_of c.args.walk.now) idle)
