use Rattle.std.proofs.Common.{◌≡◌, ℕ, Bor, List, Option, None, Some, slice_get, refl, sym, ap, ◌∙◌}
use Rattle.std.specs.Option.{option_copied, option_map}
use Rattle.std.proofs.lemmas.Option.{slice_get-map}
use Rattle.tm_syntax.specs.declared.tree.Expr.{Expr}
use Rattle.tm_syntax.specs.declared.tree.Named.{Named}
use Rattle.tm_syntax.specs.Tree.{ExprTree, NamedTree}
use Rattle.tm_syntax.specs.Tree.View.{expr_tree, named_tree, template_tree}
use Rattle.tm_atoms.specs.Inner.Bodies.{claims_of}
use Rattle.tm_atoms.proofs.BodyTables.{item-read, nothing-seen, seen-at, seen-without_index, seen-without_template}
use Rattle.tm_atoms.proofs.bodies.Bodies.claim.Goals as goal

-- the expression that is found
abbrev shown : Bor Expr → ExprTree
shown e = expr_tree e.now

same-shown : (r : Option (Bor Expr)) → option_map expr_tree (option_copied r) ≡ option_map shown r
same-shown None = refl
same-shown (Some e) = refl

pub returns-in_err-template : goal.returns-in_err-template
returns-in_err-template c = λ d over.
    same-shown c.from_residual.result ∙ nothing-seen shown c.from_residual.result _ c.from_residual.ensures
    (seen-without_template d (claims_of c.args.sort) (λ (k : ℕ) (x : NamedTree). x.expr) c.args.item.now
    (sym (c.in_err-template.ensures d over)))

pub returns-in_err-index : goal.returns-in_err-index
returns-in_err-index c = λ d over.
    same-shown c.from_residual-in_err-index.result ∙ nothing-seen shown c.from_residual-in_err-index.result _
    c.from_residual-in_err-index.ensures
    (seen-without_index d (claims_of c.args.sort) (λ (k : ℕ) (x : NamedTree). x.expr) c.args.item.now
    (template_tree c.in_ok-template.template.now) (sym (c.in_ok-template.ensures d over)) c.in_err-index.was)

pub returns-in_err-claim : goal.returns-in_err-claim
returns-in_err-claim c = λ d over.
    let t = template_tree c.in_ok-template.template.now in
    let k = c.in_ok-index.field-0 in
    let ns : List Named = c.claims.result.now in
    let absent : slice_get ns k ≡ None = item-read ns ns k None refl c.in_err-claim.ensures.lookup in
    same-shown c.from_residual-in_err-claim.result ∙ nothing-seen shown c.from_residual-in_err-claim.result _
    c.from_residual-in_err-claim.ensures
    (seen-at d (claims_of c.args.sort) (λ (k : ℕ) (x : NamedTree). x.expr) c.args.item.now
    t (sym (c.in_ok-template.ensures d over)) k c.in_ok-index.was None
    (ap (λ (xs : List NamedTree). slice_get xs k) (sym c.claims.ensures)
    ∙ slice_get-map named_tree ns k ∙ ap (option_map named_tree) absent))

pub returns : goal.returns
returns c = λ d over.
    let t = template_tree c.in_ok-template.template.now in
    let k = c.in_ok-index.field-0 in
    let ns : List Named = c.claims.result.now in
    let is : slice_get ns k ≡ Some c.in_ok-claim.claim.now =
    item-read ns ns k (Some c.in_ok-claim.claim) refl c.in_ok-claim.ensures.lookup in
    sym (seen-at d (claims_of c.args.sort) (λ (k : ℕ) (x : NamedTree). x.expr) c.args.item.now
    t (sym (c.in_ok-template.ensures d over)) k c.in_ok-index.was
    (Some (named_tree c.in_ok-claim.claim.now))
    (ap (λ (xs : List NamedTree). slice_get xs k) (sym c.claims.ensures)
    ∙ slice_get-map named_tree ns k ∙ ap (option_map named_tree) is))
