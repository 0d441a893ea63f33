use Rattle.std.proofs.Common.{◌≡◌, List, Some, length, slice_get, refl, sym, ap, ◌∙◌, subst, arith}
use Rattle.std.specs.Option.{option_map}
use Rattle.std.proofs.lemmas.Option.{same_Some, slice_get-map}
use Rattle.tm_syntax.specs.declared.tree.Ident.{Ident}
use Rattle.tm_syntax.specs.Tree.{row_of}
use Rattle.tm_syntax.specs.Tree.View.{body_tree, spec_tree, template_tree}
use Rattle.tm_syntax.specs.Scopes.Context.{Context}
use Rattle.tm_syntax.specs.Scopes.Parts.{BodyAt, body_stmts}
use Rattle.tm_syntax.specs.Counts.Choices as sums
use Rattle.tm_syntax.specs.Counts.Choices.{row_paths}
use Rattle.tm_scope.specs.Context.{body_name, context_of}
use Rattle.tm_limits.specs.declared.paths.Paths.{Paths}
use Rattle.tm_limits.specs.Inner.PathSums.{AreBest, AreKnown, PathTable, called_paths}
use Rattle.tm_limits.proofs.TaskTables.{calls_known, in_all, known_calls, laid}
use Rattle.tm_limits.proofs.shares.bodies.choices_of_body.Goals as goal

pub returns : goal.returns
returns c = λ t at.
    let s = c.args.scopes.now in
    let spec = spec_tree s in
    let counted = c.requires.counted in
    let order = counted.order in
    let paths = c.args.counts.now.paths.entries in
    let number = c.args.number in
    let x : PathTable = c.new.result in
    let made = c.new.ensures in
    let b : BodyAt = record {
      context = record { spec = spec; template = template_tree t; body = body_name c.args.name };
      body = body_tree c.args.body.now;
    } in
    let within : List Ident → sums.Paths =
    known_calls s order counted.ordered counted.short paths (length order) (omega arith) counted.paths number in
    let known : AreKnown x within = λ path.
    subst (λ (p : Paths). AreBest p (within path))
    (λ j. called_paths (spec_tree (sym made.spec j)) (sym made.from j) (sym made.paths j) path)
    (calls_known s order counted.ordered counted.short paths (length order) (omega arith) counted.paths number path) in
    let template : x.place.template ≡ t = same_Some x.place.template t (sym made.template ∙ at) in
    let place : context_of x.place ≡ b.context = λ j.
    record { spec = spec_tree (made.spec j); template = template_tree (template j); body = body_name (made.body j) } in
    let there : slice_get spec.templates number ≡ Some (template_tree t) =
    slice_get-map template_tree s.templates.items number ∙ ap (option_map template_tree) at in
    c.greatest.ensures _
    (subst (AreBest c.body_paths.result)
    (sym (laid s order counted.ordered counted.short paths (length order) (omega arith) counted.paths number
    (template_tree t) b refl refl there (in_all spec order counted.covers number b)))
    (subst (λ (d : Context). AreBest c.body_paths.result (row_paths within d (row_of (body_stmts b.body)))) place
    (c.body_paths.ensures within known)))
