use Rattle.std.proofs.Common.{sym, ap, ◌∙◌, subst}
use Rattle.std.specs.Prelude.{nat_lt}
use Rattle.std.specs.Option.{option_and_then}
use Rattle.tm_syntax.specs.Tree.View.{spec_tree}
use Rattle.tm_syntax.specs.Design.Sizes.{type_size}
use Rattle.tm_scope.specs.Cells.{ScopedCells, cell_at}
use Rattle.tm_sem.specs.Run.{asked_by}
use Rattle.tm_typing.specs.HasType.{IsSized}
use Rattle.tm_plain_exprs.proofs.reader.Reader.takes.Goals as goal

pub returns : goal.returns
returns c = λ d has sized.
    let v = c.args.self.now in
    let is = c.asked_by.ensures d has in
    c.is_value.ensures (subst IsSized (sym is) sized)
    ∙ ap (λ ty. nat_lt c.args.value (type_size (spec_tree c.self.inside.scopes.now) ty)) is
    ∙ ap (λ spec. nat_lt c.args.value (type_size spec
    (asked_by d (option_and_then (cell_at v.tables v.at) c.args.cell))))
    (ap spec_tree (c.self.invariant.1 ∙ ap (λ (s : ScopedCells). s.tables.spec) c.self.view_is) ∙ sym has.text)
