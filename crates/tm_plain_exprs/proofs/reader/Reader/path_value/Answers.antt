use Rattle.std.proofs.Common.{sym, ◌∙◌}
use Rattle.tm_plain_exprs.proofs.Leaves.{path_found, path_constant}
use Rattle.tm_plain_exprs.proofs.reader.Reader.path_value.Goals as goal

pub returns-in-Some : goal.returns-in-Some
returns-in-Some c =
    path_found c.args.self.now c.args.store.now c.args.path.now c.in-Some.value
    (λ of. sym c.in-Some.is ∙ c.cell_value.ensures of)

pub returns-in-None : goal.returns-in-None
returns-in-None c =
    path_constant c.args.self.now c.args.store.now c.args.path.now c.constant.result
    (λ of. sym c.in-None.is ∙ c.cell_value.ensures of) c.constant.ensures
