use Rattle.std.proofs.Common.{◌≡◌, Some, sym, ap, ◌∙◌, subst}
use Rattle.std.specs.Option.{option_and_then}
use Rattle.std.proofs.lemmas.Result.{IfOk-weaker}
use Rattle.tm_scope.specs.Cells.{IsCellNumber, ScopedCells, cell_at}
use Rattle.tm_sem.specs.Run.{put_in}
use Rattle.tm_plain_exprs.specs.Kept.{Keeps}
use Rattle.tm_plain_exprs.proofs.Reading.{put_there}
use Rattle.tm_plain_exprs.proofs.reader.Reader.put.Goals as goal

pub returns-in-Some : goal.returns-in-Some
returns-in-Some c =
    let v = c.args.self.now in
    let own : c.self.inside.at ≡ v.at = sym c.self.invariant.0 ∙ ap (λ (s : ScopedCells). s.at) c.self.view_is in
    let there : IsCellNumber v.tables c.self.inside.at (Some c.in-Some.cell)
    = subst (IsCellNumber v.tables c.self.inside.at) c.in-Some.is
    (subst (λ a. IsCellNumber v.tables a c.args.cell) (sym own) c.requires) in
    IfOk-weaker c.put.result _ _
    (λ _ puts m apart keeps.
    subst (λ n. Keeps v.tables c.put.new.self (put_in m (option_and_then (cell_at v.tables v.at) n) c.args.value))
    (sym c.in-Some.is)
    (subst (λ a. Keeps v.tables c.put.new.self
    (put_in m (option_and_then (cell_at v.tables a) (Some c.in-Some.cell)) c.args.value)) own
    (put_there v.tables c.self.inside.at c.args.store.now c.put.new.self c.in-Some.cell c.args.value there puts m apart
    keeps))) c.put.ensures
