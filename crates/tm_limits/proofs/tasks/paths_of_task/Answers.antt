use Rattle.std.proofs.Common.{Option, refl, sym, ap, ◌∙◌, subst}
use Rattle.std.specs.Option.{option_copied, option_map_or}
use Rattle.tm_syntax.specs.Tree.View.{spec_tree}
use Rattle.tm_syntax.specs.Scopes.Parts.{BodyAt}
use Rattle.tm_syntax.specs.Counts.Choices.{choosing}
use Rattle.tm_limits.specs.declared.paths.Paths.{Paths}
use Rattle.tm_limits.specs.Inner.PathSums.{AreBest, called_paths}
use Rattle.tm_limits.proofs.PathRows.{lay}
use Rattle.tm_limits.proofs.TaskTables.{no_body, paths_of}
use Rattle.tm_limits.proofs.tasks.paths_of_task.Goals as goal

pub returns-in-Some : goal.returns-in-Some
returns-in-Some c = λ within known.
    let made = c.new.ensures in
    paths_of c.args.scopes.now c.args.task c.in-Some.def.now c.new.result.place c.body_paths.result within made.spec
    made.template made.body (sym c.task.ensures.def ∙ ap option_copied c.in-Some.is)
    (c.body_paths.ensures within (λ path.
    subst (λ (p : Paths). AreBest p (within path))
    (λ j. called_paths (spec_tree (sym made.spec j)) (sym made.from j) (sym made.paths j) path) (known path)))

pub returns-in-None : goal.returns-in-None
returns-in-None c = λ within known.
    subst (λ (o : Option BodyAt). AreBest c.choosing.result (option_map_or (λ b. lay b within) o (choosing 0)))
    (sym (no_body c.args.scopes.now c.args.task (sym c.task.ensures.def ∙ ap option_copied c.in-None.is)))
    (c.choosing.ensures 0 refl)
