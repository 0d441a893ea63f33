use Rattle.std.proofs.Common.{rules, List, None, Some, ◌∷◌, sym, subst}
use Rattle.tm_cir.specs.View.{num_tree, truth_tree}
use Rattle.tm_cparse.specs.declared.part.Part.{Part}
use Rattle.tm_cparse.specs.View.{tokens_of}
use Rattle.tm_cparse.specs.Inner.Reading.{Moves}
use Rattle.tm_cparse.specs.Inner.Parts.{part_trees, FitParts, IsLeft, then_part}
use Rattle.tm_cparse.proofs.Readings.{moved_colon, colon_fits, refused_colon}
use Rattle.tm_cparse.proofs.expression.second.Goals as goal

pub returns-in-Err-clause-refused : goal.returns-in-Err-clause-refused
returns-in-Err-clause-refused c =
    let h = refused_colon c.args.sort (part_trees c.args.parts.now) (truth_tree c.args.test)
    (truth_tree c.args.operand) c.args.spots.now _ c.requires.fit c.requires.operand c.in-Err.ensures.refused in
    search rules

pub returns-in_ok-push-in-Ok-clause-moved : goal.returns-in_ok-push-in-Ok-clause-moved
returns-in_ok-push-in-Ok-clause-moved c =
    subst
    (λ (l : List Part).
    Moves
    (IsLeft c.args.sort (then_part (truth_tree c.args.test) ∷ part_trees c.args.parts.now)
    (Some (truth_tree c.args.operand))) (IsLeft c.args.sort (part_trees l) None) (tokens_of c.args.spots.now)
    (tokens_of c.in-Ok.rest.now))
    (sym c.in_ok-push-in-Ok.ensures)
    (moved_colon c.args.sort (part_trees c.args.parts.now) (truth_tree c.args.test) (truth_tree c.args.operand)
    (num_tree c.number_of.result) (tokens_of c.args.spots.now) (tokens_of c.in-Ok.rest.now)
    c.number_of.ensures c.in-Ok.ensures.taken)

pub returns-in_ok-push-in-Ok-clause-fit : goal.returns-in_ok-push-in-Ok-clause-fit
returns-in_ok-push-in-Ok-clause-fit c =
    subst (λ (l : List Part). FitParts c.args.sort (part_trees l)) (sym c.in_ok-push-in-Ok.ensures)
    (colon_fits c.args.sort (part_trees c.args.parts.now) (truth_tree c.args.test) (truth_tree c.args.operand)
    (num_tree c.number_of.result) c.number_of.ensures c.requires.fit c.requires.operand)
