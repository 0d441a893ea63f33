use Rattle.std.proofs.Common.{List, [], Option, Some, sym, ap, ◌∙◌, subst}
use Rattle.std.proofs.lemmas.Option.{slice_get-get_or}
use Rattle.std.specs.Option.{option_map_or}
use Rattle.tm_solve.specs.declared.iterates.RankSet.{RankSet}
use Rattle.tm_solve.specs.declared.iterates.Ranking.{Ranking}
use Rattle.tm_strat.specs.Targets.{HasSets}
use Rattle.tm_strat.proofs.good.ranks_at.Goals as goal

pub returns-clause-sets : goal.returns-clause-sets
returns-clause-sets c = λ g sets.
    subst (λ (l : List RankSet). HasSets g l) (sym c.as_slice.ensures.value)
    (sets.ranks c.args.goal c.index.result.now
    (slice_get-get_or c.args.iterates.now.ranks.items c.args.goal c.index.result.now c.requires
    ∙ ap Some (sym c.index.ensures)))

pub returns-clause-same : goal.returns-clause-same
returns-clause-same c =
    c.as_slice.ensures.value
    ∙ ap (λ (o : Option Ranking). option_map_or (λ (r : Ranking). r.sets.items) o [])
    (sym (slice_get-get_or c.args.iterates.now.ranks.items c.args.goal c.index.result.now c.requires
    ∙ ap Some (sym c.index.ensures)))
