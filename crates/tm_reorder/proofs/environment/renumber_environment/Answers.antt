use Rattle.std.proofs.Common.{ℕ, List, length, sym, ap, ◌∙◌, subst}
use Rattle.std.specs.Prelude.{All}
use Rattle.tm_cert.specs.Cert.{EnvData, LevelData}
use Rattle.tm_cert.specs.Nodes.{ids_of}
use Rattle.tm_numbering.proofs.Growth.{numbered_none}
use Rattle.tm_reorder.specs.Inner.Keys.{environment_keys}
use Rattle.tm_reorder.specs.Inner.Parts.{AreLevelSets, LevelsStand}
use Rattle.tm_reorder.specs.Inner.Told.{EnvironmentTold}
use Rattle.tm_reorder.proofs.Wanted.{chain_key, level_key}
use Rattle.tm_reorder.proofs.Reordered.{environment_told, level_sets_fit}
use Rattle.tm_reorder.proofs.environment.renumber_environment.Goals as goal
use Rattle.tm_reorder.proofs.environment.renumber_environment.Goals.{In_ok-levels}

pub place_levels-requires-clause-sets : goal.place_levels-requires-clause-sets
place_levels-requires-clause-sets c =
    subst (All (AreLevelSets (length c.args.ids.now)))
    (sym (c.as_slice.ensures.value ∙ ap (λ (x : EnvData). x.levels) c.cert.view_is))
    (level_sets_fit c.requires.fits.0 c.requires.fits.1 (ids_of c.args.cert.now.nodes) (length c.args.ids.now)
    c.args.cert.now.levels c.requires.count c.requires.fits.2.levels)

pub place_levels-requires-clause-entries : goal.place_levels-requires-clause-entries
place_levels-requires-clause-entries c =
    numbered_none c.args.store.now c.args.store.now.levels c.new-kept.result.keys c.new-nodes.result.items
    c.new-kept.ensures.empty c.new-nodes.ensures.items

-- where the levels stand
levels_stand : (c : In_ok-levels) → LevelsStand c.args.ids.now c.place_levels.new.kept.keys c.args.cert.now.levels
    c.in_ok-levels.levels.items
levels_stand c =
    subst
    (λ (olds : List LevelData). LevelsStand c.args.ids.now c.place_levels.new.kept.keys olds
    c.in_ok-levels.levels.items)
    (c.as_slice.ensures.value ∙ ap (λ (x : EnvData). x.levels) c.cert.view_is) c.in_ok-levels.ensures.part

pub returns : goal.returns
returns c = λ see moved.
    let at = (goal.at.returns c).In_ok-levels in
    let news = c.in_ok-levels.levels.items in
    let nodes = c.place_levels.new.nodes.items in
    subst
    (λ (o : List ℕ). EnvironmentTold c.args.order.now see c.args.cert.now
    (record { order = o; nodes = nodes; levels = news }))
    (sym c.in_ok-order.ensures.items)
    (environment_told c.args.order.now c.args.store.now c.requires.reduced c.requires.ranks c.requires.levels see
    c.args.cert.now.nodes
    c.args.ids.now c.place_levels.new.kept.keys nodes (environment_keys c.args.cert.now.levels) moved
    c.in_ok-levels.ensures.numbered c.args.cert.now.order
    c.args.cert.now.levels news (level_key c.args.cert.now.levels) (chain_key c.args.cert.now.levels)
    (levels_stand at))
