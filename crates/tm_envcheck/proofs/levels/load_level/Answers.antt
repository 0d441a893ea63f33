use Rattle.std.proofs.Common.{◌<◌, ◌&&◌, ℕ, Vec, Global, get_or, length, map, not, refl, sym, ap, ◌∙◌, subst, arith}
use Rattle.std.specs.Prelude.{All}
use Rattle.std.proofs.lemmas.Option.{get_or_from_slice_get, slice_get-get_or}
use Rattle.tm_cert.specs.Cert.{LevelData}
use Rattle.tm_dd.specs.declared.node.TheConstants.{FALSE}
use Rattle.tm_envcheck.specs.Inner.Loaded.{chain_at}
use Rattle.tm_envcheck.proofs.LoadedChains.{chains_seen, ids_seen, level_fits, level_over, loaded_seen}
use Rattle.tm_envcheck.proofs.Growing.{means_at, sets_kept}
use Rattle.tm_game.proofs.Growing.{set_kept}
use Rattle.tm_envcheck.proofs.levels.load_level.Goals as goal

pub load_chains-requires : goal.load_chains-requires
load_chains-requires c =
    subst (All (λ (chain : Vec ℕ Global). All (λ (set : ℕ). set < length c.args.ids.now) chain.items))
    (sym c.deref.ensures.value)
    (ids_seen (length c.args.ids.now) c.level.inside.chains.items
    (subst (λ (l : LevelData). All (All (λ (set : ℕ). set < length c.args.ids.now)) l.chains) (sym c.level.view_is)
    c.requires.level.chains))

pub returns-clause-loaded : goal.returns-clause-loaded
returns-clause-loaded c =
    let below : c.level.inside.set < length c.args.ids.now =
    omega (arith, ap (λ (l : LevelData). l.set) c.level.view_is, c.requires.level.set) in
    loaded_seen c.args.ids.now _ c.args.level.now _ c.level.view_is refl
    (get_or_from_slice_get c.args.ids.now c.level.inside.set (get_or c.args.ids.now c.level.inside.set FALSE)
    (record { 0 = 0 }) (slice_get-get_or c.args.ids.now c.level.inside.set FALSE below))
    (c.in_ok-chains.ensures
    ∙ ap (map (λ (chain : Vec ℕ Global). chain_at c.args.ids.now chain.items)) c.deref.ensures.value
    ∙ chains_seen c.args.ids.now c.level.inside.chains.items)

pub returns-clause-over : goal.returns-clause-over
returns-clause-over c =
    let grows = c.without.ensures.grows in
    let below : c.level.inside.set < length c.args.ids.now =
    omega (arith, ap (λ (l : LevelData). l.set) c.level.view_is, c.requires.level.set) in
    let in_set = c.requires.ids c.level.inside.set _
    (slice_get-get_or c.args.ids.now c.level.inside.set (record { 0 = 0 }) below) in
    level_over c.without.new.game c.args.ids.now
    (sets_kept c.args.game.now c.without.new.game grows c.args.ids.now c.requires.ids) c.args.level.now
    (level_fits c.args.game.now c.without.new.game grows (length c.args.ids.now) c.args.level.now c.requires.level) _
    (returns-clause-loaded c)
    (set_kept c.args.game.now c.without.new.game grows c.args.before c.requires.before)
    c.in_ok-added.ensures.set
    (λ v.
    c.in_ok-added.ensures.value v
    ∙ (λ i.
    sym (means_at c.args.game.now c.without.new.game grows _ in_set v) i
    && not (sym (means_at c.args.game.now c.without.new.game grows c.args.before c.requires.before v) i)))
