use Rattle.std.proofs.Common.{List, length, sym, ap, ◌∙◌, subst}
use Rattle.std.specs.Prelude.{All}
use Rattle.std.proofs.lemmas.Result.{IfOk-weaker}
use Rattle.tm_cert.specs.Cert.{EnvData, LevelData}
use Rattle.tm_cert.specs.declared.cert.Entry.{Entry}
use Rattle.tm_dd.specs.declared.node.NodeId.{NodeId}
use Rattle.tm_envcheck.specs.Inner.Loaded.{AreLoadedLevels}
use Rattle.tm_envcheck.specs.Inner.Over.{AreSets}
use Rattle.tm_envcheck.proofs.LoadedChains.{levels_fit, nodes_fit}
use Rattle.tm_envcheck.proofs.Loaded.{levels_told, loaded_sets}
use Rattle.tm_game.proofs.Growing.{grows_then}
use Rattle.tm_verdict.specs.Loaded.{AreLoaded}
use Rattle.tm_verdict.specs.Fitting.{AreNodes, FitsLevel}
use Rattle.tm_envcheck.proofs.levels.load.Goals as goal

pub load_nodes-requires-clause-nodes : goal.load_nodes-requires-clause-nodes
load_nodes-requires-clause-nodes c =
    subst (AreNodes (length c.args.game.now.order))
    (sym (c.deref.ensures.value ∙ ap (λ (e : EnvData). e.nodes) c.cert.view_is)) c.requires.cert.nodes

pub load_levels-requires-clause-ids : goal.load_levels-requires-clause-ids
load_levels-requires-clause-ids c =
    let nodes = c.deref.ensures.value ∙ ap (λ (e : EnvData). e.nodes) c.cert.view_is in
    let loaded = subst (λ (ns : List Entry). AreLoaded c.load_nodes.new.game.diagrams.table ns c.in_ok-ids.ids.items)
    nodes c.in_ok-ids.ensures.loaded in
    subst (AreSets c.load_nodes.new.game) (sym c.deref-2.ensures.value)
    (loaded_sets c.load_nodes.new.game c.args.cert.now.nodes c.in_ok-ids.ids.items
    (nodes_fit c.args.game.now c.load_nodes.new.game c.load_nodes.ensures.grows c.args.cert.now c.requires.cert)
    loaded)

pub load_levels-requires-clause-levels : goal.load_levels-requires-clause-levels
load_levels-requires-clause-levels c =
    let nodes = c.deref.ensures.value ∙ ap (λ (e : EnvData). e.nodes) c.cert.view_is in
    let levels = c.deref-3.ensures.value ∙ ap (λ (e : EnvData). e.levels) c.cert.view_is in
    let loaded = subst (λ (ns : List Entry). AreLoaded c.load_nodes.new.game.diagrams.table ns c.in_ok-ids.ids.items)
    nodes c.in_ok-ids.ensures.loaded in
    subst
    (λ (ids : List NodeId). All (FitsLevel (length c.load_nodes.new.game.goals) (length c.load_nodes.new.game.fairs)
    (length ids)) c.deref-3.result.now) (sym c.deref-2.ensures.value)
    (subst
    (All (FitsLevel (length c.load_nodes.new.game.goals) (length c.load_nodes.new.game.fairs)
    (length c.in_ok-ids.ids.items))) (sym levels)
    (levels_fit c.args.game.now c.load_nodes.new.game c.load_nodes.ensures.grows c.args.cert.now c.requires.cert
    c.in_ok-ids.ids.items loaded.count))

pub returns-clause-grows : goal.returns-clause-grows
returns-clause-grows c = grows_then _ _ _ c.load_nodes.ensures.grows c.load_levels.ensures.grows

pub returns-clause-told : goal.returns-clause-told
returns-clause-told c =
    let nodes = c.deref.ensures.value ∙ ap (λ (e : EnvData). e.nodes) c.cert.view_is in
    let levels = c.deref-3.ensures.value ∙ ap (λ (e : EnvData). e.levels) c.cert.view_is in
    let loaded = subst (λ (ns : List Entry). AreLoaded c.load_nodes.new.game.diagrams.table ns c.in_ok-ids.ids.items)
    nodes c.in_ok-ids.ensures.loaded in
    IfOk-weaker c.load_levels.result _ _
    (λ told are d.
    levels_told d c.load_nodes.new.game c.load_levels.new.game c.load_levels.ensures.grows c.args.cert.now
    c.in_ok-ids.ids.items (c.requires.order ∙ sym c.load_nodes.ensures.grows.order)
    (nodes_fit c.args.game.now c.load_nodes.new.game c.load_nodes.ensures.grows c.args.cert.now c.requires.cert)
    loaded (length c.load_nodes.new.game.goals) (length c.load_nodes.new.game.fairs)
    (levels_fit c.args.game.now c.load_nodes.new.game c.load_nodes.ensures.grows c.args.cert.now c.requires.cert
    c.in_ok-ids.ids.items loaded.count) told.items
    (subst (λ (ls : List LevelData). AreLoadedLevels c.in_ok-ids.ids.items ls told.items) levels
    (subst (λ (ids : List NodeId). AreLoadedLevels ids c.deref-3.result.now told.items) c.deref-2.ensures.value are)))
    c.load_levels.ensures.loaded
