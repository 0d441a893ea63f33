use Rattle.std.proofs.Common.{◌≡◌, ℕ, ◌+◌, ◌<◌, true, List, [], Vec, length, map, sym, ap, ◌∙◌, subst, arith}
use Rattle.std.specs.Prelude.{All}
use Rattle.std.specs.declared.alloc.Global.{Global}
use Rattle.std.specs.Option.{option_map}
use Rattle.std.proofs.lemmas.List.{length-map}
use Rattle.std.proofs.lemmas.Option.{get_or_from_slice_get, slice_get-map, slice_get_within}
use Rattle.tm_cert.specs.declared.cert.Entry.{Entry}
use Rattle.tm_cert.specs.declared.cert.Rank.{Rank}
use Rattle.tm_cert.specs.Cert.{DriverData}
use Rattle.tm_cert.specs.Nodes.{ids_of}
use Rattle.tm_check.specs.declared.loaded.RankedDiagrams.{RankedDiagrams}
use Rattle.tm_check.specs.Loaded.{AreRankedDiagrams, IsLoadedIn}
use Rattle.tm_check.proofs.Keeping.{can_nodes, ids_known, loaded_in, loaded_kept}
use Rattle.tm_check.proofs.Rows.{AreFirstRows, row_here, rows_all, rows_more}
use Rattle.tm_check.proofs.loaded.load.Goals as goal
use Rattle.tm_dd.specs.declared.node.NodeId.{NodeId}
use Rattle.tm_game.specs.Game.{IsStates}
use Rattle.tm_game.proofs.Growing.{grows_then, states_kept}
use Rattle.tm_verdict.specs.Loaded.{AreLoaded}
use Rattle.tm_sem.specs.Fairness.{conditions}
use Rattle.tm_verdict.specs.Fitting.{AreNodes, FitsRank}
use Rattle.tm_verdict.specs.Sets.{driver_sets, ranked_set, set_of}

pub load_nodes-requires-clause-nodes : goal.load_nodes-requires-clause-nodes
load_nodes-requires-clause-nodes c =
    let nodes = ap (λ (x : DriverData). x.nodes) c.cert.view_is in
    subst (AreNodes (length c.args.game.now.order)) (sym (c.deref.ensures.value ∙ nodes))
    (can_nodes c.requires.0 c.args.game.now c.args.cert.now c.requires.1)

pub load_set-requires-clause-of : goal.load_set-requires-clause-of
load_set-requires-clause-of c =
    let d = c.requires.0 in
    let can = c.requires.1 in
    let nodes = ap (λ (x : DriverData). x.nodes) c.cert.view_is in
    let loaded = loaded_in d c.args.game.now c.load_nodes.new.game c.args.cert.now c.in_ok-ids.ids.items can
    c.load_nodes.ensures.grows
    (subst (λ (ns : List Entry). AreLoaded c.load_nodes.new.game.diagrams.table ns c.in_ok-ids.ids.items)
    (c.deref.ensures.value ∙ nodes) c.in_ok-ids.ensures.loaded) in
    (d, loaded.of)

pub load_set-requires-clause-known : goal.load_set-requires-clause-known
load_set-requires-clause-known c =
    let d = c.requires.0 in
    let can = c.requires.1 in
    let nodes = ap (λ (x : DriverData). x.nodes) c.cert.view_is in
    let loaded = loaded_in d c.args.game.now c.load_nodes.new.game c.args.cert.now c.in_ok-ids.ids.items can
    c.load_nodes.ensures.grows
    (subst (λ (ns : List Entry). AreLoaded c.load_nodes.new.game.diagrams.table ns c.in_ok-ids.ids.items)
    (c.deref.ensures.value ∙ nodes) c.in_ok-ids.ensures.loaded) in
    ids_known d c.load_nodes.new.game c.args.cert.now.nodes c.deref-2.result.now
    (subst (IsLoadedIn d c.load_nodes.new.game c.args.cert.now.nodes) (sym c.deref-2.ensures.value) loaded)

pub returns-in_err-region-clause-grows : goal.returns-in_err-region-clause-grows
returns-in_err-region-clause-grows c =
    grows_then c.args.game.now c.load_nodes.new.game c.load_set.new.game c.load_nodes.ensures.grows
    c.load_set.ensures.grows

pub load_ranks-requires-clause-loaded : goal.load_ranks-requires-clause-loaded
load_ranks-requires-clause-loaded c =
    let d = c.requires.0 in
    let can = c.requires.1 in
    let nodes = ap (λ (x : DriverData). x.nodes) c.cert.view_is in
    let loaded = loaded_in d c.args.game.now c.load_nodes.new.game c.args.cert.now c.in_ok-ids.ids.items can
    c.load_nodes.ensures.grows
    (subst (λ (ns : List Entry). AreLoaded c.load_nodes.new.game.diagrams.table ns c.in_ok-ids.ids.items)
    (c.deref.ensures.value ∙ nodes) c.in_ok-ids.ensures.loaded) in
    let grown = grows_then c.load_nodes.new.game c.load_set.new.game c.loop-index.game c.load_set.ensures.grows
    c.loop-index.invariant.grows in
    let now = loaded_kept d c.load_nodes.new.game c.loop-index.game grown c.args.cert.now.nodes c.in_ok-ids.ids.items
    loaded in (
      d,
      c.args.cert.now.nodes,
      subst (IsLoadedIn d c.loop-index.game c.args.cert.now.nodes) (sym c.deref-in-loop-index.ensures.value) now,
    )

pub load_ranks-requires-clause-sets : goal.load_ranks-requires-clause-sets
load_ranks-requires-clause-sets c =
    let d = c.requires.0 in
    let can = c.requires.1 in
    let nodes = ap (λ (x : DriverData). x.nodes) c.cert.view_is in
    let loaded = loaded_in d c.args.game.now c.load_nodes.new.game c.args.cert.now c.in_ok-ids.ids.items can
    c.load_nodes.ensures.grows
    (subst (λ (ns : List Entry). AreLoaded c.load_nodes.new.game.diagrams.table ns c.in_ok-ids.ids.items)
    (c.deref.ensures.value ∙ nodes) c.in_ok-ids.ensures.loaded) in
    let goals = ap (λ (x : DriverData). x.goals) c.cert.view_is in
    let inside : c.loop-index.index < length c.cert.inside.goals.items =
    omega (arith, c.loop-index-test.true, c.len-index-end.ensures, c.cert.inside.goals.ok.0) in
    let here = row_here c.cert.inside.goals.items c.args.cert.now.goals c.loop-index.index c.index.result.now goals
    inside c.index.ensures in
    let fit = subst (All (FitsRank (length (conditions d)) (ids_of c.args.cert.now.nodes)))
    (get_or_from_slice_get c.args.cert.now.goals c.loop-index.index c.index.result.now.items [] here)
    (can.fits.ranks c.loop-index.index []
    (slice_get_within c.args.cert.now.goals c.loop-index.index c.index.result.now.items here)) in
    subst (λ (rs : List Rank). All (λ r. r.set < length c.deref-in-loop-index.result.now) rs)
    (sym c.deref-in-loop-index-2.ensures.value)
    (λ k r below.
    let one = fit k r below in
    omega (arith, one.set, loaded.loaded.count, ap length c.deref-in-loop-index.ensures.value))

pub returns-in_err-ranks-clause-grows : goal.returns-in_err-ranks-clause-grows
returns-in_err-ranks-clause-grows c =
    grows_then c.args.game.now c.loop-index.game c.load_ranks.new.game
    (grows_then c.args.game.now c.load_set.new.game c.loop-index.game
    (grows_then c.args.game.now c.load_nodes.new.game c.load_set.new.game c.load_nodes.ensures.grows
    c.load_set.ensures.grows) c.loop-index.invariant.grows)
    c.load_ranks.ensures.grows

pub returns-in_err-push-clause-grows : goal.returns-in_err-push-clause-grows
returns-in_err-push-clause-grows c =
    grows_then c.args.game.now c.loop-index.game c.load_ranks.new.game
    (grows_then c.args.game.now c.load_set.new.game c.loop-index.game
    (grows_then c.args.game.now c.load_nodes.new.game c.load_set.new.game c.load_nodes.ensures.grows
    c.load_set.ensures.grows) c.loop-index.invariant.grows)
    c.load_ranks.ensures.grows

pub loop-index-preserved : goal.loop-index-preserved
loop-index-preserved c = record {
  grows = grows_then c.load_set.new.game c.loop-index.game c.load_ranks.new.game c.loop-index.invariant.grows
      c.load_ranks.ensures.grows;
  rows = λ d can.
      let nodes = ap (λ (x : DriverData). x.nodes) c.cert.view_is in
      let loaded = loaded_in d c.args.game.now c.load_nodes.new.game c.args.cert.now c.in_ok-ids.ids.items can
      c.load_nodes.ensures.grows
      (subst (λ (ns : List Entry). AreLoaded c.load_nodes.new.game.diagrams.table ns c.in_ok-ids.ids.items)
      (c.deref.ensures.value ∙ nodes) c.in_ok-ids.ensures.loaded) in
      let grown = grows_then c.load_nodes.new.game c.load_set.new.game c.loop-index.game c.load_set.ensures.grows
      c.loop-index.invariant.grows in
      let now = loaded_kept d c.load_nodes.new.game c.loop-index.game grown c.args.cert.now.nodes c.in_ok-ids.ids.items
      loaded in
      let goals = ap (λ (x : DriverData). x.goals) c.cert.view_is in
      let inside : c.loop-index.index < length c.cert.inside.goals.items =
      omega (arith, c.loop-index-test.true, c.len-index-end.ensures, c.cert.inside.goals.ok.0) in
      let here = row_here c.cert.inside.goals.items c.args.cert.now.goals c.loop-index.index c.index.result.now goals
      inside c.index.ensures in
      let set = ranked_set d c.args.cert.now.order c.args.cert.now.nodes in
      let rows = (driver_sets d c.args.cert.now).goals in
      let given = subst (λ (ids : List NodeId). IsLoadedIn d c.loop-index.game c.args.cert.now.nodes ids)
      (sym c.deref-in-loop-index.ensures.value) now in
      let are = c.in_ok-ranks.ensures.ranks d c.args.cert.now.nodes given in
      subst (λ (xs : List (Vec RankedDiagrams Global)).
      AreFirstRows d c.load_ranks.new.game rows (c.loop-index.index + 1) xs) (sym c.in_ok-push.ensures.items)
      (rows_more d c.loop-index.game c.load_ranks.new.game rows c.loop-index.index c.loop-index.goals.items
      (map set c.index.result.now.items) c.in_ok-ranks.ranks c.load_ranks.ensures.grows
      (c.loop-index.invariant.rows d can)
      (slice_get-map (map set) c.args.cert.now.goals c.loop-index.index ∙ ap (option_map (map set)) here)
      (subst (λ (o : List ℕ). AreRankedDiagrams d o c.load_ranks.new.game.diagrams.table
      (map set c.index.result.now.items) c.in_ok-ranks.ranks.items) (sym c.load_ranks.ensures.grows.order)
      (subst (λ (rs : List Rank). AreRankedDiagrams d c.loop-index.game.order c.load_ranks.new.game.diagrams.table
      (map set rs) c.in_ok-ranks.ranks.items) c.deref-in-loop-index-2.ensures.value
      (subst (λ (o : List ℕ). AreRankedDiagrams d c.loop-index.game.order c.load_ranks.new.game.diagrams.table
      (map (ranked_set d o c.args.cert.now.nodes) c.deref-in-loop-index-2.result.now) c.in_ok-ranks.ranks.items)
      (grown.order ∙ c.load_nodes.ensures.grows.order ∙ sym can.order) are))));
}

pub returns-clause-grows : goal.returns-clause-grows
returns-clause-grows c =
    grows_then c.args.game.now c.load_set.new.game c.loop-index.game
    (grows_then c.args.game.now c.load_nodes.new.game c.load_set.new.game c.load_nodes.ensures.grows
    c.load_set.ensures.grows) c.loop-index.invariant.grows

pub returns-clause-told : goal.returns-clause-told
returns-clause-told c = λ d can.
    let nodes = ap (λ (x : DriverData). x.nodes) c.cert.view_is in
    let loaded = loaded_in d c.args.game.now c.load_nodes.new.game c.args.cert.now c.in_ok-ids.ids.items can
    c.load_nodes.ensures.grows
    (subst (λ (ns : List Entry). AreLoaded c.load_nodes.new.game.diagrams.table ns c.in_ok-ids.ids.items)
    (c.deref.ensures.value ∙ nodes) c.in_ok-ids.ensures.loaded) in
    let given = subst (IsLoadedIn d c.load_nodes.new.game c.args.cert.now.nodes) (sym c.deref-2.ensures.value) loaded in
    let goals = ap (λ (x : DriverData). x.goals) c.cert.view_is in
    let region = ap (λ (x : DriverData). x.region) c.cert.view_is in
    let states = c.in_ok-region.ensures.states d c.args.cert.now.nodes given.of given.order given.nodes_are
    given.loaded in
    let by_order = subst (λ (o : List ℕ). IsStates d c.load_nodes.new.game.order c.load_set.new.game.diagrams.table
    (λ s. set_of d o c.args.cert.now.nodes c.cert.inside.region s ≡ true) c.in_ok-region.region)
    (c.load_nodes.ensures.grows.order ∙ sym can.order) states in
    let by_region = subst (λ (r : ℕ). IsStates d c.load_nodes.new.game.order c.load_set.new.game.diagrams.table
    (λ s. set_of d c.args.cert.now.order c.args.cert.now.nodes r s ≡ true) c.in_ok-region.region) region by_order in
    let after = subst (λ (o : List ℕ). IsStates d o c.load_set.new.game.diagrams.table
    (λ s. set_of d c.args.cert.now.order c.args.cert.now.nodes c.args.cert.now.region s ≡ true) c.in_ok-region.region)
    (sym c.load_set.ensures.grows.order) by_region in
    rows_all d c.args.game.now c.loop-index.game
    (grows_then c.args.game.now c.load_set.new.game c.loop-index.game
    (grows_then c.args.game.now c.load_nodes.new.game c.load_set.new.game c.load_nodes.ensures.grows
    c.load_set.ensures.grows) c.loop-index.invariant.grows)
    (driver_sets d c.args.cert.now) (record { region = c.in_ok-region.region; goals = c.loop-index.goals })
    c.loop-index.index
    (omega (
      arith,
      length-map c.args.cert.now.goals (map (ranked_set d c.args.cert.now.order c.args.cert.now.nodes)),
      length-map c.cert.inside.goals.items (λ (r : Vec Rank Global). r.items),
      ap length goals,
      c.loop-index-test.false,
      c.loop-index.auto.index-end,
      c.len-index-end.ensures,
      c.cert.inside.goals.ok.0,
    ))
    (states_kept c.load_set.new.game c.loop-index.game c.loop-index.invariant.grows d
    (λ s. set_of d c.args.cert.now.order c.args.cert.now.nodes c.args.cert.now.region s ≡ true) c.in_ok-region.region
    after) (c.loop-index.invariant.rows d can)
