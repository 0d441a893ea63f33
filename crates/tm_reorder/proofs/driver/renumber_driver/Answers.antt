use Rattle.std.proofs.Common.{◌<◌, ℕ, List, Vec, Global, length, map, sym, ap, ◌∙◌, subst, arith}
use Rattle.std.specs.Prelude.{All}
use Rattle.tm_cert.specs.declared.cert.Rank.{Rank}
use Rattle.tm_cert.specs.Cert.{DriverData}
use Rattle.tm_cert.specs.Nodes.{ids_of}
use Rattle.tm_numbering.proofs.Growth.{numbered_none}
use Rattle.tm_reorder.specs.Inner.Keys.{driver_keys}
use Rattle.tm_reorder.specs.Inner.Parts.{GoalsStand, Stands}
use Rattle.tm_reorder.specs.Inner.Told.{DriverTold}
use Rattle.tm_reorder.proofs.Wanted.{rank_key, region_key}
use Rattle.tm_reorder.proofs.Parting.{stands_later}
use Rattle.tm_reorder.proofs.Reordered.{driver_told, rank_sets}
use Rattle.tm_reorder.proofs.driver.renumber_driver.Goals as goal
use Rattle.tm_reorder.proofs.driver.renumber_driver.Goals.{In_ok-goals}

-- the items of a row
abbrev row : Vec Rank Global → List Rank
row v = v.items

pub place-requires-clause-set : goal.place-requires-clause-set
place-requires-clause-set c =
    let low : c.cert.inside.region < ids_of c.args.cert.now.nodes =
    subst (λ (set : ℕ). set < ids_of c.args.cert.now.nodes) (sym (ap (λ (x : DriverData). x.region) c.cert.view_is))
    c.requires.fits.2.region in
    omega (arith, low, c.requires.count)

pub place-requires-clause-entries : goal.place-requires-clause-entries
place-requires-clause-entries c =
    numbered_none c.args.store.now c.args.store.now.levels c.new-kept.result.keys c.new-nodes.result.items
    c.new-kept.ensures.empty c.new-nodes.ensures.items

pub place_goals-requires-clause-sets : goal.place_goals-requires-clause-sets
place_goals-requires-clause-sets c =
    subst (All (All (λ (r : Rank). r.set < length c.args.ids.now)))
    (sym (ap (map row) c.as_slice.ensures.value ∙ ap (λ (x : DriverData). x.goals) c.cert.view_is))
    (rank_sets c.requires.fits.1 (ids_of c.args.cert.now.nodes) (length c.args.ids.now) c.args.cert.now.goals
    c.requires.count c.requires.fits.2.ranks)

-- where the region stands
region_stands : (c : In_ok-goals) → Stands c.args.ids.now c.place_goals.new.kept.keys c.args.cert.now.region
    c.in_ok-region.region
region_stands c =
    subst (λ (old : ℕ). Stands c.args.ids.now c.place_goals.new.kept.keys old c.in_ok-region.region)
    (ap (λ (x : DriverData). x.region) c.cert.view_is)
    (stands_later c.args.ids.now c.place.new.kept.keys c.place_goals.new.kept.keys c.in_ok-goals.ensures.stay
    c.cert.inside.region c.in_ok-region.region c.in_ok-region.ensures.part)

-- where the ranks stand
goals_stand : (c : In_ok-goals) → GoalsStand c.args.ids.now c.place_goals.new.kept.keys c.args.cert.now.goals
    (map row c.in_ok-goals.goals.items)
goals_stand c =
    subst
    (λ (olds : List (List Rank)). GoalsStand c.args.ids.now c.place_goals.new.kept.keys olds
    (map row c.in_ok-goals.goals.items))
    (ap (map row) c.as_slice.ensures.value ∙ ap (λ (x : DriverData). x.goals) c.cert.view_is) c.in_ok-goals.ensures.part

pub returns : goal.returns
returns c = λ see moved.
    let at = (goal.at.returns c).In_ok-goals in
    let news = map row c.in_ok-goals.goals.items in
    let nodes = c.place_goals.new.nodes.items in
    subst
    (λ (o : List ℕ). DriverTold c.args.order.now see c.args.cert.now
    (record { order = o; nodes = nodes; region = c.in_ok-region.region; goals = news }))
    (sym c.in_ok-order.ensures.items)
    (driver_told c.args.order.now c.args.store.now c.requires.reduced c.requires.ranks c.requires.levels see
    c.args.cert.now.nodes
    c.args.ids.now c.place_goals.new.kept.keys nodes (driver_keys c.args.cert.now.region c.args.cert.now.goals) moved
    c.in_ok-goals.ensures.numbered c.args.cert.now.order
    c.args.cert.now.region c.in_ok-region.region c.args.cert.now.goals news
    (region_key c.args.cert.now.region c.args.cert.now.goals)
    (rank_key c.args.cert.now.region c.args.cert.now.goals) (region_stands at) (goals_stand at))
