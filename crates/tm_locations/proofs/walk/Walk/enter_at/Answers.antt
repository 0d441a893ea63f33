use Rattle.std.proofs.Common.{◌≡◌, ◌+◌, ap, arith}
use Rattle.std.specs.List.{position_or_len}
use Rattle.tm_locations.specs.Inner.Walks.{WalkTables, tables_of}
use Rattle.tm_locations.specs.Locations.{same_node}
use Rattle.tm_locations.specs.declared.table.TrailNode.{TrailNode}
use Rattle.tm_locations.proofs.WalkSteps.{grown-trail, trail-pushed}
use Rattle.tm_locations.proofs.walk.Walk.enter_at.Goals as goal

pub returns-clause-grown : goal.returns-clause-grown
returns-clause-grown c =
    let w : WalkTables = tables_of c.args.self.now in
    let n : TrailNode = record { at = c.args.at; then = c.args.trail } in
    grown-trail w (record w { trails = c.insert_full.new.self.keys }) n
    (ap (λ trails. record w { trails = trails }) c.in_ok-index.ensures.keys)

pub returns-clause-trail : goal.returns-clause-trail
returns-clause-trail c = λ before it.
    let w : WalkTables = tables_of c.args.self.now in
    let n : TrailNode = record { at = c.args.at; then = c.args.trail } in
    let index : c.in_ok-index.index ≡ position_or_len (same_node n) w.trails = c.in_ok-index.ensures.index in
    trail-pushed w (record w { trails = c.insert_full.new.self.keys }) n
    (ap (λ trails. record w { trails = trails }) c.in_ok-index.ensures.keys) (c.in_ok-index.index + 1)
    (omega (arith, index)) before it
