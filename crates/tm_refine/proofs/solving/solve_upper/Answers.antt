use Rattle.std.proofs.Common.{true, refl, sym, ◌∙◌}
use Rattle.tm_flat_pool.specs.Predicates.{pool}
use Rattle.tm_game_pool.specs.Separating.{predicates_at}
use Rattle.tm_solve.proofs.Following.{told_other, told_same}
use Rattle.tm_refine.proofs.Carrying.{begun_here, carried_here, carried_known, carried_stay, falls_here, lost_here, open_here}
use Rattle.tm_refine.proofs.RoundSides.{cells_there, out_is, same_game, same_tracked, same_upper, stay_beside}
use Rattle.tm_refine.proofs.SearchSteps.{stay_of, stay_then}
use Rattle.tm_refine.proofs.solving.solve_upper.Goals as goal

pub keep_safe-requires : goal.keep_safe-requires
keep_safe-requires g c =
    let d = c.requires.carried.0 in
    let of = c.requires.carried.1 in
    let arena = c.args.sided.now.arena in
    let ks = c.args.sided.now.tracked.items in
    record {
      begun = begun_here (g.met.A.Arena.exact arena d of).1 (predicates_at (pool d) ks) (g.A.Arena.tests arena ks)
          (g.met.A.Arena.cells arena d ks of) true refl (g.A.Arena.game arena) refl ks (g.A.Arena.ids arena)
          c.args.begun c.requires.carried.2;
    }

pub rounds-init : goal.rounds-init
rounds-init g c =
    let arena = c.args.sided.now.arena in
    let ks = c.args.sided.now.tracked.items in
    let tests = g.A.Arena.tests arena ks in
    let arena' = c.keep_safe.new.pre.arena in
    let ks' = c.keep_safe.new.pre.tracked.items in
    let tests' = g.A.Arena.tests arena' ks' in
    let extends = c.keep_safe.ensures.follows.extends in
    let side = extends.side in
    record {
      stay = stay_beside true c.keep_safe.new.pre.upper ks ks' tests tests' (g.A.Arena.game arena)
          (g.A.Arena.game arena') (g.A.Arena.ids arena) (g.A.Arena.ids arena') extends;
      game = same_game _ _ side;
      tracked = same_tracked _ _ side;
      side = same_upper _ _ side;
      carried = λ d of.
          carried_here (g.met.A.Arena.exact arena d of).1 (predicates_at (pool d) ks) tests
          (g.met.A.Arena.cells arena d ks of) true refl (g.A.Arena.game arena) refl tests'
          (cells_there d (pool d) ks' ks tests' (same_tracked _ _ side)
          (g.met.A.Arena.cells arena' d ks' (extends.of d of))) c.keep_safe.new.pre.upper ks' (g.A.Arena.game arena')
          (same_game _ _ side) (g.A.Arena.ids arena') c.in_ok-safe.safe c.in_ok-safe.ensures.begun;
    }

pub leaves_out-requires : goal.leaves_out-requires
leaves_out-requires g c =
    record { set_known = (c.rounds.invariant.carried c.requires.carried.0 c.requires.carried.1).known.region.0 }

pub advance-requires : goal.advance-requires
advance-requires g c =
    let d = c.requires.carried.0 in
    let of = c.requires.carried.1 in
    let inv = c.rounds.invariant in
    let P = predicates_at (pool d) c.args.sided.now.tracked.items in
    let now = inv.stay.of d of in
    let there = c.leaves_out.ensures.follows.extends.of d now in
    let exact = (g.met.A.Arena.exact c.args.sided.now.arena d of).1 in
    let tests = g.A.Arena.tests c.leaves_out.new.self c.rounds.sided.tracked.items in
    let cells = cells_there d (pool d) c.rounds.sided.tracked.items c.args.sided.now.tracked.items tests inv.tracked
    (g.met.A.Arena.cells c.leaves_out.new.self d c.rounds.sided.tracked.items there) in
    let game = c.leaves_out.ensures.follows.game ∙ inv.game in
    record {
      begun = begun_here exact P tests cells c.rounds.sided.upper inv.side (g.A.Arena.game c.leaves_out.new.self) game
          c.rounds.sided.tracked.items (g.A.Arena.ids c.leaves_out.new.self) c.rounds.far
          (carried_stay d P (g.A.Arena.game c.args.sided.now.arena) (g.A.Arena.ids c.rounds.sided.arena)
          (g.A.Arena.ids c.leaves_out.new.self)
          c.rounds.far (stay_of c.leaves_out.ensures.follows) (inv.carried d of));
    }

pub returns-then-branch-clause-upper : goal.returns-then-branch-clause-upper
returns-then-branch-clause-upper g c = λ d of.
    let inv = c.rounds.invariant in
    let P = predicates_at (pool d) c.args.sided.now.tracked.items in
    let now = inv.stay.of d of in
    lost_here (g.met.A.Arena.exact c.args.sided.now.arena d of).1 P (g.A.Arena.ids c.rounds.sided.arena)
    (g.A.Arena.ids c.leaves_out.new.self) c.rounds.far
    (stay_of c.leaves_out.ensures.follows) (inv.carried d of)
    (out_is d ((g.A.Arena.ids c.rounds.sided.arena).means c.rounds.far.region) _ _ c.if-branch.true
    (c.in_ok-leaves_out.ensures.out d now))

pub returns-then-branch-clause-carried : goal.returns-then-branch-clause-carried
returns-then-branch-clause-carried g c = λ d of.
    let inv = c.rounds.invariant in
    let P = predicates_at (pool d) c.args.sided.now.tracked.items in
    carried_stay d P (g.A.Arena.game c.args.sided.now.arena) (g.A.Arena.ids c.rounds.sided.arena)
    (g.A.Arena.ids c.leaves_out.new.self)
    c.rounds.far (stay_of c.leaves_out.ensures.follows) (inv.carried d of)

pub returns-then-branch-clause-known : goal.returns-then-branch-clause-known
returns-then-branch-clause-known g c =
    let d = c.requires.carried.0 in
    let of = c.requires.carried.1 in
    let inv = c.rounds.invariant in
    let P = predicates_at (pool d) c.args.sided.now.tracked.items in
    carried_known d P (g.A.Arena.game c.args.sided.now.arena) (g.A.Arena.ids c.leaves_out.new.self) c.rounds.far
    (carried_stay d P (g.A.Arena.game c.args.sided.now.arena) (g.A.Arena.ids c.rounds.sided.arena) (g.A.Arena.ids
    c.leaves_out.new.self)
    c.rounds.far (stay_of c.leaves_out.ensures.follows) (inv.carried d of))

pub returns-then-same-clause-upper : goal.returns-then-same-clause-upper
returns-then-same-clause-upper g c = λ d of.
    let inv = c.rounds.invariant in
    let P = predicates_at (pool d) c.args.sided.now.tracked.items in
    let now = inv.stay.of d of in
    let there = c.leaves_out.ensures.follows.extends.of d now in
    let exact = (g.met.A.Arena.exact c.args.sided.now.arena d of).1 in
    let tests = g.A.Arena.tests c.leaves_out.new.self c.rounds.sided.tracked.items in
    let cells = cells_there d (pool d) c.rounds.sided.tracked.items c.args.sided.now.tracked.items tests inv.tracked
    (g.met.A.Arena.cells c.leaves_out.new.self d c.rounds.sided.tracked.items there) in
    let game = c.leaves_out.ensures.follows.game ∙ inv.game in
    let side = c.advance.ensures.follows.extends.side in
    let left = c.advance.ensures.follows.extends.of d there in
    let tests' = g.A.Arena.tests c.advance.new.pre.arena c.advance.new.pre.tracked.items in
    let cells' = cells_there d (pool d) c.advance.new.pre.tracked.items c.args.sided.now.tracked.items tests'
    (same_tracked _ _ side ∙ inv.tracked) (g.met.A.Arena.cells c.advance.new.pre.arena d
    c.advance.new.pre.tracked.items left) in
    let carried = carried_here exact P tests cells c.rounds.sided.upper inv.side (g.A.Arena.game c.leaves_out.new.self)
    game tests' cells' c.advance.new.pre.upper c.advance.new.pre.tracked.items (g.A.Arena.game c.advance.new.pre.arena)
    (same_game _ _ side ∙ game) (g.A.Arena.ids c.advance.new.pre.arena) c.in_ok-far.far c.in_ok-far.ensures.begun in
    open_here exact P tests cells c.rounds.sided.upper inv.side (g.A.Arena.game c.leaves_out.new.self) game
    (g.A.Arena.ids c.advance.new.pre.arena) c.in_ok-far.far carried
    (c.in_ok-far.ensures.ends (told_same c.if-same.ensures))

pub returns-then-same-clause-carried : goal.returns-then-same-clause-carried
returns-then-same-clause-carried g c = λ d of.
    let inv = c.rounds.invariant in
    let P = predicates_at (pool d) c.args.sided.now.tracked.items in
    let now = inv.stay.of d of in
    let there = c.leaves_out.ensures.follows.extends.of d now in
    let exact = (g.met.A.Arena.exact c.args.sided.now.arena d of).1 in
    let tests = g.A.Arena.tests c.leaves_out.new.self c.rounds.sided.tracked.items in
    let cells = cells_there d (pool d) c.rounds.sided.tracked.items c.args.sided.now.tracked.items tests inv.tracked
    (g.met.A.Arena.cells c.leaves_out.new.self d c.rounds.sided.tracked.items there) in
    let game = c.leaves_out.ensures.follows.game ∙ inv.game in
    let side = c.advance.ensures.follows.extends.side in
    let left = c.advance.ensures.follows.extends.of d there in
    let tests' = g.A.Arena.tests c.advance.new.pre.arena c.advance.new.pre.tracked.items in
    let cells' = cells_there d (pool d) c.advance.new.pre.tracked.items c.args.sided.now.tracked.items tests'
    (same_tracked _ _ side ∙ inv.tracked) (g.met.A.Arena.cells c.advance.new.pre.arena d
    c.advance.new.pre.tracked.items left) in
    let carried = carried_here exact P tests cells c.rounds.sided.upper inv.side (g.A.Arena.game c.leaves_out.new.self)
    game tests' cells' c.advance.new.pre.upper c.advance.new.pre.tracked.items (g.A.Arena.game c.advance.new.pre.arena)
    (same_game _ _ side ∙ game) (g.A.Arena.ids c.advance.new.pre.arena) c.in_ok-far.far c.in_ok-far.ensures.begun in
    carried

pub returns-then-same-clause-known : goal.returns-then-same-clause-known
returns-then-same-clause-known g c =
    let d = c.requires.carried.0 in
    let of = c.requires.carried.1 in
    let inv = c.rounds.invariant in
    let P = predicates_at (pool d) c.args.sided.now.tracked.items in
    let now = inv.stay.of d of in
    let there = c.leaves_out.ensures.follows.extends.of d now in
    let exact = (g.met.A.Arena.exact c.args.sided.now.arena d of).1 in
    let tests = g.A.Arena.tests c.leaves_out.new.self c.rounds.sided.tracked.items in
    let cells = cells_there d (pool d) c.rounds.sided.tracked.items c.args.sided.now.tracked.items tests inv.tracked
    (g.met.A.Arena.cells c.leaves_out.new.self d c.rounds.sided.tracked.items there) in
    let game = c.leaves_out.ensures.follows.game ∙ inv.game in
    let side = c.advance.ensures.follows.extends.side in
    let left = c.advance.ensures.follows.extends.of d there in
    let tests' = g.A.Arena.tests c.advance.new.pre.arena c.advance.new.pre.tracked.items in
    let cells' = cells_there d (pool d) c.advance.new.pre.tracked.items c.args.sided.now.tracked.items tests'
    (same_tracked _ _ side ∙ inv.tracked) (g.met.A.Arena.cells c.advance.new.pre.arena d
    c.advance.new.pre.tracked.items left) in
    let carried = carried_here exact P tests cells c.rounds.sided.upper inv.side (g.A.Arena.game c.leaves_out.new.self)
    game tests' cells' c.advance.new.pre.upper c.advance.new.pre.tracked.items (g.A.Arena.game c.advance.new.pre.arena)
    (same_game _ _ side ∙ game) (g.A.Arena.ids c.advance.new.pre.arena) c.in_ok-far.far c.in_ok-far.ensures.begun in
    carried_known d P (g.A.Arena.game c.args.sided.now.arena) (g.A.Arena.ids c.advance.new.pre.arena) c.in_ok-far.far
    carried

pub rounds-smaller : goal.rounds-smaller
rounds-smaller g c =
    let inv = c.rounds.invariant in
    let known = (inv.carried c.requires.carried.0 c.requires.carried.1).known.region.0 in
    falls_here (g.A.Arena.game c.args.sided.now.arena) (g.A.Arena.game c.leaves_out.new.self)
    (c.leaves_out.ensures.follows.game ∙ inv.game)
    ((g.A.Arena.ids c.advance.new.pre.arena).means c.in_ok-far.far.region)
    ((g.A.Arena.ids c.rounds.sided.arena).means c.rounds.far.region)
    ((g.A.Arena.ids c.leaves_out.new.self).means c.rounds.far.region)
    (c.leaves_out.ensures.follows.extends.same c.rounds.far.region known)
    (c.in_ok-far.ensures.falls (told_other c.if-same.ensures))

pub rounds-preserved : goal.rounds-preserved
rounds-preserved g c =
    let inv = c.rounds.invariant in
    let extends = c.advance.ensures.follows.extends in
    record {
      stay = stay_then inv.stay (stay_then (stay_of c.leaves_out.ensures.follows)
          (stay_beside c.rounds.sided.upper c.advance.new.pre.upper c.rounds.sided.tracked.items
          c.advance.new.pre.tracked.items
          (g.A.Arena.tests c.leaves_out.new.self c.rounds.sided.tracked.items)
          (g.A.Arena.tests c.advance.new.pre.arena c.advance.new.pre.tracked.items)
          (g.A.Arena.game c.leaves_out.new.self) (g.A.Arena.game c.advance.new.pre.arena)
          (g.A.Arena.ids c.leaves_out.new.self)
          (g.A.Arena.ids c.advance.new.pre.arena) extends));
      game = same_game _ _ extends.side ∙ c.leaves_out.ensures.follows.game ∙ inv.game;
      tracked = same_tracked _ _ extends.side ∙ inv.tracked;
      side = same_upper _ _ extends.side ∙ inv.side;
      carried = λ d of.
          let inv = c.rounds.invariant in
          let P = predicates_at (pool d) c.args.sided.now.tracked.items in
          let now = inv.stay.of d of in
          let there = c.leaves_out.ensures.follows.extends.of d now in
          let exact = (g.met.A.Arena.exact c.args.sided.now.arena d of).1 in
          let tests = g.A.Arena.tests c.leaves_out.new.self c.rounds.sided.tracked.items in
          let cells = cells_there d (pool d) c.rounds.sided.tracked.items c.args.sided.now.tracked.items tests
          inv.tracked
          (g.met.A.Arena.cells c.leaves_out.new.self d c.rounds.sided.tracked.items there) in
          let game = c.leaves_out.ensures.follows.game ∙ inv.game in
          let side = c.advance.ensures.follows.extends.side in
          let left = c.advance.ensures.follows.extends.of d there in
          let tests' = g.A.Arena.tests c.advance.new.pre.arena c.advance.new.pre.tracked.items in
          let cells' = cells_there d (pool d) c.advance.new.pre.tracked.items c.args.sided.now.tracked.items tests'
          (same_tracked _ _ side ∙ inv.tracked) (g.met.A.Arena.cells c.advance.new.pre.arena d
          c.advance.new.pre.tracked.items left) in
          let carried = carried_here exact P tests cells c.rounds.sided.upper inv.side
          (g.A.Arena.game c.leaves_out.new.self)
          game tests' cells' c.advance.new.pre.upper c.advance.new.pre.tracked.items
          (g.A.Arena.game c.advance.new.pre.arena)
          (same_game _ _ side ∙ game) (g.A.Arena.ids c.advance.new.pre.arena) c.in_ok-far.far
          c.in_ok-far.ensures.begun in
          carried;
    }

pub returns-then-branch-clause-stay : goal.returns-then-branch-clause-stay
returns-then-branch-clause-stay g c =
    stay_then c.rounds.invariant.stay (stay_of c.leaves_out.ensures.follows)

pub returns-in_err-far-clause-stay : goal.returns-in_err-far-clause-stay
returns-in_err-far-clause-stay g c =
    stay_then c.rounds.invariant.stay (stay_then (stay_of c.leaves_out.ensures.follows)
    (stay_beside c.rounds.sided.upper c.advance.new.pre.upper c.rounds.sided.tracked.items
    c.advance.new.pre.tracked.items
    (g.A.Arena.tests c.leaves_out.new.self c.rounds.sided.tracked.items)
    (g.A.Arena.tests c.advance.new.pre.arena c.advance.new.pre.tracked.items)
    (g.A.Arena.game c.leaves_out.new.self) (g.A.Arena.game c.advance.new.pre.arena)
    (g.A.Arena.ids c.leaves_out.new.self) (g.A.Arena.ids c.advance.new.pre.arena)
    c.advance.ensures.follows.extends))

pub returns-then-same-clause-designs : goal.returns-then-same-clause-designs
returns-then-same-clause-designs g c =
    λ d of. c.advance.ensures.follows.extends.of d
    (c.leaves_out.ensures.follows.extends.of d (c.rounds.invariant.stay.of d of))

pub returns-then-same-clause-stay : goal.returns-then-same-clause-stay
returns-then-same-clause-stay g c =
    stay_then c.rounds.invariant.stay (stay_then (stay_of c.leaves_out.ensures.follows)
    (stay_beside c.rounds.sided.upper c.advance.new.pre.upper c.rounds.sided.tracked.items
    c.advance.new.pre.tracked.items
    (g.A.Arena.tests c.leaves_out.new.self c.rounds.sided.tracked.items)
    (g.A.Arena.tests c.advance.new.pre.arena c.advance.new.pre.tracked.items)
    (g.A.Arena.game c.leaves_out.new.self) (g.A.Arena.game c.advance.new.pre.arena)
    (g.A.Arena.ids c.leaves_out.new.self) (g.A.Arena.ids c.advance.new.pre.arena)
    c.advance.ensures.follows.extends))

pub returns-in_err-safe-clause-stay : goal.returns-in_err-safe-clause-stay
returns-in_err-safe-clause-stay g c =
    stay_beside true c.keep_safe.new.pre.upper c.args.sided.now.tracked.items c.keep_safe.new.pre.tracked.items
    (g.A.Arena.tests c.args.sided.now.arena c.args.sided.now.tracked.items)
    (g.A.Arena.tests c.keep_safe.new.pre.arena c.keep_safe.new.pre.tracked.items)
    (g.A.Arena.game c.args.sided.now.arena) (g.A.Arena.game c.keep_safe.new.pre.arena)
    (g.A.Arena.ids c.args.sided.now.arena) (g.A.Arena.ids c.keep_safe.new.pre.arena) c.keep_safe.ensures.follows.extends

pub returns-in_err-leaves_out-clause-designs : goal.returns-in_err-leaves_out-clause-designs
returns-in_err-leaves_out-clause-designs g c =
    λ d of. c.leaves_out.ensures.follows.extends.of d (c.rounds.invariant.stay.of d of)

pub returns-in_err-leaves_out-clause-stay : goal.returns-in_err-leaves_out-clause-stay
returns-in_err-leaves_out-clause-stay g c =
    stay_then c.rounds.invariant.stay (stay_of c.leaves_out.ensures.follows)

pub returns-then-branch-clause-designs : goal.returns-then-branch-clause-designs
returns-then-branch-clause-designs g c =
    λ d of. c.leaves_out.ensures.follows.extends.of d (c.rounds.invariant.stay.of d of)

pub returns-in_err-far-clause-designs : goal.returns-in_err-far-clause-designs
returns-in_err-far-clause-designs g c =
    λ d of. c.advance.ensures.follows.extends.of d
    (c.leaves_out.ensures.follows.extends.of d (c.rounds.invariant.stay.of d of))
