use Rattle.std.proofs.Common.{sym, subst}
use Rattle.tm_reorder.specs.Inner.Raised.{AreBranches, Keeps}
use Rattle.tm_reorder.proofs.Branches.{branch_taken, branches_taken, keeps_taken}
use Rattle.tm_reorder.proofs.graph.Graph.branch.Goals as goal

pub returns-clause-branches : goal.returns-clause-branches
returns-clause-branches c =
    subst AreBranches (sym c.in_ok-position.ensures.keys)
    (branches_taken c.args.self.now.entries.keys (record { level = c.args.level; lo = c.args.lo; hi = c.args.hi })
    c.requires.lo c.requires.hi c.requires.branches)

pub returns-clause-keeps : goal.returns-clause-keeps
returns-clause-keeps c =
    subst (Keeps c.args.self.now.entries.keys) (sym c.in_ok-position.ensures.keys)
    (keeps_taken c.args.self.now.entries.keys (record { level = c.args.level; lo = c.args.lo; hi = c.args.hi })
    c.requires.lo c.requires.hi)

pub returns-clause-answer : goal.returns-clause-answer
returns-clause-answer c =
    let stored = c.in_ok-position.ensures.stored in
    branch_taken c.args.self.now.entries.keys (record { level = c.args.level; lo = c.args.lo; hi = c.args.hi })
    c.requires.lo c.requires.hi c.insert_full.new.self.keys c.in_ok-position.position stored.0
    (returns-clause-branches c) (returns-clause-keeps c) stored.1 stored.2
