use Rattle.std.proofs.Common.{sym, subst}
use Rattle.std.proofs.lemmas.Result.{IfOk-weaker}
use Rattle.tm_dd.specs.Reduced.{IsReduced}
use Rattle.tm_dd.specs.Table.{Knows, Table}
use Rattle.tm_reorder.specs.Inner.Moved.{IsValueAbove}
use Rattle.tm_reorder.proofs.Loading.{chosen_by_bit, chosen_by_level}
use Rattle.tm_reorder.proofs.moving.branch.Goals as goal
use Rattle.tm_reorder.proofs.moving.branch.Goals.{In-Some}

pub level_above-requires-clause-reduced : goal.level_above-requires-clause-reduced
level_above-requires-clause-reduced c = subst IsReduced (sym c.store.ensures.value) c.store.ensures.manager.reduced

pub level_above-requires-clause-bit : goal.level_above-requires-clause-bit
level_above-requires-clause-bit c =
    subst (λ (s : Table). Knows s c.args.bit) (sym c.store.ensures.value) c.requires.bit

pub level_above-requires-clause-lo : goal.level_above-requires-clause-lo
level_above-requires-clause-lo c =
    subst (λ (s : Table). Knows s c.args.lo) (sym c.store.ensures.value) c.requires.lo

pub level_above-requires-clause-hi : goal.level_above-requires-clause-hi
level_above-requires-clause-hi c =
    subst (λ (s : Table). Knows s c.args.hi) (sym c.store.ensures.value) c.requires.hi

-- the bit is the value of the level, in the manager's table
above : (c : In-Some) → IsValueAbove c.args.dd.now.table c.args.bit c.args.lo c.args.hi c.in-Some.level
above c =
    subst (λ (s : Table). IsValueAbove s c.args.bit c.args.lo c.args.hi c.in-Some.level) c.store.ensures.value
    c.in-Some.ensures

pub make-requires-clause-level : goal.make-requires-clause-level
make-requires-clause-level c = (above (goal.at.make-requires-clause-level c).In-Some).below

pub make-requires-clause-lo_deeper : goal.make-requires-clause-lo_deeper
make-requires-clause-lo_deeper c = (above (goal.at.make-requires-clause-lo_deeper c).In-Some).lo_deeper

pub make-requires-clause-hi_deeper : goal.make-requires-clause-hi_deeper
make-requires-clause-hi_deeper c = (above (goal.at.make-requires-clause-hi_deeper c).In-Some).hi_deeper

pub returns-in-Some-clause-answer : goal.returns-in-Some-clause-answer
returns-in-Some-clause-answer c =
    IfOk-weaker c.make.result _ _
    (λ id is. chosen_by_level c.args.dd.now.table c.make.new.self.table c.args.bit c.args.lo c.args.hi id
    c.make.ensures.grows.extends c.requires.lo c.requires.hi c.in-Some.level
    (above (goal.at.returns-in-Some-clause-answer c).In-Some) is)
    c.make.ensures.answer

pub returns-in-None-clause-answer : goal.returns-in-None-clause-answer
returns-in-None-clause-answer c =
    IfOk-weaker c.ite_once.result _ _
    (λ id is. chosen_by_bit c.args.dd.now.table c.ite_once.new.self.table c.args.bit c.args.lo c.args.hi id
    c.ite_once.ensures.extends c.requires.lo c.requires.hi c.requires.bit is)
    c.ite_once.ensures.answer
