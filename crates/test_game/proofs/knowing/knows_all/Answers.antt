use Rattle.std.proofs.Common.{◌≡◌, IsTrue, ℕ, List, All, length, rules, sym, arith}
use Rattle.std.proofs.lemmas.List.{take_all}
use Rattle.std.proofs.lemmas.List.Elements.{All-more, All-same}
use Rattle.tm_dd.specs.Table.{Knows}
use Rattle.test_game.proofs.knowing.knows_all.Goals as goal

pub loop-id-preserved : goal.loop-id-preserved
loop-id-preserved c =
    let passed : IsTrue c.knows.result = search rules in
    All-more (Knows c.args.dd.now.table) c.args.ids.now c.loop-id.id-index _ (omega (arith, c.loop-id-test.true))
    c.loop-id.invariant (c.knows.ensures passed)

pub returns : goal.returns
returns c = λ passed.
    let ends = c.loop-id.auto.id-index-end in
    let last = c.loop-id-test.false in
    All-same (Knows c.args.dd.now.table) c.args.ids.now _
    (sym (take_all c.loop-id.id-index c.args.ids.now (omega (arith, ends, last)))) c.loop-id.invariant
