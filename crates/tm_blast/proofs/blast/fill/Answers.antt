use Rattle.std.proofs.Common.{ℕ, ◌-◌, ◌<◌, ◌≤◌, length, sym, subst, arith}
use Rattle.tm_blast.specs.Numbers.{level_lists}
use Rattle.tm_blast.proofs.Filling.{AreMade-extended, IsFilling, filling_before, parts_made, filling_more}
use Rattle.tm_blast.proofs.blast.fill.Goals as goal

pub bounds-marks-left : goal.bounds-marks-left
bounds-marks-left c = omega (arith, c.loop-left.invariant.within, c.loop-left-test.true)

pub term_bits-requires-clause-parts : goal.term_bits-requires-clause-parts
term_bits-requires-clause-parts c term is =
    let t = c.args.terms.now in
    let left : ℕ = c.loop-left.left - 1 in
    let near : left < length c.args.marks.now = omega (arith, c.loop-left.invariant.within, c.loop-left-test.true) in
    let within : left ≤ c.args.id.0 = omega (arith, c.requires.wanted.within) in
    let so_far = filling_before t (level_lists c.args.levels.now) c.args.dd.now.table c.loop-left.dd.table
    c.args.made.now c.loop-left.made c.args.id c.args.marks.now c.loop-left.left c.loop-left-test.true
    c.loop-left.invariant in
    parts_made t (level_lists c.args.levels.now) c.args.dd.now.table c.loop-left.dd.table c.args.made.now
    c.loop-left.made c.args.id c.args.marks.now left so_far _ within
    (c.requires.wanted.below left near c.if-marks-left.true term is)
    (c.requires.wanted.parts left near c.if-marks-left.true term is)

pub returns-in_err-bits-clause-made : goal.returns-in_err-bits-clause-made
returns-in_err-bits-clause-made c =
    AreMade-extended c.args.terms.now (level_lists c.args.levels.now) c.loop-left.dd.table c.term_bits.new.dd.table
    c.loop-left.made c.term_bits.ensures.extends c.loop-left.invariant.made

pub loop-left-preserved-then-marks-left : goal.loop-left-preserved-then-marks-left
loop-left-preserved-then-marks-left c =
    let t = c.args.terms.now in
    let levels = level_lists c.args.levels.now in
    let left : ℕ = c.loop-left.left - 1 in
    let near : left < length c.args.marks.now = omega (arith, c.loop-left.invariant.within, c.loop-left-test.true) in
    let within : left ≤ c.args.id.0 = omega (arith, c.requires.wanted.within) in
    let so_far = filling_before t levels c.args.dd.now.table c.loop-left.dd.table c.args.made.now c.loop-left.made
    c.args.id c.args.marks.now c.loop-left.left c.loop-left-test.true c.loop-left.invariant in
    subst
    (λ made. IsFilling t levels c.args.dd.now.table c.term_bits.new.dd.table c.args.made.now made c.args.id
    c.args.marks.now left) (sym c.put.ensures)
    (filling_more t levels c.args.dd.now.table c.loop-left.dd.table c.args.made.now c.loop-left.made c.args.id
    c.args.marks.now left so_far c.term_bits.new.dd.table c.in_ok-bits.bits.items within
    c.term_bits.ensures.extends (omega (arith, c.requires.known)) c.in_ok-bits.ensures.answer)
