use Rattle.std.proofs.lemmas.Result.{IfOk-weaker}
use Rattle.tm_blast.proofs.PartNumbers.{pair-And, pair-Or, pair-Xor, pair-Add, pair-Sub, pair-Eq, pair-Less}
use Rattle.tm_blast.proofs.term_bits.pair_bits.Goals as goal

pub returns-in-And-clause-answer : goal.returns-in-And-clause-answer
returns-in-And-clause-answer c =
    IfOk-weaker c.rippled.result _ _
    (λ ids. pair-And c.args.dd.now.table c.rippled.new.dd.table c.args.a.now c.args.b.now c.requires.a
    c.requires.b c.requires.same c.args.term c.in-And.field-0 c.in-And.field-1 ids.items c.in-And.is)
    c.rippled.ensures.answer

pub returns-in-Or-clause-answer : goal.returns-in-Or-clause-answer
returns-in-Or-clause-answer c =
    IfOk-weaker c.rippled-in-Or.result _ _
    (λ ids. pair-Or c.args.dd.now.table c.rippled-in-Or.new.dd.table c.args.a.now c.args.b.now c.requires.a
    c.requires.b c.requires.same c.args.term c.in-Or.field-0 c.in-Or.field-1 ids.items c.in-Or.is)
    c.rippled-in-Or.ensures.answer

pub returns-in-Xor-clause-answer : goal.returns-in-Xor-clause-answer
returns-in-Xor-clause-answer c =
    IfOk-weaker c.rippled-in-Xor.result _ _
    (λ ids. pair-Xor c.args.dd.now.table c.rippled-in-Xor.new.dd.table c.args.a.now c.args.b.now c.requires.a
    c.requires.b c.requires.same c.args.term c.in-Xor.field-0 c.in-Xor.field-1 ids.items c.in-Xor.is)
    c.rippled-in-Xor.ensures.answer

pub returns-in-Add-clause-answer : goal.returns-in-Add-clause-answer
returns-in-Add-clause-answer c =
    IfOk-weaker c.rippled-in-Add.result _ _
    (λ ids. pair-Add c.args.dd.now.table c.rippled-in-Add.new.dd.table c.args.a.now c.args.b.now c.requires.a
    c.requires.b c.requires.same c.args.term c.in-Add.field-0 c.in-Add.field-1 ids.items c.in-Add.is)
    c.rippled-in-Add.ensures.answer

pub returns-in-Sub-clause-answer : goal.returns-in-Sub-clause-answer
returns-in-Sub-clause-answer c =
    IfOk-weaker c.difference.result _ _
    (λ ids. pair-Sub c.args.dd.now.table c.difference.new.dd.table c.args.a.now c.args.b.now c.requires.a
    c.requires.b c.requires.same c.args.term c.in-Sub.field-0 c.in-Sub.field-1 ids.items c.in-Sub.is)
    c.difference.ensures.answer

pub returns-in-Eq-clause-answer : goal.returns-in-Eq-clause-answer
returns-in-Eq-clause-answer c =
    IfOk-weaker c.tested.result _ _
    (λ ids. pair-Eq c.args.dd.now.table c.tested.new.dd.table c.args.a.now c.args.b.now c.requires.a
    c.requires.b c.requires.same c.args.term c.in-Eq.field-0 c.in-Eq.field-1 ids.items c.in-Eq.is)
    c.tested.ensures.answer

pub returns-in-Less-clause-answer : goal.returns-in-Less-clause-answer
returns-in-Less-clause-answer c =
    IfOk-weaker c.tested-in-Less.result _ _
    (λ ids. pair-Less c.args.dd.now.table c.tested-in-Less.new.dd.table c.args.a.now c.args.b.now c.requires.a
    c.requires.b c.requires.same c.args.term c.in-Less.field-0 c.in-Less.field-1 ids.items c.in-Less.is)
    c.tested-in-Less.ensures.answer
