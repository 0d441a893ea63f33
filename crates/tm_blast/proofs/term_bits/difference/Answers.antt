use Rattle.std.proofs.Common.{sym, ◌∙◌, subst}
use Rattle.std.specs.Prelude.{All}
use Rattle.std.proofs.lemmas.Result.{IfOk-weaker}
use Rattle.tm_dd.specs.Table.{Knows}
use Rattle.tm_blast.proofs.TermNumbers.{All-turned}
use Rattle.tm_blast.proofs.PartNumbers.{difference_bits}
use Rattle.tm_blast.proofs.term_bits.difference.Goals as goal

pub rippled-requires-clause-b : goal.rippled-requires-clause-b
rippled-requires-clause-b c =
    subst (All (Knows c.args.dd.now.table)) (sym (c.deref.ensures.value ∙ c.in_ok-turned.ensures))
    (All-turned c.args.dd.now.table c.args.b.now c.requires.b)

pub returns-clause-answer : goal.returns-clause-answer
returns-clause-answer c =
    IfOk-weaker c.rippled.result _ _
    (λ ids. difference_bits c.args.dd.now.table c.rippled.new.dd.table c.args.a.now c.args.b.now c.deref.result.now
    ids.items c.requires.a c.requires.b c.requires.same (c.deref.ensures.value ∙ c.in_ok-turned.ensures))
    c.rippled.ensures.answer
