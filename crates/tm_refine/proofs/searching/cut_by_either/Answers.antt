use Rattle.std.proofs.Common.{sym, ◌∙◌}
use Rattle.std.proofs.lemmas.Result.{IfOk-weaker}
use Rattle.tm_refine.proofs.RoundSides.{if_three}
use Rattle.tm_refine.proofs.SearchSteps.{first_same, longer_twice}
use Rattle.tm_refine.proofs.searching.cut_by_either.Goals as goal

pub returns-clause-longer : goal.returns-clause-longer
returns-clause-longer g c =
    IfOk-weaker c.cut_by-2.result _ _
    (λ u more. longer_twice c.args.added.now.items c.cut_by.new.added.items c.cut_by-2.new.added.items
    c.in_ok-cut_by.ensures.longer more) c.cut_by-2.ensures.longer

pub returns-clause-same : goal.returns-clause-same
returns-clause-same g c =
    if_three c.cut_by-2.result _ _ _ _
    (λ u more same again e.
    let first = first_same c.args.added.now.items c.cut_by.new.added.items c.cut_by-2.new.added.items
    c.in_ok-cut_by.ensures.longer more e in
    same (e ∙ sym first) ∙ c.in_ok-cut_by.ensures.same first)
    c.cut_by-2.ensures.longer c.cut_by-2.ensures.same c.cut_by-2.ensures.longer
