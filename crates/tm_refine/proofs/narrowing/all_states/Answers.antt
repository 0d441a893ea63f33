use Rattle.tm_refine.proofs.Carrying.{carried_first}
use Rattle.tm_refine.proofs.narrowing.all_states.Goals as goal

pub returns : goal.returns
returns g c = λ d predicates of.
    carried_first (g.met.A.Arena.exact c.args.sided.now.arena d of).1 predicates
    (g.A.Arena.ids c.args.sided.now.arena)
    (record { region = c.whole.result; ranks = c.new.result; levels = c.new-2.result }) c.whole.ensures.value
    c.new.ensures.items c.new-2.ensures.items
