use Rattle.std.proofs.Common.{None, Some, arith}
use Rattle.std.proofs.lemmas.Option.{slice_get_within}
use Rattle.tm_syntax.specs.Design.View.{design_tree}
use Rattle.tm_locations.proofs.TableCallees.{item-read}
use Rattle.tm_flat_pool.proofs.MarkedBits.{marked_none, marked_some}
use Rattle.tm_flat_pool.proofs.pooler.Pooler.is_marked.Goals as goal

pub returns-in-None : goal.returns-in-None
returns-in-None c =
    let d = c.args.self.now.design.now in
    marked_none (design_tree d) c.args.marks.now c.args.index
    (item-read d.vars.items c.deref.result.now c.args.index None c.deref.ensures.value c.in-None.ensures.lookup)

pub mark_at-requires : goal.mark_at-requires
mark_at-requires c =
    let d = c.args.self.now.design.now in
    let below = slice_get_within d.vars.items c.args.index c.in-Some.var.now
    (item-read d.vars.items c.deref.result.now c.args.index (Some c.in-Some.var) c.deref.ensures.value
    c.in-Some.ensures.lookup) in
    omega (arith, below, c.requires)

pub returns-in-Some : goal.returns-in-Some
returns-in-Some c =
    let d = c.args.self.now.design.now in
    marked_some (design_tree d) c.args.marks.now c.args.index c.in-Some.var.now c.is_bool.result c.mark_at.result
    c.both.result
    (item-read d.vars.items c.deref.result.now c.args.index (Some c.in-Some.var) c.deref.ensures.value
    c.in-Some.ensures.lookup) c.is_bool.ensures c.mark_at.ensures c.both.ensures
