use Rattle.std.proofs.Common.{◌≡◌, ◌-◌, ◌++◌, drop, length, length-drop, take, take_all, refl, ap, ◌∙◌, subst, arith}
use Rattle.tm_scope.specs.Inner.Walks.{IsWalking, walked_nodes}
use Rattle.tm_scope.proofs.Entries.{all_but_last}
use Rattle.tm_scope.proofs.WalkClosings.{walking-closed}
use Rattle.tm_scope.proofs.WalkFields.{walking_same}
use Rattle.tm_scope.proofs.graph.walk.Walk.close.Goals as goal

pub returns-clause-walking : goal.returns-clause-walking
returns-clause-walking c = λ graph so.
    let w = c.args.self.now in
    let g = c.args.group in
    let last = c.requires.last in
    let rest = length-drop g.start w.path.items in
    let whole : take (length w.path.items - g.start) (drop g.start w.path.items) ≡ drop g.start w.path.items =
    take_all (length w.path.items - g.start) (drop g.start w.path.items) (omega arith) in
    walking_same graph w.opened.items w.opened.items c.truncate.new.self.items (take g.start w.path.items)
    w.pending.items w.pending.items c.pop.new.self.items last.front c.leave.new.order.items
    (w.order.items ++ walked_nodes g.loops (drop g.start w.path.items))
    refl
    c.truncate.ensures.items
    refl
    (c.pop.ensures.rest ∙ ap (λ n. take (n - 1) w.groups.items) w.groups.ok.0
    ∙ all_but_last w.groups.items last.front g last.shape)
    (c.in_ok-leave.ensures
    ∙ ap (λ xs. w.order.items ++ walked_nodes g.loops (take (length xs - g.start) (drop g.start xs)))
    c.as_slice.ensures.value
    ∙ ap (λ xs. w.order.items ++ walked_nodes g.loops xs) whole)
    (walking-closed graph w.opened.items w.path.items w.pending.items last.front g w.order.items
    (subst (λ gs. IsWalking graph w.opened.items w.path.items w.pending.items gs w.order.items) last.shape so)
    c.requires.followed)
