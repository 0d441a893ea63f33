use Rattle.std.proofs.Common.{ℕ, List, map, sym, ap, ◌∙◌, subst}
use Rattle.std.specs.Prelude.{◌↔◌}
use Rattle.std.specs.Option.{option_copied, option_map}
use Rattle.tm_syntax.specs.declared.tree.Spec.{Spec}
use Rattle.tm_syntax.specs.Tree.View.{spec_tree}
use Rattle.tm_syntax.specs.Faults.Cycles.{TemplateMark}
use Rattle.tm_syntax.specs.Faults.Marks.{named}
use Rattle.tm_scope.specs.declared.graph.Walked.{Walked}
use Rattle.tm_scope.specs.Graph.{HasEdgesWithin, IsWalk, LeadsTo, graph_of}
use Rattle.tm_limits.specs.Firsts.{IsFirstOf}
use Rattle.tm_limits.specs.Inner.Cycles.{IsMarked, marks_of}
use Rattle.tm_limits.specs.TemplateOrders.{AreOrdered}
use Rattle.tm_limits.specs.Templates.{holdings}
use Rattle.tm_limits.proofs.Cyclic.{first_holds, ordered_all}
use Rattle.tm_limits.proofs.TemplateGraphs.{holdings_within}
use Rattle.tm_limits.proofs.templates.template_order.Goals as goal

pub walk_graph-requires : goal.walk_graph-requires
walk_graph-requires c =
    subst HasEdgesWithin (sym (ap graph_of c.as_slice.ensures.value ∙ c.in_ok-graph.ensures))
    (holdings_within (spec_tree c.spec-spec.result.now))

pub looping_nodes-requires : goal.looping_nodes-requires
looping_nodes-requires c =
    subst (λ (walk : List Walked). IsWalk (graph_of c.as_slice-2.result.now) walk) (sym c.as_slice-3.ensures.value)
    (subst (λ g. IsWalk (graph_of g) c.in_ok-walk.walk.items)
    (c.as_slice.ensures.value ∙ sym c.as_slice-2.ensures.value) c.in_ok-walk.ensures)

pub returns-in-Some : goal.returns-in-Some
returns-in-Some c =
    let s = c.args.scopes.now in
    let graph = graph_of c.as_slice-2.result.now in
    let marks = c.as_slice-4.result.now in
    let ts = c.as_slice-5.result.now in
    let told : (a : ℕ) → IsMarked marks a ↔ LeadsTo graph a a =
    subst (λ ms. (a : ℕ) → IsMarked ms a ↔ LeadsTo graph a a) (sym c.as_slice-4.ensures.value) c.in_ok-looping.ensures
    in
    first_holds s graph marks ts
    (ap graph_of c.as_slice-2.ensures.value ∙ c.in_ok-graph.ensures
    ∙ ap (λ (x : Spec). holdings (spec_tree x)) c.spec-spec.ensures)
    (c.as_slice-5.ensures.value ∙ ap (λ (x : Spec). x.templates.items) c.spec-spec.ensures) told c.in-Some.name.now
    (subst (λ o. IsFirstOf (λ (t : TemplateMark). t.mark) (λ (t : TemplateMark). IsMarked marks t.number)
    (marks_of ts) (option_map named (option_copied o))) c.in-Some.is c.first_marked.ensures)

pub returns : goal.returns
returns c =
    let s = c.args.scopes.now in
    let graph = graph_of c.as_slice-2.result.now in
    let marks = c.as_slice-4.result.now in
    let ts = c.as_slice-5.result.now in
    let told : (a : ℕ) → IsMarked marks a ↔ LeadsTo graph a a =
    subst (λ ms. (a : ℕ) → IsMarked ms a ↔ LeadsTo graph a a) (sym c.as_slice-4.ensures.value) c.in_ok-looping.ensures
    in
    subst (λ g. AreOrdered (spec_tree s) (graph_of g) c.in_ok-order-in-None.order.items) c.as_slice-2.ensures.value
    (ordered_all s graph marks ts
    (ap graph_of c.as_slice-2.ensures.value ∙ c.in_ok-graph.ensures
    ∙ ap (λ (x : Spec). holdings (spec_tree x)) c.spec-spec.ensures)
    (c.as_slice-5.ensures.value ∙ ap (λ (x : Spec). x.templates.items) c.spec-spec.ensures) told
    c.as_slice-3.result.now c.in_ok-order-in-None.order.items
    (subst (λ (walk : List Walked). IsWalk graph walk) (sym c.as_slice-3.ensures.value)
    (subst (λ g. IsWalk (graph_of g) c.in_ok-walk.walk.items)
    (c.as_slice.ensures.value ∙ sym c.as_slice-2.ensures.value) c.in_ok-walk.ensures))
    (c.in_ok-order-in-None.ensures ∙ ap (map (λ (w : Walked). w.node))
    (c.as_slice-in-None.ensures.value ∙ sym c.as_slice-3.ensures.value))
    (subst (λ o. IsFirstOf (λ (t : TemplateMark). t.mark) (λ (t : TemplateMark). IsMarked marks t.number)
    (marks_of ts) (option_map named (option_copied o))) c.in-None.is c.first_marked.ensures))
