use Rattle.std.proofs.Common.{◌≡◌, List, Some, map, sym, ap, ◌∙◌, subst}
use Rattle.std.specs.Prelude.{slice_get}
use Rattle.std.proofs.lemmas.Option.{slice_get-get_or}
use Rattle.tm_syntax.specs.declared.design.Design.{Design}
use Rattle.tm_syntax.specs.declared.design.Item.{Item}
use Rattle.tm_syntax.specs.Tree.View.{spec_tree}
use Rattle.tm_syntax.specs.Design.{instance_node}
use Rattle.tm_syntax.specs.Design.View.{design_tree}
use Rattle.tm_locations.proofs.TextLeads.{sound_leads}
use Rattle.tm_plain.specs.Machine.{AreTables}
use Rattle.tm_plain.proofs.Locating.{more_located, pausing_here, tasks_here}
use Rattle.tm_plain.proofs.machine.locate.Goals as goal

pub find_locations-requires-clause-pausing : goal.find_locations-requires-clause-pausing
find_locations-requires-clause-pausing c =
    let t = c.tables.inside in
    pausing_here t.design.now t.scopes t.order.items t.pausing c.tables.invariant

pub find_locations-requires-clause-ordered : goal.find_locations-requires-clause-ordered
find_locations-requires-clause-ordered c =
    let t = c.tables.inside in
    (tasks_here t.design.now t.scopes t.order.items t.pausing c.tables.invariant c.as_slice-order.result.now
    c.as_slice-order.ensures.value).0

pub find_locations-requires-clause-covers : goal.find_locations-requires-clause-covers
find_locations-requires-clause-covers c =
    let t = c.tables.inside in
    (tasks_here t.design.now t.scopes t.order.items t.pausing c.tables.invariant c.as_slice-order.result.now
    c.as_slice-order.ensures.value).1

pub find_locations-requires-clause-short : goal.find_locations-requires-clause-short
find_locations-requires-clause-short c =
    let t = c.tables.inside in
    (tasks_here t.design.now t.scopes t.order.items t.pausing c.tables.invariant c.as_slice-order.result.now
    c.as_slice-order.ensures.value).2

pub loop-process-preserved : goal.loop-process-preserved
loop-process-preserved c =
    let t = c.tables.inside in
    let d = c.args.tables.now in
    let are : AreTables d t.scopes t.order.items t.pausing =
    subst (λ (d : Design). AreTables d t.scopes t.order.items t.pausing) c.tables.view_is c.tables.invariant in
    let i = c.loop-process.process-index in
    let item = c.process-item.result in
    let items = c.deref-process-items.result.now in
    let listed : slice_get d.processes.items i ≡ Some item =
    ap (λ (xs : List Item). slice_get xs i)
    (sym (c.deref-process-items.ensures.value ∙ ap (λ (d : Design). d.processes.items) c.tables.view_is))
    ∙ slice_get-get_or items i item c.loop-process-test.true ∙ ap Some (sym c.process-item.is) in
    let instances : d.instances.items ≡ c.as_slice-instances.result.now =
    sym (c.as_slice-instances.ensures.value ∙ ap (λ (d : Design). d.instances.items) c.tables.view_is) in
    more_located d i c.loop-process.all.items c.push.new.self.items c.in_ok-found.found c.loop-process.invariant
    (c.in_ok-found.ensures (design_tree d) i
    (record { text = ap spec_tree (sym are.text); instances = ap (map instance_node) instances })
    (sound_leads (design_tree d) are.runnable.sound) listed)
    c.in_ok-push.ensures.items
