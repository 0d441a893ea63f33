use Rattle.std.proofs.Common.{◌≡◌, ℕ, List, length, refl, sym, ap, ◌∙◌, subst}
use Rattle.std.proofs.lemmas.Result.{IfOk-weaker}
use Rattle.tm_cert.specs.declared.cert.Entry.{Entry}
use Rattle.tm_cert.specs.Nodes.{ids_of}
use Rattle.tm_dd.specs.declared.node.NodeId.{NodeId}
use Rattle.tm_reorder.specs.Inner.Keys.{AreFound}
use Rattle.tm_reorder.specs.Inner.Moved.{AreMoved, seen}
use Rattle.tm_reorder.specs.Inner.Raised.{entries_of}
use Rattle.tm_reorder.proofs.Branches.{nodes_are_branches, raised_below}
use Rattle.tm_reorder.proofs.Wanted.{found_raised, values_given}
use Rattle.tm_reorder.proofs.moving.load_sets.Goals as goal

pub all_raised-requires-clause-entries : goal.all_raised-requires-clause-entries
all_raised-requires-clause-entries c = nodes_are_branches c.requires.nodes.0 c.args.nodes.now c.requires.nodes.1

pub spread-requires-clause-values : goal.spread-requires-clause-values
spread-requires-clause-values c =
    let nodes = c.args.nodes.now in
    let sets = c.in_ok-sets.sets in
    let entries = entries_of sets.raised nodes in
    let count : length c.as_slice.result.now ≡ ids_of c.entries.result.now =
    ap (λ (ids : List NodeId). length ids) c.as_slice.ensures.value ∙ c.in_ok-loaded.ensures.loaded.count in
    values_given (length c.as_slice.result.now) entries c.entries.result.now sets.ids.items
    c.as_slice-2.result.now c.entries.ensures c.as_slice-2.ensures.value count
    (raised_below nodes entries c.args.keys.now sets.ids.items c.in_ok-sets.ensures)

pub returns-clause-loaded : goal.returns-clause-loaded
returns-clause-loaded c =
    let sets = c.in_ok-sets.sets in
    let nodes = c.args.nodes.now in
    let entries = entries_of sets.raised nodes in
    let keys = c.args.keys.now in
    let after = c.load_moved.new.dd.table in
    let see = seen c.args.dd.now.table c.args.order.now c.args.bits.now in
    let moved = subst (λ (es : List Entry). AreMoved after see es c.in_ok-loaded.loaded.items) c.entries.ensures
    c.in_ok-loaded.ensures.loaded in
    let found = found_raised after see nodes entries keys sets.ids.items c.in_ok-loaded.loaded.items
    c.in_ok-sets.ensures moved in
    let given = subst (λ (values : List ℕ). AreFound after see nodes keys values c.as_slice.result.now)
    (sym c.as_slice-2.ensures.value)
    (subst (λ (loaded : List NodeId). AreFound after see nodes keys sets.ids.items loaded)
    (sym c.as_slice.ensures.value) found) in
    IfOk-weaker c.spread.result _ _ (λ ids is. is after see nodes refl given) c.spread.ensures
