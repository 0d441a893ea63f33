use Rattle.std.proofs.Common.{◌≤◌, Some, None, length, ap, sym, ◌∙◌, subst}
use Rattle.std.proofs.lemmas.Option.{slice_get_past}
use Rattle.tm_syntax.specs.declared.design.Design.{Design}
use Rattle.tm_syntax.specs.Design.View.{design_tree}
use Rattle.tm_syntax.specs.Design.Locations.{is_magic_at}
use Rattle.tm_locations.proofs.TableCallees.{item-read}
use Rattle.tm_plain.specs.Machine.{AreLocated}
use Rattle.tm_plain.proofs.Locating.{nothing_past, table_at}
use Rattle.tm_plain.proofs.Permitting.{magic_nowhere}
use Rattle.tm_plain.proofs.machine.Machine.stands_at_magic.Goals as goal

pub returns-in-Some : goal.returns-in-Some
returns-in-Some c =
    let d = c.args.self.now in
    let all = c.self.inside.locations.items in
    let located : AreLocated d (length d.processes.items) all =
    subst (λ (d : Design). AreLocated d (length d.processes.items) all) c.self.view_is c.self.invariant.2 in
    let there = item-read all c.deref.result.now c.args.number (Some c.in-Some.locations) c.deref.ensures.value
    c.in-Some.ensures.lookup in
    c.is_magic.ensures (design_tree d) c.args.number
    (table_at d all located c.args.number c.in-Some.locations.now there).1
    ∙ ap (is_magic_at (design_tree d) c.args.number) c.place_of.ensures

pub returns-in-None : goal.returns-in-None
returns-in-None c =
    let d = c.args.self.now in
    let all = c.self.inside.locations.items in
    let located : AreLocated d (length d.processes.items) all =
    subst (λ (d : Design). AreLocated d (length d.processes.items) all) c.self.view_is c.self.invariant.2 in
    let none = item-read all c.deref.result.now c.args.number None c.deref.ensures.value c.in-None.ensures.lookup in
    let past : length d.processes.items ≤ c.args.number =
    subst (λ n. n ≤ c.args.number) located.are (nothing_past all c.args.number none) in
    sym (magic_nowhere (design_tree d) c.args.state.now c.args.number
    (slice_get_past d.processes.items c.args.number past))
