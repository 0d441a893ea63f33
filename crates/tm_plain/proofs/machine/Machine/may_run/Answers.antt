use Rattle.std.proofs.Common.{◌≡◌, ◌+◌, ◌≤◌, List, Some, None, length, ap, sym, ◌∙◌, subst}
use Rattle.tm_syntax.specs.declared.design.Design.{Design}
use Rattle.tm_syntax.specs.Design.View.{design_tree}
use Rattle.tm_syntax.specs.Design.Locations.{end_number}
use Rattle.tm_locations.specs.Locations.{table_of}
use Rattle.tm_locations.specs.declared.table.LocationRow.{LocationRow}
use Rattle.tm_locations.proofs.TableCallees.{item-read}
use Rattle.tm_plain.specs.Machine.{AreLocated}
use Rattle.tm_plain.proofs.Locating.{nothing_past, table_at}
use Rattle.tm_plain.proofs.Permitting.{runs_before_end, runs_nowhere, waits_at_magic}
use Rattle.tm_plain.proofs.Places.{end_is}
use Rattle.tm_plain.proofs.machine.Machine.may_run.Goals as goal

pub returns-then-stands_at_magic : goal.returns-then-stands_at_magic
returns-then-stands_at_magic c =
    waits_at_magic (design_tree c.args.self.now) c.args.state.now c.args.process
    (sym c.stands_at_magic.ensures ∙ c.if-stands_at_magic.true)

pub returns-in-Some : goal.returns-in-Some
returns-in-Some c =
    let d = c.args.self.now in
    let p = c.args.process in
    let all = c.self.inside.locations.items in
    let located : AreLocated d (length d.processes.items) all =
    subst (λ (d : Design). AreLocated d (length d.processes.items) all) c.self.view_is c.self.invariant.2 in
    let t = c.in-Some.locations.now in
    let at = table_at d all located p t
    (item-read all c.deref.result.now p (Some c.in-Some.locations) c.deref.ensures.value c.in-Some.ensures.lookup) in
    let end : length c.rows.result.now + 1 ≡ end_number (design_tree d) p =
    ap (λ (rows : List LocationRow). length rows + 1) c.rows.ensures ∙ end_is (table_of t) (design_tree d) p at.1 in
    runs_before_end (design_tree d) c.args.state.now p c.place_of.result (length c.rows.result.now)
    (sym c.stands_at_magic.ensures ∙ c.if-stands_at_magic.false) at.0 c.place_of.ensures end

pub returns-in-None : goal.returns-in-None
returns-in-None c =
    let d = c.args.self.now in
    let p = c.args.process in
    let all = c.self.inside.locations.items in
    let located : AreLocated d (length d.processes.items) all =
    subst (λ (d : Design). AreLocated d (length d.processes.items) all) c.self.view_is c.self.invariant.2 in
    let past : length d.processes.items ≤ p =
    subst (λ n. n ≤ p) located.are
    (nothing_past all p (item-read all c.deref.result.now p None c.deref.ensures.value c.in-None.ensures.lookup)) in
    runs_nowhere (design_tree d) c.args.state.now p past
