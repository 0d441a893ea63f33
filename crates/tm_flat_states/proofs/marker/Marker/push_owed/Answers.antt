use Rattle.std.proofs.Common.{Some, sym, ap, ◌∙◌}
use Rattle.std.proofs.lemmas.Option.{slice_get-get_or}
use Rattle.tm_syntax.specs.Design.View.{design_tree}
use Rattle.tm_flat_states.proofs.OwedTerms.{none_pushed, one_pushed}
use Rattle.tm_flat_states.proofs.marker.Marker.push_owed.Goals as goal

pub returns-then-not-is_owed : goal.returns-then-not-is_owed
returns-then-not-is_owed c =
    let d = c.args.self.now.design.now in
    none_pushed (design_tree d) c.args.process c.args.terms.now c.args.ids.now.items c.requires.sound
    (sym (c.is_owed.ensures c.args.process
    (slice_get-get_or d.processes.items c.args.process c.index-item.result.now c.requires.process
    ∙ ap Some (sym c.index-item.ensures))) ∙ c.if-not-is_owed.true)

pub returns : goal.returns
returns c =
    let d = c.args.self.now.design.now in
    one_pushed (design_tree d) c.args.process c.args.terms.now c.process.new.terms c.args.ids.now.items
    c.push.new.self.items c.in_ok-id.id
    (sym (c.is_owed.ensures c.args.process
    (slice_get-get_or d.processes.items c.args.process c.index-item.result.now c.requires.process
    ∙ ap Some (sym c.index-item.ensures))) ∙ c.if-not-is_owed.false)
    c.in_ok-id.ensures c.in_ok-push.ensures.items
