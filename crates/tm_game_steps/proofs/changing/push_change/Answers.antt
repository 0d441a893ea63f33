use Rattle.tm_dd.proofs.CallerLaws.{Extends-refl}
use Rattle.tm_game_steps.proofs.Pushed.{kept, lists_match, pushed}
use Rattle.tm_game_steps.proofs.changing.push_change.Goals as goal

pub returns-then-kept-clause-below : goal.returns-then-kept-clause-below
returns-then-kept-clause-below c =
    kept c.args.terms.now c.args.levels.now c.args.dd.now.table c.args.next.now c.args.changes.now.items c.args.input _
    (Extends-refl c.args.dd.now.table) c.requires.below c.requires.within c.requires.count
    (c.is_input-kept.ensures c.if-kept.true)

pub push_pairs-requires : goal.push_pairs-requires
push_pairs-requires c =
    lists_match c.args.terms.now c.args.dd.now.table.levels c.args.levels.now c.bits.new.dd.table c.args.next.now
    c.args.input c.index-levels-input.result _ c.in_ok-bits.bits.items c.requires.levels c.requires.next
    c.requires.within c.requires.count c.index-levels-input.is c.in_ok-bits.ensures.bits c.deref.result.now
    c.deref-2.result.now c.deref.ensures.value c.deref-2.ensures.value

pub returns-clause-below : goal.returns-clause-below
returns-clause-below c =
    pushed c.args.terms.now c.args.dd.now.table.levels c.args.levels.now c.bits.new.dd.table c.args.next.now
    c.args.input c.index-levels-input.result _ c.in_ok-bits.bits.items c.requires.levels c.requires.next
    c.requires.within c.requires.count c.index-levels-input.is c.in_ok-bits.ensures.bits c.args.dd.now.table
    c.args.changes.now.items c.push_pairs.new.changes.items c.deref.result.now c.deref-2.result.now
    c.bits.ensures.earlier c.requires.below c.requires.apart c.deref.ensures.value c.deref-2.ensures.value
    c.in_ok-push_pairs.ensures
