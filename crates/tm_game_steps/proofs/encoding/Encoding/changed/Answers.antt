use Rattle.std.proofs.Common.{ap, length, arith}
use Rattle.tm_game_steps.proofs.Pushed.{length-level_lists}
use Rattle.tm_game_steps.proofs.Ready.{apart_there, changes_there, levels_there, made_there, ready_then}
use Rattle.tm_game_steps.proofs.encoding.Encoding.changed.Goals as goal

pub changes-requires-clause-count : goal.changes-requires-clause-count
changes-requires-clause-count c =
    omega (
      arith,
      c.requires.next.long,
      c.requires.ready.within,
      length-level_lists c.args.self.now.levels.items,
      ap length c.deref.ensures.value,
    )

pub changes-requires-clause-few : goal.changes-requires-clause-few
changes-requires-clause-few c =
    omega
    (arith, c.requires.ready.few, length-level_lists c.args.self.now.levels.items, ap length c.deref.ensures.value)

pub changes-requires-clause-apart : goal.changes-requires-clause-apart
changes-requires-clause-apart c =
    apart_there c.args.self.now c.deref.result.now c.deref.ensures.value c.args.dd.now.table c.args.made.now
    c.requires.ready

pub changes-requires-clause-levels : goal.changes-requires-clause-levels
changes-requires-clause-levels c =
    levels_there c.args.self.now c.deref.result.now c.deref.ensures.value c.args.dd.now.table c.args.made.now
    c.requires.ready

pub changes-requires-clause-made : goal.changes-requires-clause-made
changes-requires-clause-made c =
    made_there c.args.self.now c.deref.result.now c.deref.ensures.value c.args.dd.now.table c.args.made.now
    c.requires.ready

pub returns-in_err-list-clause-ready : goal.returns-in_err-list-clause-ready
returns-in_err-list-clause-ready c =
    ready_then c.args.self.now c.deref.result.now c.deref.ensures.value c.args.dd.now.table c.changes.new.dd.table
    c.args.made.now c.changes.new.made c.changes.ensures.earlier c.requires.ready c.changes.ensures.made

pub returns-clause-ready : goal.returns-clause-ready
returns-clause-ready c =
    ready_then c.args.self.now c.deref.result.now c.deref.ensures.value c.args.dd.now.table c.changes.new.dd.table
    c.args.made.now c.changes.new.made c.changes.ensures.earlier c.requires.ready c.changes.ensures.made

pub returns-clause-changes : goal.returns-clause-changes
returns-clause-changes c =
    changes_there c.args.self.now c.deref.result.now c.deref.ensures.value c.changes.new.dd.table c.args.next.now
    c.in_ok-list.list.items c.in_ok-list.ensures.changes
