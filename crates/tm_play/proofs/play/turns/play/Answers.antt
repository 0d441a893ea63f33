use Rattle.std.proofs.Common.{◌≡◌, ◌+◌, ◌++◌, None, Some, [], sym, ap, ◌∙◌, arith, rules, append_assoc, length}
use Rattle.std.proofs.lemmas.List.{append-nil}
use Rattle.tm_syntax.specs.Design.View.{design_tree}
use Rattle.tm_cir.specs.View.{trees_of}
use Rattle.tm_play.specs.Report.{state_line}
use Rattle.tm_play.specs.Played.{nothing, part, begins_badly}
use Rattle.tm_play.proofs.Playing.{none_begins, begun, begun_position, led_on, led_nowhere, led_stuck, played_all}
use Rattle.tm_play.proofs.Putting.{on_err, cut_nothing, cut_whole, cut_more}
use Rattle.tm_play.proofs.play.turns.play.Goals as goal

pub returns-in_err-position-clause-cut : goal.returns-in_err-position-clause-cut
returns-in_err-position-clause-cut g c =
    on_err c.from_residual.result ([], nothing, λ told. cut_nothing (g.O.Sink.written c.args.out.now))

pub returns-in_default-clause-halted : goal.returns-in_default-clause-halted
returns-in_default-clause-halted g c =
    let start : c.deref.result.now ≡ c.args.script.now.start = search rules in (
      [],
      begins_badly (none_begins (design_tree c.args.machine.now) c.deref.result.now c.args.script.now.start
          c.in_ok-position.field-0 c.in_ok-position.ensures (cc) start),
      λ told. sym (append-nil (g.O.Sink.written c.args.out.now)),
    )

pub returns-in_err-put_position-clause-cut : goal.returns-in_err-put_position-clause-cut
returns-in_err-put_position-clause-cut g c =
    let start : c.deref.result.now ≡ c.args.script.now.start = search rules in
    on_err c.from_residual-in_err-put_position.result (
      state_line (design_tree c.args.machine.now) 0 None c.in-Some.position.state c.in-Some.position.goal,
      part (begun (design_tree c.args.machine.now) (trees_of c.args.blocks.now) c.args.script.now c.deref.result.now
          c.in_ok-position.field-0 c.in-Some.position c.in_ok-position.ensures c.in-Some.is start),
      c.in_err-put_position.ensures.err,
    )

pub returns-in_err-action-clause-cut : goal.returns-in_err-action-clause-cut
returns-in_err-action-clause-cut g c =
    on_err c.from_residual-in_err-action.result (
      c.loop-index.invariant.text,
      part c.loop-index.invariant.reaches,
      λ told. cut_whole (g.O.Sink.written c.args.out.now) (g.O.Sink.written c.loop-index.out)
          c.loop-index.invariant.text (c.loop-index.invariant.written told),
    )

pub returns-in_err-put_position-in-To-clause-cut : goal.returns-in_err-put_position-in-To-clause-cut
returns-in_err-put_position-in-To-clause-cut g c =
    let turns : c.deref-turn-items.result.now ≡ c.args.script.now.turns = search rules in
    let next = led_on (design_tree c.args.machine.now) (trees_of c.args.blocks.now) c.args.script.now c.loop-index.index
    c.loop-index.position c.loop-index.invariant.text
    c.deref-turn-items.result.now c.turn-item.result c.in_ok-action.field-0 c.in-To.action c.in-To.next
    c.loop-index.invariant.reaches turns (omega arith) c.turn-item.is c.in_ok-action.ensures c.in-To.is in
    on_err c.from_residual-in_err-put_position-in-To.result (
      c.loop-index.invariant.text
          ++ state_line (design_tree c.args.machine.now) (c.loop-index.index + 1) (Some c.in-To.action)
          c.in-To.next.state c.in-To.next.goal,
      part next.0,
      λ told. cut_more (g.O.Sink.written c.args.out.now) (g.O.Sink.written c.loop-index.out)
          (g.O.Sink.written c.put_position-in-To.new.out) c.loop-index.invariant.text
          (state_line (design_tree c.args.machine.now) (c.loop-index.index + 1) (Some c.in-To.action) c.in-To.next.state
          c.in-To.next.goal)
          (c.loop-index.invariant.written told) (c.in_err-put_position-in-To.ensures.err told),
    )

pub returns-in-Stop-clause-halted : goal.returns-in-Stop-clause-halted
returns-in-Stop-clause-halted g c =
    let turns : c.deref-turn-items.result.now ≡ c.args.script.now.turns = search rules in (
      c.loop-index.invariant.text,
      led_nowhere (design_tree c.args.machine.now) (trees_of c.args.blocks.now) c.args.script.now c.loop-index.index
          c.loop-index.position c.loop-index.invariant.text
          c.deref-turn-items.result.now c.turn-item.result c.in_ok-action.field-0 c.in-Stop.why
          c.loop-index.invariant.reaches turns (omega arith) c.turn-item.is c.in_ok-action.ensures c.in-Stop.is,
      c.loop-index.invariant.written,
    )

pub returns-in-Stuck-clause-halted : goal.returns-in-Stuck-clause-halted
returns-in-Stuck-clause-halted g c =
    let turns : c.deref-turn-items.result.now ≡ c.args.script.now.turns = search rules in (
      c.loop-index.invariant.text,
      led_stuck (design_tree c.args.machine.now) (trees_of c.args.blocks.now) c.args.script.now c.loop-index.index
          c.loop-index.position c.loop-index.invariant.text
          c.deref-turn-items.result.now c.turn-item.result c.in_ok-action.field-0 c.in-Stuck.action
          c.loop-index.invariant.reaches turns (omega arith) c.turn-item.is c.in_ok-action.ensures c.in-Stuck.is
          c.loop-index.invariant.valid,
      c.loop-index.invariant.written,
    )

pub loop-index-init : goal.loop-index-init
loop-index-init g c =
    let start : c.deref.result.now ≡ c.args.script.now.start = search rules in
    let at = begun_position (design_tree c.args.machine.now) c.deref.result.now c.in_ok-position.field-0
    c.in-Some.position c.in_ok-position.ensures c.in-Some.is in
    record {
      text = state_line (design_tree c.args.machine.now) 0 None c.in-Some.position.state c.in-Some.position.goal;
      reaches = begun (design_tree c.args.machine.now) (trees_of c.args.blocks.now) c.args.script.now
          c.deref.result.now c.in_ok-position.field-0 c.in-Some.position c.in_ok-position.ensures c.in-Some.is start;
      valid = at.state;
      below = at.below;
      written = c.in_ok-put_position.ensures.ok;
      faults = c.in_ok-put_position.ensures.no_fewer_faults;
    }

pub loop-index-preserved : goal.loop-index-preserved
loop-index-preserved g c =
    let turns : c.deref-turn-items.result.now ≡ c.args.script.now.turns = search rules in
    let next = led_on (design_tree c.args.machine.now) (trees_of c.args.blocks.now) c.args.script.now c.loop-index.index
    c.loop-index.position c.loop-index.invariant.text
    c.deref-turn-items.result.now c.turn-item.result c.in_ok-action.field-0 c.in-To.action c.in-To.next
    c.loop-index.invariant.reaches turns (omega arith) c.turn-item.is c.in_ok-action.ensures c.in-To.is in
    record {
      text = c.loop-index.invariant.text
          ++ state_line (design_tree c.args.machine.now) (c.loop-index.index + 1) (Some c.in-To.action)
          c.in-To.next.state c.in-To.next.goal;
      reaches = next.0;
      valid = next.1.state;
      below = next.1.below;
      written = λ told. c.in_ok-put_position-in-To.ensures.ok told
          ∙ ap (λ m. m ++ state_line (design_tree c.args.machine.now) (c.loop-index.index + 1) (Some c.in-To.action)
          c.in-To.next.state c.in-To.next.goal) (c.loop-index.invariant.written told)
          ∙ append_assoc (g.O.Sink.written c.args.out.now) c.loop-index.invariant.text
          (state_line (design_tree c.args.machine.now) (c.loop-index.index + 1) (Some c.in-To.action)
          c.in-To.next.state c.in-To.next.goal);
      faults = omega (arith, c.loop-index.invariant.faults, c.in_ok-put_position-in-To.ensures.no_fewer_faults);
    }

pub returns-clause-halted : goal.returns-clause-halted
returns-clause-halted g c =
    let turns : c.deref-turn-items.result.now ≡ c.args.script.now.turns = search rules in
    let counted : c.len.result ≡ length c.args.script.now.turns = search rules in (
      c.loop-index.invariant.text,
      played_all (design_tree c.args.machine.now) (trees_of c.args.blocks.now) c.args.script.now c.loop-index.index
          c.len.result c.loop-index.position c.loop-index.invariant.text
          c.loop-index.invariant.reaches (omega (arith, ap length turns, c.loop-index.auto.index-end)) counted,
      c.loop-index.invariant.written,
    )
