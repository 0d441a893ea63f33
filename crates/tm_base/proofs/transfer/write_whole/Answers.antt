use Rattle.std.proofs.Common.{arith, ◌≤◌, ◌+◌, length}
use Rattle.std.proofs.KnownBytes.{Appends-kept}
use Rattle.std.proofs.lemmas.Grind.{common_steps}
use Rattle.tm_base.proofs.Transfers.{Appends-next}
use Rattle.tm_base.proofs.transfer.write_whole.Goals as goal
use Rattle.tm_base.proofs.transfer.write_whole.Goals.{in-Ok, in-Err}

pub loop-preserved : goal.loop-preserved
loop-preserved g c =
    let before = c.loop.invariant in
    let all = c.args.bytes.now in
    elim c.match-write.branch [
      | in-Ok w ↦
          let wrote = w.in-Ok.ensures in
          let within : c.loop.done + w.in-Ok.n ≤ length all =
          grind (arith, common_steps, wrote.bound, before.within) in
          let appended = Appends-next _ _ _ all c.loop.done w.in-Ok.n before.appended wrote.bytes in
          rw w.done-is (record { within = within; appended = appended })
      | in-Err w ↦
          let appended = Appends-kept _ _ _ _ before.appended w.in-Err.ensures.bytes in
          rw w.done-is (record { within = before.within; appended = appended })
    ]
