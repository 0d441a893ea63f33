use Rattle.std.proofs.Common.{◌<◌, ℕ, List, sym, subst}
use Rattle.std.specs.Prelude.{All}
use Rattle.tm_cert.specs.declared.cert.Entry.{Entry}
use Rattle.tm_cert.specs.Nodes.{ids_of}
use Rattle.tm_reorder.specs.declared.raising.Sets.{Sets}
use Rattle.tm_reorder.specs.Inner.Raised.{AreRaised, entries_of}
use Rattle.tm_reorder.proofs.Branches.{raised_below, raised_then}
use Rattle.tm_reorder.proofs.raising.all_raised.Goals as goal
use Rattle.tm_reorder.proofs.raising.all_raised.Goals.{then-rank-lowest+then-is_read+in_ok-sets, else-rank-lowest}

pub raised-requires-clause-ids : goal.raised-requires-clause-ids
raised-requires-clause-ids c =
    let before = c.loop-rank.sets in
    let entries = entries_of before.raised c.args.entries.now in
    subst (λ (es : List Entry). All (λ (id : ℕ). id < ids_of es) c.deref.result.now)
    (sym c.entries-then-is_read.ensures)
    (subst (All (λ (id : ℕ). id < ids_of entries)) (sym c.deref.ensures.value)
    (raised_below c.args.entries.now entries c.args.ids.now before.ids.items c.loop-rank.invariant))

pub loop-rank-preserved : goal.loop-rank-preserved
loop-rank-preserved c =
    let given = c.args.entries.now in
    let before = c.loop-rank.sets in
    elim c.if-rank-lowest.branch [
      | then-rank-lowest+then-is_read+in_ok-sets w ↦
          let new = w.in_ok-sets.sets in
          subst (λ (s : Sets). AreRaised given c.args.ids.now (entries_of s.raised given) s.ids.items) (sym w.sets-is)
          (raised_then given (entries_of before.raised given) (entries_of new.raised given) c.args.ids.now
          before.ids.items new.ids.items c.loop-rank.invariant
          (subst (λ (es : List Entry). AreRaised es before.ids.items (entries_of new.raised given) new.ids.items)
          w.entries-then-is_read.ensures
          (subst
          (λ (ids : List ℕ).
          AreRaised w.entries-then-is_read.result.now ids (entries_of new.raised given) new.ids.items)
          w.deref.ensures.value (w.in_ok-sets.ensures given))))
      | else-rank-lowest w ↦
          subst (λ (s : Sets). AreRaised given c.args.ids.now (entries_of s.raised given) s.ids.items) (sym w.sets-is)
          c.loop-rank.invariant
    ]
