use Rattle.std.proofs.Common.{ℕ, List, [], ◌∷◌, take, sym, ◌∙◌, subst}
use Rattle.std.specs.Prelude.{slice_index_or}
use Rattle.std.proofs.lemmas.List.{take_more}
use Rattle.tm_abs.proofs.Marking.{marked_then}
use Rattle.tm_abs.specs.Inner.Marks.{AreMarked}
use Rattle.tm_abs.proofs.marks.mark_levels.Goals as goal

pub loop-level-preserved : goal.loop-level-preserved
loop-level-preserved c =
    let before = c.loop-level.invariant in
    let one = c.in_ok-mark_level.ensures in
    let index = c.loop-level.level-index in
    record {
      count = one.count ∙ before.count;
      marked =
          subst (λ (xs : List ℕ). AreMarked c.args.allowed.now xs c.args.marks.now.items c.args.listed.now.items
          c.mark_level.new.marks.items c.mark_level.new.listed.items)
          (sym (take_more c.args.levels.now index 0 c.loop-level-test.true))
          (marked_then c.args.allowed.now (take index c.args.levels.now)
          (slice_index_or c.args.levels.now index 0 ∷ []) c.args.marks.now.items c.loop-level.marks.items
          c.mark_level.new.marks.items c.args.listed.now.items c.loop-level.listed.items
          c.mark_level.new.listed.items before.marked one.marked);
    }
