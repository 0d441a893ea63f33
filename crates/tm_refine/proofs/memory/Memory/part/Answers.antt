use Rattle.std.proofs.Common.{refl, sym, ◌∙◌}
use Rattle.std.proofs.Math.Logic.{∥∥₁_elim}
use Rattle.tm_refine.proofs.Memories.{is_prop, memory_kept, memory_unchanged, noted_kept, recalled}
use Rattle.tm_refine.proofs.PoolKeeps.{keeps_none}
use Rattle.tm_refine.proofs.memory.Memory.part.Goals as goal

pub returns-in-Some-clause-value : goal.returns-in-Some-clause-value
returns-in-Some-clause-value c = λ ks upper over.
    let g = c.args.game.now in
    ∥∥₁_elim c.requires.remembers (is_prop g g _ c.in-Some.known)
    (λ are.
    recalled g c.args.self.now ks upper c.args.set c.in-Some.known
    (sym (c.copied.ensures ∙ c.get.ensures.value) ∙ c.in-Some.is) over are)

pub returns-in-Some-clause-kept : goal.returns-in-Some-clause-kept
returns-in-Some-clause-kept c = keeps_none c.args.game.now c.requires.can c.tell.ensures

pub returns-in_err-part-clause-remembers : goal.returns-in_err-part-clause-remembers
returns-in_err-part-clause-remembers c =
    memory_kept c.args.game.now c.part_anew.new.game c.part_anew.ensures.kept c.args.self.now c.requires.remembers

pub returns-in_err-insert-clause-remembers : goal.returns-in_err-insert-clause-remembers
returns-in_err-insert-clause-remembers c =
    memory_unchanged c.args.game.now c.part_anew.new.game c.part_anew.ensures.kept c.args.self.now (record {
      cells = c.args.self.now.cells;
      upper = c.args.self.now.upper;
      parts = c.insert.new.self;
    }) refl refl
    c.in_err-insert.ensures.err c.requires.remembers

pub returns-clause-remembers : goal.returns-clause-remembers
returns-clause-remembers c =
    noted_kept c.args.game.now c.part_anew.new.game c.part_anew.ensures.kept c.args.self.now (record {
      cells = c.args.self.now.cells;
      upper = c.args.self.now.upper;
      parts = c.insert.new.self;
    }) refl refl c.args.set
    c.in_ok-part.part c.requires.set c.in_ok-part.ensures.value c.in_ok-insert.ensures.updates c.requires.remembers
