use Rattle.std.proofs.Common.{ℕ, List, get_or, map, refl, sym, ap, ◌∙◌, subst, arith}
use Rattle.std.proofs.lemmas.List.{get_or-map, length-map}
use Rattle.tm_check.specs.Arguments.{AreArguments, IsArgument}
use Rattle.tm_check.proofs.Growth.{reads_kept}
use Rattle.tm_check.proofs.Placing.{AreRead, read_all, read_more, read_never, read_none}
use Rattle.tm_check.proofs.arguments.read_arguments.Goals as goal
use Rattle.tm_cir.specs.declared.block.Num64.{Num64}
use Rattle.tm_cir.specs.Fit.{FitsNum}
use Rattle.tm_cir.specs.View.{num_tree}
use Rattle.tm_dd.specs.declared.node.NodeId.{NodeId}
use Rattle.tm_dd.specs.declared.node.TheConstants.{FALSE, TRUE}
use Rattle.tm_game.proofs.Growing.{grows_none, grows_then}

pub returns-then-widths-nums-clause-are : goal.returns-then-widths-nums-clause-are
returns-then-widths-nums-clause-are c = λ d is.
    subst (λ (bits : List NodeId). AreArguments d c.args.game.now.order c.args.game.now.diagrams.table
    c.args.reading.goal c.args.widths.now (map num_tree c.args.nums.now) FALSE bits) (sym c.new-bits.ensures.items)
    (read_never d c.args.game.now.order c.args.game.now.diagrams.table c.args.reading.goal c.args.widths.now
    (map num_tree c.args.nums.now)
    (λ same. c.if-widths-nums.true (same ∙ length-map c.args.nums.now num_tree)))

pub loop-index-init : goal.loop-index-init
loop-index-init c = record {
  grows = grows_none c.args.game.now;
  read = λ d is.
      subst (λ (bits : List NodeId). AreRead d c.args.game.now.order c.args.game.now.diagrams.table c.args.reading.goal
      c.args.widths.now (map num_tree c.args.nums.now) 0 TRUE bits) (sym c.new-bits.ensures.items)
      (read_none d c.args.game.now.order c.args.game.now.diagrams.table c.args.reading.goal c.args.widths.now
      (map num_tree c.args.nums.now));
}

pub put_argument-requires-clause-reads : goal.put_argument-requires-clause-reads
put_argument-requires-clause-reads c = (
  c.requires.reads.0,
  reads_kept c.requires.reads.0 c.args.game.now c.loop-index.game c.args.reading c.loop-index.invariant.grows
      c.requires.reads.1,
)

pub put_argument-requires-clause-fits : goal.put_argument-requires-clause-fits
put_argument-requires-clause-fits c =
    subst (λ (n : Num64). FitsNum c.args.reading.vars c.args.reading.processes (num_tree n))
    (sym c.index-nums-index.is) (c.requires.fits c.loop-index.index c.index-nums-index.result (omega arith))

pub put_argument-requires-clause-known : goal.put_argument-requires-clause-known
put_argument-requires-clause-known c = (c.loop-index.invariant.read c.requires.reads.0 c.requires.reads.1).fit_known

pub returns-in_err-fit-clause-grows : goal.returns-in_err-fit-clause-grows
returns-in_err-fit-clause-grows c =
    grows_then c.args.game.now c.loop-index.game c.put_argument.new.game c.loop-index.invariant.grows
    c.put_argument.ensures.grows

pub loop-index-preserved : goal.loop-index-preserved
loop-index-preserved c = record {
  grows = grows_then c.args.game.now c.loop-index.game c.put_argument.new.game c.loop-index.invariant.grows
      c.put_argument.ensures.grows;
  read = λ d is.
      read_more d c.args.game.now.order c.loop-index.game.diagrams.table c.put_argument.new.game.diagrams.table
      c.args.reading.goal c.args.widths.now (map num_tree c.args.nums.now) c.loop-index.index
      (get_or c.args.widths.now c.loop-index.index 0) (num_tree c.index-nums-index.result) c.loop-index.fit
      c.in_ok-fit.fit
      c.loop-index.bits.items c.put_argument.new.bits.items c.put_argument.ensures.grows.diagrams
      (c.loop-index.invariant.read d is) (omega (arith, c.if-widths-nums.false))
      (omega (arith, length-map c.args.nums.now num_tree)) refl
      (ap num_tree c.index-nums-index.is
      ∙ sym (get_or-map num_tree c.args.nums.now c.loop-index.index c.index-nums-index.result
      (num_tree c.index-nums-index.result) (omega arith)))
      (subst (λ (order : List ℕ). IsArgument d order c.loop-index.game.diagrams.table
      c.put_argument.new.game.diagrams.table c.args.reading.goal (num_tree c.index-nums-index.result)
      (get_or c.args.widths.now c.loop-index.index 0) c.loop-index.fit c.in_ok-fit.fit c.loop-index.bits.items
      c.put_argument.new.bits.items) c.loop-index.invariant.grows.order
      (c.in_ok-fit.ensures.put d
      (reads_kept d c.args.game.now c.loop-index.game c.args.reading c.loop-index.invariant.grows is)));
}

pub returns-clause-are : goal.returns-clause-are
returns-clause-are c = λ d is.
    read_all d c.args.game.now.order c.loop-index.game.diagrams.table c.args.reading.goal c.args.widths.now
    (map num_tree c.args.nums.now) c.loop-index.index c.loop-index.fit c.loop-index.bits.items
    (c.if-widths-nums.false ∙ sym (length-map c.args.nums.now num_tree))
    (omega (arith, length-map c.args.nums.now num_tree)) (c.loop-index.invariant.read d is)
