use Rattle.std.proofs.Common.{◌-◌, ◌++◌, List, length, drop, ap, ◌∙◌, arith}
use Rattle.std.proofs.lemmas.List.{take_rest}
use Rattle.tm_check.proofs.Growth.{and_before, sized_kept}
use Rattle.tm_check.proofs.Valued.{argument_is, can_read_in}
use Rattle.tm_check.proofs.Worth.{term_kept}
use Rattle.tm_check.proofs.arguments.put_argument.Goals as goal
use Rattle.tm_cir.specs.View.{num_tree}
use Rattle.tm_dd.specs.declared.node.NodeId.{NodeId}
use Rattle.tm_game.proofs.Growing.{grows_then, known_kept, of_kept}

pub num-requires-clause-inputs : goal.num-requires-clause-inputs
num-requires-clause-inputs c = can_read_in c.requires.reads.0 c.args.game.now c.args.reading c.requires.reads.1

pub returns-clause-put : goal.returns-clause-put
returns-clause-put c = λ d is.
    argument_is d c.args.game.now c.num.new.game c.bits.new.self c.fitting.new.game c.and.new.self c.args.reading is
    c.num.ensures.grows c.bits.ensures.grows c.fitting.ensures.grows c.and.ensures.grows (num_tree c.args.num.now)
    c.args.width c.args.fit c.in_ok-fits.fits c.in_ok-both.both c.in_ok-argument.argument c.in_ok-all.all.items
    c.args.bits.now.items c.extend_from_slice.new.self.items c.requires.width c.requires.known
    c.in_ok-argument.ensures.worth
    (c.in_ok-all.ensures.bits d (of_kept c.args.game.now c.num.new.game c.num.ensures.grows d is.of))
    (c.in_ok-fits.ensures.fitting d
    (of_kept c.args.game.now c.bits.new.self
    (grows_then c.args.game.now c.num.new.game c.bits.new.self c.num.ensures.grows c.bits.ensures.grows) d is.of)
    (sized_kept c.args.game.now c.bits.new.self
    (grows_then c.args.game.now c.num.new.game c.bits.new.self c.num.ensures.grows c.bits.ensures.grows) is.sized))
    (and_before c.fitting.new.game.diagrams.table c.and.new.self.diagrams.table c.and.ensures.grows.diagrams c.args.fit
    c.in_ok-fits.fits c.in_ok-both.both
    (known_kept c.args.game.now c.fitting.new.game
    (grows_then c.args.game.now c.bits.new.self c.fitting.new.game
    (grows_then c.args.game.now c.num.new.game c.bits.new.self c.num.ensures.grows c.bits.ensures.grows)
    c.fitting.ensures.grows) c.args.fit c.requires.known)
    (c.in_ok-fits.ensures.fitting d
    (of_kept c.args.game.now c.bits.new.self
    (grows_then c.args.game.now c.num.new.game c.bits.new.self c.num.ensures.grows c.bits.ensures.grows) d is.of)
    (sized_kept c.args.game.now c.bits.new.self
    (grows_then c.args.game.now c.num.new.game c.bits.new.self c.num.ensures.grows c.bits.ensures.grows)
    is.sized)).known
    c.in_ok-both.ensures.answer)
    (c.in_ok-extend_from_slice.ensures.items
    ∙ ap (λ (xs : List NodeId). c.args.bits.now.items ++ xs)
    (take_rest c.deref.result.now (64 - c.args.width) ∙ ap (drop (64 - c.args.width)) c.deref.ensures.value))

pub returns-in_err-all-clause-grows : goal.returns-in_err-all-clause-grows
returns-in_err-all-clause-grows c =
    grows_then c.args.game.now c.num.new.game c.bits.new.self c.num.ensures.grows c.bits.ensures.grows

pub fitting-requires-clause-of : goal.fitting-requires-clause-of
fitting-requires-clause-of c = (
  c.requires.reads.0,
  of_kept c.args.game.now c.bits.new.self
      (grows_then c.args.game.now c.num.new.game c.bits.new.self c.num.ensures.grows c.bits.ensures.grows)
      c.requires.reads.0 c.requires.reads.1.of,
)

pub fitting-requires-clause-num : goal.fitting-requires-clause-num
fitting-requires-clause-num c =
    term_kept c.num.new.game.terms c.bits.new.self.terms c.bits.ensures.grows.terms 64 c.in_ok-argument.argument
    c.in_ok-argument.ensures.worth.term

pub returns-in_err-fits-clause-grows : goal.returns-in_err-fits-clause-grows
returns-in_err-fits-clause-grows c =
    grows_then c.args.game.now c.bits.new.self c.fitting.new.game
    (grows_then c.args.game.now c.num.new.game c.bits.new.self c.num.ensures.grows c.bits.ensures.grows)
    c.fitting.ensures.grows

pub and-requires-clause-g : goal.and-requires-clause-g
and-requires-clause-g c =
    let grown = grows_then c.args.game.now c.num.new.game c.bits.new.self c.num.ensures.grows c.bits.ensures.grows in
    (c.in_ok-fits.ensures.fitting c.requires.reads.0
    (of_kept c.args.game.now c.bits.new.self grown c.requires.reads.0 c.requires.reads.1.of)
    (sized_kept c.args.game.now c.bits.new.self grown c.requires.reads.1.sized)).known

pub returns-in_err-both-clause-grows : goal.returns-in_err-both-clause-grows
returns-in_err-both-clause-grows c =
    grows_then c.args.game.now c.fitting.new.game c.and.new.self
    (grows_then c.args.game.now c.bits.new.self c.fitting.new.game
    (grows_then c.args.game.now c.num.new.game c.bits.new.self c.num.ensures.grows c.bits.ensures.grows)
    c.fitting.ensures.grows)
    c.and.ensures.grows

pub returns-in_err-extend_from_slice-clause-grows : goal.returns-in_err-extend_from_slice-clause-grows
returns-in_err-extend_from_slice-clause-grows c =
    grows_then c.args.game.now c.fitting.new.game c.and.new.self
    (grows_then c.args.game.now c.bits.new.self c.fitting.new.game
    (grows_then c.args.game.now c.num.new.game c.bits.new.self c.num.ensures.grows c.bits.ensures.grows)
    c.fitting.ensures.grows)
    c.and.ensures.grows

pub returns-clause-grows : goal.returns-clause-grows
returns-clause-grows c =
    grows_then c.args.game.now c.fitting.new.game c.and.new.self
    (grows_then c.args.game.now c.bits.new.self c.fitting.new.game
    (grows_then c.args.game.now c.num.new.game c.bits.new.self c.num.ensures.grows c.bits.ensures.grows)
    c.fitting.ensures.grows)
    c.and.ensures.grows

pub slice_bounds-extend_from_slice-count : goal.slice_bounds-extend_from_slice-count
slice_bounds-extend_from_slice-count c =
    let are = c.in_ok-all.ensures.bits c.requires.reads.0
    (of_kept c.args.game.now c.num.new.game c.num.ensures.grows c.requires.reads.0 c.requires.reads.1.of) in
    omega (arith, ap length c.deref.ensures.value, are.width, c.in_ok-argument.ensures.worth.term.1)

pub slice_bounds-extend_from_slice-start : goal.slice_bounds-extend_from_slice-start
slice_bounds-extend_from_slice-start c =
    let are = c.in_ok-all.ensures.bits c.requires.reads.0
    (of_kept c.args.game.now c.num.new.game c.num.ensures.grows c.requires.reads.0 c.requires.reads.1.of) in
    omega (arith, ap length c.deref.ensures.value, are.width, c.in_ok-argument.ensures.worth.term.1)
