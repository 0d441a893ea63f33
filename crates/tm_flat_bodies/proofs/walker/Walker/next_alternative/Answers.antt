use Rattle.std.proofs.Common.{refl, ap, ◌∙◌}
use Rattle.std.specs.Option.{option_copied}
use Rattle.tm_syntax.specs.Tree.{row_of}
use Rattle.tm_syntax.specs.Tree.View.{stmt_trees}
use Rattle.tm_locations.proofs.TableCallees.{item-read}
use Rattle.tm_flat_bodies.specs.Inner.Places.{stack}
use Rattle.tm_flat_bodies.specs.Tables.{known_by}
use Rattle.tm_flat_bodies.proofs.Choices.{alternative_steps, alternative_walks_here, block_got, others_end}
use Rattle.tm_flat_bodies.proofs.walker.Walker.next_alternative.Goals as goal

pub returns-in_default : goal.returns-in_default
returns-in_default c =
    others_end (known_by c.args.self.now) c.args.start.now c.args.spot c.args.choice c.args.index c.args.blocks
    c.args.course.now c.args.joined c.requires
    (item-read c.args.blocks.now c.args.blocks.now c.args.index c.get.result refl c.get.ensures.lookup
    ∙ ap option_copied c.in_default.is) (stack c.args.waiting.now)

pub alternative-requires-clause-sound : goal.alternative-requires-clause-sound
alternative-requires-clause-sound c = c.requires.so_far.standing.sound

pub alternative-requires-clause-guard : goal.alternative-requires-clause-guard
alternative-requires-clause-guard c = c.requires.so_far.standing.stands.guard

pub alternative-requires-clause-width : goal.alternative-requires-clause-width
alternative-requires-clause-width c = c.requires.so_far.enters.is_width

pub alternative-requires-clause-within : goal.alternative-requires-clause-within
alternative-requires-clause-within c =
    (alternative_walks_here (known_by c.args.self.now) c.args.start.now c.args.spot c.args.choice c.args.index
    c.args.blocks c.args.course.now c.args.joined c.requires _
    (block_got c.args.blocks.now c.args.index c.in-Some.block.now
    (item-read c.args.blocks.now c.args.blocks.now c.args.index c.get.result refl c.get.ensures.lookup
    ∙ ap option_copied c.in-Some.is))).within

pub alternative-requires-clause-term : goal.alternative-requires-clause-term
alternative-requires-clause-term c =
    (alternative_walks_here (known_by c.args.self.now) c.args.start.now c.args.spot c.args.choice c.args.index
    c.args.blocks c.args.course.now c.args.joined c.requires _
    (block_got c.args.blocks.now c.args.index c.in-Some.block.now
    (item-read c.args.blocks.now c.args.blocks.now c.args.index c.get.result refl c.get.ensures.lookup
    ∙ ap option_copied c.in-Some.is))).term

pub returns : goal.returns
returns c =
    alternative_steps (known_by c.args.self.now) c.args.start.now c.args.spot c.args.choice c.args.index c.args.blocks
    c.args.course.now c.args.joined c.requires _
    (block_got c.args.blocks.now c.args.index c.in-Some.block.now
    (item-read c.args.blocks.now c.args.blocks.now c.args.index c.get.result refl c.get.ensures.lookup
    ∙ ap option_copied c.in-Some.is)) _ (ap (λ ss. row_of (stmt_trees ss)) c.as_slice.ensures.value)
    c.alternative.new.course c.in_ok-here.here c.in_ok-here.ensures (stack c.args.waiting.now) _ _ _
    c.in_ok-leave.ensures c.in_ok-leave-2.ensures c.in_ok-leave-3.ensures
