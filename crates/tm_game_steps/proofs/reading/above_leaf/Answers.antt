use Rattle.std.proofs.Common.{◌≡◌, ◌<◌, [], length, rules, sym, ◌∙◌, subst, arith}
use Rattle.std.specs.Prelude.{All}
use Rattle.tm_blast.specs.Numbers.{level_lists}
use Rattle.tm_blast.proofs.PartNumbers.{levels_at}
use Rattle.tm_game_steps.proofs.Pushed.{length-level_lists}
use Rattle.tm_game_steps.proofs.Readings.{input_below}
use Rattle.tm_game_steps.proofs.reading.above_leaf.Goals as goal
use Rattle.tm_term.specs.declared.term.Parts.TheVariants as parts
use Rattle.tm_term.specs.Parts.{parts_of}
use Rattle.tm_term.specs.Table.{FitsBelow}

pub unreachable-requires : goal.unreachable-requires
unreachable-requires c =
    let none : parts_of c.term.result ≡ parts.None = c.requires.leaf c.term.result c.term.ensures.term in
    search rules

pub returns-in-Input : goal.returns-in-Input
returns-in-Input c =
    let fits = subst (FitsBelow c.args.terms.now c.args.id.0) c.in-Input.is c.term.ensures.parts in
    let within : c.in-Input.input < length c.args.levels.now = omega (arith, fits, c.requires.inputs) in
    let within_lists : c.in-Input.input < length (level_lists c.args.levels.now) =
    omega (arith, within, length-level_lists c.args.levels.now) in
    let is = levels_at c.args.levels.now c.in-Input.input c.index-levels-input.result [] within
    c.index-levels-input.is in
    input_below c.args.terms.now (level_lists c.args.levels.now) c.args.id c.term.result c.term.ensures.value
    c.in-Input.input c.above_levels.result c.in-Input.is within_lists
    (subst (All (λ level. level < c.above_levels.result)) (c.deref.ensures.value ∙ sym is) c.above_levels.ensures)
