use Rattle.std.proofs.Common.{sym, ap, ◌∙◌, subst}
use Rattle.std.specs.Prelude.{Contains}
use Rattle.tm_dd.specs.declared.node.NodeId.{NodeId}
use Rattle.tm_dd.specs.Table.{Knows}
use Rattle.tm_flat.specs.Flat.{flat_terms}
use Rattle.tm_game_bits.specs.Diagrams.{game_of}
use Rattle.tm_game.specs.Copied.{IsCopied}
use Rattle.tm_game.specs.Game.{GameData, IsOf}
use Rattle.tm_game.specs.Layout.{IsGame, game_data}
use Rattle.tm_game.proofs.Copying.{after, copied_of, copied_so, game_copied, kept_known, on_error, unchanged}
use Rattle.tm_game.proofs.game.Game.copy_roots.Goals as goal
use Rattle.tm_game_steps.specs.Setting.{setting_of}
use Rattle.tm_syntax.specs.Design.{DesignTree}

pub copied-requires-clause-roots : goal.copied-requires-clause-roots
copied-requires-clause-roots c =
    subst (λ (g : GameData). (f : NodeId) → Contains c.args.roots.now f → Knows g.diagrams.table f)
    (sym c.self.view_is) c.requires.known

pub copied-requires-clause-game : goal.copied-requires-clause-game
copied-requires-clause-game c = c.self.invariant.steps.known

pub copied-requires-clause-kept : goal.copied-requires-clause-kept
copied-requires-clause-kept c =
    kept_known c.self.inside.dd.table (setting_of c.self.inside.encoding) (flat_terms c.self.inside.flat)
    c.self.inside.made.steps.valid c.self.inside.made.steps.turn c.self.inside.kept c.self.invariant.kept

pub invariant_of-self : goal.invariant_of-self
invariant_of-self c =
    subst IsGame
    (sym (unchanged c.self.inside c.copied.new.dd c.copied.new.steps c.copied.new.kept c.in_err-copied.ensures.refused
    c.in_err-copied.ensures.refused_game c.in_err-copied.ensures.refused_kept)) c.self.invariant

pub returns-in_err-copied-clause-refused : goal.returns-in_err-copied-clause-refused
returns-in_err-copied-clause-refused c =
    on_error c.from_residual.result _
    (ap game_data (unchanged c.self.inside c.copied.new.dd c.copied.new.steps c.copied.new.kept
    c.in_err-copied.ensures.refused c.in_err-copied.ensures.refused_game c.in_err-copied.ensures.refused_kept)
    ∙ c.self.view_is)

pub invariant_of-self-2 : goal.invariant_of-self-2
invariant_of-self-2 c =
    game_copied c.self.inside c.self.invariant c.copied.new.dd c.copied.new.steps c.copied.new.kept _
    c.copied.ensures.levels c.copied.ensures.ranks c.in_ok-copied.ensures.game c.in_ok-copied.ensures.kept _
    c.new.ensures
    (c.new-self-inside.ensures c.copied.new.dd.table (game_of c.copied.new.dd.table c.copied.new.steps))

pub returns-clause-game : goal.returns-clause-game
returns-clause-game c =
    subst (λ (g : GameData). IsCopied g (game_data (after c.self.inside c.self.invariant c.copied.new.dd
    c.copied.new.steps c.copied.new.kept c.new-self-inside.result c.copied.ensures.levels c.copied.ensures.ranks
    c.in_ok-copied.ensures.game
    c.in_ok-copied.ensures.kept c.new.result c.new.ensures))) c.self.view_is
    (copied_so c.self.inside c.self.invariant c.copied.new.dd c.copied.new.steps c.copied.new.kept
    c.new-self-inside.result
    c.copied.ensures.levels c.copied.ensures.ranks c.in_ok-copied.ensures.game c.in_ok-copied.ensures.kept
    c.new.result c.new.ensures)

pub returns-clause-of : goal.returns-clause-of
returns-clause-of c =
    subst (λ (g : GameData). (d : DesignTree) → IsOf d g → IsOf d (game_data (after c.self.inside c.self.invariant
    c.copied.new.dd c.copied.new.steps c.copied.new.kept c.new-self-inside.result c.copied.ensures.levels
    c.copied.ensures.ranks
    c.in_ok-copied.ensures.game c.in_ok-copied.ensures.kept c.new.result c.new.ensures))) c.self.view_is
    (copied_of c.self.inside c.self.invariant c.copied.new.dd c.copied.new.steps c.copied.new.kept
    c.new-self-inside.result
    c.copied.ensures.levels c.copied.ensures.ranks c.in_ok-copied.ensures.game c.in_ok-copied.ensures.kept
    c.new.result c.new.ensures)
