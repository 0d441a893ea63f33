-- The bits of terms over the levels of a game.
use Rattle.std.proofs.Common.{◌≡◌, ℕ, List, Vec, length, ap, ◌∙◌, subst, arith}
use Rattle.std.specs.declared.alloc.Global.{Global}
use Rattle.tm_game_bits.specs.Inputs.{input_levels}
use Rattle.tm_blast.specs.Bits.{AreBits}
use Rattle.tm_blast.specs.Memory.{Made, AreMade}
use Rattle.tm_blast.specs.Numbers.{level_lists}
use Rattle.tm_dd.specs.declared.node.NodeId.{NodeId}
use Rattle.tm_dd.specs.Reduced.{Extends}
use Rattle.tm_dd.specs.Table.{Table}
use Rattle.tm_dd.proofs.CallerLaws.{RanksRise-Extends}
use Rattle.tm_ddops.specs.Manager.{Diagrams}
use Rattle.tm_flat.specs.Flat.{flat_terms}
use Rattle.tm_game_bits.proofs.Extended.{AreAnswers-Extends}
use Rattle.tm_game.specs.declared.game.Game.TheInside.{Inside}
use Rattle.tm_game.specs.Game.{IsOf}
use Rattle.tm_game.specs.Layout.{IsGame, game_data}
use Rattle.tm_game.proofs.Extending.{kept_kept, made_kept}
use Rattle.tm_game.proofs.Shapes.{levels_are}
use Rattle.tm_game_steps.specs.Setting.{setting_of}
use Rattle.tm_game_steps.proofs.Ready.{ready_then}
use Rattle.tm_sem.specs.StateBits.{state_widths}
use Rattle.tm_syntax.specs.Design.{DesignTree}
use Rattle.tm_term.specs.declared.term.TermId.{TermId}

-- a game stays one when bits are made
pub bits_extended : (a : Inside) (made : Made) (dd : Diagrams) (levels : List (Vec ℕ Global)) →
    levels ≡ a.encoding.levels.items → IsGame a → Extends a.dd.table dd.table →
    AreMade a.encoding.terms (level_lists levels) dd.table made → IsGame (record a { bits = made; dd = dd })
bits_extended a made dd levels same is e are = record {
  shape = is.shape;
  terms = is.terms;
  levels = omega (arith, is.levels, e.same_levels);
  rises = RanksRise-Extends a.dd.table dd.table e (length a.order.items) is.rises;
  ready = ready_then a.encoding levels same a.dd.table dd.table a.bits made e is.ready are;
  steps = made_kept a.dd.table dd.table e (setting_of a.encoding) (flat_terms a.flat) a.made is.steps;
  answers = AreAnswers-Extends a.dd.table dd.table e a.made.steps a.recent is.steps.known is.answers;
  kept = kept_kept a.dd.table dd.table e (setting_of a.encoding) (flat_terms a.flat) a.made.steps.valid
      a.made.steps.turn a.kept.goals.items a.kept.fairs.items a.kept.initial a.kept.turn is.steps.known.valid
      is.steps.known.turn is.kept;
}

-- the levels are those of the inputs of each design of the game
pub bits_told : (a : Inside) → IsGame a → (d : DesignTree) → IsOf d (game_data a) → (levels : List (Vec ℕ Global)) →
    levels ≡ a.encoding.levels.items → (s : Table) (id : TermId) (ids : List NodeId) →
    AreBits a.encoding.terms (level_lists levels) s id ids →
    AreBits a.encoding.terms (input_levels a.order.items (state_widths d)) s id ids
bits_told a is d of levels same s id ids are =
    subst (λ (ls : List (List ℕ)). AreBits a.encoding.terms ls s id ids)
    (ap level_lists same ∙ levels_are (setting_of a.encoding) (flat_terms a.flat) a.order.items is.shape d of.flat) are
