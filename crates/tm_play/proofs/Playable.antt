-- Which designs can be played.
use Rattle.std.proofs.Common.{◌<◌, ◌^◌, true, ℕ, List, [], ◌∷◌, length, sym, subst, arith}
use Rattle.tm_syntax.specs.declared.design.Item.{Item}
use Rattle.tm_syntax.specs.declared.token.Token.{Token}
use Rattle.tm_syntax.specs.Tokens.{AreTokens}
use Rattle.tm_syntax.specs.Tree.{NamedTree}
use Rattle.tm_syntax.specs.Grammar.Faults.{IsTree}
use Rattle.tm_syntax.specs.Design.{DesignTree, all_items, with_goal}
use Rattle.tm_syntax.specs.Faults.{IsSound}
use Rattle.tm_syntax.proofs.Limits as counts
use Rattle.tm_play.specs.Playable.{IsPlayable}

a_goal : (goals : List Item) → 0 < length (with_goal goals)
a_goal [] = omega arith
a_goal (g ∷ gs) = omega arith

module _ (d : DesignTree) (sound : IsSound d) where
  some_goal : 0 < length d.goals
  some_goal =
      subst (λ (goals : List Item). 0 < length goals) (sym sound.numbered.goals)
      (a_goal (all_items (λ t. t.goals) (λ _. true) (λ (g : NamedTree). g.name) d.spec d.instances))

  few_goals : length d.goals < 2 ^ 32
  few_goals = let few = counts.few_goals d sound in omega arith

  few_processes : length d.processes < 2 ^ 32
  few_processes = let few = counts.few_processes d sound in omega arith

-- a sound design of a text can be played
pub playable_text : (text : List ℕ) (tokens : List Token) (d : DesignTree) → AreTokens text tokens →
    IsTree text tokens d.spec → IsSound d → IsPlayable d
playable_text text tokens d are_tokens is_tree sound = record {
  sound = sound;
  of_text = record { text = text; tokens = tokens; are_tokens = are_tokens; is_tree = is_tree };
  some_goal = some_goal d sound;
  few_goals = few_goals d sound;
  few_processes = few_processes d sound;
}
