-- One call after another: what blocks are chosen from and the meaning of known ids stay.
use Rattle.std.proofs.Common.{◌≡◌, ℕ, refl, ap, ◌∙◌, subst}
use Rattle.tm_dd.specs.declared.node.NodeId.{NodeId}
use Rattle.tm_solve.specs.Sets.{StateSet}
use Rattle.tm_solve.specs.Ids.{Ids, Is, Extends}
use Rattle.tm_solve.proofs.Following.{extends_then}
use Rattle.tm_strat_drafts.specs.Growth.{at_goal, Follows, Setting}
use Rattle.tm_strat_drafts.specs.Moves.{Game, turned}

pub extends_here : (ids : Ids) → Extends ids ids
extends_here ids = record {
  known = λ id known. known;
  same = λ id known. refl;
  kept = λ id kept. (kept, refl);
  of = λ d is. is;
  side = refl;
}

pub follows_here : (s : Setting) → Follows s s
follows_here s = record { grows = λ base grown. grown; game = refl; extends = extends_here s.ids }

pub follows_then : {a b c : Setting} → Follows a b → Follows b c → Follows a c
follows_then f e = record {
  grows = λ base grown. e.grows base (f.grows base grown);
  game = e.game ∙ f.game;
  extends = extends_then f.extends e.extends;
}

-- one goal after another
pub turned_then : (a : Setting) {b c : Setting} (i j : ℕ) → Follows (at_goal i a) b → Follows (at_goal j b) c →
    Follows (at_goal j a) c
turned_then a i j f e = record {
  grows = λ base grown. e.grows base (f.grows base grown);
  game = e.game ∙ ap (λ (g : Game). turned g j) f.game;
  extends = extends_then f.extends e.extends;
}

-- what is said at the game that stays
pub is_at : {g h : Game} {ids : Ids} {id : NodeId} {set : StateSet} → h ≡ g → Is h.states ids id set →
    Is g.states ids id set
is_at {ids = ids} {id = id} {set = set} e i = subst (λ (q : Game). Is q.states ids id set) e i
