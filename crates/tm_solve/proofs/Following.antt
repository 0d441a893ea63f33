-- One call after another: the game and the meaning of known ids stay.
use Rattle.std.proofs.Common.{IsTrue, true, false, ◌≡◌, ◌≢◌, ◌⊎◌, inl, inr, rules, sym, ◌∙◌, subst, List}
use Rattle.tm_dd.specs.declared.node.NodeId.{NodeId}
use Rattle.tm_sem.specs.State.{StateData}
use Rattle.tm_solve.specs.Sets.{StateSet, IsWithin, IsSame, Gains}
use Rattle.tm_solve.specs.Game.{Game}
use Rattle.tm_solve.specs.Ids.{Ids, Is, IsExact, Extends, Follows}
use Rattle.tm_solve.proofs.Sets.{gains_or_same}

pub extends_then : {a b c : Ids} → Extends a b → Extends b c → Extends a c
extends_then d e = record {
  known = λ id known. e.known id (d.known id known);
  same = λ id known. e.same id (d.known id known) ∙ d.same id known;
  kept = λ id is. let k = d.kept id is in let l = e.kept id k.0 in (l.0, l.1 ∙ k.1);
  of = λ design is. e.of design (d.of design is);
  side = e.side ∙ d.side;
}

pub follows_then : {g h k : Game} {a b c : Ids} → Follows g a h b → Follows h b k c → Follows g a k c
follows_then {c = c} f e = record {
  game = e.game ∙ f.game;
  extends = extends_then f.extends e.extends;
  exact = subst (λ (q : Game). IsExact q.states c) f.game e.exact;
}

-- an id that means a set still means it
pub is_kept : {n : List StateData} {a b : Ids} {id : NodeId} {set : StateSet} → Extends a b → Is n a id set →
    Is n b id set
is_kept {n = n} {a = a} {b = b} {id = id} {set = set} e i = record {
  known = e.known id i.known;
  means = subst (λ (m : StateSet). IsSame n m set) (sym (e.same id i.known)) i.means;
}

-- of known ids, other ids are other sets
pub other_gains : {n : List StateData} {ids : Ids} (a b : NodeId) → IsExact n ids → ids.knows a → ids.knows b → a ≢ b →
    IsWithin n (ids.means a) (ids.means b) → Gains n (ids.means a) (ids.means b)
other_gains {n = n} {ids = ids} a b exact ka kb differ w = at (gains_or_same n _ _ w)
  where
    at : Gains n (ids.means a) (ids.means b) ⊎ IsSame n (ids.means a) (ids.means b) →
        Gains n (ids.means a) (ids.means b)
    at (inl g) = g
    at (inr e) = absurd (differ (exact.equal a b ka kb e))

-- what is said at the game that stays
pub is_at : {g h : Game} {ids : Ids} {id : NodeId} {set : StateSet} → h ≡ g → Is h.states ids id set →
    Is g.states ids id set
is_at {ids = ids} {id = id} {set = set} e i = subst (λ (q : Game). Is q.states ids id set) e i

-- what the comparison of two ids says
pub told_same : {a b : NodeId} → (IsTrue true → a ≡ b) × (a ≡ b → IsTrue true) → a ≡ b
told_same h = h.0 (search rules)

pub told_other : {a b : NodeId} → (IsTrue false → a ≡ b) × (a ≡ b → IsTrue false) → a ≢ b
told_other h e = let no : IsTrue false = h.1 e in search rules
