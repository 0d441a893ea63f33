-- Ids that read the levels of a state alone: the constants, and what operations make of two of them.
use Rattle.std.proofs.Common.{◌≡◌, Bool, false, length, sym, ap, ◌∙◌, arith}
use Rattle.tm_game_bits.specs.AssignedStates.{assignment_of}
use Rattle.tm_dd.specs.declared.node.NodeId.{NodeId}
use Rattle.tm_dd.specs.declared.node.TheConstants.{FALSE, TRUE}
use Rattle.tm_dd.specs.Table.{means}
use Rattle.tm_dd.proofs.CallerLaws.{means-FALSE, means-TRUE}
use Rattle.tm_ddops.specs.Manager.{IsFunction}
use Rattle.tm_game_bits.specs.Functions.{Assignment}
use Rattle.tm_game_bits.specs.States.{ReadsState}
use Rattle.tm_game.specs.Game.{GameData, Grows, IsSet}
use Rattle.tm_game.specs.Least.{test_of}
use Rattle.tm_game.proofs.Growing.{set_kept}
use Rattle.tm_syntax.specs.Design.{DesignTree}

-- an id that means a function of the state alone is a set
pub function_set : (g : GameData) (id : NodeId) (f : Assignment → Bool) → IsFunction g.diagrams.table id f →
    ReadsState (length g.order) f → IsSet g id
function_set g id f is reads = record {
  known = is.known;
  reads = λ v w same. is.meaning v ∙ reads v w same ∙ sym (is.meaning w);
}

-- ---- constants
pub false_set : (g : GameData) → IsSet g FALSE
false_set g = record {
  known = omega arith;
  reads = λ v w same. means-FALSE g.diagrams.table v ∙ sym (means-FALSE g.diagrams.table w);
}

pub true_set : (g : GameData) → IsSet g TRUE
true_set g = record {
  known = omega arith;
  reads = λ v w same. means-TRUE g.diagrams.table v ∙ sym (means-TRUE g.diagrams.table w);
}

-- the empty set holds at no state
pub false_test : (d : DesignTree) (g : GameData) → test_of d g FALSE ≡ (λ s. false)
false_test d g = λ i s. means-FALSE g.diagrams.table (assignment_of d g.order s) i

-- ---- two sets, joined in a game that has grown
pub pair_made : (g h : GameData) → Grows g h → (op : Bool → Bool → Bool) (a b id : NodeId) → IsSet g a → IsSet g b →
    IsFunction h.diagrams.table id (λ v. op (means h.diagrams.table a v) (means h.diagrams.table b v)) → IsSet h id
pair_made g h grows op a b id is_a is_b is =
    let in_a = set_kept g h grows a is_a in
    let in_b = set_kept g h grows b is_b in
    function_set h id (λ v. op (means h.diagrams.table a v) (means h.diagrams.table b v)) is
    (λ v w same.
    ap (λ (x : Bool). op x (means h.diagrams.table b v)) (in_a.reads v w same)
    ∙ ap (λ (y : Bool). op (means h.diagrams.table a w) y) (in_b.reads v w same))
