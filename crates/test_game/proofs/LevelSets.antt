-- Sets of one level of a state.
use Rattle.std.proofs.Common.{ℕ, ◌<◌, Bool, ap, ◌∙◌, length, arith}
use Rattle.std.specs.Prelude.{if◌then◌else◌}
use Rattle.tm_dd.specs.declared.node.NodeId.{NodeId}
use Rattle.tm_dd.specs.Table.{means}
use Rattle.tm_ddops.specs.Manager.{IsFunction}
use Rattle.tm_game.specs.Game.{GameData, Grows, IsSet}
use Rattle.tm_game.proofs.Growing.{set_kept}
use Rattle.tm_game.proofs.MadeSets.{function_set}

-- ---- one level of a state
pub level_set : (g : GameData) (level : ℕ) (lo hi id : NodeId) → level < length g.order → IsSet g lo → IsSet g hi →
    IsFunction g.diagrams.table id
    (λ v. if v level then means g.diagrams.table hi v else means g.diagrams.table lo v) → IsSet g id
level_set g level lo hi id below is_lo is_hi is =
    function_set g id (λ v. if v level then means g.diagrams.table hi v else means g.diagrams.table lo v) is
    (λ v w same.
    ap (λ (b : Bool). if b then means g.diagrams.table hi v else means g.diagrams.table lo v) (same level below)
    ∙ ap (λ (b : Bool). if w level then b else means g.diagrams.table lo v) (is_hi.reads v w same)
    ∙ ap (λ (b : Bool). if w level then means g.diagrams.table hi w else b) (is_lo.reads v w same))

-- in a game that has grown, an id that chooses by one level between two sets of the old game is a set
pub level_made : (g h : GameData) → Grows g h → (level : ℕ) (lo hi id : NodeId) → level < length g.order →
    IsSet g lo → IsSet g hi → IsFunction h.diagrams.table id
    (λ v. if v level then means h.diagrams.table hi v else means h.diagrams.table lo v) → IsSet h id
level_made g h grows level lo hi id below is_lo is_hi is =
    level_set h level lo hi id (omega (arith, ap length grows.order, below)) (set_kept g h grows lo is_lo)
    (set_kept g h grows hi is_hi) is
