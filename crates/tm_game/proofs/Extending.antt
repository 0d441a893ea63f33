-- A game whose diagrams are extended.
use Rattle.std.proofs.Common.{◌≡◌, true, List, length, refl, sym, subst, arith}
use Rattle.tm_dd.specs.declared.node.NodeId.{NodeId}
use Rattle.tm_dd.specs.Reduced.{Extends}
use Rattle.tm_dd.specs.Table.{Table, Knows, means}
use Rattle.tm_dd.proofs.CallerLaws.{RanksRise-Extends}
use Rattle.tm_ddops.specs.Manager.{Diagrams}
use Rattle.tm_flat.specs.Flat.{FlatTerms, flat_terms}
use Rattle.tm_game_bits.specs.declared.recent.Recent.{Recent}
use Rattle.tm_game_bits.specs.Diagrams.{IsSetOf, game_of}
use Rattle.tm_game_bits.specs.Functions.{Assignment, Function, GameFunctions}
use Rattle.tm_game_bits.specs.Recent.{AreAnswers}
use Rattle.tm_game_bits.proofs.Extended.{AreAnswers-Extends, IsSetOf-Extends, KnowsGame-Extends, game_of-Extends, means-Extends}
use Rattle.tm_game.specs.declared.game.Game.TheInside.{Inside}
use Rattle.tm_game.specs.Game.{GameData, Grows}
use Rattle.tm_game.specs.Kept.{AreKept}
use Rattle.tm_game.specs.Layout.{IsGame, game_data}
use Rattle.tm_game_steps.specs.declared.making.MadeGame.{MadeGame}
use Rattle.tm_game_steps.specs.Made.{IsMadeGame}
use Rattle.tm_game_steps.specs.Sets.{AreSets, IsAlwaysOneIn, IsOneIn}
use Rattle.tm_game_steps.specs.Setting.{Setting, setting_of}
use Rattle.tm_game_steps.specs.Telling.{TellsGame}
use Rattle.tm_game_steps.proofs.Ready.{ready_kept}
use Rattle.tm_term.specs.declared.term.TermId.{TermId}
use Rattle.tm_term.specs.Value as terms

pub terms-same : (t : Rattle.tm_term.specs.Table.Table) → terms.Extends t t
terms-same t = record {
  inputs = refl;
  known = λ id k. k;
  terms = λ id k. refl;
  widths = λ id k. refl;
  values = λ values id k. refl;
}

module _ (s t : Table) (e : Extends s t) where
  pub made_kept : (x : Setting) (f : FlatTerms) (g : MadeGame) → IsMadeGame x f s g → IsMadeGame x f t g
  made_kept x f g is = record {
    known = KnowsGame-Extends s t e g.steps is.known;
    tells = subst (λ (fs : GameFunctions). TellsGame x f fs g.movers.items)
        (sym (game_of-Extends s t e g.steps is.known)) is.tells;
  }

  pub sets_kept : (IsSuch : TermId → Assignment → Type 0) (ids : List TermId) (nodes : List NodeId) →
      AreSets s IsSuch ids nodes → AreSets t IsSuch ids nodes
  sets_kept IsSuch ids nodes are = record {
    long = are.long;
    each = λ i d f below. IsSetOf-Extends s t e (IsSuch _) _ (are.each i d f below);
  }

  pub kept_kept : (x : Setting) (f : FlatTerms) (valid picked : NodeId) (goals fairs : List NodeId)
      (initial turn : NodeId) → Knows s valid → Knows s picked → AreKept x f s valid picked goals fairs initial turn →
      AreKept x f t valid picked goals fairs initial turn
  kept_kept x f valid picked goals fairs initial turn known other is =
      let same = sym (means-Extends s t e valid known) in
      let also = sym (means-Extends s t e picked other) in
      record {
        goals_are = sets_kept (IsOneIn x (means t valid)) f.goals goals
            (subst (λ (v : Function). AreSets s (IsOneIn x v) f.goals goals) same is.goals_are);
        fairs_are = sets_kept (IsAlwaysOneIn x (means t valid)) f.fairs fairs
            (subst (λ (v : Function). AreSets s (IsAlwaysOneIn x v) f.fairs fairs) same is.fairs_are);
        initial_is = subst (λ (v : Function). IsSetOf t (IsOneIn x v f.initial) initial) same
            (IsSetOf-Extends s t e (IsOneIn x (means s valid) f.initial) initial is.initial_is);
        turn_is = subst (λ (v : Function). IsSetOf t (λ w. (v w ≡ true) × (means t picked w ≡ true)) turn) same
            (subst (λ (v : Function). IsSetOf t (λ w. (means s valid w ≡ true) × (v w ≡ true)) turn) also
            (IsSetOf-Extends s t e (λ w. (means s valid w ≡ true) × (means s picked w ≡ true)) turn is.turn_is));
      }

-- a game stays one when diagrams are added, with answers that are right
pub extended : (a : Inside) (dd : Diagrams) (recent : Recent) → IsGame a → Extends a.dd.table dd.table →
    AreAnswers dd.table (game_of dd.table a.made.steps) recent → IsGame (record a { dd = dd; recent = recent })
extended a dd recent is e answers = record {
  shape = is.shape;
  terms = is.terms;
  levels = omega (arith, is.levels, e.same_levels);
  rises = RanksRise-Extends a.dd.table dd.table e (length a.order.items) is.rises;
  ready = ready_kept (setting_of a.encoding) a.dd.table dd.table a.bits e is.ready;
  steps = made_kept a.dd.table dd.table e (setting_of a.encoding) (flat_terms a.flat) a.made is.steps;
  answers = answers;
  kept = kept_kept a.dd.table dd.table e (setting_of a.encoding) (flat_terms a.flat) a.made.steps.valid
      a.made.steps.turn a.kept.goals.items a.kept.fairs.items a.kept.initial a.kept.turn is.steps.known.valid
      is.steps.known.turn is.kept;
}

-- with the answers that it had
pub extended_only : (a : Inside) (dd : Diagrams) → IsGame a → Extends a.dd.table dd.table →
    IsGame (record a { dd = dd })
extended_only a dd is e =
    extended a dd a.recent is e
    (AreAnswers-Extends a.dd.table dd.table e a.made.steps a.recent is.steps.known is.answers)

-- what is seen of it grows
pub grows_so : (a : Inside) (dd : Diagrams) (recent : Recent) → Extends a.dd.table dd.table →
    Grows (game_data a) (game_data (record a { dd = dd; recent = recent }))
grows_so a dd recent e = record {
  flat = refl;
  terms = terms-same a.encoding.terms;
  order = refl;
  diagrams = e;
  goals = refl;
  fairs = refl;
  initial = refl;
  valid = refl;
  turn = refl;
}

-- what contracts see of a game as other data grows with its diagrams
pub grows_from : (a : Inside) (g : GameData) → game_data a ≡ g → (dd : Diagrams) (recent : Recent) →
    Extends a.dd.table dd.table → Grows g (game_data (record a { dd = dd; recent = recent }))
grows_from a g same dd recent e =
    subst (λ (h : GameData). Grows h (game_data (record a { dd = dd; recent = recent }))) same (grows_so a dd recent e)
