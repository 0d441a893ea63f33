-- A new game.
use Rattle.std.proofs.Common.{◌&&◌, List, sym, ◌∙◌, subst}
use Rattle.tm_dd.specs.declared.node.NodeId.{NodeId}
use Rattle.tm_dd.specs.Reduced.{Extends}
use Rattle.tm_dd.specs.Table.{Table, Knows, means}
use Rattle.tm_dd.proofs.CallerLaws.{Extends-trans}
use Rattle.tm_ddops.specs.Manager.{IsFunction}
use Rattle.tm_flat.specs.Flat.{FlatTerms}
use Rattle.tm_game_bits.specs.Diagrams.{IsSetOf}
use Rattle.tm_game_bits.specs.Functions.{Assignment, Function}
use Rattle.tm_game_bits.proofs.Extended.{Knows-Extends, means-Extends}
use Rattle.tm_game_bits.proofs.Sets.{both_true}
use Rattle.tm_game.specs.Kept.{AreKept}
use Rattle.tm_game.proofs.Extending.{sets_kept}
use Rattle.tm_game_steps.specs.Sets.{AreSets, IsAlwaysOneIn, IsOneIn}
use Rattle.tm_game_steps.specs.Setting.{Setting}
use Rattle.tm_term.specs.declared.term.TermId.{TermId}

-- sets of valid states that were made earlier
sets_later : (s t u : Table) (P : Function → TermId → Assignment → Type 0) (valid : NodeId) (ids : List TermId)
    (nodes : List NodeId) → Extends s t → Extends t u → Knows s valid → AreSets t (P (means s valid)) ids nodes →
    AreSets u (P (means u valid)) ids nodes
sets_later s t u P valid ids nodes first second known are =
    subst (λ (v : Function). AreSets u (P v) ids nodes)
    (sym (means-Extends s u (Extends-trans s t u first second) valid known))
    (sets_kept t u second (P (means s valid)) ids nodes are)

-- all ids that a game keeps
pub kept_is : (x : Setting) (f : FlatTerms) (s t u v w : Table) (valid picked : NodeId) (goals fairs : List NodeId)
    (initial turn : NodeId) → Extends s t → Extends t u → Extends u v → Extends v w → Knows s valid → Knows s picked →
    IsFunction t turn (λ a. means t valid a && means t picked a) →
    AreSets u (IsOneIn x (means t valid)) f.goals goals → AreSets v (IsAlwaysOneIn x (means u valid)) f.fairs fairs →
    IsSetOf w (IsOneIn x (means v valid) f.initial) initial → AreKept x f w valid picked goals fairs initial turn
kept_is x f s t u v w valid picked goals fairs initial turn one two three four known other both goals_are fairs_are
    initial_is = record {
      goals_are = sets_later t u w (IsOneIn x) valid f.goals goals two last (Knows-Extends s t one valid known)
          goals_are;
      fairs_are = sets_later u v w (IsAlwaysOneIn x) valid f.fairs fairs three four (Knows-Extends t u two valid at_t)
          fairs_are;
      initial_is = subst (λ (g : Function). IsSetOf w (IsOneIn x g f.initial) initial)
          (sym (means-Extends v w four valid (Knows-Extends u v three valid (Knows-Extends t u two valid at_t))))
          initial_is;
      turn_is = record {
        known = Knows-Extends t w later turn both.known;
        only = λ a h.
            let parts = both_true (means t valid a) (means t picked a)
            (sym (both.meaning a) ∙ sym (later.same_meaning turn both.known a) ∙ h) in (
              later.same_meaning valid at_t a ∙ parts.0,
              later.same_meaning picked (Knows-Extends s t one picked other) a ∙ parts.1,
            );
        all = λ a h.
            let first = sym (later.same_meaning valid at_t a) ∙ h.0 in
            let second = sym (later.same_meaning picked (Knows-Extends s t one picked other) a) ∙ h.1 in
            later.same_meaning turn both.known a ∙ both.meaning a ∙ (λ i. first i && second i);
      };
    }
  where
    at_t : Knows t valid
    at_t = Knows-Extends s t one valid known

    last : Extends u w
    last = Extends-trans u v w three four

    later : Extends t w
    later = Extends-trans t u w two last
