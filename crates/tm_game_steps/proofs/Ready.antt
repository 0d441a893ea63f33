-- Diagrams that are made one behind the other, and truths of terms.
use Rattle.std.proofs.Common.{◌≡◌, ℕ, Bool, true, false, ◌&&◌, List, Vec, refl, sym, ap, ◌∙◌, subst}
use Rattle.std.specs.declared.alloc.Global.{Global}
use Rattle.tm_base.specs.Arithmetic.{bit}
use Rattle.tm_blast.specs.Bits.{AreLevels}
use Rattle.tm_blast.specs.Memory.{Made, AreMade}
use Rattle.tm_blast.specs.Numbers.{level_lists}
use Rattle.tm_blast.proofs.CallerLaws.{AreLevels-extended, AreMade-extended}
use Rattle.tm_game_steps.specs.Changes.{AreApart, AreChanges, IsTruthOf}
use Rattle.tm_dd.specs.declared.node.NodeId.{NodeId}
use Rattle.tm_dd.specs.Reduced.{Extends}
use Rattle.tm_dd.specs.Table.{Table, means}
use Rattle.tm_ddops.specs.Manager.{IsFunction}
use Rattle.tm_game_bits.proofs.Sets.{both_true}
use Rattle.tm_game_steps.specs.declared.encoding.Encoding.{Encoding}
use Rattle.tm_game_steps.specs.Setting.{IsGuarded, IsReady, IsTruthIn, Setting, setting_of, values_at}
use Rattle.tm_term.specs.declared.term.TermId.{TermId}
use Rattle.tm_term.specs.Value.{value_of}

-- with other bits that were made
pub ready_with : (x : Setting) (s u : Table) (made now : Made) → Extends s u → IsReady x s made →
    AreMade x.terms x.levels u now → IsReady x u now
ready_with x s u made now e is bits = record {
  levels = AreLevels-extended x.terms x.levels s u e is.levels;
  apart = is.apart;
  few = is.few;
  words = is.words;
  within = is.within;
  bits = bits;
}

-- with diagrams that were added
pub ready_kept : (x : Setting) (s u : Table) (made : Made) → Extends s u → IsReady x s made → IsReady x u made
ready_kept x s u made e is =
    ready_with x s u made made e is (AreMade-extended x.terms x.levels s u made e is.bits)

module _ (e : Encoding) (levels : List (Vec ℕ Global)) (same : levels ≡ e.levels.items) where
  lists : level_lists levels ≡ level_lists e.levels.items
  lists = ap level_lists same

  pub levels_there : (s : Table) (made : Made) → IsReady (setting_of e) s made →
      AreLevels e.terms s.levels (level_lists levels)
  levels_there s made is = subst (AreLevels e.terms s.levels) (sym lists) is.levels

  pub apart_there : (s : Table) (made : Made) → IsReady (setting_of e) s made → AreApart (level_lists levels)
  apart_there s made is = subst AreApart (sym lists) is.apart

  pub made_there : (s : Table) (made : Made) → IsReady (setting_of e) s made →
      AreMade e.terms (level_lists levels) s made
  made_there s made is =
      subst (λ (ls : List (List ℕ)). AreMade e.terms ls s made) (sym lists) is.bits

  pub ready_then : (s u : Table) (made now : Made) → Extends s u → IsReady (setting_of e) s made →
      AreMade e.terms (level_lists levels) u now → IsReady (setting_of e) u now
  ready_then s u made now extends is bits =
      ready_with (setting_of e) s u made now extends is
      (subst (λ (ls : List (List ℕ)). AreMade e.terms ls u now) lists bits)

  pub truth_there : (s : Table) (id : TermId) (node : NodeId) → IsTruthOf e.terms (level_lists levels) s id node →
      IsTruthIn (setting_of e) s id node
  truth_there s id node is = subst (λ (ls : List (List ℕ)). IsTruthOf e.terms ls s id node) lists is

  pub changes_there : (s : Table) (next : List TermId) (list : List (ℕ × NodeId)) →
      AreChanges e.terms (level_lists levels) s next list →
      AreChanges e.terms (level_lists e.levels.items) s next list
  changes_there s next list is = subst (λ (ls : List (List ℕ)). AreChanges e.terms ls s next list) lists is

-- ---- guards
pub same_bit : (a b : Bool) → bit a ≡ bit b → b ≡ true → a ≡ true
same_bit true b is one = refl
same_bit false true is one = absurd (cc)
same_bit false false is one = one

-- a truth where a guard holds
pub guarded_is : (x : Setting) (s t u : Table) (guard id : TermId) (holds node both : NodeId) (test : List ℕ → Bool) →
    Extends s t → Extends t u → IsTruthIn x s guard holds → IsTruthIn x t id node →
    IsFunction u both (λ v. means u holds v && means u node v) →
    ((values : List ℕ) → value_of x.terms values guard ≡ bit (test values)) → IsGuarded x u test id both
guarded_is x s t u guard id holds node both test first second one other is tests = record {
  known = is.known;
  only = λ v h.
      let two = both_true (means u holds v) (means u node v) (sym (is.meaning v) ∙ h) in
      same_bit (test (values_at x v)) (means u holds v)
      (sym (tests (values_at x v)) ∙ one.value v ∙ ap bit (sym (guard_same v))) two.0;
  inside = λ v h.
      let here : means u holds v ≡ true =
      same_bit (means u holds v) (test (values_at x v))
      (ap bit (guard_same v) ∙ sym (one.value v) ∙ tests (values_at x v)) h in
      let all : means u both v ≡ means t node v =
      is.meaning v ∙ (λ i. here i && means u node v) ∙ second.same_meaning node other.known v in
      other.value v ∙ ap bit (sym all);
}
  where
    guard_same : (v : ℕ → Bool) → means u holds v ≡ means s holds v
    guard_same v =
        second.same_meaning holds (Rattle.tm_game_bits.proofs.Extended.Knows-Extends s t first holds one.known) v
        ∙ first.same_meaning holds one.known v

-- a truth with no guard
pub guarded_always : (x : Setting) (s : Table) (id : TermId) (node : NodeId) → IsTruthIn x s id node →
    IsGuarded x s (λ values. true) id node
guarded_always x s id node is = record { known = is.known; only = λ v h. refl; inside = λ v h. is.value v }
