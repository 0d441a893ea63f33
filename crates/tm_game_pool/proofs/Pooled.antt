-- A game keeps the pool of its design.
use Rattle.std.proofs.Common.{◌≡◌, sym, ap, ◌∙◌, subst}
use Rattle.std.specs.List.{AllZip}
use Rattle.tm_flat.specs.Flat.{FlatTerms}
use Rattle.tm_flat.specs.Inputs.{input_values}
use Rattle.tm_flat.proofs.Growth.{zip_weaker}
use Rattle.tm_flat_pool.specs.PoolTerms.{IsPredicateTerm}
use Rattle.tm_flat_pool.specs.Predicates.{Predicate, pool}
use Rattle.tm_game.specs.Copied.{IsCopied}
use Rattle.tm_game.specs.Game.{GameData, Grows}
use Rattle.tm_game_pool.specs.Pooled.{HasPool}
use Rattle.tm_syntax.specs.Design.{DesignTree}
use Rattle.tm_syntax.specs.Design.Atoms.{first_atoms}
use Rattle.tm_term.specs.declared.term.TermId.{TermId}
use Rattle.tm_term.specs.Table.{Table}
use Rattle.tm_term.specs.Value.{Extends}

module _ (d : DesignTree) where
  -- the term of a predicate stays one when terms are added
  predicate_kept : (t u : Table) → Extends t u → (p : Predicate) (id : TermId) → IsPredicateTerm t d p id →
      IsPredicateTerm u d p id
  predicate_kept t u e p id is = record {
    term = (e.known id is.term.0, e.widths id is.term.0 ∙ is.term.1);
    holds = λ s choices arguments valid these those.
        e.values (input_values s choices arguments) id is.term.0 ∙ is.holds s choices arguments valid these those;
  }

  -- a game of these guarded updates, whose terms are told so in another table
  pool_told : (t : Table) (f : FlatTerms) (g : GameData) → g.flat ≡ f →
      ((p : Predicate) (id : TermId) → IsPredicateTerm t d p id → IsPredicateTerm g.terms d p id) →
      AllZip (IsPredicateTerm t d) (pool d) f.pool → f.first ≡ first_atoms d → HasPool d g
  pool_told t f g same turns predicates first = record {
    predicates = subst (λ (h : FlatTerms). AllZip (IsPredicateTerm g.terms d) (pool d) h.pool) (sym same)
        (zip_weaker (IsPredicateTerm t d) (IsPredicateTerm g.terms d) turns (pool d) f.pool predicates);
    first = ap (λ (h : FlatTerms). h.first) same ∙ first;
  }

  -- a game of guarded updates has their pool
  pub pool_made : (t : Table) (f : FlatTerms) (g : GameData) → g.flat ≡ f → Extends t g.terms →
      AllZip (IsPredicateTerm t d) (pool d) f.pool → f.first ≡ first_atoms d → HasPool d g
  pool_made t f g same e predicates first = pool_told t f g same (predicate_kept t g.terms e) predicates first

  -- it keeps the pool as it grows, and when its diagrams are copied
  pub pool_grown : (g h : GameData) → Grows g h → HasPool d g → HasPool d h
  pool_grown g h grows has = pool_made g.terms g.flat h grows.flat grows.terms has.predicates has.first

  pub pool_copied : (g h : GameData) → IsCopied g h → HasPool d g → HasPool d h
  pool_copied g h copied has =
      pool_told g.terms g.flat h copied.flat
      (λ p id is. subst (λ (t : Table). IsPredicateTerm t d p id) (sym copied.terms) is) has.predicates has.first
