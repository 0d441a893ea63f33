-- A predicate is read, in a game that has grown.
use Rattle.std.proofs.Common.{◌≡◌, ℕ, ◌+◌, ◌<◌, Bool, false, List, [], ◌∷◌, ◌++◌, Some, length, set, sym, ap, ◌∙◌, subst}
use Rattle.std.specs.Prelude.{slice_get}
use Rattle.tm_abs.proofs.Predicates.{term_known, told}
use Rattle.tm_abs.proofs.Tracking.{tracked_atom, tracked_bit}
use Rattle.tm_abs.specs.declared.atoms.Atom.{Atom}
use Rattle.tm_abs.specs.Inner.Atoms.{AreTracked}
use Rattle.tm_abs.specs.Inner.Reading.{IsPoolFunction, IsPredicate, Tells, bit_at}
use Rattle.tm_abs.specs.Tracked.{IsPooled, tracked_of}
use Rattle.tm_blast.specs.Bits.{input_values}
use Rattle.tm_dd.specs.declared.node.NodeId.{NodeId}
use Rattle.tm_dd.specs.Table.{Table, means}
use Rattle.tm_flat.specs.Flat.{FlatTerms}
use Rattle.tm_flat_pool.specs.Predicates.{Predicate, pool}
use Rattle.tm_game.specs.Game.{GameData, Grows}
use Rattle.tm_game_bits.specs.Functions.{Function}
use Rattle.tm_game_bits.specs.Inputs.{input_levels}
use Rattle.tm_game_bits.specs.States.{ReadsState}
use Rattle.tm_sem.specs.StateBits.{state_widths}
use Rattle.tm_syntax.specs.Design.{DesignTree}
use Rattle.tm_term.specs.Value.{value_of}

module _ (d : DesignTree) (first g : GameData) (pooled : IsPooled d first) (grows : Grows first g) where
  -- terms mean what they meant
  pub function_first : (k : ℕ) (f : Function) → IsPoolFunction d g k f → IsPoolFunction d first k f
  function_first k f is = (
    is.0,
    at,
    λ v.
        sym (grows.terms.values (input_values (input_levels first.order (state_widths d)) v) is.0
        (term_known d first pooled k is.0 at))
        ∙ ap (λ (o : List ℕ). value_of g.terms (input_values (input_levels o (state_widths d)) v) is.0)
        (sym grows.order)
        ∙ is.2 v,
  )
    where
      at : slice_get first.flat.pool k ≡ Some is.0
      at = ap (λ (f : FlatTerms). slice_get f.pool k) (sym grows.flat) ∙ is.1

  pub predicate_first : (s : Table) (k : ℕ) (id : NodeId) → IsPredicate d g s k id → IsPredicate d first s k id
  predicate_first s k id is = record {
    known = is.known;
    function = function_first k (means s id) is.function;
    inputs = subst (λ (o : List ℕ). ReadsState (length o + 128) (means s id)) grows.order is.inputs;
    tells = λ p at. subst (λ (o : List ℕ). Tells d o (means s id) p) grows.order (is.tells p at);
  }

module _ (d : DesignTree) (g : GameData) (pooled : IsPooled d g) (before : List Predicate) (free : List Bool)
    (atoms : List Atom) (tracked : AreTracked d g g.diagrams.table before free atoms) (k : ℕ) (id : NodeId)
    (predicate : IsPredicate d g g.diagrams.table k id) where
  its : (p : Predicate) × (slice_get (pool d) k ≡ Some p)
  its = let of = told d g pooled k predicate.function.0 predicate.function.1 in (of.0, of.1)

  -- as a bit
  pub read_bit : (level : ℕ) → level < length free → means g.diagrams.table id ≡ bit_at level →
      AreTracked d g g.diagrams.table (before ++ tracked_of d (k ∷ [])) (set free level false) atoms
  read_bit level below same =
      tracked_bit d g g.diagrams.table before free atoms tracked k its.0 its.1 id predicate level below same

  -- as an atom
  pub read_atom : (a : Atom) → a.holds ≡ id → a.level + 1 + k ≡ g.diagrams.table.levels →
      AreTracked d g g.diagrams.table (before ++ tracked_of d (k ∷ [])) free (atoms ++ a ∷ [])
  read_atom a holds level =
      tracked_atom d g g.diagrams.table before free atoms tracked k its.0 its.1 id predicate a holds (
        k,
        level,
        subst (λ (x : NodeId). IsPoolFunction d g k (means g.diagrams.table x)) (sym holds) predicate.function,
      )
