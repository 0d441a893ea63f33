-- The one bit of a truth.
use Rattle.std.proofs.Common.{◌≡◌, ℕ, Bool, true, false, List, [], ◌∷◌, length, get_or, sym, ◌∙◌, subst, arith}
use Rattle.tm_base.specs.Arithmetic.{bit}
use Rattle.tm_base.specs.Bits.{number_of}
use Rattle.tm_blast.specs.Bits.{AreBits}
use Rattle.tm_dd.specs.declared.node.NodeId.{NodeId}
use Rattle.tm_dd.specs.Table.{Table, means}
use Rattle.tm_term.specs.declared.term.TermId.{TermId}
use Rattle.tm_term.specs.Table.{Table as Terms, width_of}
use Rattle.tm_game_steps.specs.Changes.{IsTruthOf}

one_bit : (b : Bool) → number_of (b ∷ []) ≡ bit b
one_bit true = omega arith
one_bit false = omega arith

pub truth_is : (t : Terms) (levels : List (List ℕ)) (s : Table) (id : TermId) (ids : List NodeId) (x : NodeId) →
    AreBits t levels s id ids → width_of t id ≡ 1 → x ≡ get_or ids 0 x → IsTruthOf t levels s id x
truth_is t levels s id [] x are one is = absurd (omega (arith, are.width, one))
truth_is t levels s id (y ∷ []) x are one is =
    subst (λ (n : NodeId). IsTruthOf t levels s id n) (sym is) (record {
      known = are.known 0 y (omega arith);
      value = λ v. sym (are.value v) ∙ one_bit (means s y v);
    })
truth_is t levels s id (y ∷ z ∷ zs) x are one is = absurd (omega (arith, are.width, one))

pub has_bit : (t : Terms) (levels : List (List ℕ)) (s : Table) (id : TermId) (ids : List NodeId) →
    AreBits t levels s id ids → width_of t id ≡ 1 → length ids ≡ 1
has_bit t levels s id ids are one = are.width ∙ one
