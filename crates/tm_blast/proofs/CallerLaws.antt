-- What a caller cites of bits that were made, when diagrams or terms are added between two calls.
pub use Rattle.tm_blast.proofs.Filling.{AreMade-extended, AreLevels-extended, AreBits-extended, none_made}
use Rattle.std.proofs.Common.{ℕ, List, length, ap, ◌∙◌, sym}
use Rattle.std.specs.Prelude.{reverse, slice_index}
use Rattle.tm_dd.specs.declared.node.NodeId.{NodeId}
use Rattle.tm_dd.specs.Table.{Table}
use Rattle.tm_term.specs.declared.term.TermId.{TermId}
use Rattle.tm_term.specs.Table.{Table as Terms, IsKnown}
use Rattle.tm_term.specs.Value.{Extends}
use Rattle.tm_blast.specs.Bits.{AreBits, AreLevels, input_values}
use Rattle.tm_blast.specs.Memory.{Made, AreMade}

-- the bits of a known term are its bits when terms are added
pub AreBits-more_terms : (t u : Terms) (levels : List (List ℕ)) (s : Table) (id : TermId) (ids : List NodeId)
    → Extends t u → IsKnown t id → AreBits t levels s id ids → AreBits u levels s id ids
AreBits-more_terms t u levels s id ids extends known are = record {
  known = are.known;
  width = are.width ∙ sym (extends.widths id known);
  value = λ v. are.value v ∙ sym (extends.values (input_values levels v) id known);
}

-- what was made stays right when terms are added
pub AreMade-more_terms : (t u : Terms) (levels : List (List ℕ)) (s : Table) (made : Made) → Extends t u
    → AreMade t levels s made → AreMade u levels s made
AreMade-more_terms t u levels s made extends are id ids is =
    let was = are id ids is in
    (extends.known id was.0, AreBits-more_terms t u levels s id (reverse ids) extends was.0 was.1)

-- the levels of the inputs stay right when terms are added
pub AreLevels-more_terms : (t u : Terms) (count : ℕ) (levels : List (List ℕ)) → Extends t u → AreLevels t count levels
    → AreLevels u count levels
AreLevels-more_terms t u count levels extends are =
    let same = sym extends.inputs in
    record {
      inputs = are.inputs ∙ ap (λ inputs. length inputs) same;
      widths = λ i d h. are.widths i d h ∙ ap (λ inputs. slice_index inputs i) same;
      below = are.below;
    }
