-- What is told of the text of a specification.
use Rattle.std.proofs.Common.{◌≡◌, ℕ, ◌≤◌, ◌⊎◌, inl, inr, List, length, sym, subst}
use Rattle.tm_syntax.specs.declared.fault.Detail.TheVariants as detail
use Rattle.tm_syntax.specs.declared.fault.FaultKind.{FaultKind}
use Rattle.tm_syntax.specs.declared.fault.FaultKind.TheVariants as kind
use Rattle.tm_syntax.specs.declared.fault.Faulty.{Faulty as Fault}
use Rattle.tm_syntax.specs.declared.fault.FrontError.{FrontError}
use Rattle.tm_syntax.specs.declared.fault.FrontError.TheVariants.{Faulty, Memory}
use Rattle.tm_syntax.specs.declared.token.Token.{Token}
use Rattle.tm_syntax.specs.Limits.{specification_limit}
use Rattle.tm_syntax.specs.Tokens.{AreTokens}
use Rattle.tm_syntax.specs.Tree.{SpecTree}
use Rattle.tm_syntax.specs.Grammar.Faults.{IsTree, HasSyntaxFault, HasDepthFault}
use Rattle.tm_syntax.specs.Faults.Marks.{marked}
use Rattle.tm_syntax.specs.Faults.{fault, FaultOf, byte, syntax_, deep, of_tree, HasTreeFault}
use Rattle.tm_lex.specs.Answer.{IsByteFaultOf}
use Rattle.tm_parse.specs.Answer.{syntax_fault, depth_fault, IsFaultOf}
use Rattle.tm_inst.specs.Specification.{IsMemoryOr}

-- a fault is its kind, its place and its detail
fault_is : (f : Fault) (k : FaultKind) → f.kind ≡ k → f.detail ≡ detail.Nothing → fault k (marked f.place) ≡ f
fault_is f k of silent = λ i. record { kind = sym of i; place = f.place; detail = sym silent i }

-- a text that is not cut into tokens
pub byte_told : (text : List ℕ) (e : FrontError) → length text ≤ specification_limit → IsByteFaultOf text e →
    IsMemoryOr (FaultOf text) e
byte_told text (Faulty f) short is = subst (FaultOf text) (fault_is f kind.Byte is.0 is.2) (byte short is.1)
byte_told text Memory short is = tt

same_fault : (f : Fault) (k : FaultKind) → Faulty f ≡ Faulty (fault k (marked f.place)) → fault k (marked f.place) ≡ f
same_fault f k same = cc

module _ (text : List ℕ) (tokens : List Token) (short : length text ≤ specification_limit)
    (are : AreTokens text tokens) where
  -- tokens that are no tree
  grammar_fault : (f : Fault) →
      ((Faulty f ≡ syntax_fault f.place) × HasSyntaxFault text tokens f.place)
      ⊎ ((Faulty f ≡ depth_fault f.place) × HasDepthFault text tokens f.place) → FaultOf text f
  grammar_fault f (inl is) = subst (FaultOf text) (same_fault f kind.Syntax is.0) (syntax_ short are is.1)
  grammar_fault f (inr is) = subst (FaultOf text) (same_fault f kind.Deep is.0) (deep short are is.1)

  pub grammar_told : (e : FrontError) → IsFaultOf text tokens e → IsMemoryOr (FaultOf text) e
  grammar_told (Faulty f) is = grammar_fault f is
  grammar_told Memory is = tt

  -- a tree with a fault
  pub tree_told : (spec : SpecTree) (e : FrontError) → IsTree text tokens spec → IsMemoryOr (HasTreeFault spec) e →
      IsMemoryOr (FaultOf text) e
  tree_told spec (Faulty f) is has = of_tree short are is has
  tree_told spec Memory is has = tt
