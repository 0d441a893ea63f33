-- What the file of a specification tells, from what was read of its text.
use Rattle.std.proofs.Common.{◌≡◌, ℕ, ◌≤◌, Bool, Option, Some, List, length, sym, subst}
use Rattle.std.specs.Prelude.{IsTrue}
use Rattle.tm_syntax.specs.declared.fault.Faulty.{Faulty as Fault}
use Rattle.tm_syntax.specs.declared.fault.FrontError.{FrontError}
use Rattle.tm_syntax.specs.declared.fault.FrontError.TheVariants as front
use Rattle.tm_syntax.specs.declared.token.Token.{Token}
use Rattle.tm_syntax.specs.Limits.{specification_limit}
use Rattle.tm_syntax.specs.Design.{DesignTree}
use Rattle.tm_syntax.specs.Faults.{FaultOf, IsOfText}
use Rattle.tm_report.specs.declared.ending.Ending.TheVariants.{Faulty}
use Rattle.tm_commands.specs.declared.stop.Stop.{Stop}
use Rattle.tm_commands.specs.World.{FilesData}
use Rattle.tm_commands.specs.Headline.{long_fault}
use Rattle.tm_inst.specs.Specification.{IsDesignText, IsMemoryOr}
use Rattle.tm_commands.specs.Inputs.{TellsSpecification, NoSpecification, faulty_spec, RefusesSpecification}
use Rattle.tm_commands.specs.Inputs.{refuses_specification}
use Rattle.tm_commands.specs.Inner.Reading.{IsRead, refusal_of}
use Rattle.tm_commands.specs.Inner.Stopping.{StopsBy, IsReadFailure, IsRefusal}
use Rattle.tm_commands.proofs.Texts.{not_long}
use Rattle.tm_play.specs.Playable.{IsPlayable}
use Rattle.tm_play.proofs.Playable.{playable_text}

module _ (old new : FilesData) (spec text read : List ℕ) (told : IsTrue old.tells → old.contents spec ≡ Some text)
    (short : length text ≤ specification_limit) (same : read ≡ text) where
  same_fault : (f g : Fault) → Faulty f ≡ Faulty g → f ≡ g
  same_fault f g is = cc

  -- the file has a fault
  fault_refuses : (f : Fault) → FaultOf read f →
      IsRefusal (NoSpecification old.contents spec) RefusesSpecification old new (Faulty f)
  fault_refuses f has =
      let here : FaultOf text f = subst (λ (t : List ℕ). FaultOf t f) same has in
      record {
        cause = λ tells. faulty_spec (record { text = text; told = told tells; fault = here });
        named = refuses_specification;
        long = record {
          specification = λ is. absurd (not_long text f short here (same_fault f long_fault is));
          file = λ name is. cc;
        };
      }

  -- the file is not read
  pub text_refuses : (e : FrontError) (stop : Stop) → IsMemoryOr (FaultOf read) e → stop ≡ refusal_of e →
      StopsBy (IsRefusal (NoSpecification old.contents spec) RefusesSpecification old new)
      (IsReadFailure spec old new) stop
  text_refuses (front.Faulty f) stop has is =
      subst (StopsBy (IsRefusal (NoSpecification old.contents spec) RefusesSpecification old new)
      (IsReadFailure spec old new)) (sym is) (fault_refuses f has)
  text_refuses front.Memory stop has is =
      subst (StopsBy (IsRefusal (NoSpecification old.contents spec) RefusesSpecification old new)
      (IsReadFailure spec old new)) (sym is) tt

  -- the file is read
  pub text_is_read : (tokens : List Token) (d : DesignTree) → IsDesignText read tokens d →
      IsRead old.tells old.contents spec d
  text_is_read tokens d is = record {
    text = text;
    tokens = tokens;
    told = told;
    is = subst (λ (t : List ℕ). IsDesignText t tokens d) same is;
  }

-- what was read is what the file tells
pub specified : {tells : Bool} {contents : List ℕ → Option (List ℕ)} {spec : List ℕ} {d : DesignTree} →
    IsRead tells contents spec d → IsTrue tells → TellsSpecification contents spec d
specified read told = record { text = read.text; tokens = read.tokens; told = read.told told; is = read.is }

-- and the tree of a text
pub text_of : {tells : Bool} {contents : List ℕ → Option (List ℕ)} {spec : List ℕ} {d : DesignTree} →
    IsRead tells contents spec d → IsOfText d.spec
text_of read = record {
  text = read.text;
  tokens = read.tokens;
  are_tokens = read.is.are_tokens;
  is_tree = read.is.is_tree;
}

-- so it can be played
pub playable : {tells : Bool} {contents : List ℕ → Option (List ℕ)} {spec : List ℕ} {d : DesignTree} →
    IsRead tells contents spec d → IsPlayable d
playable {d = d} read = playable_text read.text read.tokens d read.is.are_tokens read.is.is_tree read.is.sound
