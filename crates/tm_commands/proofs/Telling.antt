-- What a file tells is one.
use Rattle.std.proofs.Common.{◌≡◌, ℕ, ◌<◌, ◌≤◌, Option, Some, List, length, sym, ap, subst, ◌∙◌, arith}
use Rattle.tm_base.specs.Files.{IsLonger}
use Rattle.tm_syntax.specs.declared.fault.Faulty.{Faulty as Fault}
use Rattle.tm_syntax.specs.Limits.{file_limit}
use Rattle.tm_syntax.specs.Design.{DesignTree}
use Rattle.tm_syntax.specs.Faults.{FaultOf}
use Rattle.tm_parse.proofs.OneFault.{faults_of_text_agree}
use Rattle.tm_inst.specs.Specification.{IsDesignText}
use Rattle.tm_report.specs.declared.ending.Ending.{Ending}
use Rattle.tm_report.specs.declared.ending.Ending.TheVariants.{Faulty}
use Rattle.tm_commands.specs.Inputs.{TellsSpecification, NoSpecification, faulty_spec}
use Rattle.tm_commands.proofs.Texts.{one_design, design_no_fault}

-- a text within the limit is not longer
pub not_longer : (told : Option (List ℕ)) (text : List ℕ) → told ≡ Some text → length text ≤ file_limit →
    IsLonger told file_limit → ⊥
not_longer told text is short long =
    let longer : file_limit < length text = subst (λ (t : Option (List ℕ)). IsLonger t file_limit) is long in
    omega arith

module _ (contents : List ℕ → Option (List ℕ)) where
  -- a file tells one text
  pub one_text : (name text other : List ℕ) → contents name ≡ Some text → contents name ≡ Some other → other ≡ text
  one_text name text other p q = let same : Some other ≡ Some text = sym q ∙ p in cc

  -- a file tells one design
  pub told_specification : (spec : List ℕ) (d e : DesignTree) → TellsSpecification contents spec d →
      TellsSpecification contents spec e → d ≡ e
  told_specification spec d e p q =
      one_design p.text p.tokens q.tokens d e p.is
      (subst (λ (t : List ℕ). IsDesignText t q.tokens e) (one_text spec p.text q.text p.told q.told) q.is)

  -- a file that tells a design has no fault
  pub specification_read : (spec : List ℕ) (d : DesignTree) (ending : Ending) → TellsSpecification contents spec d →
      NoSpecification contents spec ending → ⊥
  specification_read spec d ending q (faulty_spec {f = f} p) =
      design_no_fault p.text q.tokens d f
      (subst (λ (t : List ℕ). IsDesignText t q.tokens d) (one_text spec p.text q.text p.told q.told) q.is) p.fault

  -- a file has one fault
  pub one_no_specification : (spec : List ℕ) (one other : Ending) → NoSpecification contents spec one →
      NoSpecification contents spec other → one ≡ other
  one_no_specification spec one other (faulty_spec {f = f} p) (faulty_spec {f = g} q) =
      ap (λ (f : Fault). Faulty f)
      (faults_of_text_agree p.text f g p.fault
      (subst (λ (t : List ℕ). FaultOf t g) (one_text spec p.text q.text p.told q.told) q.fault))
