use Rattle.std.proofs.Common.{refl, rules}
use Rattle.tm_syntax.specs.Tree.View.{spec_tree}
use Rattle.tm_inst.specs.Inner.Parts.{parts_tree}
use Rattle.tm_inst.proofs.Told.{checked, faults_agree, none_told, sound_parts}
use Rattle.tm_inst.proofs.design.instantiate.Goals as goal

pub parts_of-requires-clause-typed : goal.parts_of-requires-clause-typed
parts_of-requires-clause-typed c = checked (spec_tree c.args.typed.spec) c.args.typed.typed c.requires

pub returns-in_err-parts-clause-told : goal.returns-in_err-parts-clause-told
returns-in_err-parts-clause-told c = λ f is.
    let told = faults_agree (spec_tree c.args.typed.spec) f c.in_err-parts.field-0.0 is c.in_err-parts.ensures.faulty in
    search rules

pub returns-clause-sound : goal.returns-clause-sound
returns-clause-sound c =
    let spec = spec_tree c.args.typed.spec in
    sound_parts spec (checked spec c.args.typed.typed c.requires) c.in_ok-parts.parts c.in_ok-parts.ensures.ok

pub returns-clause-told : goal.returns-clause-told
returns-clause-told c = λ f is.
    let spec = spec_tree c.args.typed.spec in
    let typed = checked spec c.args.typed.typed c.requires in
    none_told spec typed (parts_tree spec c.in_ok-parts.parts) refl
    (sound_parts spec typed c.in_ok-parts.parts c.in_ok-parts.ensures.ok) f is

pub invariant_of-result : goal.invariant_of-result
invariant_of-result c = record {
  typed = c.args.typed.typed;
  sound =
      let spec = spec_tree c.args.typed.spec in
      ∣ sound_parts spec (checked spec c.args.typed.typed c.requires) c.in_ok-parts.parts c.in_ok-parts.ensures.ok ∣₁;
}
