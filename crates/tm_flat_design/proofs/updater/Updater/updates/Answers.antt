use Rattle.std.proofs.Common.{sym, subst}
use Rattle.tm_syntax.specs.declared.design.Design.{Design}
use Rattle.tm_syntax.specs.Design.View.{design_tree}
use Rattle.tm_flat_states.specs.Actors.{HaveSteps}
use Rattle.tm_flat_states.specs.Marks.{MakesSuch}
use Rattle.tm_flat_design.specs.Making.{AreClaims, AreOver, IsLayout}
use Rattle.tm_flat_design.proofs.Marking.{located_by, markable_by}
use Rattle.tm_flat_design.proofs.Parts.{steps_here, whole_made}
use Rattle.tm_flat_design.proofs.Steps.{over_later}
use Rattle.tm_flat_design.proofs.updater.Updater.updates.Goals as goal

pub layout_of-requires-clause-located : goal.layout_of-requires-clause-located
layout_of-requires-clause-located c =
    located_by c.marker-marker.result c.args.self.now.design.now c.args.self.now.locations.now
    c.marker-marker.ensures.design c.marker-marker.ensures.locations c.requires.design.located

pub layout_of-requires-clause-markable : goal.layout_of-requires-clause-markable
layout_of-requires-clause-markable c =
    markable_by c.sound_designs_of_texts_are_markable.ensures c.marker-marker.result c.args.self.now.design.now
    c.marker-marker.ensures.design c.requires.design.runnable

pub claims_of-requires-clause-located : goal.claims_of-requires-clause-located
claims_of-requires-clause-located c =
    located_by c.marker-marker.result c.args.self.now.design.now c.args.self.now.locations.now
    c.marker-marker.ensures.design c.marker-marker.ensures.locations c.requires.design.located

pub claims_of-requires-clause-markable : goal.claims_of-requires-clause-markable
claims_of-requires-clause-markable c =
    markable_by c.sound_designs_of_texts_are_markable.ensures c.marker-marker.result c.args.self.now.design.now
    c.marker-marker.ensures.design c.requires.design.runnable

pub claims_of-requires-clause-terms : goal.claims_of-requires-clause-terms
claims_of-requires-clause-terms c =
    subst (λ (d : Design). AreOver d c.moves.new.course.terms) (sym c.marker-marker.ensures.design)
    (over_later c.args.self.now.design.now c.args.course.now.terms c.moves.new.course.terms
    c.in_ok-moves.ensures.grown c.in_ok-moves.ensures.sound c.requires.terms)

pub claims_of-requires-clause-steps : goal.claims_of-requires-clause-steps
claims_of-requires-clause-steps c =
    subst (λ (d : Design). HaveSteps c.moves.new.course.terms (design_tree d) c.as_slice-steps.result.now)
    (sym c.marker-marker.ensures.design)
    (steps_here (design_tree c.args.self.now.design.now) c.args.course.now.terms c.moves.new.course.terms
    c.in_ok-moves.moves c.as_slice-steps.result.now c.as_slice-steps.ensures.value c.in_ok-moves.ensures)

pub predicates-requires-clause-terms : goal.predicates-requires-clause-terms
predicates-requires-clause-terms c =
    let d = c.args.self.now.design.now in
    over_later d c.moves.new.course.terms c.claims_of.new.terms c.in_ok-claims.ensures.grown
    c.in_ok-claims.ensures.sound
    (over_later d c.args.course.now.terms c.moves.new.course.terms c.in_ok-moves.ensures.grown
    c.in_ok-moves.ensures.sound c.requires.terms)

pub returns : goal.returns
returns c =
    let d = c.args.self.now.design.now in
    let same = c.marker-marker.ensures.design in
    whole_made (design_tree d) c.args.course.now.terms c.moves.new.course.terms c.claims_of.new.terms
    c.predicates.new.course.terms c.in_ok-layout.layout c.in_ok-moves.moves c.in_ok-claims.claims
    c.in_ok-predicates.predicates c.requires.terms.inputs
    (subst (λ (k : Design). IsLayout (design_tree k) c.in_ok-layout.layout) same c.in_ok-layout.ensures)
    c.in_ok-moves.ensures
    (subst (λ (k : Design). MakesSuch c.moves.new.course.terms c.claims_of.new.terms (AreClaims (design_tree k))
    c.in_ok-claims.claims) same c.in_ok-claims.ensures)
    c.in_ok-predicates.ensures
