use Rattle.std.proofs.Common.{◌≡◌, ◌+◌, ◌<◌, ◌^◌, ◌++◌, ◌∷◌, [], List, length, slice_index, sym, ap, ◌∙◌, subst, arith}
use Rattle.tm_base.specs.Arithmetic.{IsWidth}
use Rattle.tm_syntax.specs.Design.View.{design_tree}
use Rattle.tm_syntax.specs.Design.Sizes.{bits_of_number}
use Rattle.tm_term.specs.declared.term.TermId.{TermId}
use Rattle.tm_flat_exprs.specs.Made.{Makes}
use Rattle.tm_flat_moves.specs.Begun.{AreInputTerms}
use Rattle.tm_flat_moves.specs.Next.{moved}
use Rattle.tm_flat_moves.proofs.Following.{last_is, last_small, last_within, next_made, width_there}
use Rattle.tm_flat_moves.proofs.mover.Mover.next.Goals as goal

pub input_terms-requires-clause-within : goal.input_terms-requires-clause-within
input_terms-requires-clause-within c =
    let d = c.args.self.now.design.now in
    let t = c.args.course.now.terms in
    let within : length d.vars.items + length d.processes.items < length t.inputs =
    last_within (design_tree d) t c.requires.inputs in
    omega (arith, within, c.vars-vars.ensures, c.processes-processes.ensures)

pub bounds-inputs-vars : goal.bounds-inputs-vars
bounds-inputs-vars c =
    let d = c.args.self.now.design.now in
    let t = c.input_terms.new.terms in
    let within : length d.vars.items + length d.processes.items < length t.inputs =
    last_within (design_tree d) t (c.in_ok-places.ensures.grown.inputs ∙ c.requires.inputs) in
    let same : length c.inputs.result.now ≡ length t.inputs = ap length c.inputs.ensures in
    omega (arith, within, same, c.vars-vars.ensures, c.processes-processes.ensures)

pub make-requires : goal.make-requires
make-requires c =
    let d = c.args.self.now.design.now in
    let t = c.input_terms.new.terms in
    let inputs = c.in_ok-places.ensures.grown.inputs ∙ c.requires.inputs in
    let at = length d.vars.items + length d.processes.items in
    let width : slice_index c.inputs.result.now (c.vars-vars.result + c.processes-processes.result)
    ≡ slice_index t.inputs at =
    λ j. slice_index (c.inputs.ensures j) (c.vars-vars.ensures j + c.processes-processes.ensures j) in
    let small : c.args.last < 2 ^ bits_of_number (1 + length d.processes.items) =
    last_small (design_tree d) t inputs c.requires.small c.args.last c.requires.last in (
      subst IsWidth (sym width)
          (width_there (design_tree d) t inputs c.in_ok-places.ensures.sound at (last_within (design_tree d) t inputs)),
      subst (λ k. c.from.result < 2 ^ k) (sym (width ∙ last_is (design_tree d) t inputs))
          (subst (λ n. n < 2 ^ bits_of_number (1 + length d.processes.items)) (sym c.from.ensures) small),
    )

pub variables-requires : goal.variables-requires
variables-requires c = c.requires.count ∙ (λ j. length ((sym c.memory.ensures j).values))

pub returns-clause-next : goal.returns-clause-next
returns-clause-next c =
    let d = c.args.self.now.design.now in
    let t = c.args.course.now.terms in
    let m = c.input_terms.new.terms in
    let n = c.make.new.terms in
    let inputs = c.in_ok-places.ensures.grown.inputs ∙ c.requires.inputs in
    let ids = c.in_ok-places.places.items in
    let number = c.in_ok-number.number in
    let values = c.args.arrived.now.flow.memory.values in
    let place = c.args.arrived.now.place in
    let width = slice_index c.inputs.result.now (c.vars-vars.result + c.processes-processes.result) in
    let is : width ≡ bits_of_number (1 + length d.processes.items) =
    (λ j. slice_index (c.inputs.ensures j) (c.vars-vars.ensures j + c.processes-processes.ensures j))
    ∙ last_is (design_tree d) m inputs in
    let are : AreInputTerms t m (length d.vars.items) (length d.processes.items) ids =
    subst (λ k. AreInputTerms t m k (length d.processes.items) ids) c.vars-vars.ensures
    (subst (λ k. AreInputTerms t m c.vars-vars.result k ids) c.processes-processes.ensures c.in_ok-places.ensures) in
    let made : Makes m n width number (λ u v. c.args.last) =
    subst (λ k. Makes m n width number (λ u v. k)) c.from.ensures c.in_ok-number.ensures in
    let vars : c.in_ok-next.next.items ≡ values = c.in_ok-next.ensures ∙ (λ j. (c.memory.ensures j).values) in
    let places : c.as_slice.result.now ≡ moved ids c.args.mover place =
    c.as_slice.ensures.value ∙ c.places_after-after.ensures in
    let laid : c.push.new.self.items ≡ values ++ moved ids c.args.mover place ++ number ∷ [] =
    c.in_ok-push.ensures.items
    ∙ ap (λ (l : List TermId). l ++ number ∷ [])
    (c.in_ok-extend_from_slice.ensures.items ∙ (λ j. vars j ++ places j)) in
    next_made t m n (design_tree d) values c.args.mover place c.args.last c.push.new.self.items ids number width are
    made
    is laid
