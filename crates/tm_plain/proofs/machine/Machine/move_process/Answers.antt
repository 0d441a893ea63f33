use Rattle.std.proofs.Common.{refl, subst, arith}
use Rattle.std.specs.Prelude.{slice_index}
use Rattle.std.proofs.lemmas.Result.{IfOk-weaker}
use Rattle.tm_syntax.specs.Design.View.{design_tree}
use Rattle.tm_plain_bodies.specs.Tables.{tables_of}
use Rattle.tm_plain.specs.declared.machine.rests.End.TheVariants as end
use Rattle.tm_plain.specs.Machine.{IsRunnable}
use Rattle.tm_plain.proofs.Ending.{arrives_counted, arrives_within, moves_into_error, moves_nowhere, moves_to, rest_ends}
use Rattle.tm_plain.proofs.Fitness.{places_are_few}
use Rattle.tm_plain.proofs.machine.Machine.move_process.Goals as goal

pub overflow_cast-place : goal.overflow_cast-place
overflow_cast-place c =
    let d = c.args.self.now in
    let s = c.args.state.now in
    let p = c.args.process in
    let ends = rest_ends d s p c.place_of.result c.in-Ok.course.store c.perform_rest.new.course.store
    c.in-Ok.course.choices c.args.choices.now s.values c.in-Ok-perform_rest.end
    (end.At c.in-At.place) c.in-Ok-perform_rest.ensures c.in-At.is (c.in-Ok.ensures.keeps (tables_of d)) refl
    c.place_of.ensures c.in-Ok.ensures.choices in
    let few = (places_are_few d (subst IsRunnable c.self.view_is c.self.invariant.1)).places p in
    let within = arrives_within (design_tree d) s p (slice_index s.places p) c.args.last ends.0 c.in-At.place ends.2
    ends.4 in
    omega (arith, few, within)

pub returns-in-At : goal.returns-in-At
returns-in-At c =
    let d = c.args.self.now in
    let s = c.args.state.now in
    let p = c.args.process in
    let place = slice_index s.places p in
    let ends = rest_ends d s p c.place_of.result c.in-Ok.course.store c.perform_rest.new.course.store
    c.in-Ok.course.choices c.args.choices.now s.values c.in-Ok-perform_rest.end
    (end.At c.in-At.place) c.in-Ok-perform_rest.ensures c.in-At.is (c.in-Ok.ensures.keeps (tables_of d)) refl
    c.place_of.ensures c.in-Ok.ensures.choices in
    let counted = arrives_counted (design_tree d) s p place c.args.last c.args.choices.now ends.0 c.in-At.place ends.2
    ends.3 ends.4 in
    IfOk-weaker c.moved-outcome.result _ _
    (λ o is. moves_to (design_tree d) s p place c.args.last c.args.choices.now ends.0 c.in-At.place ends.2 ends.3
    ends.4 o is)
    (c.moved-outcome.ensures (tables_of d) ends.0 ends.1 counted)

pub returns-in-Failed : goal.returns-in-Failed
returns-in-Failed c =
    let d = c.args.self.now in
    let s = c.args.state.now in
    let p = c.args.process in
    moves_into_error (design_tree d) s p (slice_index s.places p) c.args.last c.args.choices.now
    (rest_ends d s p c.place_of.result c.in-Ok.course.store c.perform_rest.new.course.store
    c.in-Ok.course.choices c.args.choices.now s.values c.in-Ok-perform_rest.end end.Failed
    c.in-Ok-perform_rest.ensures c.in-Failed.is (c.in-Ok.ensures.keeps (tables_of d)) refl c.place_of.ensures
    c.in-Ok.ensures.choices)

pub returns-in-Blocked : goal.returns-in-Blocked
returns-in-Blocked c =
    let d = c.args.self.now in
    let s = c.args.state.now in
    let p = c.args.process in
    moves_nowhere (design_tree d) s p (slice_index s.places p) c.args.last c.args.choices.now
    (rest_ends d s p c.place_of.result c.in-Ok.course.store c.perform_rest.new.course.store
    c.in-Ok.course.choices c.args.choices.now s.values c.in-Ok-perform_rest.end end.Blocked
    c.in-Ok-perform_rest.ensures c.in-Blocked.is (c.in-Ok.ensures.keeps (tables_of d)) refl c.place_of.ensures
    c.in-Ok.ensures.choices)
