use Rattle.std.proofs.Common.{None, Some, ap, sym}
use Rattle.std.specs.Option.{option_map}
use Rattle.tm_syntax.specs.Tree.View.{expr_tree}
use Rattle.tm_syntax.specs.Design.View.{design_tree}
use Rattle.tm_flat_states.proofs.StatedTerms.{stated_so}
use Rattle.tm_flat_states.proofs.marker.Marker.stated.Goals as goal

pub condition-requires-clause-typed : goal.condition-requires-clause-typed
condition-requires-clause-typed c =
    c.requires.typed (expr_tree c.in-Some.e.now) (ap (option_map (λ e. expr_tree e.now)) c.in-Some.is)

pub returns-in_ok-id-in-Some : goal.returns-in_ok-id-in-Some
returns-in_ok-id-in-Some c =
    stated_so c.args.terms.now c.condition.new.terms c.in_ok-id-in-Some.id (design_tree c.args.self.now.design.now)
    c.args.instance (Some (expr_tree c.in-Some.e.now)) (option_map (λ e. expr_tree e.now) c.args.e)
    (sym (ap (option_map (λ e. expr_tree e.now)) c.in-Some.is)) c.in_ok-id-in-Some.ensures

pub returns-in_ok-always-in-None : goal.returns-in_ok-always-in-None
returns-in_ok-always-in-None c =
    stated_so c.args.terms.now c.make.new.terms c.in_ok-always-in-None.always
    (design_tree c.args.self.now.design.now) c.args.instance None (option_map (λ e. expr_tree e.now) c.args.e)
    (sym (ap (option_map (λ e. expr_tree e.now)) c.in-None.is)) c.in_ok-always-in-None.ensures
