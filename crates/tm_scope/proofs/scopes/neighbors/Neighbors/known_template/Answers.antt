use Rattle.std.proofs.Common.{◌≡◌, ◌<◌, None, Some, length, refl, sym, ap, ◌∙◌, arith}
use Rattle.std.proofs.lemmas.Option.{slice_get_read}
use Rattle.std.specs.Option.{option_copied}
use Rattle.tm_syntax.specs.Scopes.Names.{is_spelled}
use Rattle.tm_syntax.specs.Tree.View.{template_tree}
use Rattle.tm_syntax.specs.Scopes.Calls.{known_template}
use Rattle.tm_scope.proofs.FirstNames.{instance_index, port_index, known_at_instance, known_at_port, known_nowhere}
use Rattle.tm_scope.proofs.Positions.{position-below}
use Rattle.tm_scope.proofs.scopes.neighbors.Neighbors.known_template.Goals as goal

pub index-requires : goal.index-requires
index-requires c =
    let at_instance : instance_index c.self.inside.template.now c.args.name.now ≡ Some c.in-Some.index =
    sym (c.find.ensures ∙ c.self.invariant.instance c.args.name.now) ∙ c.in-Some.is in
    let within : c.in-Some.index < length c.self.inside.template.now.instances.items =
    position-below (λ i. is_spelled c.args.name.now i.name) c.self.inside.template.now.instances.items
    c.in-Some.index at_instance in
    omega arith

pub returns-in-Some : goal.returns-in-Some
returns-in-Some c =
    let at_instance : instance_index c.self.inside.template.now c.args.name.now ≡ Some c.in-Some.index =
    sym (c.find.ensures ∙ c.self.invariant.instance c.args.name.now) ∙ c.in-Some.is in
    let within : c.in-Some.index < length c.self.inside.template.now.instances.items =
    position-below (λ i. is_spelled c.args.name.now i.name) c.self.inside.template.now.instances.items
    c.in-Some.index at_instance in
    sym (known_at_instance c.self.inside.template.now c.args.name.now c.in-Some.index c.index.result.now at_instance
    (slice_get_read c.self.inside.template.now.instances.items (length c.self.inside.template.now.instances.items)
    c.in-Some.index c.index.result.now refl within c.index.ensures))
    ∙ ap (λ t. known_template (template_tree t) c.args.name.now) c.self.view_is

pub returns-in_err-port : goal.returns-in_err-port
returns-in_err-port c =
    let no_instance : instance_index c.self.inside.template.now c.args.name.now ≡ None =
    sym (c.find.ensures ∙ c.self.invariant.instance c.args.name.now) ∙ c.in_default.is in
    let no_port : port_index c.self.inside.template.now c.args.name.now ≡ None =
    sym (c.find-2.ensures ∙ c.self.invariant.port c.args.name.now) ∙ c.in_err-port.was in
    ap option_copied c.from_residual.ensures
    ∙ sym (known_nowhere c.self.inside.template.now c.args.name.now no_instance no_port)
    ∙ ap (λ t. known_template (template_tree t) c.args.name.now) c.self.view_is

pub index-requires-2 : goal.index-requires-2
index-requires-2 c =
    let at_port : port_index c.self.inside.template.now c.args.name.now ≡ Some c.in_ok-port.port =
    sym (c.find-2.ensures ∙ c.self.invariant.port c.args.name.now) ∙ c.in_ok-port.was in
    let within : c.in_ok-port.port < length c.self.inside.template.now.ports.items =
    position-below (λ p. is_spelled c.args.name.now p.name) c.self.inside.template.now.ports.items
    c.in_ok-port.port at_port in
    omega arith

pub returns : goal.returns
returns c =
    let no_instance : instance_index c.self.inside.template.now c.args.name.now ≡ None =
    sym (c.find.ensures ∙ c.self.invariant.instance c.args.name.now) ∙ c.in_default.is in
    let at_port : port_index c.self.inside.template.now c.args.name.now ≡ Some c.in_ok-port.port =
    sym (c.find-2.ensures ∙ c.self.invariant.port c.args.name.now) ∙ c.in_ok-port.was in
    let within : c.in_ok-port.port < length c.self.inside.template.now.ports.items =
    position-below (λ p. is_spelled c.args.name.now p.name) c.self.inside.template.now.ports.items
    c.in_ok-port.port at_port in
    sym (known_at_port c.self.inside.template.now c.args.name.now c.in_ok-port.port c.index-2.result.now no_instance
    at_port
    (slice_get_read c.self.inside.template.now.ports.items (length c.self.inside.template.now.ports.items)
    c.in_ok-port.port c.index-2.result.now refl within c.index-2.ensures))
    ∙ ap (λ t. known_template (template_tree t) c.args.name.now) c.self.view_is
