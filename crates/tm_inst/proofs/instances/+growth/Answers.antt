use Rattle.std.proofs.Common.{rules, ◌≡◌, ◌+◌, ℕ, Some, drop, get_or, length, length-append, map, slice_get, refl, sym, ap, ◌∙◌, subst, arith}
use Rattle.std.specs.Prelude.{sum_by}
use Rattle.std.specs.List.{AllByRecursion, filter_map}
use Rattle.std.proofs.lemmas.Option.{slice_get_read}
use Rattle.std.proofs.lemmas.List.{drop_all, length-map}
use Rattle.std.proofs.lemmas.List.Sums.{sum_by-cons}
use Rattle.std.proofs.lemmas.Result.{on_ok_weaker}
use Rattle.tm_syntax.specs.Tree.View.{instance_tree, spec_tree, template_tree}
use Rattle.tm_syntax.specs.Design.{InstanceNode, instance_node, member_path}
use Rattle.tm_syntax.specs.Scopes.Names.{template_number}
use Rattle.tm_inst.specs.Inner.Growth.{Grows, HoldsAt, port_named}
use Rattle.tm_inst.specs.Instances.{IsHeld, held_size}
use Rattle.tm_inst.proofs.Growing.{all_at, each_may_be_held, grows_to_the_end, held_more, held_size_is, held_within, holds_still, node_stands, offsets_are_as_many, size_is}
use Rattle.tm_inst.proofs.Held.{grown_is_held, parent_is, ports_are_as_many, pushed_grows}
use Rattle.tm_inst.proofs.Templates.{template_stands}
use Rattle.tm_inst.proofs.Numbering.{left_at}
use Rattle.tm_inst.proofs.instances.+growth.Goals as goal

pub add_all_held-add_held-requires : goal.add_all_held-add_held-requires
add_all_held-add_held-requires t c =
    let spec = spec_tree c.args.scopes.now in
    let sizes = c.args.sizes.now in
    let held = c.args.held.now in
    let i : ℕ = c.loop-one.one-index in
    let x = c.one-item.result in
    let so_far = c.loop-one.invariant in
    let smaller = held_within spec sizes held i x c.loop-one-test.true c.one-item.is in
    let long = length-map c.loop-one.nodes.items instance_node in
    let began = length-map c.args.nodes.now.items instance_node in
    let room = so_far.room in
    let left = ap (sum_by (held_size spec sizes)) (left_at held i x c.loop-one-test.true c.one-item.is)
    ∙ sum_by-cons (held_size spec sizes) (instance_tree x) (map instance_tree (drop (i + 1) held)) in (
      omega (arith, smaller, c.decreases),
      (
        c.requires.sizes,
        (
          c.requires.held,
          (
            c.requires.few,
            (
              holds_still spec (map instance_node c.args.nodes.now.items)
                  (map instance_node c.loop-one.nodes.items) so_far.more
                  c.args.holder (instance_tree x) so_far.behind
                  (all_at (HoldsAt spec (map instance_node c.args.nodes.now.items) c.args.holder) held i x
                  c.requires.holder
                  c.loop-one-test.true c.one-item.is),
              omega (arith, long, began, room, left, c.requires.room),
            ),
          ),
        ),
      ),
    )

pub add_all_held-loop-one-preserved : goal.add_all_held-loop-one-preserved
add_all_held-loop-one-preserved t c =
    let spec = spec_tree c.args.scopes.now in
    let held = c.args.held.now in
    let i : ℕ = c.loop-one.one-index in
    let x = c.one-item.result in
    let so_far = c.loop-one.invariant in
    held_more spec c.args.sizes.now c.args.holder (map instance_node c.args.nodes.now.items)
    (map instance_node c.loop-one.nodes.items) (map instance_node c.add_held.new.nodes.items) (map instance_tree held)
    (map instance_tree (drop (i + 1) held)) (map instance_tree (drop i held)) (instance_tree x)
    (left_at held i x c.loop-one-test.true c.one-item.is)
    (holds_still spec (map instance_node c.args.nodes.now.items) (map instance_node c.loop-one.nodes.items) so_far.more
    c.args.holder (instance_tree x) so_far.behind
    (all_at (HoldsAt spec (map instance_node c.args.nodes.now.items) c.args.holder) held i x c.requires.holder
    c.loop-one-test.true c.one-item.is))
    c.in_ok-add_held.ensures so_far

pub add_all_held-returns : goal.add_all_held-returns
add_all_held-returns t c = λ old u template size path ports here grows.
    subst (λ is. Grows (spec_tree c.args.scopes.now) c.args.sizes.now old (map instance_node c.loop-one.nodes.items) u
    template size path ports is)
    (ap (map instance_tree) (drop_all c.loop-one.one-index c.args.held.now (omega arith)))
    (c.loop-one.invariant.grows old u template size path ports here grows)

pub add_held-add_instance-requires : goal.add_held-add_instance-requires
add_held-add_instance-requires t c =
    let spec = c.args.scopes.now in
    let nodes = c.args.nodes.now.items in
    let i = c.args.held.now in
    let named : template_number (spec_tree spec) i.template.text ≡ Some c.in-Some.template =
    ap (template_number (spec_tree spec)) (sym c.as_bytes.ensures) ∙ sym c.template_number.ensures.number
    ∙ c.in-Some.is in
    let size = held_size_is (spec_tree spec) c.args.sizes.now (instance_tree i) c.in-Some.template named in
    let ports : c.in_ok-ports-in-Some.ports.items ≡ filter_map (port_named spec nodes c.args.holder) i.args.items =
    c.in_ok-ports-in-Some.ensures
    ∙ (λ j. filter_map (port_named spec (c.as_slice.ensures.value j) c.args.holder)
    (c.as_slice-in-Some.ensures.value j)) in (
      omega (arith, size, c.decreases),
      (
        c.requires.sizes,
        (
          c.requires.held,
          (
            c.requires.few,
            (
              search rules,
              (
                λ u is.
                    ap length ports
                    ∙ ports_are_as_many spec nodes c.args.holder i c.requires.holder c.in-Some.template u named is,
                omega (arith, size, c.requires.room),
              ),
            ),
          ),
        ),
      ),
    )

pub add_held-returns-in_ok-path-in-Some : goal.add_held-returns-in_ok-path-in-Some
add_held-returns-in_ok-path-in-Some t c =
    let spec = c.args.scopes.now in
    let nodes = c.args.nodes.now.items in
    let i = c.args.held.now in
    let named : template_number (spec_tree spec) i.template.text ≡ Some c.in-Some.template =
    ap (template_number (spec_tree spec)) (sym c.as_bytes.ensures) ∙ sym c.template_number.ensures.number
    ∙ c.in-Some.is in
    let ports : c.in_ok-ports-in-Some.ports.items ≡ filter_map (port_named spec nodes c.args.holder) i.args.items =
    c.in_ok-ports-in-Some.ensures
    ∙ (λ j. filter_map (port_named spec (c.as_slice.ensures.value j) c.args.holder)
    (c.as_slice-in-Some.ensures.value j)) in
    let here : c.index.result.now ≡ get_or nodes c.args.holder c.index.result.now = search rules in
    on_ok_weaker c.add_instance.result
    (λ grown. λ parent u is of_template.
    grown_is_held spec nodes c.args.holder i c.requires.holder c.args.sizes.now
    (map instance_node c.add_instance.new.nodes.items) c.in-Some.template c.in_ok-path-in-Some.path
    c.in_ok-ports-in-Some.ports.items parent u named ports
    (c.in_ok-path-in-Some.ensures
    ∙ (λ j. member_path (c.as_bytes-in-Some.ensures j) (c.as_bytes-in-Some-2.ensures j))
    ∙ ap (λ (n : InstanceNode). member_path n.path i.name.text)
    (sym (parent_is nodes c.args.holder c.index.result.now parent is here)))
    is of_template grown) c.add_instance.ensures

pub add_instance-children_of-requires : goal.add_instance-children_of-requires
add_instance-children_of-requires t c =
    let spec = c.args.scopes.now in
    let own = c.index.result.now in
    let here : own ≡ get_or spec.templates.items c.args.template own = search rules in
    let is = template_stands spec c.args.template (Some own)
    (slice_get_read spec.templates.items
    (length spec.templates.items) c.args.template own refl c.requires.within here) in
    let size = size_is (spec_tree spec) c.args.sizes.now c.args.template (template_tree own) c.requires.sizes is
    (let room = c.requires.room in omega (arith, room)) in
    let sum = ap (λ is. sum_by (held_size (spec_tree spec) c.args.sizes.now) (map instance_tree is))
    c.as_slice-held.ensures.value in
    record { room = omega (arith, size, sum, c.len-number.ensures, c.requires.room) }

pub add_instance-add_all_held-requires : goal.add_instance-add_all_held-requires
add_instance-add_all_held-requires t c =
    let spec = c.args.scopes.now in
    let sizes = c.args.sizes.now in
    let own = c.index.result.now in
    let held = map instance_tree c.as_slice-held.result.now in
    let here : own ≡ get_or spec.templates.items c.args.template own = search rules in
    let is = template_stands spec c.args.template (Some own)
    (slice_get_read spec.templates.items
    (length spec.templates.items) c.args.template own refl c.requires.within here) in
    let size = size_is (spec_tree spec) sizes c.args.template (template_tree own) c.requires.sizes is
    (let room = c.requires.room in omega (arith, room)) in
    let same = ap (map instance_tree) c.as_slice-held.ensures.value in
    let sum = ap (sum_by (held_size (spec_tree spec) sizes)) same in
    let nodes = c.args.nodes.now.items in
    let long = length-map nodes instance_node in
    let at : c.len-number.result ≡ length (map instance_node nodes) = omega (arith, c.len-number.ensures, long) in
    let grows = pushed_grows (spec_tree spec) sizes nodes c.push.new.self.items _ (template_tree own) c.args.template
    c.len-number.result c.args.path c.args.ports.items held c.in_ok-push.ensures.items refl refl refl at same
    c.in_ok-children.ensures size is in
    let pushed = ap length c.in_ok-push.ensures.items ∙ length-append nodes _ in (
      omega (arith, size, sum, c.decreases),
      (
        c.requires.sizes,
        (
          c.requires.held,
          (
            c.requires.few,
            (
              each_may_be_held (spec_tree spec) (map instance_node c.push.new.self.items) c.len-number.result grows.node
                  (template_tree own)
                  (ap (slice_get (map instance_node c.push.new.self.items)) at ∙ node_stands grows)
                  (ap (slice_get (spec_tree spec).templates) grows.template_is ∙ is)
                  (ap length grows.children_are
                  ∙ offsets_are_as_many (spec_tree spec) sizes (length (map instance_node nodes) + 1)
                  (map instance_tree own.instances.items))
                  (ap length grows.ports_are ∙ c.requires.ports (template_tree own) is) held
                  (subst (AllByRecursion (IsHeld (spec_tree spec) (template_tree own))) (sym same)
                  (c.requires.held c.args.template (template_tree own) is)),
              omega (arith, size, sum, pushed, c.requires.room),
            ),
          ),
        ),
      ),
    )

pub add_instance-returns : goal.add_instance-returns
add_instance-returns t c =
    let spec = c.args.scopes.now in
    let sizes = c.args.sizes.now in
    let own = c.index.result.now in
    let here : own ≡ get_or spec.templates.items c.args.template own = search rules in
    let is = template_stands spec c.args.template (Some own)
    (slice_get_read spec.templates.items
    (length spec.templates.items) c.args.template own refl c.requires.within here) in
    let size = size_is (spec_tree spec) sizes c.args.template (template_tree own) c.requires.sizes is
    (let room = c.requires.room in omega (arith, room)) in
    let same = ap (map instance_tree) c.as_slice-held.ensures.value in
    let nodes = c.args.nodes.now.items in
    let long = length-map nodes instance_node in
    let at : c.len-number.result ≡ length (map instance_node nodes) = omega (arith, c.len-number.ensures, long) in
    let grows = pushed_grows (spec_tree spec) sizes nodes c.push.new.self.items _ (template_tree own) c.args.template
    c.len-number.result c.args.path c.args.ports.items (map instance_tree c.as_slice-held.result.now)
    c.in_ok-push.ensures.items refl refl refl at same c.in_ok-children.ensures size is in
    let old = map instance_node nodes in
    let whole = get_or sizes c.args.template 0 in
    on_ok_weaker c.add_all_held.result
    (λ all. grows_to_the_end (spec_tree spec) sizes old (map instance_node c.add_all_held.new.nodes.items)
    (template_tree own) c.args.template whole c.args.path c.args.ports.items
    (all old (template_tree own) c.args.template whole c.args.path c.args.ports.items (sym at) grows))
    c.add_all_held.ensures
