use Rattle.std.proofs.Common.{length, nat_eq, ◌∙◌}
use Rattle.std.specs.List.{flat_map, zip}
use Rattle.tm_syntax.specs.Faults.Marks.{place_unless}
use Rattle.tm_syntax.specs.Faults.Mismatches.{arg_faults}
use Rattle.tm_scope.specs.Context.{context_of}
use Rattle.tm_types.specs.Firsts.{first_of}
use Rattle.tm_types.proofs.mismatches.instances.args_faults.Goals as goal

pub returns : goal.returns
returns c =
    let t = (context_of c.args.at.now).template in
    let instance = c.args.instance.now in
    let ports = c.args.of.now.ports.items in
    let args = instance.args.items in
    c.earlier_place.ensures.joined (place_unless (nat_eq (length ports) (length args)) instance.name.place)
    (flat_map (arg_faults t) (zip ports args))
    (c.place_unless-of_count.ensures
    ∙ (λ i. first_of (place_unless
    (nat_eq (length (c.as_slice-ports.ensures.value i)) (length (c.as_slice-args.ensures.value i)))
    instance.name.place)))
    (c.matched_args_faults.ensures
    ∙ (λ i. first_of (flat_map (arg_faults t)
    (zip (c.as_slice-ports.ensures.value i) (c.as_slice-args.ensures.value i)))))
