use Rattle.std.proofs.Common.{◌≡◌, Option, Some, None, refl, sym, ap, ◌∙◌}
use Rattle.std.specs.Prelude.{unwrap_or}
use Rattle.std.specs.Option.{option_map_or}
use Rattle.tm_syntax.specs.declared.member.Member.{Member}
use Rattle.tm_syntax.specs.declared.tree.Spec.{Spec}
use Rattle.tm_syntax.specs.Tree.View.{spec_tree}
use Rattle.tm_syntax.specs.Scopes.Calls.{task_number}
use Rattle.tm_limits.specs.Inner.PathSums.{PathTable, call_paths, nothing_chosen, paths_in}
use Rattle.tm_limits.proofs.BestPaths.{nothing_is}
use Rattle.tm_limits.proofs.choices.CallPaths.call.Goals as goal

pub returns-in-Some : goal.returns-in-Some
returns-in-Some c =
    let x = c.self.inside in
    let entries = x.paths.now.entries in
    let path = c.args.path.now in
    let task : task_number (spec_tree x.names.spec) x.from path ≡ Some c.in-Some.task =
    ap (λ (s : Spec). task_number (spec_tree s) x.from path) c.self.invariant.0
    ∙ sym c.task_number.ensures ∙ c.in-Some.is in
    c.unwrap_or.ensures
    ∙ (λ j. unwrap_or ((c.copied.ensures ∙ c.get.ensures.value) j)
    (nothing_is c.choosing.result (c.choosing.ensures 0 refl) j))
    ∙ ap (λ (o : Option Member). option_map_or (paths_in entries) o nothing_chosen) (sym task)
    ∙ ap (λ (t : PathTable). call_paths t path) c.self.view_is

pub returns-in-None : goal.returns-in-None
returns-in-None c =
    let x = c.self.inside in
    let path = c.args.path.now in
    let task : task_number (spec_tree x.names.spec) x.from path ≡ None =
    ap (λ (s : Spec). task_number (spec_tree s) x.from path) c.self.invariant.0
    ∙ sym c.task_number.ensures ∙ c.in-None.is in
    nothing_is c.choosing-in-None.result (c.choosing-in-None.ensures 0 refl)
    ∙ ap (λ (o : Option Member). option_map_or (paths_in x.paths.now.entries) o nothing_chosen) (sym task)
    ∙ ap (λ (t : PathTable). call_paths t path) c.self.view_is
