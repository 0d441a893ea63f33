-- Each number fits exactly where each number's tree does.
use Rattle.std.proofs.Common.{rules, ◌↔◌, All, IsTrue}
use Rattle.std.proofs.lemmas.List.Elements.{All-map}
use Rattle.tm_cir.specs.View.{num_tree}
use Rattle.tm_cir.specs.Fit.{FitsNum}
use Rattle.tm_cir.proofs.Following.{All-trees}
use Rattle.tm_cir.proofs.fit.nums_fit.Goals as goal

pub returns : goal.returns
returns c =
    let each : IsTrue c.all.result ↔ All (λ n. FitsNum c.args.vars c.args.processes (num_tree n)) c.args.nums.now =
    search rules in (
      λ all. All-map (FitsNum c.args.vars c.args.processes) num_tree c.args.nums.now (each.0 all),
      λ all. each.1 (All-trees _ _ c.args.nums.now all),
    )
