use Rattle.std.proofs.Common.{length, ap, ◌∙◌, rules}
use Rattle.tm_syntax.specs.Design.View.{design_tree}
use Rattle.tm_synth.proofs.Files.{levels_traced, loss_found}
use Rattle.tm_synth.proofs.environment.environment_files.Goals as goal

pub judged-text-requires-clause-can : goal.judged-text-requires-clause-can
judged-text-requires-clause-can c = record {
  sound = c.requires.sound;
  of_text = c.requires.of_text;
  cert = c.in-Ok.ensures.fits (design_tree c.args.design.now) c.requires.exact.ordered.of
      (record { goals = c.requires.meets.goals; chains = c.requires.meets.chains });
}

pub judged-text-requires-clause-meets : goal.judged-text-requires-clause-meets
judged-text-requires-clause-meets c =
    (c.in-Ok.ensures.meets (design_tree c.args.design.now) c.requires.exact.ordered.of).1 c.requires.meets

pub returns-in-Ok-text-clause-found : goal.returns-in-Ok-text-clause-found
returns-in-Ok-text-clause-found c = λ budget.
    let d = design_tree c.args.design.now in
    loss_found d c.in-Ok.made c.in-Ok-text.ensures.shown c.in-Ok-text.cert.items _ _ _ c.in-Ok-text.ensures.written
    (search rules) (ap length c.fairs.ensures.value ∙ c.fairs.ensures.count d c.requires.exact.ordered.of)
    (c.longest_chain-chain.ensures d) c.args.trace
    (levels_traced d c.args.trace _ _ (c.in-Ok.ensures.sets d c.requires.exact.ordered.of) c.requires.traced)

pub returns-in-Ok-text-clause-within : goal.returns-in-Ok-text-clause-within
returns-in-Ok-text-clause-within c = λ budget within. within
