use Rattle.tm_synth.proofs.synthesis.synthesise.Goals as goal

pub decided-requires-clause-regular : goal.decided-requires-clause-regular
decided-requires-clause-regular c =
    c.sound_designs_of_texts_are_regular.ensures c.args.design.now c.requires.sound c.requires.of_text

pub files_of-requires-clause-regular : goal.files_of-requires-clause-regular
files_of-requires-clause-regular c =
    c.sound_designs_of_texts_are_regular.ensures c.args.design.now c.requires.sound c.requires.of_text

pub files_of-requires-clause-decided : goal.files_of-requires-clause-decided
files_of-requires-clause-decided c = (c.args.budget, c.in-Ok-decided.ensures)

pub returns-in-Ok-decided-clause-found : goal.returns-in-Ok-decided-clause-found
returns-in-Ok-decided-clause-found c = c.files_of.ensures.found c.args.budget c.in-Ok-decided.ensures

pub returns-in-Ok-decided-clause-within : goal.returns-in-Ok-decided-clause-within
returns-in-Ok-decided-clause-within c = c.files_of.ensures.within c.args.budget c.in-Ok-decided.ensures
