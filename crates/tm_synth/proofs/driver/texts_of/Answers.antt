use Rattle.tm_cir.specs.View.{trees_of}
use Rattle.tm_syntax.specs.Design.View.{design_tree}
use Rattle.tm_synth.proofs.Files.{driver_found}
use Rattle.tm_synth.proofs.driver.texts_of.Goals as goal

pub returns : goal.returns
returns c =
    let d = design_tree c.args.design.now in
    let bs = trees_of c.args.made.now.blocks in
    driver_found d bs c.args.made.now.cert c.in_ok-driver.driver.items c.in_ok-cert.cert.bytes.items
    c.in-Ok.ranks.items c.in_ok-cert.cert.nodes
    (c.sound_designs_of_texts_are_regular.ensures c.args.design.now c.requires.shown.can.sound
    c.requires.shown.can.of_text)
    c.requires.shown c.in_ok-driver.ensures.reads_so
    c.in_ok-driver.ensures.reads_only_so c.in_ok-cert.ensures
    c.in-Ok.ensures

pub write_cert-requires-clause-can : goal.write_cert-requires-clause-can
write_cert-requires-clause-can c = (trees_of c.args.made.now.blocks, c.requires.shown.can)
