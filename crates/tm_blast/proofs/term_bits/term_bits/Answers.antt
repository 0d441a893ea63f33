use Rattle.std.proofs.Common.{◌<◌, length, refl, sym, ◌∙◌, arith}
use Rattle.std.proofs.lemmas.Result.{IfOk-weaker}
use Rattle.tm_blast.specs.Numbers.{level_lists}
use Rattle.tm_blast.proofs.TermNumbers.{made_bits}
use Rattle.tm_blast.proofs.PartTerms.{alike, is_choice, part_means, single_term, pair_term, test_known, choice_term}
use Rattle.tm_blast.proofs.term_bits.term_bits.Goals as goal

pub returns-in-None-clause-answer : goal.returns-in-None-clause-answer
returns-in-None-clause-answer c =
    IfOk-weaker c.leaf_bits.result _ _
    (λ ids. made_bits c.args.terms.now (level_lists c.args.levels.now) c.leaf_bits.new.dd.table c.args.id ids.items
    c.term-term.result c.term-term.result refl c.term-term.ensures.width c.term-term.ensures.value)
    c.leaf_bits.ensures.answer

-- ---- one part
pub single_bits-requires-clause-width : goal.single_bits-requires-clause-width
single_bits-requires-clause-width c =
    let part = part_means c.args.terms.now (level_lists c.args.levels.now) c.args.dd.now.table c.args.made.now
    c.requires.made c.in-One.a c.part.result.now c.part.ensures in
    part.count ∙ sym c.width.ensures.width

pub returns-in-One-clause-answer : goal.returns-in-One-clause-answer
returns-in-One-clause-answer c =
    let t = c.args.terms.now in
    let levels = level_lists c.args.levels.now in
    let s = c.args.dd.now.table in
    let part = part_means t levels s c.args.made.now c.requires.made c.in-One.a c.part.result.now c.part.ensures in
    IfOk-weaker c.single_bits.result _ _
    (λ ids are. made_bits t levels s c.args.id ids.items c.term-term.result c.term-term.result refl
    c.term-term.ensures.width c.term-term.ensures.value
    (single_term t levels s c.args.made.now c.requires.made s c.term-term.result ids.items c.in-One.a
    c.part.result.now c.width.result c.part.ensures c.in-One.ensures c.width.ensures.width (are s part.known)))
    c.single_bits.ensures

-- ---- two parts
pub pair_bits-requires-clause-a : goal.pair_bits-requires-clause-a
pair_bits-requires-clause-a c =
    let part = part_means c.args.terms.now (level_lists c.args.levels.now) c.args.dd.now.table c.args.made.now
    c.requires.made c.in-Two.a c.part-in-Two.result.now c.part-in-Two.ensures in
    part.known

pub pair_bits-requires-clause-b : goal.pair_bits-requires-clause-b
pair_bits-requires-clause-b c =
    let part = part_means c.args.terms.now (level_lists c.args.levels.now) c.args.dd.now.table c.args.made.now
    c.requires.made c.in-Two.b c.part-in-Two-2.result.now c.part-in-Two-2.ensures in
    part.known

pub pair_bits-requires-clause-same : goal.pair_bits-requires-clause-same
pair_bits-requires-clause-same c =
    let t = c.args.terms.now in
    let levels = level_lists c.args.levels.now in
    let s = c.args.dd.now.table in
    let first =
    part_means t levels s c.args.made.now c.requires.made c.in-Two.a c.part-in-Two.result.now c.part-in-Two.ensures in
    let second =
    part_means t levels s c.args.made.now c.requires.made c.in-Two.b c.part-in-Two-2.result.now
    c.part-in-Two-2.ensures in
    first.count
    ∙ alike t c.args.id.0 c.term-term.result c.in-Two.a c.in-Two.b c.term-term.ensures.parts c.in-Two.ensures
    ∙ sym second.count

pub returns-in-Two-clause-answer : goal.returns-in-Two-clause-answer
returns-in-Two-clause-answer c =
    let t = c.args.terms.now in
    let levels = level_lists c.args.levels.now in
    let u = c.pair_bits.new.dd.table in
    IfOk-weaker c.pair_bits.result _ _
    (λ ids are. made_bits t levels u c.args.id ids.items c.term-term.result c.term-term.result refl
    c.term-term.ensures.width c.term-term.ensures.value
    (pair_term t levels c.args.dd.now.table c.args.made.now c.requires.made u c.term-term.result ids.items c.in-Two.a
    c.in-Two.b c.part-in-Two.result.now c.part-in-Two-2.result.now c.part-in-Two.ensures c.part-in-Two-2.ensures
    c.in-Two.ensures are))
    c.pair_bits.ensures.answer

-- ---- three parts
pub bounds-part-0 : goal.bounds-part-0
bounds-part-0 c =
    let t = c.args.terms.now in
    let part = part_means t (level_lists c.args.levels.now) c.args.dd.now.table c.args.made.now c.requires.made
    c.in-Three.c c.part-in-Three.result.now c.part-in-Three.ensures in
    let is = is_choice t c.args.id.0 c.term-term.result c.in-Three.c c.in-Three.a c.in-Three.b c.term-term.ensures.parts
    c.in-Three.ensures in
    let long : 0 < length c.part-in-Three.result.now = omega (arith, part.count, is.test) in
    long

pub rippled-requires-clause-carry : goal.rippled-requires-clause-carry
rippled-requires-clause-carry c =
    let t = c.args.terms.now in
    let is = is_choice t c.args.id.0 c.term-term.result c.in-Three.c c.in-Three.a c.in-Three.b c.term-term.ensures.parts
    c.in-Three.ensures in
    test_known t (level_lists c.args.levels.now) c.args.dd.now.table c.args.made.now c.requires.made c.in-Three.c
    c.part-in-Three.result.now _ c.part-in-Three.ensures is.test

pub rippled-requires-clause-a : goal.rippled-requires-clause-a
rippled-requires-clause-a c =
    let part = part_means c.args.terms.now (level_lists c.args.levels.now) c.args.dd.now.table c.args.made.now
    c.requires.made c.in-Three.a c.part-in-Three-2.result.now c.part-in-Three-2.ensures in
    part.known

pub rippled-requires-clause-b : goal.rippled-requires-clause-b
rippled-requires-clause-b c =
    let part = part_means c.args.terms.now (level_lists c.args.levels.now) c.args.dd.now.table c.args.made.now
    c.requires.made c.in-Three.b c.part-in-Three-3.result.now c.part-in-Three-3.ensures in
    part.known

pub rippled-requires-clause-same : goal.rippled-requires-clause-same
rippled-requires-clause-same c =
    let t = c.args.terms.now in
    let levels = level_lists c.args.levels.now in
    let s = c.args.dd.now.table in
    let is = is_choice t c.args.id.0 c.term-term.result c.in-Three.c c.in-Three.a c.in-Three.b c.term-term.ensures.parts
    c.in-Three.ensures in
    let first = part_means t levels s c.args.made.now c.requires.made c.in-Three.a c.part-in-Three-2.result.now
    c.part-in-Three-2.ensures in
    let second = part_means t levels s c.args.made.now c.requires.made c.in-Three.b c.part-in-Three-3.result.now
    c.part-in-Three-3.ensures in
    first.count ∙ is.same ∙ sym second.count

pub returns-in-Three-clause-answer : goal.returns-in-Three-clause-answer
returns-in-Three-clause-answer c =
    let t = c.args.terms.now in
    let levels = level_lists c.args.levels.now in
    let u = c.rippled.new.dd.table in
    let is = is_choice t c.args.id.0 c.term-term.result c.in-Three.c c.in-Three.a c.in-Three.b c.term-term.ensures.parts
    c.in-Three.ensures in
    IfOk-weaker c.rippled.result _ _
    (λ ids are. made_bits t levels u c.args.id ids.items c.term-term.result c.term-term.result refl
    c.term-term.ensures.width c.term-term.ensures.value
    (choice_term t levels c.args.dd.now.table c.args.made.now c.requires.made u c.term-term.result ids.items
    c.in-Three.c c.in-Three.a c.in-Three.b c.part-in-Three.result.now c.part-in-Three-2.result.now
    c.part-in-Three-3.result.now _ c.part-in-Three.ensures c.part-in-Three-2.ensures c.part-in-Three-3.ensures is are))
    c.rippled.ensures.answer
