use Rattle.std.proofs.Common.{length, ap, ◌∙◌}
use Rattle.tm_ddops.specs.Manager.{Diagrams}
use Rattle.tm_strat_cert.proofs.Later.{numbered_in, placed_in, set_over}
use Rattle.tm_strat_cert.proofs.place.place.Goals as goal

pub number-requires : goal.number-requires
number-requires c =
    let same = c.store-store.ensures.value ∙ ap (λ (m : Diagrams). m.table) c.manager.ensures in (
      length c.args.game.now.order,
      set_over c.args.game.now c.store-store.result.now c.args.set same c.requires.set.set,
      numbered_in c.args.game.now c.store-store.result.now c.args.kept.now.keys c.args.nodes.now.items same
          c.requires.numbered,
    )

pub returns : goal.returns
returns c =
    let same = c.store-store.ensures.value ∙ ap (λ (m : Diagrams). m.table) c.manager.ensures in
    placed_in c.args.game.now c.store-store.result.now c.args.kept.now.keys c.number.new.kept.keys
    c.args.nodes.now.items c.number.new.nodes.items c.args.set c.number.result same c.requires.set.set
    c.requires.numbered c.number.ensures
