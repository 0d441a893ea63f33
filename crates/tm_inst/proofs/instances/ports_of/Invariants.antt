use Rattle.std.proofs.Common.{◌≡◌, ◌++◌, drop}
use Rattle.std.specs.List.{filter_map}
use Rattle.tm_inst.specs.Inner.Growth.{port_named}
use Rattle.tm_inst.proofs.instances.ports_of.Given as goal

abbrev pub invariant-loop-arg : goal.invariant-loop-arg
invariant-loop-arg l =
    l.ports.items ++ filter_map (port_named l.sites.spec l.sites.instances l.holder) (drop l.arg-index l.args)
    ≡ filter_map (port_named l.sites.spec l.sites.instances l.holder) l.args
