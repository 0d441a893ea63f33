use Rattle.std.proofs.Common.{◌≡◌, map, take}
use Rattle.serde_json.specs.View.{view}
use Rattle.tm_cert.specs.Written.{number_data}
use Rattle.tm_cert.proofs.write.order_value.Given as goal

abbrev pub invariant-loop-place : goal.invariant-loop-place
invariant-loop-place l = map view l.items.items ≡ map number_data (take l.place-index l.order)
