use Rattle.std.proofs.Common.{◌≡◌, map}
use Rattle.serde_json.specs.View.{members_view}
use Rattle.tm_cert.specs.Part.{other_key}
use Rattle.tm_cert.proofs.Keys.{first_other}
use Rattle.tm_cert.proofs.part.other_key.Given as goal

abbrev pub invariant-loop-key : goal.invariant-loop-key
invariant-loop-key l =
    let keys = map (λ key. key.now) l.keys in
    other_key keys (members_view l.fn.object.entries) ≡ first_other keys l.key-iterator
