use Rattle.std.proofs.Common.{◌+◌, Option, None, Some, refl, sym, arith}
use Rattle.std.specs.Prelude.{IfNone}
use Rattle.tm_locations.proofs.TrailNumbers.{no-trail, trail-read}
use Rattle.tm_locations.proofs.table.Locations.trail_behind.Goals as goal

if_none : {T P : Type 0} (o : Option T) → P → IfNone o P
if_none None p = p
if_none (Some x) p = tt

pub returns-in_err-index-clause-none : goal.returns-in_err-index-clause-none
returns-in_err-index-clause-none c =
    if_none c.from_residual.result (λ before it n is.
    no-trail c.args.self.now.trails.keys c.args.at c.args.trail (sym c.in_err-index.ensures.index) before it is refl)

pub returns-clause-found : goal.returns-clause-found
returns-clause-found c = λ before it.
    trail-read c.args.self.now.trails.keys (record { at = c.args.at; then = c.args.trail }) c.in_ok-index.index
    (sym c.in_ok-index.ensures.index) (c.in_ok-index.index + 1) (omega arith) before it
