use Rattle.std.proofs.Common.{◌≡◌, Bool, true, false, cond, Option, Some, nat_eq, refl, ap, ◌∙◌}
use Rattle.std.specs.Cmp.Lexicographic.{pointwise}
use Rattle.std.specs.Option.{option_map}
use Rattle.tm_scope.specs.Directory.{key_bytes}
use Rattle.tm_names.specs.Sorts.{declared_of}
use Rattle.tm_names.specs.ScopeNames.{found}
use Rattle.tm_names.proofs.SpelledNames.{pointwise-sym}
use Rattle.tm_names.proofs.scopes.names.Names.put.Goals as goal

map_cond : {X Y : Type 0} (f : X → Y) (b : Bool) (x : X) (o : Option X) →
    option_map f (cond b (Some x) o) ≡ cond b (Some (f x)) (option_map f o)
map_cond f true x o = refl
map_cond f false x o = refl

pub returns : goal.returns
returns c = λ other.
    ap (option_map declared_of) (c.in_ok-insert.ensures.updates.0
    (record { bytes = record { ref_ptr = (0, 0); now = other } }))
    ∙ map_cond declared_of (pointwise nat_eq (key_bytes c.new.result) other) c.args.declared _
    ∙ ap (λ b. cond b (Some (declared_of c.args.declared)) (found c.args.self.now.first.entries other))
    (ap (λ name. pointwise nat_eq name other) c.new.ensures ∙ pointwise-sym c.args.name.now other)
