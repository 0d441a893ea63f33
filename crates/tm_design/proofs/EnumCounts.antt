-- How many constants the first enum of a name has.
use Rattle.std.proofs.Common.{◌≡◌, ℕ, zero, suc, ◌<◌, Bool, None, Some, List, [], ◌∷◌, length, map, get_or, sym, ap}
use Rattle.std.proofs.Common.{◌∙◌, arith}
use Rattle.std.specs.Prelude.{find, position, slice_get}
use Rattle.std.specs.Option.{option_and_then, option_map_or}
use Rattle.tm_syntax.specs.declared.tree.EnumDef.{EnumDef}
use Rattle.tm_syntax.specs.Tree.{EnumTree}
use Rattle.tm_syntax.specs.Tree.View.{enum_tree}
use Rattle.tm_scope.proofs.Positions.{find-position}

mapped_at : (es : List EnumDef) (i : ℕ) (e : EnumDef) → i < length es → e ≡ get_or es i e →
    slice_get (map enum_tree es) i ≡ Some (enum_tree e)
mapped_at [] i e below is = absurd (omega arith)
mapped_at (x ∷ xs) zero e below is = ap (λ y. Some (enum_tree y)) (sym is)
mapped_at (x ∷ xs) (suc i) e below is = mapped_at xs i e (omega arith) is

pub counted : (p : EnumTree → Bool) (es : List EnumDef) (i : ℕ) (e : EnumDef) →
    position p (map enum_tree es) ≡ Some i → i < length es → e ≡ get_or es i e →
    option_map_or (λ (t : EnumTree). length t.constants) (find p (map enum_tree es)) 0 ≡ length e.constants.items
counted p es i e found below is =
    ap (λ o. option_map_or (λ (t : EnumTree). length t.constants) o 0)
    (find-position p (map enum_tree es)
    ∙ ap (option_and_then (slice_get (map enum_tree es))) found
    ∙ mapped_at es i e below is)

pub none_counted : (p : EnumTree → Bool) (es : List EnumDef) → position p (map enum_tree es) ≡ None →
    option_map_or (λ (t : EnumTree). length t.constants) (find p (map enum_tree es)) 0 ≡ 0
none_counted p es none =
    ap (λ o. option_map_or (λ (t : EnumTree). length t.constants) o 0)
    (find-position p (map enum_tree es) ∙ ap (option_and_then (slice_get (map enum_tree es))) none)
