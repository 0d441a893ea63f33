-- What an error of the parser says of its text.
use Rattle.std.specs.Prelude.{◌≡◌, ℕ, List, [], ◌∷◌, ⊤, ◌⊎◌}
use Rattle.tm_base.specs.declared.place.Place.{Place}
use Rattle.tm_syntax.specs.declared.token.Token.{Token}
use Rattle.tm_syntax.specs.declared.fault.FrontError.{FrontError}
use Rattle.tm_syntax.specs.declared.fault.FrontError.TheVariants.{Faulty, Memory}
use Rattle.tm_syntax.specs.declared.fault.FaultKind.TheVariants.{Syntax, Deep}
use Rattle.tm_syntax.specs.declared.fault.Detail.TheVariants.{Nothing}
use Rattle.tm_syntax.specs.Tokens.{place_after}
use Rattle.tm_syntax.specs.Grammar.Faults.{HasSyntaxFault, HasDepthFault}

-- the place of the first of these tokens, which end a text, or that of the text's end
abbrev pub place_at : List ℕ → List Token → Place
place_at text [] = place_after text
place_at text (t ∷ ts) = t.place

-- F2 at a place
abbrev pub syntax_fault : Place → FrontError
syntax_fault place = Faulty (record { kind = Syntax; place = place; detail = Nothing })

-- F3 at a place
abbrev pub depth_fault : Place → FrontError
depth_fault place = Faulty (record { kind = Deep; place = place; detail = Nothing })

-- the fault that the grammar gives of the tokens; of want of memory nothing is said
abbrev pub IsFaultOf : List ℕ → List Token → FrontError → Type 0
IsFaultOf text tokens (Faulty fault) =
    ((Faulty fault ≡ syntax_fault fault.place) × HasSyntaxFault text tokens fault.place)
    ⊎ ((Faulty fault ≡ depth_fault fault.place) × HasDepthFault text tokens fault.place)
IsFaultOf text tokens Memory = ⊤

-- want of memory, or this error
abbrev pub IsMemoryOr : FrontError → FrontError → Type 0
IsMemoryOr fault e = (e ≡ Memory) ⊎ (e ≡ fault)
