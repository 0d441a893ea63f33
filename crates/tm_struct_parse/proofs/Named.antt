-- A text whose tokens are a driver with names that the design has is this driver.
use Rattle.std.proofs.Common.{◌≡◌, ℕ, ◌≤◌, Bool, List, [], length, All, IsTrue, refl, sym, ap, ◌∙◌, subst, arith}
use Rattle.std.proofs.lemmas.List.{length-map}
use Rattle.tm_syntax.specs.Limits.{file_limit}
use Rattle.tm_syntax.specs.Design.{DesignTree}
use Rattle.tm_cparse.specs.declared.spot.Spot.{Spot}
use Rattle.tm_cparse.specs.View.{token_tree, tokens_of}
use Rattle.tm_cparse.specs.Cut.{MayAllStand, Standing}
use Rattle.tm_cparse.specs.Inner.Names.{AreKnown}
use Rattle.tm_cparse.proofs.DriverCut.{AreLow}
use Rattle.tm_cparse.proofs.Fitting.{AreGood}
use Rattle.tm_struct.specs.Tree.{ProgramTree}
use Rattle.tm_struct.specs.Text.Grammar.{program_tokens}
use Rattle.tm_struct.specs.Text.Spelling.{AreTokens}
use Rattle.tm_struct_parse.specs.Written.{WrittenProgram, written_tokens, AreWritten}
use Rattle.tm_struct_parse.specs.Cut.{IsCut}
use Rattle.tm_struct_parse.specs.Inner.Bodies.{IsFileBody, IsSmall, IsSmallFunction}
use Rattle.tm_struct_parse.specs.Inner.Names.{first_place, AreRight}
use Rattle.tm_struct_parse.specs.Inner.Scanning.{IsScan}
use Rattle.tm_struct_parse.proofs.Fitting.{program_fits, functions_small, main_small}
use Rattle.tm_struct_parse.proofs.NameSteps.{places_few}
use Rattle.tm_struct_parse.proofs.Placed.{IsRightProgram, program_right, program_in_order, program_of}
use Rattle.tm_struct_parse.proofs.SameCut.{cut_short}
use Rattle.tm_struct_parse.proofs.TextCut.{right_low, cut_tokens, cut_good, cut_shallow}

-- the tokens of a whole text, and the driver that they are, with names that the design has
pub record IsNamed (d : DesignTree) (line : ℕ) (body : List ℕ) (spots : List Spot) (p : WrittenProgram) : Type 0 where
  pub end : Standing
  pub cut : IsCut d (record { open_count = 0; line = line }) body spots [] end
  pub written : AreWritten (tokens_of spots) p
  pub known : AreKnown spots
  pub right : AreRight d first_place (tokens_of spots)
  pub short : length body ≤ file_limit

pub named_is : (d : DesignTree) (line : ℕ) (body : List ℕ) (spots found : List Spot) (last : ℕ) (whole : Bool)
    (p : WrittenProgram) → found ≡ spots → IsScan d line body spots last whole → IsTrue whole →
    AreWritten (tokens_of spots) p → AreKnown found × AreRight d first_place (tokens_of found) →
    length body ≤ file_limit → IsNamed d line body spots p
named_is d line body spots found last whole p same scan is written names short = record {
  end = scan.end;
  cut = subst (λ (l : List ℕ). IsCut d (record { open_count = 0; line = line }) body spots l scan.end)
      (scan.whole.0 is) scan.cut;
  written = written;
  known = subst AreKnown same names.0;
  right = subst (λ (l : List Spot). AreRight d first_place (tokens_of l)) same names.1;
  short = short;
}

module _ (d : DesignTree) (line : ℕ) (body : List ℕ) (spots : List Spot) (p : WrittenProgram)
    (is : IsNamed d line body spots p) where
  low : AreLow (tokens_of spots)
  low =
      right_low d first_place (tokens_of spots) 16777216 is.right
      (omega (
        arith,
        places_few first_place (tokens_of spots),
        length-map spots (λ (s : Spot). token_tree s.token),
        cut_short d is.cut,
        is.short,
      )) (omega arith)

  right_names : IsRightProgram d p
  right_names = program_right d p (subst (AreRight d first_place) is.written.are is.right)

  in_order : tokens_of spots ≡ program_tokens (program_of p)
  in_order = is.written.are ∙ program_in_order d p right_names

  are_good : AreGood d (written_tokens p)
  are_good = subst (AreGood d) is.written.are (cut_good d is.cut is.known low)

  pub named_functions_small : All IsSmallFunction p.functions
  named_functions_small = functions_small d 0 p.functions right_names.functions

  pub named_main_small : IsSmall p.main
  named_main_small = main_small d p right_names

  -- each text with this one behind its include is the driver
  pub named_body : IsFileBody d line body (program_of p)
  named_body text include short = record {
    short = short;
    is = record {
      body = body;
      include = include.include;
      functions = subst (AreTokens d body) in_order (cut_tokens d is.cut refl is.known low);
      fits = program_fits d p (tokens_of spots) is.written right_names are_good;
    };
    shallow = subst (MayAllStand 0) in_order (cut_shallow d is.cut);
  }

-- the driver that was made of it
pub made_body : (d : DesignTree) (line : ℕ) (body : List ℕ) (p : WrittenProgram) (made : ProgramTree) →
    IsFileBody d line body (program_of p) → made.functions ≡ (program_of p).functions → made.main ≡ p.main →
    IsFileBody d line body made
made_body d line body p made is functions main =
    subst (IsFileBody d line body) (sym same) is
  where
    same : made ≡ program_of p
    same =
        ap (λ fs. record { functions = fs; main = made.main }) functions
        ∙ ap (λ a. record { functions = (program_of p).functions; main = a }) main
