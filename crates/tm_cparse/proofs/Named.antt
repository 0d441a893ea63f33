-- A text whose tokens are a driver with names that the design has is the driver of its blocks.
use Rattle.std.proofs.Common.{◌≡◌, ℕ, ◌≤◌, Bool, List, [], map, length, All, IsTrue, refl, sym, ap, ◌∙◌, subst, arith}
use Rattle.std.proofs.lemmas.List.{length-map}
use Rattle.tm_syntax.specs.Design.{DesignTree}
use Rattle.tm_cir.specs.Fit.{FitsBlock, FitBlocks}
use Rattle.tm_cir.specs.Text.Token.{Token}
use Rattle.tm_cir.specs.Text.Grammar.{driver_tokens}
use Rattle.tm_cir.specs.Text.Spelling.{AreTokens}
use Rattle.tm_syntax.specs.Limits.{file_limit}
use Rattle.tm_cparse.specs.declared.spot.Spot.{Spot}
use Rattle.tm_cparse.specs.View.{token_tree, tokens_of}
use Rattle.tm_cparse.specs.Written.{WrittenBlock, function_tokens, AreWritten}
use Rattle.tm_cparse.specs.Cut.{MayAllStand, Standing, IsCut}
use Rattle.tm_cparse.specs.Inner.Scanning.{IsScan}
use Rattle.tm_cparse.specs.Inner.Names.{place_after, first_place, AreRight, AreKnown}
use Rattle.tm_cparse.specs.Inner.Bodies.{IsBody, block_of, IsSmallBlock}
use Rattle.tm_cparse.proofs.Fitting.{AreGood, blocks_fit, small_blocks}
use Rattle.tm_cparse.proofs.Placed.{AreRightBlocks, function_right, label_count_is, driver_in_order}
use Rattle.tm_cparse.proofs.DriverCut.{AreLow, right_low, places_few, cut_tokens, cut_good, cut_shallow}
use Rattle.tm_cparse.proofs.SameCut.{cut_short}

-- the tokens of a whole text, and the blocks that they are, with names that the design has
pub record IsNamed (d : DesignTree) (line : ℕ) (body : List ℕ) (spots : List Spot) (ws : List WrittenBlock) : Type 0
  where
    pub end : Standing
    pub cut : IsCut d (record { open_count = 0; line = line }) body spots [] end
    pub written : AreWritten (tokens_of spots) ws
    pub known : AreKnown spots
    pub right : AreRight d ((place_after first_place (tokens_of spots)).labels) first_place (tokens_of spots)
    pub short : length body ≤ file_limit

pub named_is : (d : DesignTree) (line : ℕ) (body : List ℕ) (spots found : List Spot) (last : ℕ) (whole : Bool)
    (ws : List WrittenBlock) → found ≡ spots → IsScan d line body spots last whole → IsTrue whole →
    AreWritten (tokens_of spots) ws →
    AreKnown found × AreRight d ((place_after first_place (tokens_of found)).labels) first_place (tokens_of found) →
    length body ≤ file_limit → IsNamed d line body spots ws
named_is d line body spots found last whole ws same scan is written names short = record {
  end = scan.end;
  cut = subst (λ (l : List ℕ). IsCut d (record { open_count = 0; line = line }) body spots l scan.end)
      (scan.whole.0 is) scan.cut;
  written = written;
  known = subst AreKnown same names.0;
  right = subst (λ (l : List Spot). AreRight d ((place_after first_place (tokens_of l)).labels) first_place
      (tokens_of l))
      same names.1;
  short = short;
}

module _ (d : DesignTree) (line : ℕ) (body : List ℕ) (spots : List Spot) (ws : List WrittenBlock)
    (is : IsNamed d line body spots ws) where
  -- there are as many labels as blocks
  count_is : (place_after first_place (tokens_of spots)).labels ≡ length ws
  count_is = ap (λ (l : List Token). (place_after first_place l).labels) is.written.are ∙ label_count_is ws

  few : (place_after first_place (tokens_of spots)).labels ≤ 16777216
  few =
      omega (
        arith,
        places_few first_place (tokens_of spots),
        length-map spots (λ (s : Spot). token_tree s.token),
        cut_short d is.cut,
        is.short,
      )

  low : AreLow (tokens_of spots)
  low =
      right_low d ((place_after first_place (tokens_of spots)).labels) first_place (tokens_of spots) is.right
      (omega arith) (omega (arith, few))

  blocks : AreRightBlocks d ((place_after first_place (tokens_of spots)).labels) 0 ws
  blocks =
      function_right d ((place_after first_place (tokens_of spots)).labels) ws
      (subst (AreRight d ((place_after first_place (tokens_of spots)).labels) first_place) is.written.are is.right)

  in_order : tokens_of spots ≡ driver_tokens (map block_of ws)
  in_order = is.written.are ∙ driver_in_order d ((place_after first_place (tokens_of spots)).labels) ws blocks

  are_good : AreGood d (function_tokens ws)
  are_good = subst (AreGood d) is.written.are (cut_good d is.cut is.known low)

  -- the blocks fit the design
  pub named_fits : FitBlocks d (map block_of ws)
  named_fits = record {
    some = omega (arith, is.written.some, length-map ws block_of);
    each = λ at b there.
        subst (λ (n : ℕ). FitsBlock d n at b) (count_is ∙ sym (length-map ws block_of))
        (subst (λ (i : ℕ). FitsBlock d ((place_after first_place (tokens_of spots)).labels) i b) (omega arith)
        (blocks_fit d ((place_after first_place (tokens_of spots)).labels) 0 ws is.written.in_range blocks
        are_good.1.1.1.1.1.1 at b there));
  }

  pub named_small : All IsSmallBlock (map block_of ws)
  named_small =
      small_blocks d ((place_after first_place (tokens_of spots)).labels) 0 ws (omega (arith, few)) blocks

  -- each text with this one behind its include is their driver
  pub named_body : IsBody d line body (map block_of ws)
  named_body text include short = record {
    short = short;
    is = record {
      body = body;
      include = include.include;
      function = subst (AreTokens d body) in_order (cut_tokens d is.cut refl is.known low);
      fits = named_fits;
    };
    shallow = subst (MayAllStand 0) in_order (cut_shallow d is.cut);
  }
