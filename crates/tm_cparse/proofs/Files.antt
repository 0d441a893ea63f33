-- The text of a driver has no fault.
use Rattle.std.proofs.Common.{◌≡◌, ⊎_elim, ℕ, suc, ◌+◌, ◌≤◌, Some, List, [], ◌∷◌, ◌++◌, length, slice_get, All, refl, sym, ap, ◌∙◌, subst, append_assoc, length-append, arith}
use Rattle.std.proofs.lemmas.List.{append-nil}
use Rattle.std.proofs.lemmas.List.Elements.{All-nil, All-cons, All-head, All-tail}
use Rattle.tm_syntax.specs.Design.{DesignTree}
use Rattle.tm_cir.specs.Tree.{NumTree, var, goal, last, complement, binary, shift, conditional, TruthTree, num, negation, compare, join, BlockTree, test, call, leave, idle}
use Rattle.tm_cir.specs.Tree as trees
use Rattle.tm_cir.specs.Fit.{FitsNum, FitsTruth, FitsBlock, FitBlocks}
use Rattle.tm_cir.specs.Text.Token.{Token}
use Rattle.tm_cir.specs.Text.Grammar.{driver_tokens}
use Rattle.tm_cparse.specs.declared.bad.BadDriver.{BadDriver}
use Rattle.tm_cparse.specs.declared.bad.BadDriver.TheVariants.{TooLong, Text, UnknownName, BackwardGoto}
use Rattle.tm_cparse.specs.declared.spot.Spot.{Spot}
use Rattle.tm_cparse.specs.View.{token_tree, tokens_of}
use Rattle.tm_cparse.specs.Written.{WrittenBlock, NumInRange, TruthInRange, BlockInRange, AreWritten, Begins}
use Rattle.tm_cparse.specs.Cut.{Standing, IsStuck}
use Rattle.tm_cparse.specs.Faults.{IsDriverFile, HasNames, line_after, IsScanned, HasTextFault, no_include, unexpected, stopped, label_count, IsNameFault, HasNameFault, HasFault}
use Rattle.tm_cparse.specs.Inner.Names.{place_after, first_place, AreRight, AreKnown}
use Rattle.tm_cparse.proofs.Fronts.{include_front}
use Rattle.tm_cparse.proofs.Placed.{IsRightStatement, AreRightBlocks, right_function, label_count_is, labelled, labelled_driver, labelled_length}
use Rattle.tm_cparse.proofs.Positions.{labels_count}
use Rattle.tm_cparse.proofs.Spelled.{spelled_some}
use Rattle.tm_cparse.proofs.DriverCut.{AreLow, AreAllKnown, right_low, places_few, cut_of, tokens_short}
use Rattle.tm_cparse.proofs.SameCut.{same_scan}
use Rattle.tm_cparse.proofs.NameFaults.{fault_at, right_no_fault, right_at, known_at}

-- blocks that fit are right
fits_right : (d : DesignTree) (count n : ℕ) (b : BlockTree) → HasNames d → FitsBlock d count n b →
    IsRightStatement d count (n + 1) b
fits_right d count n (test t first second) names fits =
    ((omega (arith, fits.1.0), fits.1.1), (omega (arith, fits.2.0), fits.2.1))
fits_right d count n (call k args) names fits = (fits.0, fits.1)
fits_right d count n (leave p) names fits = (fits, omega (arith, fits, names.few_processes))
fits_right d count n idle names fits = tt

blocks_right : (d : DesignTree) (count n : ℕ) (bs : List BlockTree) → HasNames d →
    ((i : ℕ) (b : BlockTree) → slice_get bs i ≡ Some b → FitsBlock d count (n + i) b) →
    AreRightBlocks d count n (labelled n bs)
blocks_right d count n [] names each = tt
blocks_right d count n (b ∷ bs) names each = (
  (
    refl,
    fits_right d count n b names (subst (λ (k : ℕ). FitsBlock d count k b) (omega arith) (each 0 b refl)),
  ),
  blocks_right d count (n + 1) bs names
      (λ i c there. subst (λ (k : ℕ). FitsBlock d count k c) (omega arith) (each (suc i) c there)),
)

mutual
  num_in_range : (v p : ℕ) (a : NumTree) → FitsNum v p a → NumInRange a
  num_in_range v p (trees.constant n) fits = tt
  num_in_range v p (var k) fits = tt
  num_in_range v p (trees.location k) fits = tt
  num_in_range v p goal fits = tt
  num_in_range v p last fits = tt
  num_in_range v p (complement a) fits = num_in_range v p a fits
  num_in_range v p (binary op a b) fits = (num_in_range v p a fits.0, num_in_range v p b fits.1)
  num_in_range v p (shift op a by) fits = (num_in_range v p a fits.0, fits.1)
  num_in_range v p (conditional t a b) fits =
      (truth_in_range v p t fits.0, num_in_range v p a fits.1, num_in_range v p b fits.2)

  pub truth_in_range : (v p : ℕ) (t : TruthTree) → FitsTruth v p t → TruthInRange t
  truth_in_range v p (num a) fits = num_in_range v p a fits
  truth_in_range v p (negation t) fits = truth_in_range v p t fits
  truth_in_range v p (compare op a b) fits = (num_in_range v p a fits.0, num_in_range v p b fits.1)
  truth_in_range v p (join op t u) fits = (truth_in_range v p t fits.0, truth_in_range v p u fits.1)

pub all_in_range : (v p : ℕ) (args : List NumTree) → All (FitsNum v p) args → All NumInRange args
all_in_range v p [] all = All-nil NumInRange
all_in_range v p (a ∷ args) all =
    All-cons NumInRange a args (num_in_range v p a (All-head (FitsNum v p) a args all))
    (all_in_range v p args (All-tail (FitsNum v p) a args all))

block_in_range : (d : DesignTree) (count n : ℕ) (b : BlockTree) → FitsBlock d count n b → BlockInRange b
block_in_range d count n (test t first second) fits = truth_in_range (length d.vars) (length d.processes) t fits.0
block_in_range d count n (call k args) fits = all_in_range (length d.vars) (length d.processes) args fits.2
block_in_range d count n (leave p) fits = tt
block_in_range d count n idle fits = tt

blocks_in_range : (d : DesignTree) (count n : ℕ) (bs : List BlockTree) →
    ((i : ℕ) (b : BlockTree) → slice_get bs i ≡ Some b → FitsBlock d count (n + i) b) →
    All (λ (w : WrittenBlock). BlockInRange w.block) (labelled n bs)
blocks_in_range d count n [] each = All-nil (λ (w : WrittenBlock). BlockInRange w.block)
blocks_in_range d count n (b ∷ bs) each =
    All-cons (λ (w : WrittenBlock). BlockInRange w.block) (record { label = n; block = b }) (labelled (n + 1) bs)
    (block_in_range d count (n + 0) b (each 0 b refl))
    (blocks_in_range d count (n + 1) bs
    (λ i c there. subst (λ (k : ℕ). FitsBlock d count k c) (omega arith) (each (suc i) c there)))

-- a driver's text, scanned
pub record IsFileScan (d : DesignTree) (text : List ℕ) (bs : List BlockTree) : Type 0 where
  pub spots : List Spot
  pub end : Standing
  pub scanned : IsScanned d text spots [] end
  pub tokens : tokens_of spots ≡ driver_tokens bs
  pub known : AreAllKnown spots

abbrev FitEach : DesignTree → List BlockTree → Type 0
FitEach d bs = (i : ℕ) (b : BlockTree) → slice_get bs i ≡ Some b → FitsBlock d (length bs) (0 + i) b

each_fits : (d : DesignTree) (bs : List BlockTree) → FitBlocks d bs → FitEach d bs
each_fits d bs fits i b there =
    subst (λ (k : ℕ). FitsBlock d (length bs) k b) (omega arith) (fits.each i b there)

-- the tokens of blocks that fit are right
pub file_right : (d : DesignTree) (bs : List BlockTree) → HasNames d → FitBlocks d bs →
    AreRight d (length bs) first_place (driver_tokens bs)
file_right d bs names fits =
    subst (AreRight d (length bs) first_place) (labelled_driver bs)
    (right_function d (length bs) (labelled 0 bs)
    (blocks_right d (length bs) 0 bs names (each_fits d bs fits)))

pub file_labels : (bs : List BlockTree) → (place_after first_place (driver_tokens bs)).labels ≡ length bs
file_labels bs =
    ap (λ (l : List Token). (place_after first_place l).labels) (sym (labelled_driver bs))
    ∙ label_count_is (labelled 0 bs) ∙ labelled_length 0 bs

pub file_written : (d : DesignTree) (bs : List BlockTree) → FitBlocks d bs →
    AreWritten (driver_tokens bs) (labelled 0 bs)
file_written d bs fits = record {
  some = omega (arith, fits.some, labelled_length 0 bs);
  in_range = blocks_in_range d (length bs) 0 bs (each_fits d bs fits);
  are = sym (labelled_driver bs);
}

empty_stuck : (at : Standing) → IsStuck at []
empty_stuck at = record {
  no_blank = tt;
  no_token = λ t bytes rest begins may.
      omega (arith, ap length begins.whole, length-append bytes rest, spelled_some t bytes begins.spelled);
}

pub file_scan : (d : DesignTree) (text : List ℕ) (bs : List BlockTree) → HasNames d → IsDriverFile d text bs →
    IsFileScan d text bs
file_scan d text bs names file =
    let front = include_front text file.is.body file.is.include in
    let few : length bs ≤ 16777216 =
    omega (
      arith,
      file_labels bs,
      places_few first_place (driver_tokens bs),
      tokens_short d file.is.function,
      file.short,
      ap length front.1,
      length-append front.0 file.is.body,
    ) in
    let low : AreLow (driver_tokens bs) =
    right_low d (length bs) first_place (driver_tokens bs) (file_right d bs names file.is.fits)
    (omega (arith, file_labels bs)) (omega (arith, few)) in
    let cut = cut_of d names (record { open_count = 0; line = line_after front.0 }) file.is.function low file.shallow in
    record {
      spots = cut.spots;
      end = cut.end;
      scanned = record {
        front = front.0;
        body = file.is.body;
        whole = front.1;
        include = file.is.include;
        cut = cut.cut;
        stuck = empty_stuck cut.end;
      };
      tokens = cut.tokens;
      known = cut.known;
    }

pub all_known : (spots : List Spot) → AreAllKnown spots → AreKnown spots
all_known [] known = tt
all_known (s ∷ spots) known = ((λ item. known.0), all_known spots known.1)

-- what begins a driver
pub begins_less : (xs ys : List Token) → Begins (xs ++ ys) → Begins xs
begins_less xs ys begins = record {
  behind = ys ++ begins.behind;
  blocks = begins.blocks;
  written = subst (λ (l : List Token). AreWritten l begins.blocks) (append_assoc xs ys begins.behind) begins.written;
}

pub begins_all : (ts : List Token) (ws : List WrittenBlock) → AreWritten ts ws → Begins ts
begins_all ts ws written = record {
  behind = [];
  blocks = ws;
  written = subst (λ (l : List Token). AreWritten l ws) (sym (append-nil ts)) written;
}

-- the tokens of spots before, at and behind a place
pub tokens_around : (front : List Spot) (s : Spot) (others : List Spot) →
    tokens_of (front ++ s ∷ others) ≡ (tokens_of front ++ token_tree s.token ∷ []) ++ tokens_of others
tokens_around [] s others = refl
tokens_around (f ∷ front) s others =
    ap (λ (l : List Token). token_tree f.token ∷ l) (tokens_around front s others)

pub begins_at : (front : List Spot) (s : Spot) (others : List Spot) → Begins (tokens_of (front ++ s ∷ others)) →
    Begins (tokens_of front ++ token_tree s.token ∷ [])
begins_at front s others begins =
    begins_less (tokens_of front ++ token_tree s.token ∷ []) (tokens_of others)
    (subst Begins (tokens_around front s others) begins)

no_text_fault : (d : DesignTree) (text : List ℕ) (bs : List BlockTree) (line : ℕ) → HasNames d →
    IsDriverFile d text bs → HasTextFault d text line → ⊥
no_text_fault d text bs line names file (no_include blanks rest all is begins none) =
    none file.is.body file.is.include
no_text_fault d text bs line names file (unexpected front others s {rest = rest} {end = end} scanned begins stuck) =
    let scan = file_scan d text bs names file in
    let same = same_scan d text (front ++ s ∷ others) scan.spots rest [] end scan.end scanned scan.scanned in
    stuck
    (begins_at front s others
    (subst Begins (sym (ap tokens_of same.lists ∙ scan.tokens))
    (begins_all (driver_tokens bs) (labelled 0 bs) (file_written d bs file.is.fits))))
no_text_fault d text bs line names file (stopped {spots = spots} {rest = rest} {end = end} scanned begins ends) =
    let scan = file_scan d text bs names file in
    let same = same_scan d text spots scan.spots rest [] end scan.end scanned scan.scanned in
    ends same.rests (labelled 0 bs)
    (subst (λ (l : List Token). AreWritten l (labelled 0 bs)) (sym (ap tokens_of same.lists ∙ scan.tokens))
    (file_written d bs file.is.fits))

no_name_fault : (d : DesignTree) (text : List ℕ) (bs : List BlockTree) (bad : BadDriver) → HasNames d →
    IsDriverFile d text bs → HasNameFault d text bad → ⊥
no_name_fault d text bs bad names file fault =
    let scan = file_scan d text bs names file in
    let spots : List Spot = fault.front ++ fault.spot ∷ fault.others in
    let same = same_scan d text spots scan.spots [] [] fault.end scan.end fault.scanned scan.scanned in
    let tokens : tokens_of spots ≡ driver_tokens bs = ap tokens_of same.lists ∙ scan.tokens in
    let count : label_count (tokens_of spots) ≡ length bs =
    ap label_count tokens ∙ sym (labels_count (driver_tokens bs)) ∙ file_labels bs in
    let known : AreKnown spots = subst AreKnown (sym same.lists) (all_known scan.spots scan.known) in
    let right : AreRight d (length bs) first_place (tokens_of spots) =
    subst (AreRight d (length bs) first_place) (sym tokens) (file_right d bs names file.is.fits) in
    right_no_fault d (length bs) (place_after first_place (tokens_of fault.front)) (token_tree fault.spot.token)
    fault.spot.known fault.spot.line (tokens_of fault.others) bad (known_at fault.front fault.spot fault.others known)
    (right_at d (length bs) first_place fault.front fault.spot fault.others right)
    (fault_at d (length bs) fault.front fault.spot fault.others bad
    (subst (λ (n : ℕ). IsNameFault d n fault.front fault.spot fault.others bad) count fault.is))

-- a text with blocks has no fault
pub file_no_fault : (d : DesignTree) (text : List ℕ) (bs : List BlockTree) (bad : BadDriver) → HasNames d →
    IsDriverFile d text bs → HasFault d text bad → ⊥
file_no_fault d text bs TooLong names file fault = omega (arith, file.short, fault)
file_no_fault d text bs (Text line) names file fault =
    ⊎_elim (no_text_fault d text bs line names file) (no_name_fault d text bs (Text line) names file) fault.1
file_no_fault d text bs (UnknownName line) names file fault =
    no_name_fault d text bs (UnknownName line) names file fault.1
file_no_fault d text bs (BackwardGoto line) names file fault =
    no_name_fault d text bs (BackwardGoto line) names file fault.1
