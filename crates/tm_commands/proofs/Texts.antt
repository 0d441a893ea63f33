-- The text of a specification has one design, or a fault.
use Rattle.std.proofs.Common.{◌≡◌, ℕ, ◌≤◌, Bool, true, false, cond, nat_lt, Option, None, Some, List, [], ◌∷◌, length}
use Rattle.std.proofs.Common.{refl, sym, ap, subst, ◌∙◌, arith}
use Rattle.std.specs.List.{AllByRecursion, find}
use Rattle.tm_syntax.specs.declared.fault.Detail.{Detail}
use Rattle.tm_syntax.specs.declared.fault.Detail.TheVariants as detail
use Rattle.tm_syntax.specs.declared.fault.Quantity.{Quantity}
use Rattle.tm_syntax.specs.declared.fault.Quantity.TheVariants as quantity
use Rattle.tm_syntax.specs.declared.fault.FaultKind.{FaultKind}
use Rattle.tm_syntax.specs.declared.fault.FaultKind.TheVariants as kind
use Rattle.tm_syntax.specs.declared.fault.Faulty.{Faulty as Fault}
use Rattle.tm_syntax.specs.declared.token.Token.{Token}
use Rattle.tm_syntax.specs.declared.tree.Ident.{Ident}
use Rattle.tm_syntax.specs.Limits.{specification_limit}
use Rattle.tm_syntax.specs.Tree.{SpecTree}
use Rattle.tm_syntax.specs.Places.{earliest}
use Rattle.tm_syntax.specs.Tokens.{AreTokens}
use Rattle.tm_syntax.specs.Grammar.Faults.{IsTree, HasSyntaxFault, HasDepthFault}
use Rattle.tm_syntax.specs.Design.{DesignTree}
use Rattle.tm_syntax.specs.Design.Atoms.{pool_atoms}
use Rattle.tm_syntax.specs.Faults.{IsFirst, here, later, HasFault, FaultOf, too_long, byte, syntax_, deep}
use Rattle.tm_syntax.specs.Faults.{of_tree, HasTreeFault, IsSound}
use Rattle.tm_syntax.specs.Faults.Marks.{Mark, first_mark, first_place}
use Rattle.tm_syntax.specs.Faults.Cycles.{TaskMark, CallsItself, all_tasks, TemplateMark, HoldsItself, all_templates}
use Rattle.tm_syntax.specs.Faults.Limits.{limit_of, count_of, counted, IsAboveLimit, long_name, many, many_atoms}
use Rattle.tm_syntax.proofs.Designs.{designs_agree}
use Rattle.tm_syntax.proofs.Tokens.{tokens_agree, tokens_or_fault}
use Rattle.tm_parse.proofs.Decided.{tree_no_syntax_fault, tree_no_depth_fault}
use Rattle.tm_parse.proofs.DerivedDecls.{one_tree}
use Rattle.tm_cparse.specs.Faults.{HasNames}
use Rattle.tm_cparse.proofs.DesignNames.{has_names}
use Rattle.tm_commands.specs.Headline.{long_fault}
use Rattle.tm_inst.specs.Specification.{IsDesignText}

-- what holds of the tokens of a text holds of all that are its tokens
moved : {text : List ℕ} {one other : List Token} (P : List Token → Type 0) → AreTokens text one →
    AreTokens text other → P one → P other
moved {text} {one} {other} P are also holds = subst P (tokens_agree text one other are also) holds

-- a text has one design
pub one_design : (text : List ℕ) (tokens others : List Token) (d e : DesignTree) → IsDesignText text tokens d →
    IsDesignText text others e → d ≡ e
one_design text tokens others d e one other =
    let is : IsTree text tokens e.spec =
    moved (λ (ts : List Token). IsTree text ts e.spec) other.are_tokens one.are_tokens other.is_tree in
    designs_agree d.spec d e refl (sym (one_tree one.is_tree is)) one.sound.numbered other.sound.numbered

not_there : {X : Type 0} (x : X) (o : Option X) → o ≡ Some x → o ≡ None → ⊥
not_there x o one other = let both = sym one ∙ other in cc

-- the first fault is one
one_is : {X : Type 0} (mark : X → Mark) (Is : X → Type 0) (xs : List X) (m : Mark) → IsFirst mark Is xs m →
    (x : X) × Is x
one_is mark Is _ _ (here {x = x} is rest) = (x, is)
one_is mark Is _ m (later {xs = xs} first before) = one_is mark Is xs m first

-- a design that keeps its facts is within its limits
no_limit : (d : DesignTree) (m : Mark) → IsSound d → IsAboveLimit d.spec m → ⊥
no_limit d _ sound (long_name name first) =
    not_there name _ first (ap (earliest (λ (n : Ident). n.place)) sound.within.names)
no_limit d _ sound (many what none found) = not_there what _ found sound.within.counts
no_limit d _ sound (many_atoms e none counts of design found) =
    let same : e ≡ d = designs_agree d.spec e d of refl design sound.numbered in
    let counted : length (pool_atoms e) ≡ length (pool_atoms d) = ap (λ (x : DesignTree). length (pool_atoms x)) same in
    omega (arith, found, counted, sound.within.atoms)

-- the tree of a design that keeps its facts has no fault
has_none : (d : DesignTree) (k : FaultKind) (m : Mark) → IsSound d → HasFault k d.spec m → ⊥
has_none d kind.UnknownName m sound has = not_there m _ has (ap first_mark sound.known)
has_none d kind.Twice m sound has = not_there m _ has (ap first_mark sound.once)
has_none d kind.Mismatch m sound has = not_there m _ has (ap first_place sound.matching)
has_none d kind.Literal m sound has = not_there m _ has (ap first_place sound.fitting)
has_none d kind.CallCycle m sound has =
    let one = one_is (λ (k : TaskMark). k.mark) (CallsItself d.spec) (all_tasks d.spec) m has in
    sound.no_call_cycle one.0.number one.1
has_none d kind.LoopWithoutLocation m sound has = not_there m _ has (ap first_place sound.crossing)
has_none d kind.LocationInAtomic m sound has = not_there m _ has (ap first_place sound.atomic)
has_none d kind.TemplateCycle m sound has =
    let one = one_is (λ (t : TemplateMark). t.mark) (HoldsItself d.spec) (all_templates d.spec) m has in
    sound.no_template_cycle one.0.number one.1
has_none d kind.Limit m sound has = no_limit d m sound has
has_none d kind.Byte m sound has = has
has_none d kind.Syntax m sound has = has
has_none d kind.Deep m sound has = has

sound_no_fault : (d : DesignTree) (f : Fault) → IsSound d → HasTreeFault d.spec f → ⊥
sound_no_fault d f sound has = has_none d f.kind (record { place = f.place; detail = f.detail }) sound has.has

-- what is found in a list is as each of its items is
found_is : {X : Type 0} (P : X → Type 0) (p : X → Bool) (xs : List X) (x : X) → AllByRecursion P xs →
    find p xs ≡ Some x → P x
found_is P p [] x all found = cc
found_is P p (y ∷ ys) x all found = by (p y) refl (found_is P p ys x all.1)
  where
    by : (b : Bool) → p y ≡ b → (find p ys ≡ Some x → P x) → P x
    by true is onward =
        let here : Some y ≡ Some x = sym (ap (λ b. cond b (Some y) (find p ys)) is) ∙ found in
        let same : y ≡ x = cc in
        subst P same all.0
    by false is onward = onward (sym (ap (λ b. cond b (Some y) (find p ys)) is) ∙ found)

-- the quantity of which a fault tells
abbrev pub quantity_told : Detail → Option Quantity
quantity_told (detail.Limit what limit found) = Some what
quantity_told (detail.Named name) = None
quantity_told detail.Nothing = None

-- no quantity that is counted over a tree is its text's length
above_not_long : (spec : SpecTree) (m : Mark) → IsAboveLimit spec m →
    quantity_told m.detail ≡ Some quantity.Specification → ⊥
above_not_long spec _ (long_name name first) is = cc
above_not_long spec _ (many what none found) is =
    let same : what ≡ quantity.Specification = cc in
    found_is (λ q. q ≡ quantity.Specification → ⊥) (λ q. nat_lt (limit_of q) (count_of spec q)) counted what (
      (λ e. cc),
      (
        (λ e. cc),
        (
          (λ e. cc),
          (
            (λ e. cc),
            (
              (λ e. cc),
              (
                (λ e. cc),
                ((λ e. cc), ((λ e. cc), ((λ e. cc), ((λ e. cc), tt)))),
              ),
            ),
          ),
        ),
      ),
    )
    found same
above_not_long spec _ (many_atoms d none counts of design found) is = cc

-- the fault of a text within the limit is not its length
pub not_long : (text : List ℕ) (f : Fault) → length text ≤ specification_limit → FaultOf text f → f ≡ long_fault → ⊥
not_long text _ short (too_long long) is = omega (arith, short, long)
not_long text _ short (byte _ has) is = let same : kind.Byte ≡ kind.Limit = ap (λ (f : Fault). f.kind) is in cc
not_long text _ short (syntax_ _ are has) is =
    let same : kind.Syntax ≡ kind.Limit = ap (λ (f : Fault). f.kind) is in cc
not_long text _ short (deep _ are has) is =
    let same : kind.Deep ≡ kind.Limit = ap (λ (f : Fault). f.kind) is in cc
not_long text f short (of_tree {tree = tree} _ are of has) is =
    let above : HasFault kind.Limit tree (record { place = f.place; detail = f.detail }) =
    subst (λ k. HasFault k tree (record { place = f.place; detail = f.detail })) (ap (λ (f : Fault). f.kind) is)
    has.has in
    above_not_long tree (record { place = f.place; detail = f.detail }) above
    (ap (λ (f : Fault). quantity_told f.detail) is)

-- the text of a design has no fault
pub design_no_fault : (text : List ℕ) (tokens : List Token) (d : DesignTree) (f : Fault) →
    IsDesignText text tokens d → FaultOf text f → ⊥
design_no_fault text tokens d _ is (too_long long) = omega (arith, is.short, long)
design_no_fault text tokens d _ is (byte {at = at} _ has) = tokens_or_fault text tokens at is.are_tokens has
design_no_fault text tokens d _ is (syntax_ {at = at} _ are has) =
    tree_no_syntax_fault is.is_tree
    (moved (λ (ts : List Token). HasSyntaxFault text ts at) are is.are_tokens has)
design_no_fault text tokens d _ is (deep {at = at} _ are has) =
    tree_no_depth_fault is.is_tree
    (moved (λ (ts : List Token). HasDepthFault text ts at) are is.are_tokens has)
design_no_fault text tokens d f is (of_tree {tokens = others} {tree = tree} _ are same has) =
    let also : IsTree text tokens tree =
    moved (λ (ts : List Token). IsTree text ts tree) are is.are_tokens same in
    sound_no_fault d f is.sound (subst (λ t. HasTreeFault t f) (one_tree also is.is_tree) has)

-- the items of the design of a text have names in C
pub design_names : (text : List ℕ) (tokens : List Token) (d : DesignTree) → IsDesignText text tokens d → HasNames d
design_names text tokens d is =
    has_names d (record { text = text; tokens = tokens; are_tokens = is.are_tokens; is_tree = is.is_tree }) is.sound
