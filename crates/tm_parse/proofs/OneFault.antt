-- The fault of a text is one: tokens, trees, and the places of faults are determined, and none stands beside another.
use Rattle.std.proofs.Common.{◌≡◌, ℕ, ◌<◌, ◌≤◌, List, length, refl, ap, subst, arith}
use Rattle.tm_base.specs.declared.place.Place.{Place}
use Rattle.tm_syntax.specs.declared.fault.FaultKind.TheVariants as kind
use Rattle.tm_syntax.specs.declared.fault.Faulty.{Faulty}
use Rattle.tm_syntax.specs.declared.token.Token.{Token}
use Rattle.tm_syntax.specs.Limits.{specification_limit}
use Rattle.tm_syntax.specs.Tree.{SpecTree}
use Rattle.tm_syntax.specs.Tokens.{AreTokens, HasByteFault}
use Rattle.tm_syntax.specs.Grammar.Faults.{IsTree, HasSyntaxFault, HasDepthFault}
use Rattle.tm_syntax.specs.Faults.Marks.{marked}
use Rattle.tm_syntax.specs.Faults.{fault, HasTreeFault, FaultOf, too_long, byte, syntax_, deep, of_tree}
use Rattle.tm_syntax.proofs.Tokens.{tokens_agree, tokens_or_fault, faults_agree}
use Rattle.tm_syntax.proofs.Faults.{tree_faults_agree}
use Rattle.tm_parse.proofs.Decided.{one_syntax_fault, one_depth_fault, not_both_faults, tree_no_syntax_fault, tree_no_depth_fault}
use Rattle.tm_parse.proofs.DerivedDecls.{one_tree}

-- no text is both too long and short enough to be read
not_both_lengths : {n : ℕ} {X : Type 0} → specification_limit < n → n ≤ specification_limit → X
not_both_lengths long short = absurd (omega arith)

-- a text with a byte fault has no tokens
no_tokens : {text : List ℕ} {at : Place} {tokens : List Token} {X : Type 0} → HasByteFault text at →
    AreTokens text tokens → X
no_tokens {text} {at} {tokens} has are = absurd (tokens_or_fault text tokens at are has)

-- what holds of the tokens of a text holds of all that are its tokens
moved : {text : List ℕ} {one other : List Token} (P : List Token → Type 0) → AreTokens text one →
    AreTokens text other → P one → P other
moved {text} {one} {other} P are also holds = subst P (tokens_agree text one other are also) holds

-- the faults of a tree of a text agree
of_one_tree : {text : List ℕ} {tokens : List Token} {one other : SpecTree} {f g : Faulty} → IsTree text tokens one →
    IsTree text tokens other → HasTreeFault one f → HasTreeFault other g → f ≡ g
of_one_tree {text} {tokens} {one} {other} {f} {g} is also has holds =
    tree_faults_agree other f g (subst (λ t. HasTreeFault t f) (one_tree is also) has) holds

-- the fault of a text is one
pub faults_of_text_agree : (text : List ℕ) (f g : Faulty) → FaultOf text f → FaultOf text g → f ≡ g
faults_of_text_agree text _ _ (too_long long) (too_long _) = refl
faults_of_text_agree text _ _ (too_long long) (byte short _) = not_both_lengths long short
faults_of_text_agree text _ _ (too_long long) (syntax_ short _ _) = not_both_lengths long short
faults_of_text_agree text _ _ (too_long long) (deep short _ _) = not_both_lengths long short
faults_of_text_agree text _ _ (too_long long) (of_tree short _ _ _) = not_both_lengths long short
faults_of_text_agree text _ _ (byte short _) (too_long long) = not_both_lengths long short
faults_of_text_agree text _ _ (syntax_ short _ _) (too_long long) = not_both_lengths long short
faults_of_text_agree text _ _ (deep short _ _) (too_long long) = not_both_lengths long short
faults_of_text_agree text _ _ (of_tree short _ _ _) (too_long long) = not_both_lengths long short
faults_of_text_agree text _ _ (byte {at = p} _ has) (byte {at = q} _ holds) =
    ap (λ (at : Place). fault kind.Byte (marked at)) (faults_agree text p q has holds)
faults_of_text_agree text _ _ (byte _ has) (syntax_ _ are _) = no_tokens has are
faults_of_text_agree text _ _ (byte _ has) (deep _ are _) = no_tokens has are
faults_of_text_agree text _ _ (byte _ has) (of_tree _ are _ _) = no_tokens has are
faults_of_text_agree text _ _ (syntax_ _ are _) (byte _ has) = no_tokens has are
faults_of_text_agree text _ _ (deep _ are _) (byte _ has) = no_tokens has are
faults_of_text_agree text _ _ (of_tree _ are _ _) (byte _ has) = no_tokens has are
faults_of_text_agree text _ _ (syntax_ {at = p} _ are has) (syntax_ {at = q} _ also holds) =
    ap (λ (at : Place). fault kind.Syntax (marked at))
    (one_syntax_fault (moved (λ tokens. HasSyntaxFault text tokens p) are also has) holds)
faults_of_text_agree text _ _ (deep {at = p} _ are has) (deep {at = q} _ also holds) =
    ap (λ (at : Place). fault kind.Deep (marked at))
    (one_depth_fault (moved (λ tokens. HasDepthFault text tokens p) are also has) holds)
faults_of_text_agree text _ _ (syntax_ {at = p} _ are has) (deep _ also holds) =
    absurd (not_both_faults (moved (λ tokens. HasSyntaxFault text tokens p) are also has) holds)
faults_of_text_agree text _ _ (deep _ also holds) (syntax_ {at = p} _ are has) =
    absurd (not_both_faults (moved (λ tokens. HasSyntaxFault text tokens p) are also has) holds)
faults_of_text_agree text _ _ (syntax_ {at = p} _ are has) (of_tree _ also is _) =
    absurd (tree_no_syntax_fault is (moved (λ tokens. HasSyntaxFault text tokens p) are also has))
faults_of_text_agree text _ _ (of_tree _ also is _) (syntax_ {at = p} _ are has) =
    absurd (tree_no_syntax_fault is (moved (λ tokens. HasSyntaxFault text tokens p) are also has))
faults_of_text_agree text _ _ (deep {at = p} _ are has) (of_tree _ also is _) =
    absurd (tree_no_depth_fault is (moved (λ tokens. HasDepthFault text tokens p) are also has))
faults_of_text_agree text _ _ (of_tree _ also is _) (deep {at = p} _ are has) =
    absurd (tree_no_depth_fault is (moved (λ tokens. HasDepthFault text tokens p) are also has))
faults_of_text_agree text _ _ (of_tree {tree = one} _ are is has) (of_tree {tree = other} _ also same holds) =
    of_one_tree (moved (λ tokens. IsTree text tokens one) are also is) same has holds
