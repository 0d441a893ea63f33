use Rattle.tm_term.proofs.terms.Terms.+eval_parts.Given as goal

abbrev pub decreases-eval_parts : goal.decreases-eval_parts
decreases-eval_parts l = l.id.0
