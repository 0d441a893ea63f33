use Rattle.tm_cprint.proofs.Behind.{after_seven}
use Rattle.tm_cprint.proofs.printer.push_test.Goals as goal

pub returns : goal.returns
returns c =
    after_seven _ _ _ _ _ _ _ _ _ _ _ _ _ _ _ c.in_ok-push.ensures c.in_ok-push_truth.ensures c.in_ok-push-2.ensures
    c.in_ok-push_goto.ensures c.in_ok-push-3.ensures c.in_ok-push_goto-2.ensures c.in_ok-push-4.ensures
