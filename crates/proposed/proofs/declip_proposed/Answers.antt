-- `proposed::declip_proposed` meets its contract: a refusal of the tests ends it, and else the proposal is committed. Assumes nothing.
use Rattle.std.proofs.lemmas.Result.{err_from_is_err_and}
use Rattle.recording.specs.Lent.{held}
use Rattle.proposed.proofs.Laws.{ends_refused, accepted_fit, ends_committed}
use Rattle.proposed.proofs.declip_proposed.Goals as goal

pub returns-in_err-check_call-clause-rule : goal.returns-in_err-check_call-clause-rule
returns-in_err-check_call-clause-rule c =
    let p = err_from_is_err_and c.from_residual.result c.from_residual.ensures.1 in
    rw (p.1, p.2, ← c.in_err-check_call.was)
    (ends_refused _ _ (held c.args.recording.now) _ _ c.check_call.ensures c.in_err-check_call.was)

pub commit_proposal-requires : goal.commit_proposal-requires
commit_proposal-requires c = accepted_fit _ _ (held c.args.recording.now) _ _ c.check_call.ensures c.in_ok-check_call.was

pub returns-clause-rule : goal.returns-clause-rule
returns-clause-rule c =
    ends_committed _ _ (held c.args.recording.now) _ _ c.check_call.ensures c.in_ok-check_call.was _ c.commit_proposal.ensures.rule
