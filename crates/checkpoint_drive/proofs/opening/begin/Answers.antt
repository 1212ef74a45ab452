use Rattle.std.proofs.Common.{rules, ◌≡◌, ◌+◌}
use Rattle.checkpoint_drive.specs.Images.{most_legs}
use Rattle.checkpoint_drive.proofs.Openings.{committing, still_known, beginning, has_begun}
use Rattle.checkpoint_drive.proofs.opening.begin.Goals as goal

pub returns-in_err-catch_up-clause-meanwhile : goal.returns-in_err-catch_up-clause-meanwhile
returns-in_err-catch_up-clause-meanwhile g c = committing c.args.options c.args.storage.now c.catch_up.new.self _ _ c.catch_up.ensures.meanwhile

pub returns-in_err-check_targets-clause-meanwhile : goal.returns-in_err-check_targets-clause-meanwhile
returns-in_err-check_targets-clause-meanwhile g c = committing c.args.options c.args.storage.now c.catch_up.new.self _ _ c.catch_up.ensures.meanwhile

pub begin_run-requires-clause-is_known : goal.begin_run-requires-clause-is_known
begin_run-requires-clause-is_known g c = still_known c.args.options c.args.storage.now c.catch_up.new.self _ _ c.catch_up.ensures.meanwhile c.in_ok-catch_up.ensures.caught_up c.requires.is_known

pub returns-in_err-begin_run-clause-meanwhile : goal.returns-in_err-begin_run-clause-meanwhile
returns-in_err-begin_run-clause-meanwhile g c =
    let most_is : c.min-most.result ≡ most_legs c.args.options c.args.storage.now.store.stored_leg = search rules in
    let limit_is : c.stored_leg-stored.result + c.min-most.result ≡ c.args.storage.now.store.stored_leg + c.min-most.result = search rules in
    beginning c.args.options c.args.storage.now c.catch_up.new.self _ _ c.catch_up.ensures.meanwhile c.in_ok-catch_up.ensures.caught_up c.catch_up.ensures.store _ c.min-most.result limit_is most_is _ c.begin_run.ensures.meanwhile

pub returns-clause-meanwhile : goal.returns-clause-meanwhile
returns-clause-meanwhile g c =
    let most_is : c.min-most.result ≡ most_legs c.args.options c.args.storage.now.store.stored_leg = search rules in
    let limit_is : c.stored_leg-stored.result + c.min-most.result ≡ c.args.storage.now.store.stored_leg + c.min-most.result = search rules in
    beginning c.args.options c.args.storage.now c.catch_up.new.self _ _ c.catch_up.ensures.meanwhile c.in_ok-catch_up.ensures.caught_up c.catch_up.ensures.store _ c.min-most.result limit_is most_is _ c.begin_run.ensures.meanwhile

pub returns-clause-begun : goal.returns-clause-begun
returns-clause-begun g c =
    let most_is : c.min-most.result ≡ most_legs c.args.options c.args.storage.now.store.stored_leg = search rules in
    let limit_is : c.stored_leg-stored.result + c.min-most.result ≡ c.args.storage.now.store.stored_leg + c.min-most.result = search rules in
    has_begun c.args.options c.args.storage.now c.catch_up.new.self _ _ c.catch_up.ensures.meanwhile c.in_ok-catch_up.ensures.caught_up c.catch_up.ensures.store _ c.min-most.result limit_is most_is _ c.begin_run.new.self c.in_ok-begin_run.ensures.began
