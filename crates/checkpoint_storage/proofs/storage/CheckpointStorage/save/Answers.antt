use Rattle.std.proofs.Common.{ℕ, ◌+◌, ◌≡◌, true, Ok, ◌∙◌, ap, arith}
use Rattle.egress_commit.specs.Outlets.{last_epoch}
use Rattle.checkpoint_storage.specs.Folders.{the_part}
use Rattle.checkpoint_storage.proofs.Saves.{saving, even_lengths, outlet_now, committing, saved}
use Rattle.checkpoint_storage.proofs.storage.CheckpointStorage.save.Goals as goal

pub returns-in_err-complete-clause-meanwhile : goal.returns-in_err-complete-clause-meanwhile
returns-in_err-complete-clause-meanwhile g c = saving c.args.self.now c.args.mark.now (the_part c.args.piece.now c.args.letters.now) _ _ c.complete.ensures.meanwhile

pub commit-requires-clause-is_open : goal.commit-requires-clause-is_open
commit-requires-clause-is_open g c = outlet_now c.args.self.now c.complete.new.self c.args.mark.now c.args.piece.now c.args.letters.now _ _ c.complete.ensures.meanwhile c.in_ok-complete.ensures.completed c.complete.ensures.text c.requires.is_known

pub returns-in_err-commit-clause-meanwhile : goal.returns-in_err-commit-clause-meanwhile
returns-in_err-commit-clause-meanwhile g c =
    committing c.args.self.now c.complete.new.self c.args.mark.now c.args.piece.now c.args.letters.now _ _ c.complete.ensures.meanwhile c.in_ok-complete.ensures.completed c.complete.ensures.text
    c.args.mark.now.number (omega (arith, c.requires.number, c.requires.even)) c.complete.ensures.outlet (even_lengths c.args.self.now c.requires.even) _ c.commit.ensures.meanwhile

pub returns-clause-meanwhile : goal.returns-clause-meanwhile
returns-clause-meanwhile g c =
    committing c.args.self.now c.complete.new.self c.args.mark.now c.args.piece.now c.args.letters.now _ _ c.complete.ensures.meanwhile c.in_ok-complete.ensures.completed c.complete.ensures.text
    c.args.mark.now.number (omega (arith, c.requires.number, c.requires.even)) c.complete.ensures.outlet (even_lengths c.args.self.now c.requires.even) _ c.commit.ensures.meanwhile

pub returns-clause-saved : goal.returns-clause-saved
returns-clause-saved g c =
    let same = ap last_epoch c.complete.ensures.outlet in
    let was = c.in_ok-commit.was ∙ ap Ok (c.in_ok-commit.ensures.is_new.1 (omega (arith, same, c.requires.number, c.requires.even))) in
    saved c.args.self.now c.complete.new.self c.args.mark.now c.args.piece.now c.args.letters.now _ _ c.complete.ensures.meanwhile c.in_ok-complete.ensures.completed c.complete.ensures.text
    c.args.mark.now.number (omega (arith, c.requires.number, c.requires.even)) c.complete.ensures.outlet (even_lengths c.args.self.now c.requires.even) _ c.commit.new.self (c.commit.ensures.committed was)

pub returns-clause-even : goal.returns-clause-even
returns-clause-even g c =
    let same = ap last_epoch c.complete.ensures.outlet in
    let was = c.in_ok-commit.was ∙ ap Ok (c.in_ok-commit.ensures.is_new.1 (omega (arith, same, c.requires.number, c.requires.even))) in
    let newest_is = c.in_ok-complete.ensures.newest in
    omega (arith, c.commit.ensures.counted was, same, newest_is, c.requires.even)
