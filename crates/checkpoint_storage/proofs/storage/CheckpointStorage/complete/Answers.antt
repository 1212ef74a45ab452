use Rattle.std.proofs.Common.{ℕ, ◌∙◌}
use Rattle.checkpoint_storage.proofs.Saves.{piece_leaves, letters_leave, complete_leaves, piece_known, both_known}
use Rattle.checkpoint_storage.proofs.storage.CheckpointStorage.complete.Goals as goal

pub returns-in_err-put_piece-clause-meanwhile : goal.returns-in_err-put_piece-clause-meanwhile
returns-in_err-put_piece-clause-meanwhile g c = piece_leaves c.args.self.now c.args.mark.now c.args.piece.now c.args.letters.now (c.requires.part).partition c.requires.one _ _ c.put_piece.ensures.meanwhile

pub put_feedback-requires-clause-is_open : goal.put_feedback-requires-clause-is_open
put_feedback-requires-clause-is_open g c = piece_known c.args.self.now c.args.mark.now c.args.piece.now c.args.letters.now (c.requires.part).partition c.requires.one _ _ c.put_piece.ensures.meanwhile c.put_piece.new.self c.in_ok-put_piece.ensures.put c.requires.is_known

pub returns-in_err-put_feedback-clause-meanwhile : goal.returns-in_err-put_feedback-clause-meanwhile
returns-in_err-put_feedback-clause-meanwhile g c =
    letters_leave c.args.self.now c.args.mark.now c.args.piece.now c.args.letters.now (c.requires.part).partition c.requires.one _ _ c.put_piece.ensures.meanwhile
    c.put_piece.new.self c.put_piece.ensures.others.text c.in_ok-put_piece.ensures.put _ c.put_feedback.ensures.meanwhile

pub complete-requires-clause-is_open : goal.complete-requires-clause-is_open
complete-requires-clause-is_open g c =
    both_known c.args.self.now c.args.mark.now c.args.piece.now c.args.letters.now (c.requires.part).partition c.requires.one _ _ c.put_piece.ensures.meanwhile
    c.put_piece.new.self c.put_piece.ensures.others.text c.in_ok-put_piece.ensures.put _ c.put_feedback.ensures.meanwhile c.put_feedback.new.self c.in_ok-put_feedback.ensures.put c.requires.is_known

pub returns-in_err-complete-clause-meanwhile : goal.returns-in_err-complete-clause-meanwhile
returns-in_err-complete-clause-meanwhile g c =
    complete_leaves c.args.self.now c.args.mark.now c.args.piece.now c.args.letters.now (c.requires.part).partition c.requires.one _ _ c.put_piece.ensures.meanwhile
    c.put_piece.new.self c.put_piece.ensures.others.text c.in_ok-put_piece.ensures.put _ c.put_feedback.ensures.meanwhile
    c.put_feedback.new.self c.put_feedback.ensures.others.text (c.put_feedback.ensures.others.shape ∙ c.put_piece.ensures.others.shape) c.in_ok-put_feedback.ensures.put _ c.complete.ensures.meanwhile

pub returns-clause-meanwhile : goal.returns-clause-meanwhile
returns-clause-meanwhile g c =
    complete_leaves c.args.self.now c.args.mark.now c.args.piece.now c.args.letters.now (c.requires.part).partition c.requires.one _ _ c.put_piece.ensures.meanwhile
    c.put_piece.new.self c.put_piece.ensures.others.text c.in_ok-put_piece.ensures.put _ c.put_feedback.ensures.meanwhile
    c.put_feedback.new.self c.put_feedback.ensures.others.text (c.put_feedback.ensures.others.shape ∙ c.put_piece.ensures.others.shape) c.in_ok-put_feedback.ensures.put _ c.complete.ensures.meanwhile
