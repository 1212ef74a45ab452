use Rattle.std.proofs.Common.{◌∙◌, [], ◌∷◌, ap, length, arith, length-append}
use Rattle.block_log.specs.Blocks.{framed}
use Rattle.block_log.proofs.Bytes.{length-framed}
use Rattle.block_log.proofs.Append.{behind_end, exit_1, exit_2, gate_there, exit_3, exit_4, added}
use Rattle.block_log.proofs.log.BlockLog.append.Goals as goal

pub write_at-requires : goal.write_at-requires
write_at-requires g c = behind_end c.args.self.now c.args.body.now (omega arith) c.args.self.now.file _ c.requires.is_open

pub returns-in_err-write_at-clause-meanwhile : goal.returns-in_err-write_at-clause-meanwhile
returns-in_err-write_at-clause-meanwhile g c = exit_1 c.args.self.now c.args.body.now (omega arith) c.args.self.now.file c.as_slice.result.now (c.as_slice.ensures ∙ c.in_ok-block.ensures) _ _ c.write_at.ensures.meanwhile

pub returns-in_err-sync-clause-meanwhile : goal.returns-in_err-sync-clause-meanwhile
returns-in_err-sync-clause-meanwhile g c = exit_2 c.args.self.now c.args.body.now (omega arith) c.args.self.now.file c.as_slice.result.now (c.as_slice.ensures ∙ c.in_ok-block.ensures) _ _ c.write_at.ensures.meanwhile c.in_ok-write_at.ensures.wrote _ c.sync.ensures.meanwhile

pub write_at-requires-2 : goal.write_at-requires-2
write_at-requires-2 g c = gate_there c.args.self.now c.args.body.now (omega arith) c.args.self.now.file c.as_slice.result.now (c.as_slice.ensures ∙ c.in_ok-block.ensures) _ _ c.write_at.ensures.meanwhile c.in_ok-write_at.ensures.wrote _ c.sync.ensures.meanwhile c.in_ok-sync.ensures.synced c.requires.is_open

pub returns-in_err-write_at-2-clause-meanwhile : goal.returns-in_err-write_at-2-clause-meanwhile
returns-in_err-write_at-2-clause-meanwhile g c = exit_3 c.args.self.now c.args.body.now (omega arith) c.args.self.now.file c.as_slice.result.now (c.as_slice.ensures ∙ c.in_ok-block.ensures) _ _ c.write_at.ensures.meanwhile c.in_ok-write_at.ensures.wrote _ c.sync.ensures.meanwhile c.in_ok-sync.ensures.synced _ c.write_at-2.ensures.meanwhile

pub returns-in_err-sync-2-clause-meanwhile : goal.returns-in_err-sync-2-clause-meanwhile
returns-in_err-sync-2-clause-meanwhile g c = exit_4 c.args.self.now c.args.body.now (omega arith) c.args.self.now.file c.as_slice.result.now (c.as_slice.ensures ∙ c.in_ok-block.ensures) _ _ c.write_at.ensures.meanwhile c.in_ok-write_at.ensures.wrote _ c.sync.ensures.meanwhile c.in_ok-sync.ensures.synced _ c.write_at-2.ensures.meanwhile c.in_ok-write_at-2.ensures.wrote _ c.sync-2.ensures.meanwhile

pub returns-clause-meanwhile : goal.returns-clause-meanwhile
returns-clause-meanwhile g c = exit_4 c.args.self.now c.args.body.now (omega arith) c.args.self.now.file c.as_slice.result.now (c.as_slice.ensures ∙ c.in_ok-block.ensures) _ _ c.write_at.ensures.meanwhile c.in_ok-write_at.ensures.wrote _ c.sync.ensures.meanwhile c.in_ok-sync.ensures.synced _ c.write_at-2.ensures.meanwhile c.in_ok-write_at-2.ensures.wrote _ c.sync-2.ensures.meanwhile

pub returns-clause-appended : goal.returns-clause-appended
returns-clause-appended g c = added c.args.self.now c.args.body.now (omega arith) c.args.self.now.file c.as_slice.result.now (c.as_slice.ensures ∙ c.in_ok-block.ensures) _ _ c.write_at.ensures.meanwhile c.in_ok-write_at.ensures.wrote _ c.sync.ensures.meanwhile c.in_ok-sync.ensures.synced _ c.write_at-2.ensures.meanwhile c.in_ok-write_at-2.ensures.wrote _ c.sync-2.ensures.meanwhile _ (omega (arith, c.len.ensures, ap length c.in_ok-block.ensures, length-append (framed c.args.body.now) (0 ∷ []), length-framed c.args.body.now)) c.in_ok-push.ensures.ok c.in_ok-sync-2.ensures.synced
