use Rattle.std.proofs.Common.{◌+◌, ℕ, [], ◌∷◌, length, length-append, sym, ap, subst, ◌∙◌, arith}
use Rattle.std.proofs.lemmas.Result.{err_from_is_err_and}
use Rattle.snapshot_files.specs.Logs.{AreFiles, AreUsable}
use Rattle.snapshot_files.proofs.AllOpened.{SoFar, kept_first, opened_first, kept_next, opened_next, refused_first, refused_next, all_opened, numbers_next, usable_next}
use Rattle.snapshot_files.proofs.logs.open_logs.Goals as goal

pub returns-in_err-manifest-clause-meanwhile : goal.returns-in_err-manifest-clause-meanwhile
returns-in_err-manifest-clause-meanwhile g c = kept_first _ _ c.open_in.ensures.meanwhile

pub returns-in_err-manifest-clause-refuses : goal.returns-in_err-manifest-clause-refuses
returns-in_err-manifest-clause-refuses g c =
    let p = err_from_is_err_and c.from_residual.result c.from_residual.ensures.1 in
    rw (p.1, p.2) (refused_first _ _ c.in_err-manifest.ensures.refuses)

pub returns-in_err-pieces-clause-meanwhile : goal.returns-in_err-pieces-clause-meanwhile
returns-in_err-pieces-clause-meanwhile g c = kept_first _ _ c.open_in.ensures.meanwhile

pub loop-partition-init : goal.loop-partition-init
loop-partition-init g c =
    let none = c.in_ok-pieces.ensures.items in
    record {
      size = ap length none;
      faults = c.in_ok-manifest.ensures.cause;
      numbers = subst (AreFiles 2) (sym none) (λ p l is. absurd cc);
      usable = subst AreUsable (sym none) (λ p l is. absurd cc);
      so_far = subst (SoFar (g.D.Disk.moments c.args.disk.now) (g.D.Disk.moments c.open_in.new.disk) 0 c.in_ok-manifest.manifest) (sym none) (opened_first _ _ c.in_ok-manifest.manifest c.open_in.ensures.meanwhile c.in_ok-manifest.ensures.opened);
    }

pub returns-in_err-log-clause-meanwhile : goal.returns-in_err-log-clause-meanwhile
returns-in_err-log-clause-meanwhile g c = kept_next _ _ c.loop-partition.partition c.loop-partition-test.true c.in_ok-manifest.manifest c.loop-partition.pieces.items c.loop-partition.invariant.so_far _ c.open_in-in-loop-partition.ensures.meanwhile

pub returns-in_err-log-clause-refuses : goal.returns-in_err-log-clause-refuses
returns-in_err-log-clause-refuses g c =
    let p = err_from_is_err_and c.from_residual-in_err-log.result c.from_residual-in_err-log.ensures.1 in
    rw (p.1, p.2) (refused_next _ _ c.loop-partition.partition c.loop-partition-test.true c.in_ok-manifest.manifest c.loop-partition.pieces.items c.loop-partition.invariant.so_far _ c.in_err-log.ensures.refuses)

pub returns-in_err-push-clause-meanwhile : goal.returns-in_err-push-clause-meanwhile
returns-in_err-push-clause-meanwhile g c = kept_next _ _ c.loop-partition.partition c.loop-partition-test.true c.in_ok-manifest.manifest c.loop-partition.pieces.items c.loop-partition.invariant.so_far _ c.open_in-in-loop-partition.ensures.meanwhile

pub loop-partition-preserved : goal.loop-partition-preserved
loop-partition-preserved g c =
    let inv = c.loop-partition.invariant in
    let more = c.in_ok-push.ensures.items in
    record {
      size = omega (arith, ap length more, inv.size, length-append c.loop-partition.pieces.items (c.in_ok-log.log ∷ []));
      faults = c.in_ok-log.ensures.cause ∙ inv.faults;
      numbers = subst (AreFiles 2) (sym more) (numbers_next c.loop-partition.pieces.items c.in_ok-log.log c.loop-partition.partition inv.size inv.numbers c.in_ok-log.ensures.file);
      usable = subst AreUsable (sym more) (usable_next c.loop-partition.pieces.items c.in_ok-log.log inv.usable c.in_ok-log.ensures.spent);
      so_far = subst (SoFar (g.D.Disk.moments c.args.disk.now) (g.D.Disk.moments c.open_in-in-loop-partition.new.disk) (c.loop-partition.partition + 1) c.in_ok-manifest.manifest) (sym more)
          (opened_next _ _ c.loop-partition.partition c.loop-partition-test.true c.in_ok-manifest.manifest c.loop-partition.pieces.items inv.so_far _ c.in_ok-log.log inv.size c.open_in-in-loop-partition.ensures.meanwhile c.in_ok-log.ensures.opened);
    }

pub returns-clause-opened : goal.returns-clause-opened
returns-clause-opened g c = all_opened _ _ c.in_ok-manifest.manifest c.loop-partition.pieces.items
    (subst (λ (n : ℕ). SoFar (g.D.Disk.moments c.args.disk.now) (g.D.Disk.moments c.loop-partition.disk) n c.in_ok-manifest.manifest c.loop-partition.pieces.items) (omega (arith, c.loop-partition-test.false, c.loop-partition.auto.partition-end)) c.loop-partition.invariant.so_far)
