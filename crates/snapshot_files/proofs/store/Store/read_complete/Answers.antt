use Rattle.std.proofs.Common.{arith, sym, ◌∙◌}
use Rattle.snapshot_files.proofs.Advancing.{next_facts, pushed_length}
use Rattle.snapshot_files.proofs.store.Store.read_complete.Goals as goal

pub check_parts-requires-clause-len : goal.check_parts-requires-clause-len
check_parts-requires-clause-len g c = (next_facts c.args.self.now.shape c.newest.result c.args.complete.now (sym c.is_next.ensures ∙ c.if-not-is_next.false)).2

pub invariant_of-self : goal.invariant_of-self
invariant_of-self g c =
    let s = c.args.self.now in
    let f = next_facts s.shape c.newest.result c.args.complete.now (sym c.is_next.ensures ∙ c.if-not-is_next.false) in
    record {
      file = s.file;
      files = s.files;
      logs_len = s.logs_len;
      slots_len = s.slots_len;
      some = s.some;
      most = s.most;
      order = omega (arith, f.0, f.1, c.newest.ensures.newest, c.max-self.ensures, pushed_length c.push.result _ _ _ c.push.ensures.ok c.push.ensures.err);
      ready = s.ready;
      usable = s.usable;
    }
