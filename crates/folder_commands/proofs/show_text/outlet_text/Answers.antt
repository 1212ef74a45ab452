use Rattle.std.proofs.Common.{◌++◌, ◌∙◌, ◌+◌, [], ap, sym, refl, arith}
use Rattle.sf_disk.proofs.Onward.{still_told}
use Rattle.egress_commit.specs.Epochs.{Epoch}
use Rattle.folder_commands.specs.Shown.{epoch_text}
use Rattle.folder_commands.proofs.Texts.{lines_end, lines_more}
use Rattle.folder_commands.proofs.show_text.outlet_text.Goals as goal

pub loop-done-init : goal.loop-done-init
loop-done-init g c = record {
  bound = omega arith;
  lines = record { epochs = []; text_is = c.new-text.ensures; count = refl; told = λ m is all outlet_is. refl };
  same = refl;
  faults = refl;
}

pub loop-done-preserved : goal.loop-done-preserved
loop-done-preserved g c =
    let i = c.loop-done.invariant in
    record {
      bound = omega (arith, c.loop-done-test.true, c.last_epoch.ensures);
      lines = lines_more _ _ c.loop-done.text c.put_epoch.new.into c.loop-done.done c.in_ok-records.records i.lines
          (c.in_ok-put_epoch.ensures ∙ ap (λ (e : Epoch). c.loop-done.text ++ epoch_text (c.loop-done.done + 1) e) c.as_slice.ensures)
          (still_told _ _ _ (sym i.same) c.in_ok-records.ensures.records);
      same = c.committed.ensures.same ∙ i.same;
      faults = c.in_ok-records.ensures.cause ∙ i.faults;
    }

pub returns-clause-text : goal.returns-clause-text
returns-clause-text g c =
    let i = c.loop-done.invariant in
    lines_end _ _ c.loop-done.text c.loop-done.done i.lines i.bound (omega (arith, c.loop-done-test.false, c.last_epoch.ensures))
