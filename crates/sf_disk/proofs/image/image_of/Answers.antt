use Rattle.std.proofs.Common.{◌≡◌, ◌+◌, [], ◌∷◌, ◌++◌, ap, sym, ◌∙◌, take}
use Rattle.std.proofs.lemmas.List.{take_more}
use Rattle.sf_disk.specs.declared.change.Change.{Change}
use Rattle.sf_disk.proofs.Kept.{reads_on, image_on, reads_slice}
use Rattle.sf_disk.proofs.image.image_of.Goals as goal

pub loop-change-preserved : goal.loop-change-preserved
loop-change-preserved c =
    let i = c.loop-change.change-index in
    let cs = c.args.changes.now in
    let next : take (i + 1) cs ≡ take i cs ++ c.change-item.result ∷ [] = take_more cs i c.change-item.result c.loop-change-test.true ∙ ap (λ (x : Change). take i cs ++ x ∷ []) (sym c.change-item.is) in
    let lent = reads_slice c.args.first.now (take i cs) c.loop-change.seen.items c.as_slice.result.now c.as_slice.ensures.value c.loop-change.invariant.reads in
    record {
      reads = reads_on c.args.first.now (take i cs) (take (i + 1) cs) c.change-item.result c.loop-change.seen.items c.change_in.new.files.items next c.loop-change.invariant.reads c.in_ok-change_in.ensures.ok;
      image = image_on c.args.pick c.args.first.now (take i cs) (take (i + 1) cs) c.change-item.result c.as_slice.result.now c.loop-change.image.items c.tear.new.image.items next lent c.loop-change.invariant.image c.in_ok-tear.ensures;
    }
