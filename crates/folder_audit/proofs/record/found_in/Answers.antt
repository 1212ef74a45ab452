use Rattle.std.proofs.Common.{rules, tests, sym}
use Rattle.sf_disk.proofs.Onward.{still_told}
use Rattle.folder_audit.proofs.Found.{have_cells}
use Rattle.folder_audit.proofs.record.found_in.Goals as goal

pub returns-clause-found : goal.returns-clause-found
returns-clause-found g c = (
  search (rules, tests),
  have_cells c.args.store.now.shape c.in_ok-loaded.loaded c.in_ok-loaded.ensures.fits,
  λ m told contents pending is. (
    c.in_ok-entries.ensures.entries m told contents pending is,
    still_told _ _ _ (sym c.read_entries.ensures.same) c.in_ok-loaded.ensures.loaded m told contents pending is,
  ),
)
