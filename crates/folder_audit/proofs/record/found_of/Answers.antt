use Rattle.std.proofs.Common.{List, Option, sym, subst}
use Rattle.std.specs.Prelude.{MatchOption}
use Rattle.std.proofs.lemmas.Result.{IfOk-weaker}
use Rattle.sf_disk.specs.Moments.{Becomes, Moment, Since}
use Rattle.snapshot_files.specs.declared.store.Store.{Store}
use Rattle.snapshot_files.specs.Opening.{IsNew, IsOpenedKept}
use Rattle.command_io.specs.Folders.{Stays}
use Rattle.command_io.proofs.Opened.{opening}
use Rattle.folder_audit.proofs.Found.{found_there}
use Rattle.folder_audit.proofs.record.found_of.Goals as goal

pub returns-in_err-open_kept-clause-meanwhile : goal.returns-in_err-open_kept-clause-meanwhile
returns-in_err-open_kept-clause-meanwhile g c = opening _ _ c.open_kept.ensures.meanwhile

pub returns-in-None-clause-meanwhile : goal.returns-in-None-clause-meanwhile
returns-in-None-clause-meanwhile g c = opening _ _ c.open_kept.ensures.meanwhile

pub returns-in-Some-clause-found : goal.returns-in-Some-clause-found
returns-in-Some-clause-found g c =
    let first = g.D.Disk.moments c.args.disk.now in
    let last = g.D.Disk.moments c.open_kept.new.disk in
    let becomes : Becomes first last (IsOpenedKept c.in-Some.store) =
    subst (λ (o : Option Store). MatchOption o (Becomes first last IsNew) (λ store. Becomes first last (IsOpenedKept store))) c.in-Some.is c.in_ok-open_kept.ensures.opened in
    IfOk-weaker c.found_in.result _ _ (λ found is. found_there c.args.job.now first last c.in-Some.store found becomes is) c.found_in.ensures.found

pub returns-in-Some-clause-meanwhile : goal.returns-in-Some-clause-meanwhile
returns-in-Some-clause-meanwhile g c =
    subst (λ (l : List Moment). Since (g.D.Disk.moments c.args.disk.now) l Stays) (sym c.found_in.ensures.same) (opening _ _ c.open_kept.ensures.meanwhile)
