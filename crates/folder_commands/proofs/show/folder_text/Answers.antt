use Rattle.std.proofs.Common.{List, sym, subst}
use Rattle.std.proofs.lemmas.Result.{IfOk-weaker, err_from_is_err_and}
use Rattle.sf_disk.specs.Moments.{Moment, Since}
use Rattle.command_io.specs.Folders.{Stays}
use Rattle.command_io.proofs.Opened.{opening, opening_both}
use Rattle.folder_commands.proofs.Shown.{OpensSo, opened_so, outlet_refused, so_opens, text_shown}
use Rattle.folder_commands.proofs.show.folder_text.Goals as goal

pub returns-in_err-_store-clause-meanwhile : goal.returns-in_err-_store-clause-meanwhile
returns-in_err-_store-clause-meanwhile g c = opening _ _ c.open_kept.ensures.meanwhile

pub returns-in_err-outlet-clause-refuses : goal.returns-in_err-outlet-clause-refuses
returns-in_err-outlet-clause-refuses g c =
    let p = err_from_is_err_and c.from_residual-in_err-outlet.result c.from_residual-in_err-outlet.ensures.1 in
    let opened = opened_so _ _ c.in_ok-_store._store c.in_ok-_store.ensures.opened in
    rw (p.1, p.2) (outlet_refused _ _ (g.D.Disk.moments c.open_outlet.new.disk) opened _ c.in_err-outlet.ensures.refuses)

pub returns-in_err-outlet-clause-meanwhile : goal.returns-in_err-outlet-clause-meanwhile
returns-in_err-outlet-clause-meanwhile g c =
    opening_both _ _ _ c.open_kept.ensures.meanwhile OpensSo (opened_so _ _ c.in_ok-_store._store c.in_ok-_store.ensures.opened) so_opens c.open_outlet.ensures.meanwhile

pub returns-clause-text : goal.returns-clause-text
returns-clause-text g c =
    let opened = opened_so _ _ c.in_ok-_store._store c.in_ok-_store.ensures.opened in
    IfOk-weaker c.outlet_text.result _ _ (λ text is. text_shown _ _ _ opened c.in_ok-outlet.outlet text c.in_ok-outlet.ensures.opened is) c.outlet_text.ensures.text

pub returns-clause-meanwhile : goal.returns-clause-meanwhile
returns-clause-meanwhile g c =
    subst (λ (l : List Moment). Since (g.D.Disk.moments c.args.disk.now) l Stays) (sym c.outlet_text.ensures.same)
    (opening_both _ _ _ c.open_kept.ensures.meanwhile OpensSo (opened_so _ _ c.in_ok-_store._store c.in_ok-_store.ensures.opened) so_opens c.open_outlet.ensures.meanwhile)
