use Rattle.std.proofs.Common.{arith, sym, ◌≡◌, ◌+◌, ◌∙◌, Some, slice_get, refl, ap}
use Rattle.std.proofs.lemmas.Option.{slice_get_read}
use Rattle.folder_form.specs.Folders.{piece_in}
use Rattle.snapshot_files.specs.Stores.{home_in}
use Rattle.snapshot_files.proofs.Owned.{piece_owned}
use Rattle.snapshot_files.proofs.Checkpoints.{open_at, spells, breaks}
use Rattle.snapshot_files.proofs.store.Store.piece_at.Goals as goal

pub returns-in-Some-2-clause-piece : goal.returns-in-Some-2-clause-piece
returns-in-Some-2-clause-piece g c = λ m told files opened.
    let s = c.args.self.now in
    let is : slice_get s.logs.items c.args.partition ≡ Some c.index.result.now = slice_get_read s.logs.items s.logs.len c.args.partition c.index.result.now (omega (arith, s.logs.ok.0)) (omega (arith, c.requires.partition, s.most, s.logs_len)) c.index.ensures in
    let there = c.in_ok-body.ensures.body m told (files (2 + c.args.partition)) (open_at s.logs.items files m c.args.partition c.index.result.now s.files opened is) in
    spells (piece_in (home_in s.shape c.args.partition) c.args.moment) c.args.place (files (2 + c.args.partition)) c.in_ok-body.field-0 c.in-Some.body there c.in-Some.is c.in_ok-piece.field-0
    (c.in_ok-piece.ensures ∙ ap (λ h. piece_in h c.args.moment c.as_slice.result.now) c.home.ensures ∙ ap (piece_in (home_in s.shape c.args.partition) c.args.moment) c.as_slice.ensures) c.in-Some-2.piece c.in-Some-2.is

pub returns-clause-refuses : goal.returns-clause-refuses
returns-clause-refuses g c = λ m told. (
  refl,
  refl,
  λ files opened.
      let s = c.args.self.now in
      let is : slice_get s.logs.items c.args.partition ≡ Some c.index.result.now = slice_get_read s.logs.items s.logs.len c.args.partition c.index.result.now (omega (arith, s.logs.ok.0)) (omega (arith, c.requires.partition, s.most, s.logs_len)) c.index.ensures in
      let there = c.in_ok-body.ensures.body m told (files (2 + c.args.partition)) (open_at s.logs.items files m c.args.partition c.index.result.now s.files opened is) in
      breaks (piece_in (home_in s.shape c.args.partition) c.args.moment) c.args.place (files (2 + c.args.partition)) c.in_ok-body.field-0 c.in-Some.body there c.in-Some.is c.in_ok-piece.field-0
      (c.in_ok-piece.ensures ∙ ap (λ h. piece_in h c.args.moment c.as_slice.result.now) c.home.ensures ∙ ap (piece_in (home_in s.shape c.args.partition) c.args.moment) c.as_slice.ensures) c.in-None.is,
)

pub returns-in-Some-2-clause-owned : goal.returns-in-Some-2-clause-owned
returns-in-Some-2-clause-owned g c =
    let s = c.args.self.now in
    piece_owned (home_in s.shape c.args.partition) c.args.moment c.as_slice.result.now c.in-Some-2.piece
    (sym (ap (λ h. piece_in h c.args.moment c.as_slice.result.now) c.home.ensures) ∙ sym c.in_ok-piece.ensures ∙ c.in-Some-2.is)
