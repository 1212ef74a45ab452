use Rattle.std.proofs.Common.{◌≡◌, ◌↔◌, Bool, true, false, IsFalse, IsTrue, refl, arith}
use Rattle.std.proofs.lemmas.Bool.{false≢true}
use Rattle.std.proofs.lemmas.Option.{slice_get_read}
use Rattle.snapshot_files.proofs.Writing.{grows_of, grown_of, usable_set}
use Rattle.snapshot_files.proofs.store.Store.append.Goals as goal

pub returns-in-Ok-clause-meanwhile : goal.returns-in-Ok-clause-meanwhile
returns-in-Ok-clause-meanwhile g c =
    let s = c.args.self.now in
    let at = slice_get_read s.logs.items s.logs.len c.args.partition c.index_mut.result.now (omega (arith, s.logs.ok.0)) (omega (arith, c.requires.partition, s.logs_len)) c.index_mut.ensures.value in
    grows_of s.logs.items c.args.partition c.index_mut.result.now s.files at c.args.body.now _ _ c.append.ensures.meanwhile

pub returns-in-Ok-clause-grown : goal.returns-in-Ok-clause-grown
returns-in-Ok-clause-grown g c =
    let s = c.args.self.now in
    let at = slice_get_read s.logs.items s.logs.len c.args.partition c.index_mut.result.now (omega (arith, s.logs.ok.0)) (omega (arith, c.requires.partition, s.logs_len)) c.index_mut.ensures.value in
    grown_of s.logs.items c.args.partition c.index_mut.result.now s.files at c.args.body.now _ _ c.append.new.self c.in-Ok.place c.in-Ok.ensures.position c.in-Ok.ensures.appended

pub returns-in-Ok-clause-usable : goal.returns-in-Ok-clause-usable
returns-in-Ok-clause-usable g c =
    let s = c.args.self.now in
    usable_set s.logs.items c.args.partition c.append.new.self (omega (arith, c.requires.partition, s.logs_len, s.logs.ok.0)) c.requires.usable (fresh c.append.new.self.spent c.in-Ok.ensures.spent)
  where
    fresh : (b : Bool) → (false ≡ true) ↔ IsTrue b → IsFalse b
    fresh true h = absurd (false≢true (h.1 refl))
    fresh false h = refl

pub returns-in-Err-clause-meanwhile : goal.returns-in-Err-clause-meanwhile
returns-in-Err-clause-meanwhile g c =
    let s = c.args.self.now in
    let at = slice_get_read s.logs.items s.logs.len c.args.partition c.index_mut.result.now (omega (arith, s.logs.ok.0)) (omega (arith, c.requires.partition, s.logs_len)) c.index_mut.ensures.value in
    grows_of s.logs.items c.args.partition c.index_mut.result.now s.files at c.args.body.now _ _ c.append.ensures.meanwhile
