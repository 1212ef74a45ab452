use Rattle.std.proofs.Common.{◌-◌, List, ℕ, length, take, drop, ◌∙◌, ap}
use Rattle.read_ahead.proofs.Parts.{one_shown}
use Rattle.read_ahead.proofs.ahead.ReadAheadDisk.read.Goals as goal

pub returns-in-Some-clause-read : goal.returns-in-Some-clause-read
returns-in-Some-clause-read g c = λ m told.
    let window = c.in-Some.window.now in
    let n = length c.args.into.now in
    c.copy_from.ensures ∙ ap (λ (l : List ℕ). take n (drop (c.args.at - window.at) l)) c.as_slice-in-Some.ensures
    ∙ one_shown _ c.as_slice.result.now c.args.self.now.windows.items window c.args.file c.args.at n c.args.self.now.shown c.as_slice.ensures.value c.in-Some.ensures.one c.in-Some.ensures.covers m told
