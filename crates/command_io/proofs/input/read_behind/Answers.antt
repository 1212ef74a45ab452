use Rattle.std.proofs.Common.{◌≡◌, ◌++◌, ◌∙◌, ℕ, List, ap, sym, subst, drop, take, arith, length-append}
use Rattle.std.specs.Prelude.{IfOk}
use Rattle.std.proofs.lemmas.List.{with_items_is}
use Rattle.sf_outside.specs.Left.{ahead}
use Rattle.command_io.proofs.Heard.{drop_front}
use Rattle.command_io.proofs.input.read_behind.Goals as goal

pub returns-clause-read : goal.returns-clause-read
returns-clause-read g c =
    let front = c.split_at_mut-free.result.0.now in
    let free = c.read.new.into in
    let written = with_items_is c.args.room.now (front ++ free)
    (omega (arith, length-append front free, c.split_at_mut-free.ensures.front_len, c.split_at_mut-free.ensures.back_len, c.as_mut_slice.ensures.len, c.read.auto.into)) in
    let behind = ap (drop c.args.count) written ∙ drop_front front free c.args.count c.split_at_mut-free.ensures.front_len in
    subst (λ (read : List ℕ). IfOk c.read.result (λ n. g.S.Source.left c.args.input.now ≡ ahead (take n read) (g.S.Source.left c.read.new.self))) (sym behind) c.read.ensures.read
