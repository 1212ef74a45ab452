use Rattle.std.proofs.Common.{◌≡◌, ◌∙◌, ap, subst, ◌<◌, List, length, map, Option}
use Rattle.std.specs.Prelude.{IfSome, MatchOption}
use Rattle.proto_wire.specs.Message.{capped}
use Rattle.typed_values.specs.declared.letter.Letter.{Letter}
use Rattle.typed_values.specs.declared.cells.Cell.{Cell}
use Rattle.request_reply.specs.declared.batch.Batch.{Batch}
use Rattle.batch_queue.specs.declared.limits.Limits.{Limits}
use Rattle.batch_queue.specs.Batches.{IsBatch}
use Rattle.batch_queue.specs.Post.{opened}
use Rattle.batch_queue.specs.Kept.{post_of}
use Rattle.invocation.specs.Requests.{head_size}
use Rattle.partition_core.specs.Batches.{limits_of, batch_at, request_bytes, sender_of}
use Rattle.partition_core.specs.Kept.{work_of, cells_in, seen_in}
use Rattle.partition_core.proofs.Fitting.{one_batch}
use Rattle.partition_core.proofs.partition.Partition.open.Goals as goal

pub returns-clause-opens : goal.returns-clause-opens
unfolding work_of
returns-clause-opens c =
    let address = c.args.address.now in
    let bounds = c.args.bounds.now in
    let post = post_of c.args.self.now.mail in
    let cells = cells_in c.args.self.now.actors address in
    let letters : List Letter = c.in-Some.batch.letters in
    let cut : c.head_bytes-head.result ≡ capped (head_size address cells c.args.moment) =
    c.head_bytes-head.ensures ∙ ap (λ (own : List Cell). capped (head_size address own c.args.moment)) c.cells_or-cells.ensures in
    let batch : IsBatch (limits_of bounds c.head_bytes-head.result) (post.letters address) letters =
    subst (λ (limits : Limits). IsBatch limits (post.letters address) letters) c.limits_of-limits.ensures.is
    (subst (λ (o : Option Batch). IfSome o (λ batch. IsBatch c.limits_of-limits.result (post.letters address) batch.letters)) c.in-Some.is c.in_ok-batch.ensures.letters) in
    let same : letters ≡ batch_at bounds c.args.moment address (work_of c.args.self.now) =
    one_batch bounds (head_size address cells c.args.moment) c.head_bytes-head.result cut c.limits_of-limits.ensures.small (post.letters address) letters batch in
    let new : post_of c.open_batch.new.self ≡ opened address (length letters) post =
    subst (λ (o : Option Batch). MatchOption o (post_of c.open_batch.new.self ≡ post) (λ batch. post_of c.open_batch.new.self ≡ opened address (length batch.letters) post)) c.in-Some.is c.in_ok-batch.ensures.ok in (
      subst (λ (ls : List Letter). 0 < length ls) same batch.some,
      c.in_ok-opening.ensures.picks ∙ ap (map sender_of) same,
      c.in_ok-opening.ensures.request ∙ (λ i. request_bytes address (c.cells_or-cells.ensures i) c.args.moment (same i)),
      λ i. record {
        post = (new ∙ ap (λ (ls : List Letter). opened address (length ls) post) same) i;
        cells = cells_in c.args.self.now.actors;
        seen = seen_in c.args.self.now.actors;
        delays = c.args.self.now.delays.delays;
      },
    )
