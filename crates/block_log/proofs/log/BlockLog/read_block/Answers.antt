use Rattle.std.proofs.Common.{◌≡◌, ◌+◌, ℕ, arith, ap, sym, ◌∙◌, take, drop}
use Rattle.sf_disk.specs.Moments.{newest}
use Rattle.block_log.proofs.Reading.{has_block, stands_at, head_read, body_read, untold}
use Rattle.block_log.proofs.log.BlockLog.read_block.Goals as goal
use Rattle.block_log.proofs.log.BlockLog.read_block.Goals.{then-head-eq-CLOSED-via-then-head-eq-CLOSED, then-head-eq-CLOSED-via-else-head-eq-CLOSED+then-head-room}

pub read-requires : goal.read-requires
read-requires g c = λ m told.
    let o = c.requires.is_open m told in
    let b = has_block c.args.self.now o.0 (m c.args.self.now.file) c.args.position o.1 c.requires.block in
    let s = stands_at c.args.self.now o.0 (m c.args.self.now.file) c.args.position b.0 o.1 b.1 in
    omega (arith, s.within)

pub returns-then-head-eq-CLOSED-clause-refuses : goal.returns-then-head-eq-CLOSED-clause-refuses
returns-then-head-eq-CLOSED-clause-refuses g c = untold _ (λ m told.
    let o = c.requires.is_open m told in
    let b = has_block c.args.self.now o.0 (m c.args.self.now.file) c.args.position o.1 c.requires.block in
    let s = stands_at c.args.self.now o.0 (m c.args.self.now.file) c.args.position b.0 o.1 b.1 in
    let head = head_read (m c.args.self.now.file).seen c.args.position c.args.self.now.end b.0 s c.read.new.into c.head_in-head.result.gate c.head_in-head.result.len (c.in_ok-read.ensures.read m told) c.head_in-head.ensures (omega arith) in
    elim c.then-head-eq-CLOSED.branch [
      | then-head-eq-CLOSED-via-then-head-eq-CLOSED w ↦ head.0 w.if-head-eq-CLOSED.true
      | then-head-eq-CLOSED-via-else-head-eq-CLOSED+then-head-room w ↦ omega (arith, w.if-head-room.true, c.saturating_sub-room.ensures, c.saturating_sub.ensures, head.1, s.before_end)
    ])

pub bytes_at-requires : goal.bytes_at-requires
bytes_at-requires g c = λ m told_now.
    let told = ap newest (sym c.read.ensures.same) ∙ told_now in
    let o = c.requires.is_open m told in
    let b = has_block c.args.self.now o.0 (m c.args.self.now.file) c.args.position o.1 c.requires.block in
    let s = stands_at c.args.self.now o.0 (m c.args.self.now.file) c.args.position b.0 o.1 b.1 in
    let head = head_read (m c.args.self.now.file).seen c.args.position c.args.self.now.end b.0 s c.read.new.into c.head_in-head.result.gate c.head_in-head.result.len (c.in_ok-read.ensures.read m told) c.head_in-head.ensures (omega arith) in
    omega (arith, c.saturating_add-place.ensures, head.1, s.within)

pub returns-clause-body : goal.returns-clause-body
returns-clause-body g c = λ m told bodies stands opened at.
    let s = stands_at c.args.self.now bodies (m c.args.self.now.file) c.args.position stands opened at in
    let head = head_read (m c.args.self.now.file).seen c.args.position c.args.self.now.end stands s c.read.new.into c.head_in-head.result.gate c.head_in-head.result.len (c.in_ok-read.ensures.read m told) c.head_in-head.ensures (omega arith) in
    let place : c.saturating_add-place.result ≡ c.args.position + 9 = omega (arith, c.saturating_add-place.ensures, s.before_end, c.args.self.now.bound) in
    body_read (m c.args.self.now.file).seen c.args.position c.args.self.now.end stands s c.head_in-head.result.len c.in_ok-body.body head.1 (c.in_ok-body.ensures.bytes m (ap newest c.read.ensures.same ∙ told) ∙ ap (λ (n : ℕ). take c.head_in-head.result.len (drop n (m c.args.self.now.file).seen)) place)
