use Rattle.std.proofs.Common.{◌≡◌, ◌++◌, ℕ, List, length, take, drop, arith, ap, ◌∙◌, rules}
use Rattle.std.proofs.lemmas.List.{drop_all, append-nil, take_all, length-replicate, length-take-le, length-drop}
use Rattle.std.proofs.Math.ListN.{replicate}
use Rattle.block_log.proofs.read.bytes_at.Goals as goal

pub read-requires : goal.read-requires
read-requires g c = λ m told.
    let zeros : c.in_ok-bytes.bytes.items ≡ replicate c.args.len 0 = search rules in
    omega (arith, c.requires m told, ap length (c.deref_mut.ensures.value ∙ zeros), length-replicate {A = ℕ} c.args.len 0)

pub returns-clause-bytes : goal.returns-clause-bytes
returns-clause-bytes g c = λ m told.
    let zeros : c.in_ok-bytes.bytes.items ≡ replicate c.args.len 0 = search rules in
    let now : length c.deref_mut.result.now ≡ c.args.len = ap length (c.deref_mut.ensures.value ∙ zeros) ∙ length-replicate {A = ℕ} c.args.len 0 in
    let behind = drop c.args.at (m c.args.file).seen in
    let read : c.read.new.into ≡ take c.args.len behind = c.in_ok-read.ensures.read m told ∙ ap (λ (n : ℕ). take n behind) now in
    let whole : length (take c.args.len behind) ≡ c.args.len = length-take-le c.args.len behind (omega (arith, c.requires m told, length-drop c.args.at (m c.args.file).seen)) in
    let size : length c.read.new.into ≡ length c.in_ok-bytes.bytes.items = omega (arith, ap length read, whole, ap length zeros, length-replicate {A = ℕ} c.args.len 0) in
    c.of.ensures ∙ ap (λ (l : List ℕ). take c.in_ok-bytes.bytes.len (c.read.new.into ++ l)) (drop_all (length c.read.new.into) c.in_ok-bytes.bytes.items (omega (arith, size)))
    ∙ ap (take c.in_ok-bytes.bytes.len) (append-nil c.read.new.into)
    ∙ take_all c.in_ok-bytes.bytes.len c.read.new.into (omega (arith, size)) ∙ read
