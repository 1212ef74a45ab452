use Rattle.std.proofs.Common.{◌≡◌, ◌≤◌, ◌-◌, length, ℕ, List, [], Some}
use Rattle.sf_outside.specs.Left.{ahead}
use Rattle.endpoint_http.specs.Answers.{Answer}
use Rattle.endpoint_http.specs.Chunks.{IsChunked}
use Rattle.endpoint_http.proofs.body.chunked.Given as goal

-- the answer from here is the answer from the start, and no fault was counted
abbrev pub invariant-loop-body : goal.invariant-loop-body
invariant-loop-body g l = record {
  within : length l.body ≤ l.limit;
  room : length l.headers ≡ 64;
  faults : g.S.Source.faults l.source ≡ g.S.Source.faults l.initial.source;
  answers : (bytes : List ℕ) → ahead l.initial.held (g.S.Source.left l.initial.source) ≡ Some bytes
      → (here : List ℕ) × (ahead l.held (g.S.Source.left l.source) ≡ Some here) × ((answer : Answer) → IsChunked l.limit l.body here answer → IsChunked l.limit [] bytes answer);
}

abbrev pub decreases-loop-body : goal.decreases-loop-body
decreases-loop-body g l = l.limit - length l.body
