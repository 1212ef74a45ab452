-- What readers owe.
use Rattle.std.specs.Prelude.{◌≡◌, ◌≤◌, ◌-◌, ℕ, List, length, take, Result, Ok, Err}
use Rattle.proto_wire.specs.declared.fault.WireFault.{WireFault}
use Rattle.proto_wire.specs.declared.fault.DecodeFault.{DecodeFault}
use Rattle.proto_wire.specs.declared.fault.DecodeFault.TheVariants.{Wire, OutOfMemory}
use Rattle.proto_wire.specs.Varint.{ItemFault}

-- a fault by the bytes that are left from its place to the place `end`
abbrev pub fault_before : ℕ → WireFault → ItemFault
fault_before end e = record { kind = e.kind; left = end - e.at }

-- what bytes that end at the place `end` say is this fault, at its place
abbrev pub FailsAt : {Y : Type 0} → ℕ → WireFault → Result Y ItemFault → Type 0
FailsAt end e read = (read ≡ Err (fault_before end e)) × (e.at ≤ end)

-- the answer, seen by a view, is what bytes that end at the place `end` say
abbrev pub Reads : {X Y : Type 0} → ℕ → (X → Y) → Result X WireFault → Result Y ItemFault → Type 0
Reads end view (Ok x) read = read ≡ Ok (view x)
Reads end view (Err e) read = FailsAt end e read

-- the fault is the one that the bytes have, unless memory ran out
abbrev pub FailsWith : {Y : Type 0} → ℕ → DecodeFault → Result Y ItemFault → Type 0
FailsWith end OutOfMemory read = Unit {0}
FailsWith end (Wire e) read = FailsAt end e read

-- the same for an answer for which memory may run out
abbrev pub ReadsOrAt : {X Y : Type 0} → ℕ → (X → Y) → Result X DecodeFault → Result Y ItemFault → Type 0
ReadsOrAt end view (Ok x) read = read ≡ Ok (view x)
ReadsOrAt end view (Err e) read = FailsWith end e read

-- what stands after the call is what bytes that end at the place `end` say, unless it failed
abbrev pub ChangesAt : {X : Type 0} → ℕ → Result (Unit {0}) DecodeFault → X → Result X ItemFault → Type 0
ChangesAt end (Ok x) new read = read ≡ Ok new
ChangesAt end (Err e) new read = FailsWith end e read

-- the fault is the one that the whole input has, unless memory ran out
abbrev pub Fails : {Y : Type 0} → DecodeFault → Result Y WireFault → Type 0
Fails OutOfMemory read = Unit {0}
Fails (Wire e) read = read ≡ Err e

-- the answer, seen by a view, is what the whole input says, unless memory ran out
abbrev pub Gives : {X Y : Type 0} → (X → Y) → Result X DecodeFault → Result Y WireFault → Type 0
Gives view (Ok x) read = read ≡ Ok (view x)
Gives view (Err e) read = Fails e read

-- what stands after the call is what the whole input says, unless it failed
abbrev pub Changes : {X : Type 0} → Result (Unit {0}) DecodeFault → X → Result X WireFault → Type 0
Changes (Ok x) new read = read ≡ Ok new
Changes (Err e) new read = Fails e read

-- the bytes that stood still stand in front
abbrev pub Keeps : List ℕ → List ℕ → Type 0
Keeps old new = take (length old) new ≡ old
