-- What a reader answers, and what is free: a fault of the source and want of memory.
use Rattle.std.specs.Prelude.{◌≡◌, ℕ, ◌≤◌, List, Option, Some, None, Result, Ok, Err}
use Rattle.sf_outside.specs.Told.{Rose}
use Rattle.sf_outside.specs.declared.fault.Fault.{Fault}
use Rattle.sf_outside.specs.declared.fault.Fault.TheVariants.{Failed, OutOfMemory as NoMemory}
use Rattle.endpoint_http.specs.declared.fault.HttpFault.{HttpFault}
use Rattle.endpoint_http.specs.declared.fault.HttpFault.TheVariants.{Head, Status, Compressed, Chunk, OverLimit, Cut, ReadFault, WriteFault, Method, OutOfMemory}

abbrev pub number_of : HttpFault → ℕ
number_of Head = 1
number_of (Status code) = 2
number_of Compressed = 3
number_of Chunk = 4
number_of OverLimit = 5
number_of Cut = 6
number_of ReadFault = 7
number_of WriteFault = 8
number_of Method = 9
number_of OutOfMemory = 10

-- the fault for a source that has none to give
abbrev pub fault_of : Fault → HttpFault
fault_of Failed = ReadFault
fault_of NoMemory = OutOfMemory

-- a body, or why there is none
abbrev pub Answer : Type 0
Answer = Result (List ℕ) HttpFault

-- where the bytes to come are told, they are such
abbrev pub Told : Option (List ℕ) → (List ℕ → Type 0) → Type 0
Told None P = Unit {0}
Told (Some bytes) P = P bytes

-- the fault is such, but for what is free
abbrev pub Blames : (HttpFault → Type 0) → HttpFault → Type 0
Blames P Head = P Head
Blames P (Status code) = P (Status code)
Blames P Compressed = P Compressed
Blames P Chunk = P Chunk
Blames P OverLimit = P OverLimit
Blames P Cut = P Cut
Blames P ReadFault = Unit {0}
Blames P WriteFault = P WriteFault
Blames P Method = P Method
Blames P OutOfMemory = Unit {0}

-- the answer is such, but for what is free
abbrev pub Gives : (Answer → Type 0) → Answer → Type 0
Gives P (Ok body) = P (Ok body)
Gives P (Err fault) = Blames (λ e. P (Err e)) fault

-- ReadFault comes only where the count of faults rose; with any other answer it stands
abbrev pub ReadCause : {T : Type 0} → ℕ → ℕ → Result T HttpFault → Type 0
ReadCause before now (Ok x) = now ≡ before
ReadCause before now (Err Head) = now ≡ before
ReadCause before now (Err (Status code)) = now ≡ before
ReadCause before now (Err Compressed) = now ≡ before
ReadCause before now (Err Chunk) = now ≡ before
ReadCause before now (Err OverLimit) = now ≡ before
ReadCause before now (Err Cut) = now ≡ before
ReadCause before now (Err ReadFault) = (before ≤ now) × Rose before now
ReadCause before now (Err WriteFault) = now ≡ before
ReadCause before now (Err Method) = now ≡ before
ReadCause before now (Err OutOfMemory) = now ≡ before
