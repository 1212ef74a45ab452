-- What is said of an answer, where the bytes to come are told.
use Rattle.std.proofs.Common.{◌≡◌, ℕ, List, Option, Some, None, Ok, Err, sym, ap, ◌∙◌, subst}
use Rattle.endpoint_http.specs.Answers.{Answer, Told, Blames, Gives}
use Rattle.endpoint_http.specs.declared.fault.HttpFault.{HttpFault}
use Rattle.endpoint_http.specs.declared.fault.HttpFault.TheVariants.{Head, Status, Compressed, Chunk, OverLimit, Cut, ReadFault, WriteFault, Method, OutOfMemory}

pub told-weaker : (o : Option (List ℕ)) (P Q : List ℕ → Type 0) → ((bytes : List ℕ) → P bytes → Q bytes) → Told o P → Told o Q
told-weaker None P Q f h = tt {0}
told-weaker (Some bytes) P Q f h = f bytes h

-- what is blamed is so
pub blames : (P : HttpFault → Type 0) (e : HttpFault) → P e → Blames P e
blames P Head h = h
blames P (Status code) h = h
blames P Compressed h = h
blames P Chunk h = h
blames P OverLimit h = h
blames P Cut h = h
blames P ReadFault h = tt {0}
blames P WriteFault h = h
blames P Method h = h
blames P OutOfMemory h = tt {0}

pub blames-weaker : (P Q : HttpFault → Type 0) → ((e : HttpFault) → P e → Q e) → (e : HttpFault) → Blames P e → Blames Q e
blames-weaker P Q f Head h = f Head h
blames-weaker P Q f (Status code) h = f (Status code) h
blames-weaker P Q f Compressed h = f Compressed h
blames-weaker P Q f Chunk h = f Chunk h
blames-weaker P Q f OverLimit h = f OverLimit h
blames-weaker P Q f Cut h = f Cut h
blames-weaker P Q f ReadFault h = tt {0}
blames-weaker P Q f WriteFault h = f WriteFault h
blames-weaker P Q f Method h = f Method h
blames-weaker P Q f OutOfMemory h = tt {0}

pub gives : (P : Answer → Type 0) (r : Answer) → P r → Gives P r
gives P (Ok body) h = h
gives P (Err e) h = blames (λ e. P (Err e)) e h

pub gives-weaker : (P Q : Answer → Type 0) → ((a : Answer) → P a → Q a) → (r : Answer) → Gives P r → Gives Q r
gives-weaker P Q f (Ok body) h = f (Ok body) h
gives-weaker P Q f (Err e) h = blames-weaker (λ e. P (Err e)) (λ e. Q (Err e)) (λ e. f (Err e)) e h

-- the exit of a `?`
pub failed : (P : Answer → Type 0) (r : Answer) (e : HttpFault) → (y : HttpFault) × (r ≡ Err y) × (y ≡ e) → P (Err e) → P r
failed P r e p h = subst P (sym (p.1 ∙ ap Err p.2)) h
