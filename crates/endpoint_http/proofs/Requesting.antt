-- What a request answers, from what the steps of a reader say.
use Rattle.std.proofs.Common.{◌≡◌, ℕ, ◌≤◌, List, length, drop, Option, Some, Result, Ok, Err, Bool, true, false, sym, ap, ◌∙◌, subst, refl, bytes_eq, codes, if◌then◌else◌}
use Rattle.httparse.specs.declared.spans.HeaderSpan.{HeaderSpan}
use Rattle.sf_outside.specs.Left.{ahead}
use Rattle.endpoint_http.specs.Answers.{Answer, Told, Blames, Gives}
use Rattle.endpoint_http.specs.Fields.{framing_of}
use Rattle.endpoint_http.specs.Framed.{IsBody, IsRequest, bad_head, cut_head, other_method, post}
use Rattle.endpoint_http.specs.Parts.{Header, Begins}
use Rattle.endpoint_http.specs.Parsed.{is_post, headers_at, IsFound, PartFault, refused, cut}
use Rattle.endpoint_http.specs.declared.fault.HttpFault.{HttpFault}
use Rattle.endpoint_http.specs.declared.fault.HttpFault.TheVariants.{Method}
use Rattle.endpoint_http.specs.declared.fields.Framing.{Framing}
use Rattle.endpoint_http.specs.declared.part.Part.TheVariants.{Request}
use Rattle.endpoint_http.specs.declared.part.Start.{Start}
use Rattle.endpoint_http.specs.declared.part.Start.TheVariants.{Post, OtherMethod}
use Rattle.endpoint_http.specs.declared.part.Found.{Found}
use Rattle.endpoint_http.proofs.Telling.{told-weaker, blames, blames-weaker, gives-weaker}
use Rattle.endpoint_http.proofs.Tellings.{tell, told_at, behind, begins_told}

head_fault : (limit : ℕ) (bytes : List ℕ) (e : HttpFault) → PartFault Request bytes e → IsRequest limit bytes (Err e)
head_fault limit bytes e (refused h) = bad_head h
head_fault limit bytes e (cut h) = cut_head h

pub request_refused : (limit : ℕ) (here : Option (List ℕ)) (e : HttpFault) → Told here (λ bytes. Blames (PartFault Request bytes) e)
    → Told here (λ bytes. Gives (IsRequest limit bytes) (Err e))
request_refused limit here e h = told-weaker here _ (λ bytes. Gives (IsRequest limit bytes) (Err e))
    (λ bytes. blames-weaker (PartFault Request bytes) (λ e. IsRequest limit bytes (Err e)) (head_fault limit bytes) e) h

posts : (start : Start) (posted : Bool) → start ≡ (if posted then Post else OtherMethod) → is_post start ≡ true → start ≡ Post
posts start true is h = is
posts start false is h = let e : true ≡ false = sym h ∙ ap is_post is in absurd cc

posts_not : (start : Start) (posted : Bool) → start ≡ (if posted then Post else OtherMethod) → is_post start ≡ false → start ≡ OtherMethod
posts_not start true is h = let e : false ≡ true = sym h ∙ ap is_post is in absurd cc
posts_not start false is h = is

-- a head stands in front, and these are behind it
abbrev pub RequestTaken : Option (List ℕ) → Start → List Header → Option (List ℕ) → Type 0
RequestTaken here start headers after = (bytes : List ℕ) → here ≡ Some bytes → (rest : List ℕ) × (after ≡ Some rest) × Begins Request bytes start headers rest

pub request_taken : (held : List ℕ) (spans : List HeaderSpan) (found : Found) (left here : Option (List ℕ)) → length held ≤ 16384 → IsFound Request held spans found
    → ahead held left ≡ here → RequestTaken here found.start (headers_at held spans found.headers) (ahead (drop found.len held) left)
request_taken held spans found left here short is known = λ bytes told.
    let all : ahead held left ≡ Some bytes = known ∙ told in
    (drop found.len bytes, behind held left bytes found.len is.in_bytes all, begins_told Request held left bytes spans found short is all)

-- the same of the bytes that are held when it was taken
pub request_held : (held now : List ℕ) (spans : List HeaderSpan) (found : Found) (left here : Option (List ℕ)) → length held ≤ 16384 → IsFound Request held spans found
    → ahead held left ≡ here → now ≡ drop found.len held → RequestTaken here found.start (headers_at held spans found.headers) (ahead now left)
request_held held now spans found left here short is known now_is =
    subst (λ (bs : List ℕ). RequestTaken here found.start (headers_at held spans found.headers) (ahead bs left)) (sym now_is) (request_taken held spans found left here short is known)

as_post : (bytes : List ℕ) (start : Start) (headers : List Header) (rest : List ℕ) → Begins Request bytes start headers rest → is_post start ≡ true → Begins Request bytes Post headers rest
as_post bytes start headers rest b h = subst (λ (s : Start). Begins Request bytes s headers rest) (posts start (bytes_eq b.is_part.0.method (codes "POST")) b.is_part.3 h) b

as_other : (bytes : List ℕ) (start : Start) (headers : List Header) (rest : List ℕ) → Begins Request bytes start headers rest → is_post start ≡ false
    → Begins Request bytes OtherMethod headers rest
as_other bytes start headers rest b h = subst (λ (s : Start). Begins Request bytes s headers rest) (posts_not start (bytes_eq b.is_part.0.method (codes "POST")) b.is_part.3 h) b

pub no_post : (limit : ℕ) (here after : Option (List ℕ)) (start : Start) (headers : List Header) → RequestTaken here start headers after → is_post start ≡ false
    → Told here (λ bytes. Gives (IsRequest limit bytes) (Err Method))
no_post limit here after start headers taken h = tell here (λ bytes. Gives (IsRequest limit bytes) (Err Method)) (λ bytes told.
    let at = taken bytes told in
    other_method at.0 headers (as_other bytes start headers at.0 at.2 h))

pub unframed_post : (limit : ℕ) (here after : Option (List ℕ)) (start : Start) (headers : List Header) (e : HttpFault) → RequestTaken here start headers after → is_post start ≡ true
    → Err e ≡ framing_of headers → Told here (λ bytes. Gives (IsRequest limit bytes) (Err e))
unframed_post limit here after start headers e taken h framed = tell here (λ bytes. Gives (IsRequest limit bytes) (Err e)) (λ bytes told.
    let at = taken bytes told in
    blames (λ e. IsRequest limit bytes (Err e)) e (post at.0 headers (Err e) (as_post bytes start headers at.0 at.2 h)
    (subst (λ (f : Result Framing HttpFault). IsBody Request limit f at.0 (Err e)) framed refl)))

pub posted : (limit : ℕ) (here after : Option (List ℕ)) (start : Start) (headers : List Header) (framing : Framing) (r : Answer) → RequestTaken here start headers after
    → is_post start ≡ true → Ok framing ≡ framing_of headers → Told after (λ bytes. Gives (IsBody Request limit (Ok framing) bytes) r)
    → Told here (λ bytes. Gives (IsRequest limit bytes) r)
posted limit here after start headers framing r taken h framed body = tell here (λ bytes. Gives (IsRequest limit bytes) r) (λ bytes told.
    let at = taken bytes told in
    gives-weaker (IsBody Request limit (Ok framing) at.0) (IsRequest limit bytes)
    (λ answer is. post at.0 headers answer (as_post bytes start headers at.0 at.2 h) (subst (λ (f : Result Framing HttpFault). IsBody Request limit f at.0 answer) framed is)) r
    (told_at after (λ bytes. Gives (IsBody Request limit (Ok framing) bytes) r) at.0 at.1 body))
