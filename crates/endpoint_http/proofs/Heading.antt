-- What a response or a request answers, from what the steps of a reader say.
use Rattle.std.proofs.Common.{◌≡◌, ◌≢◌, ℕ, suc, ◌≤◌, ◌<◌, ◌⊎◌, List, [], length, drop, Option, Some, Result, Ok, Err, Bool, true, false, sym, ap, ◌∙◌, subst, refl, ◌==◌, arith}
use Rattle.std.proofs.lemmas.Bool.Decides.{nat_tests}
use Rattle.httparse.specs.declared.spans.HeaderSpan.{HeaderSpan}
use Rattle.sf_outside.specs.Left.{ahead}
use Rattle.endpoint_http.specs.Answers.{Answer, Told, Blames, Gives}
use Rattle.endpoint_http.specs.Fields.{framing_of}
use Rattle.endpoint_http.specs.Framed.{IsBody, IsEmpty, IsResponse, bad_head, cut_head, interim, interim_too_many, no_success, no_content, success}
use Rattle.endpoint_http.specs.Parts.{Header, Begins}
use Rattle.endpoint_http.specs.Parsed.{status_of, headers_at, IsFound, PartFault, refused, cut}
use Rattle.endpoint_http.specs.declared.fault.HttpFault.{HttpFault}
use Rattle.endpoint_http.specs.declared.fault.HttpFault.TheVariants.{Head, Status as HasStatus}
use Rattle.endpoint_http.specs.declared.fields.Framing.{Framing}
use Rattle.endpoint_http.specs.declared.part.Part.TheVariants.{Response}
use Rattle.endpoint_http.specs.declared.part.Start.{Start}
use Rattle.endpoint_http.specs.declared.part.Start.TheVariants.{Status}
use Rattle.endpoint_http.specs.declared.part.Found.{Found}
use Rattle.endpoint_http.proofs.Telling.{told-weaker, blames, blames-weaker, gives-weaker}
use Rattle.endpoint_http.proofs.Tellings.{tell, told_at, behind, begins_told}

-- ---- responses

head_fault : (limit interims : ℕ) (bytes : List ℕ) (e : HttpFault) → PartFault Response bytes e → IsResponse limit interims bytes (Err e)
head_fault limit interims bytes e (refused h) = bad_head interims bytes h
head_fault limit interims bytes e (cut h) = cut_head interims bytes h

pub head_refused : (limit interims : ℕ) (here : Option (List ℕ)) (e : HttpFault) → Told here (λ bytes. Blames (PartFault Response bytes) e)
    → Told here (λ bytes. Gives (IsResponse limit interims bytes) (Err e))
head_refused limit interims here e h = told-weaker here _ (λ bytes. Gives (IsResponse limit interims bytes) (Err e))
    (λ bytes. blames-weaker (PartFault Response bytes) (λ e. IsResponse limit interims bytes (Err e)) (head_fault limit interims bytes) e) h

heads : (bytes : List ℕ) (start : Start) (headers : List Header) (rest : List ℕ) → Begins Response bytes start headers rest → Begins Response bytes (Status (status_of start)) headers rest
heads bytes start headers rest b =
    let is : start ≡ Status (status_of start) = b.is_part.3 ∙ ap Status (sym (ap status_of b.is_part.3)) in
    subst (λ (s : Start). Begins Response bytes s headers rest) is b

-- a head stands in front, and these are behind it
abbrev pub HeadTaken : Option (List ℕ) → ℕ → List Header → Option (List ℕ) → Type 0
HeadTaken here code headers after = (bytes : List ℕ) → here ≡ Some bytes → (rest : List ℕ) × (after ≡ Some rest) × Begins Response bytes (Status code) headers rest

pub head_taken : (held : List ℕ) (spans : List HeaderSpan) (found : Found) (left here : Option (List ℕ)) → length held ≤ 16384 → IsFound Response held spans found
    → ahead held left ≡ here → HeadTaken here (status_of found.start) (headers_at held spans found.headers) (ahead (drop found.len held) left)
head_taken held spans found left here short is known = λ bytes told.
    let all : ahead held left ≡ Some bytes = known ∙ told in (
      drop found.len bytes,
      behind held left bytes found.len is.in_bytes all,
      heads bytes found.start (headers_at held spans found.headers) (drop found.len bytes) (begins_told Response held left bytes spans found short is all),
    )

-- the same of the bytes that are held when it was taken
pub head_held : (held now : List ℕ) (spans : List HeaderSpan) (found : Found) (left here : Option (List ℕ)) (code : ℕ) → length held ≤ 16384 → IsFound Response held spans found
    → ahead held left ≡ here → code ≡ status_of found.start → now ≡ drop found.len held → HeadTaken here code (headers_at held spans found.headers) (ahead now left)
head_held held now spans found left here code short is known code_is now_is =
    subst (λ n. HeadTaken here n (headers_at held spans found.headers) (ahead now left)) (sym code_is)
    (subst (λ (bs : List ℕ). HeadTaken here (status_of found.start) (headers_at held spans found.headers) (ahead bs left)) (sym now_is) (head_taken held spans found left here short is known))

pub too_many_interims : (limit interims : ℕ) (here after : Option (List ℕ)) (code : ℕ) (headers : List Header) → HeadTaken here code headers after → 100 ≤ code → code < 200
    → interims ≡ 0 → Told here (λ bytes. Gives (IsResponse limit interims bytes) (Err Head))
too_many_interims limit interims here after code headers taken from below none = tell here (λ bytes. Gives (IsResponse limit interims bytes) (Err Head)) (λ bytes told.
    let at = taken bytes told in
    subst (λ n. IsResponse limit n bytes (Err Head)) (sym none) (interim_too_many bytes at.0 code headers at.2 from below))

pub passed_over : (limit interims fewer : ℕ) (here after : Option (List ℕ)) (code : ℕ) (headers : List Header) (r : Answer) → HeadTaken here code headers after → 100 ≤ code → code < 200
    → interims ≡ suc fewer → Told after (λ bytes. Gives (IsResponse limit fewer bytes) r) → Told here (λ bytes. Gives (IsResponse limit interims bytes) r)
passed_over limit interims fewer here after code headers r taken from below more h = tell here (λ bytes. Gives (IsResponse limit interims bytes) r) (λ bytes told.
    let at = taken bytes told in
    gives-weaker (IsResponse limit fewer at.0) (IsResponse limit interims bytes)
    (λ answer is. subst (λ n. IsResponse limit n bytes answer) (sym more) (interim fewer bytes at.0 code headers answer at.2 from below is)) r
    (told_at after (λ bytes. Gives (IsResponse limit fewer bytes) r) at.0 at.1 h))

pub no_success_told : (limit interims : ℕ) (here after : Option (List ℕ)) (code : ℕ) (headers : List Header) → HeadTaken here code headers after → (code < 100) ⊎ (300 ≤ code)
    → Told here (λ bytes. Gives (IsResponse limit interims bytes) (Err (HasStatus code)))
no_success_told limit interims here after code headers taken none = tell here (λ bytes. Gives (IsResponse limit interims bytes) (Err (HasStatus code))) (λ bytes told.
    let at = taken bytes told in
    no_success interims bytes at.0 code headers at.2 none)

by_code : (limit interims : ℕ) (bytes rest : List ℕ) (code : ℕ) (headers : List Header) (answer : Answer) → Begins Response bytes (Status code) headers rest → 200 ≤ code → code < 300
    → (b : Bool) → (b ≡ true → code ≡ 204) → (b ≡ false → code ≢ 204) → IsEmpty (framing_of headers) answer → IsBody Response limit (framing_of headers) rest answer
    → IsResponse limit interims bytes answer
by_code limit interims bytes rest code headers answer begins from below true same other empty body =
    no_content interims bytes rest headers answer (subst (λ n. Begins Response bytes (Status n) headers rest) (same refl) begins) empty
by_code limit interims bytes rest code headers answer begins from below false same other empty body = success interims bytes rest code headers answer begins from below (other refl) body

equal : (code : ℕ) → (code == 204) ≡ true → code ≡ 204
equal code h = grind (arith, nat_tests)

unlike : (code : ℕ) → (code == 204) ≡ false → code ≢ 204
unlike code h = grind (arith, nat_tests)

pub unframed : (limit interims : ℕ) (here after : Option (List ℕ)) (code : ℕ) (headers : List Header) (e : HttpFault) → HeadTaken here code headers after → 200 ≤ code → code < 300
    → Err e ≡ framing_of headers → Told here (λ bytes. Gives (IsResponse limit interims bytes) (Err e))
unframed limit interims here after code headers e taken from below framed = tell here (λ bytes. Gives (IsResponse limit interims bytes) (Err e)) (λ bytes told.
    let at = taken bytes told in
    blames (λ e. IsResponse limit interims bytes (Err e)) e
    (by_code limit interims bytes at.0 code headers (Err e) at.2 from below (code == 204) (equal code) (unlike code)
    (subst (λ (f : Result Framing HttpFault). IsEmpty f (Err e)) framed refl) (subst (λ (f : Result Framing HttpFault). IsBody Response limit f at.0 (Err e)) framed refl)))

pub emptied : (limit interims : ℕ) (here after : Option (List ℕ)) (code : ℕ) (headers : List Header) (framing : Framing) → HeadTaken here code headers after → code ≡ 204
    → Ok framing ≡ framing_of headers → Told here (λ bytes. Gives (IsResponse limit interims bytes) (Ok []))
emptied limit interims here after code headers framing taken is framed = tell here (λ bytes. Gives (IsResponse limit interims bytes) (Ok [])) (λ bytes told.
    let at = taken bytes told in
    no_content interims bytes at.0 headers (Ok []) (subst (λ n. Begins Response bytes (Status n) headers at.0) is at.2)
    (subst (λ (f : Result Framing HttpFault). IsEmpty f (Ok [])) framed refl))

pub answered : (limit interims : ℕ) (here after : Option (List ℕ)) (code : ℕ) (headers : List Header) (framing : Framing) (r : Answer) → HeadTaken here code headers after
    → 200 ≤ code → code < 300 → code ≢ 204 → Ok framing ≡ framing_of headers → Told after (λ bytes. Gives (IsBody Response limit (Ok framing) bytes) r)
    → Told here (λ bytes. Gives (IsResponse limit interims bytes) r)
answered limit interims here after code headers framing r taken from below some framed h = tell here (λ bytes. Gives (IsResponse limit interims bytes) r) (λ bytes told.
    let at = taken bytes told in
    gives-weaker (IsBody Response limit (Ok framing) at.0) (IsResponse limit interims bytes)
    (λ answer is. success interims bytes at.0 code headers answer at.2 from below some (subst (λ (f : Result Framing HttpFault). IsBody Response limit f at.0 answer) framed is)) r
    (told_at after (λ bytes. Gives (IsBody Response limit (Ok framing) bytes) r) at.0 at.1 h))

pub outside : (code : ℕ) → ¬ ((100 ≤ code) × (code < 200)) → ¬ ((200 ≤ code) × (code < 300)) → (code < 100) ⊎ (300 ≤ code)
outside code h k = grind arith
